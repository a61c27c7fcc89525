-- The messages of a reply are those that are written for a bare request, but for heads.
use Rattle.std.proofs.Common.{◌≡◌, ℕ, ◌<◌, ◌≤◌, ◌^◌, List, [], ◌∷◌, length, map, get_or, take, ap, refl, sym, ◌∙◌, arith}
use Rattle.std.proofs.lemmas.List.Elements.{All-nil}
use Rattle.nl_attrs.specs.Attributes.{IsAttr}
use Rattle.nl_attrs.specs.Messages.{pid_of, seq_of, spelled}
use Rattle.nl_attrs.specs.declared.attr.Attr.{Attr}
use Rattle.nl_attrs.specs.declared.message.Msg.{Msg}
use Rattle.nl_attrs.specs.declared.message.Msg.TheVariants.{Error, Generic}
use Rattle.nl_attrs.proofs.HeadLaws.{length-generic}
use Rattle.reg_journal.specs.declared.reply.Reply.{Reply}
use Rattle.reg_journal.specs.declared.reply.Reply.TheVariants.{Plain, Regs, Channels, Radio as OfRadio, Iface}
use Rattle.nl80211_replies.specs.Dumps.{channel_attrs, dump_messages, iface_attrs, radio_attrs, reply_messages, section_attrs}
use Rattle.nl80211_replies.specs.Plain.{answer_errno, plain_attrs}
use Rattle.nl80211_replies.specs.declared.attribute.TheConstants.{REPLY, VERSION}
use Rattle.reply_reading.specs.Replies.{AreReply, CanBeTold, IsRequest}
use Rattle.reply_reading.specs.inner.Compared.{AreWritten, bare_request}

-- ---- a bare request

pub bare_short : (seq pid : ℕ) → length (spelled (bare_request seq pid)) ≤ 65536
bare_short seq pid = omega (arith, length-generic 32 0 seq pid 0 0 [])

pub bare_is : (seq pid : ℕ) → seq < 2 ^ 32 → pid < 2 ^ 32 → IsRequest (bare_request seq pid)
bare_is seq pid seq_fits pid_fits = record {
  generic = tt;
  msg = record { flags = omega arith; seq = seq_fits; pid = pid_fits; body = (omega arith, omega arith, omega arith, omega arith, All-nil IsAttr); short = bare_short seq pid };
}

-- one with the sequence number and the port of a message
abbrev pub bare_for : Msg → Msg
bare_for m = bare_request (seq_of m) (pid_of m)

-- ---- what is written

-- the first message repeats the sequence number and the port
repeats : (request : Msg) (reply : Reply) (d : Msg) → CanBeTold reply → bare_for (get_or (reply_messages request reply) 0 d) ≡ bare_for request
repeats request (Plain answer effects) d told = refl
repeats request (Regs []) d told = absurd (omega (arith, told.0))
repeats request (Regs (s ∷ ss)) d told = refl
repeats request (Channels r []) d told = absurd (omega (arith, told.0))
repeats request (Channels r (s ∷ ss)) d told = refl
repeats request (OfRadio report) d told = refl
repeats request (Iface report) d told = refl

dump_written : (request : Msg) (family command : ℕ) (shown : List (List Attr)) → AreWritten (dump_messages request family command shown) (dump_messages (bare_for request) family command shown)
dump_written request family command [] = (refl, tt)
dump_written request family command (attrs ∷ shown) = (refl, dump_written request family command shown)

bare_written : (request : Msg) (reply : Reply) → IsRequest request → AreWritten (reply_messages request reply) (reply_messages (bare_for request) reply)
bare_written request (Plain answer effects) is =
    (refl, ((take 16 (spelled request), refl, record { request = request; is = is; seq_is = refl; pid_is = refl; head_is = refl }), tt))
bare_written request (Regs sections) is = dump_written request 32 31 (map section_attrs sections)
bare_written request (Channels r list) is = dump_written request 33 11 (map (channel_attrs r) list)
bare_written request (OfRadio report) is = dump_written request 32 3 (radio_attrs report ∷ [])
bare_written request (Iface report) is = dump_written request 32 7 (iface_attrs report ∷ [])

pub written_again : (request : Msg) (reply : Reply) (msgs : List Msg) (first : Msg) → IsRequest request → CanBeTold reply → msgs ≡ reply_messages request reply → first ≡ get_or msgs 0 first
    → AreWritten msgs (reply_messages (bare_for first) reply)
written_again request reply msgs first is told e at =
    let same : bare_for first ≡ bare_for request = ap bare_for (at ∙ ap (λ (xs : List Msg). get_or xs 0 first) e) ∙ repeats request reply first told in
    rw (e, same) (bare_written request reply is)

-- ---- what was written is a reply's

dump_is : (m : Msg) (family command : ℕ) (shown : List (List Attr)) (msgs : List Msg) → AreWritten msgs (dump_messages m family command shown) → msgs ≡ dump_messages m family command shown
dump_is m family command [] [] all = absurd all
dump_is m family command [] (x ∷ []) all = ap (λ (y : Msg). y ∷ []) all.0
dump_is m family command [] (x ∷ y ∷ msgs) all = absurd all.1
dump_is m family command (attrs ∷ shown) [] all = absurd all
dump_is m family command (attrs ∷ shown) (x ∷ msgs) all =
    let head = all.0 in let tail = dump_is m family command shown msgs all.1 in λ i. head i ∷ tail i

pub are_reply : (m : Msg) (reply : Reply) (msgs : List Msg) → IsRequest m → CanBeTold reply → AreWritten msgs (reply_messages m reply) → AreReply msgs reply
are_reply m (Plain answer effects) [] is told all = absurd all
are_reply m (Plain answer effects) (x ∷ []) is told all = absurd all.1
are_reply m (Plain answer effects) (x ∷ y ∷ z ∷ msgs) is told all = absurd all.1.1
are_reply m (Plain answer effects) (x ∷ y ∷ []) is told all =
    let head = all.1.0.2 in
    let first = all.0 in let second = all.1.0.1 in let seq = sym head.seq_is in let pid = sym head.pid_is in let front = sym head.head_is in
    record {
      request = head.request;
      is = head.is;
      told = told;
      messages = (λ i. first i ∷ second i ∷ []) ∙ (λ i. Generic 33 0 (seq i) (pid i) REPLY VERSION (plain_attrs answer effects) ∷ Error 0 (seq i) (pid i) (answer_errno answer) (front i) ∷ []);
    }
are_reply m (Regs sections) msgs is told all = record { request = m; is = is; told = told; messages = dump_is m 32 31 (map section_attrs sections) msgs all }
are_reply m (Channels r list) msgs is told all = record { request = m; is = is; told = told; messages = dump_is m 33 11 (map (channel_attrs r) list) msgs all }
are_reply m (OfRadio report) msgs is told all = record { request = m; is = is; told = told; messages = dump_is m 32 3 (radio_attrs report ∷ []) msgs all }
are_reply m (Iface report) msgs is told all = record { request = m; is = is; told = told; messages = dump_is m 32 7 (iface_attrs report ∷ []) msgs all }
