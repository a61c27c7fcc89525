-- The reply that messages show is the one that they are of.
use Rattle.std.proofs.Common.{◌≡◌, ℕ, ◌%◌, List, [], ◌∷◌, ◌++◌, map, get_or, All, Option, Some, ap, refl, ◌∙◌, arith}
use Rattle.chan_flags.specs.declared.record.Chan.{Chan}
use Rattle.dfs_states.specs.declared.dfs.Dfs.{Dfs}
use Rattle.nl_attrs.specs.Messages.{attrs_in}
use Rattle.nl_attrs.specs.declared.attr.Attr.{Attr}
use Rattle.nl_attrs.specs.declared.message.Msg.{Msg}
use Rattle.reg_journal.specs.Forms.{IsShownAnswer, IsShownSection, IsWholeMhz}
use Rattle.reg_journal.specs.declared.effects.Effect.{Effect}
use Rattle.reg_journal.specs.declared.report.IfaceReport.{IfaceReport}
use Rattle.reg_journal.specs.declared.report.RadioReport.{RadioReport}
use Rattle.reg_journal.specs.declared.report.Section.{Section}
use Rattle.reg_journal.specs.declared.reply.Answer.{Answer}
use Rattle.reg_journal.specs.declared.reply.Reply.{Reply}
use Rattle.reg_journal.specs.declared.reply.Reply.TheVariants.{Plain, Regs, Channels, Radio as OfRadio, Iface}
use Rattle.nl80211_replies.specs.Dumps.{channel_attrs, dump_message, iface_attrs, radio_attrs, reply_messages, section_attrs}
use Rattle.nl80211_replies.specs.Plain.{plain_attrs}
use Rattle.reply_reading.specs.Replies.{CanBeTold}
use Rattle.reply_reading.specs.Typed.{IsTypedChannel, IsTypedRadio, IsTypedReply, IsTypedSection}
use Rattle.reply_reading.specs.declared.candidate.Shown.TheVariants as shown
use Rattle.reply_reading.specs.inner.Reading.{IsToldChannel, IsToldReport, IsToldSection, Undoes, payload_at}
use Rattle.reply_reading.specs.inner.Shown.{shown_by, shown_of}
use Rattle.reply_reading.proofs.AnswersAgain.{Numbers32}
use Rattle.reply_reading.proofs.Numbered.{radio_is}

-- ---- what is shown

pub shows : (request : Msg) (reply : Reply) (d e : Msg) → CanBeTold reply → shown_by (get_or (reply_messages request reply) 0 d) (get_or (reply_messages request reply) 1 e) ≡ shown_of reply
shows request (Plain answer effects) d e told = refl
shows request (Regs []) d e told = absurd (omega (arith, told.0))
shows request (Regs (s ∷ [])) d e told = refl
shows request (Regs (s ∷ t ∷ ss)) d e told = refl
shows request (Channels r []) d e told = absurd (omega (arith, told.0))
shows request (Channels r (s ∷ [])) d e told = refl
shows request (Channels r (s ∷ t ∷ ss)) d e told = refl
shows request (OfRadio report) d e told = refl
shows request (Iface report) d e told = refl

-- the message at a place
at_place : (msgs others : List Msg) (i : ℕ) (m : Msg) → m ≡ get_or msgs i m → msgs ≡ others → m ≡ get_or others i m
at_place msgs others i m at e = at ∙ ap (λ (xs : List Msg). get_or xs i m) e

pub shown_is : (request : Msg) (reply : Reply) (msgs : List Msg) (first second : Msg) → CanBeTold reply → msgs ≡ reply_messages request reply → first ≡ get_or msgs 0 first → second ≡ get_or msgs 1 second
    → shown_by first second ≡ shown_of reply
shown_is request reply msgs first second told e at0 at1 =
    let one = at_place msgs (reply_messages request reply) 0 first at0 e in
    let two = at_place msgs (reply_messages request reply) 1 second at1 e in
    (λ i. shown_by (one i) (two i)) ∙ shows request reply first second told

-- ---- lists

pub all_with : {X : Type 0} (P Q R : X → Type 0) → ((x : X) → P x → Q x → R x) → (xs : List X) → All P xs → All Q xs → All R xs
all_with P Q R both xs ps qs = λ k d lt. both (get_or xs k d) (ps k d lt) (qs k d lt)

dumped : (request : Msg) (family command : ℕ) (shown : List (List Attr)) → map attrs_in (map (dump_message request family command) shown) ≡ shown
dumped request family command [] = refl
dumped request family command (attrs ∷ shown) = ap (λ (xs : List (List Attr)). attrs ∷ xs) (dumped request family command shown)

-- ---- each kind of reply

pub plain_shown : (request : Msg) (reply : Reply) (msgs : List Msg) (first : Msg) (found : Reply) → IsTypedReply reply → CanBeTold reply → msgs ≡ reply_messages request reply → first ≡ get_or msgs 0 first
    → shown_of reply ≡ shown.Answer
    → ((answer : Answer) (effects : List Effect) → IsTypedReply (Plain answer effects) → IsShownAnswer answer → attrs_in first ≡ plain_attrs answer effects → found ≡ Plain answer effects) → found ≡ reply
plain_shown request (Plain answer effects) msgs first found typed told e at kind clause = clause answer effects typed told (ap attrs_in (at_place msgs _ 0 first at e))
plain_shown request (Regs sections) msgs first found typed told e at kind clause = absurd cc
plain_shown request (Channels r list) msgs first found typed told e at kind clause = absurd cc
plain_shown request (OfRadio report) msgs first found typed told e at kind clause = absurd cc
plain_shown request (Iface report) msgs first found typed told e at kind clause = absurd cc

pub sections_shown : (request : Msg) (reply : Reply) (msgs front : List Msg) (found : List Section) → IsTypedReply reply → CanBeTold reply → msgs ≡ reply_messages request reply
    → ((xs : List Msg) (last : Msg) → msgs ≡ xs ++ last ∷ [] → front ≡ xs) → shown_of reply ≡ shown.Sections
    → Undoes (All IsToldSection) (map section_attrs) (map attrs_in front) found → Regs found ≡ reply
sections_shown request (Regs sections) msgs front found typed told e fronts kind clause =
    let told_each = all_with IsTypedSection IsShownSection IsToldSection (λ s t h. record { typed = t; shown = h }) sections typed told.1 in
    ap Regs (clause sections told_each (ap (map attrs_in) (fronts (map (dump_message request 32 31) (map section_attrs sections)) _ e) ∙ dumped request 32 31 (map section_attrs sections)))
sections_shown request (Plain answer effects) msgs front found typed told e fronts kind clause = absurd cc
sections_shown request (Channels r list) msgs front found typed told e fronts kind clause = absurd cc
sections_shown request (OfRadio report) msgs front found typed told e fronts kind clause = absurd cc
sections_shown request (Iface report) msgs front found typed told e fronts kind clause = absurd cc

pub channels_shown : (request : Msg) (reply : Reply) (msgs front : List Msg) (first : Msg) (n : ℕ) (found : List (Chan × Dfs)) → IsTypedReply reply → CanBeTold reply → msgs ≡ reply_messages request reply
    → first ≡ get_or msgs 0 first → ((xs : List Msg) (last : Msg) → msgs ≡ xs ++ last ∷ [] → front ≡ xs) → shown_of reply ≡ shown.Channels → Numbers32 (attrs_in first) 0 n
    → ((r : ℕ) → Undoes (All IsToldChannel) (map (channel_attrs r)) (map attrs_in front) found) → Channels (n % 8) found ≡ reply
channels_shown request (Channels r []) msgs front first n found typed told e at fronts kind number clause = absurd (omega (arith, told.0))
channels_shown request (Channels r ((chan, dfs) ∷ list)) msgs front first n found typed told e at fronts kind number clause =
    let le = typed.0 in
    let all : List (Chan × Dfs) = (chan, dfs) ∷ list in
    let told_each = all_with IsTypedChannel (λ (x : Chan × Dfs). IsWholeMhz x.0.khz) IsToldChannel (λ x t h. (t, h)) all typed.1 told.1 in
    let radio : n % 8 ≡ r = radio_is n r le (number r (omega arith) (ap (λ (m : Msg). payload_at 0 (attrs_in m)) (at_place msgs _ 0 first at e))) in
    let same = clause r all told_each (ap (map attrs_in) (fronts (map (dump_message request 33 11) (map (channel_attrs r) all)) _ e) ∙ dumped request 33 11 (map (channel_attrs r) all)) in
    λ i. Channels (radio i) (same i)
channels_shown request (Plain answer effects) msgs front first n found typed told e at fronts kind number clause = absurd cc
channels_shown request (Regs sections) msgs front first n found typed told e at fronts kind number clause = absurd cc
channels_shown request (OfRadio report) msgs front first n found typed told e at fronts kind number clause = absurd cc
channels_shown request (Iface report) msgs front first n found typed told e at fronts kind number clause = absurd cc

pub radio_shown : (request : Msg) (reply : Reply) (msgs : List Msg) (first : Msg) (found : Option RadioReport) → IsTypedReply reply → msgs ≡ reply_messages request reply → first ≡ get_or msgs 0 first
    → shown_of reply ≡ shown.Radio → ((report : RadioReport) → IsTypedRadio report → attrs_in first ≡ radio_attrs report → found ≡ Some report)
    → (report : RadioReport) × (found ≡ Some report) × (reply ≡ OfRadio report)
radio_shown request (OfRadio report) msgs first found typed e at kind clause = (report, clause report typed (ap attrs_in (at_place msgs _ 0 first at e)), refl)
radio_shown request (Plain answer effects) msgs first found typed e at kind clause = absurd cc
radio_shown request (Regs sections) msgs first found typed e at kind clause = absurd cc
radio_shown request (Channels r list) msgs first found typed e at kind clause = absurd cc
radio_shown request (Iface report) msgs first found typed e at kind clause = absurd cc

pub iface_shown : (request : Msg) (reply : Reply) (msgs : List Msg) (first : Msg) (found : IfaceReport) → IsTypedReply reply → CanBeTold reply → msgs ≡ reply_messages request reply → first ≡ get_or msgs 0 first
    → shown_of reply ≡ shown.Iface → Undoes IsToldReport iface_attrs (attrs_in first) found → Iface found ≡ reply
iface_shown request (Iface report) msgs first found typed told e at kind clause =
    ap Iface (clause report (record { typed = typed; shown = told }) (ap attrs_in (at_place msgs _ 0 first at e)))
iface_shown request (Plain answer effects) msgs first found typed told e at kind clause = absurd cc
iface_shown request (Regs sections) msgs first found typed told e at kind clause = absurd cc
iface_shown request (Channels r list) msgs first found typed told e at kind clause = absurd cc
iface_shown request (OfRadio report) msgs first found typed told e at kind clause = absurd cc
