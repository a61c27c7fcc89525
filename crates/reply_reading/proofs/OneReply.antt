-- Replies that have the same messages are one.
use Rattle.std.proofs.Common.{◌≡◌, ℕ, List, [], ◌∷◌, ◌++◌, map, get_or, All, ap, refl, sym, subst, ◌∙◌, arith}
use Rattle.std.proofs.lemmas.List.{append_cancel_left, append_cancel_right}
use Rattle.chan_flags.specs.declared.record.Chan.{Chan}
use Rattle.dfs_states.specs.declared.dfs.Dfs.{Dfs}
use Rattle.nl_attrs.specs.Messages.{attrs_in}
use Rattle.nl_attrs.specs.declared.attr.Attr.{Attr}
use Rattle.nl_attrs.specs.declared.message.Msg.{Msg}
use Rattle.reg_journal.specs.Forms.{IsShownSection, IsWholeMhz}
use Rattle.reg_journal.specs.declared.effects.Effect.{Effect}
use Rattle.reg_journal.specs.declared.report.Section.{Section}
use Rattle.reg_journal.specs.declared.reply.Answer.{Answer}
use Rattle.reg_journal.specs.declared.reply.Reply.{Reply}
use Rattle.reg_journal.specs.declared.reply.Reply.TheVariants.{Plain, Regs, Channels, Radio as OfRadio, Iface}
use Rattle.nl80211_cmds.proofs.OneValue.{same_le32}
use Rattle.nl80211_replies.specs.Dumps.{channel_attrs, dump_messages, reply_messages, section_attrs}
use Rattle.nl80211_replies.specs.Plain.{answer_attrs, effect_attr}
use Rattle.reply_reading.specs.Replies.{CanBeTold}
use Rattle.reply_reading.specs.Typed.{IsTypedChannel, IsTypedReply, IsTypedSection}
use Rattle.reply_reading.specs.inner.Reading.{IsToldChannel, IsToldSection, payload_at}
use Rattle.reply_reading.specs.inner.Shown.{shown_by, shown_of}
use Rattle.reply_reading.proofs.OneReport.{channel_one, radio_one, report_one, section_one}
use Rattle.reply_reading.proofs.OneValue.{answer_one, each_one, effects_one}
use Rattle.reply_reading.proofs.ShownAgain.{all_with, shows}

abbrev Same : Msg → Msg → Reply → Reply → Type 0
Same m n r s = reply_messages m r ≡ reply_messages n s

-- both show the same
same_kind : (m n : Msg) (r s : Reply) → CanBeTold r → CanBeTold s → Same m n r s → shown_of r ≡ shown_of s
same_kind m n r s tr ts e = sym (shows m r m m tr) ∙ ap (λ (l : List Msg). shown_by (get_or l 0 m) (get_or l 1 m)) e ∙ shows n s m m ts

-- the attributes of the first message, and those of each message of a dump
first_attrs : (m n : Msg) (r s : Reply) → Same m n r s → attrs_in (get_or (reply_messages m r) 0 m) ≡ attrs_in (get_or (reply_messages n s) 0 m)
first_attrs m n r s e = ap (λ (l : List Msg). attrs_in (get_or l 0 m)) e

dump_attrs : (m : Msg) (family command : ℕ) (shown : List (List Attr)) → map attrs_in (dump_messages m family command shown) ≡ shown ++ [] ∷ []
dump_attrs m family command [] = refl
dump_attrs m family command (attrs ∷ shown) = ap (λ (l : List (List Attr)). attrs ∷ l) (dump_attrs m family command shown)

same_shown : (m n : Msg) (family command : ℕ) (xs ys : List (List Attr)) → dump_messages m family command xs ≡ dump_messages n family command ys → xs ≡ ys
same_shown m n family command xs ys e =
    append_cancel_right xs ys ([] ∷ []) (sym (dump_attrs m family command xs) ∙ ap (map attrs_in) e ∙ dump_attrs n family command ys)

plain_one : (m n : Msg) (a b : Answer) (xs ys : List Effect) → IsTypedReply (Plain a xs) → IsTypedReply (Plain b ys) → CanBeTold (Plain a xs) → CanBeTold (Plain b ys) → Same m n (Plain a xs) (Plain b ys) → Plain a xs ≡ Plain b ys
plain_one m n a b xs ys ta tb ca cb e =
    let attrs = first_attrs m n (Plain a xs) (Plain b ys) e in
    let answer = answer_one a b (map effect_attr xs) (map effect_attr ys) ta.0 tb.0 ca cb attrs in
    let behind = append_cancel_left (answer_attrs b) (map effect_attr xs) (map effect_attr ys) (subst (λ (x : Answer). answer_attrs x ++ map effect_attr xs ≡ answer_attrs b ++ map effect_attr ys) answer attrs) in
    let effects = effects_one xs ys ta.2 tb.2 behind in
    λ i. Plain (answer i) (effects i)

told_sections : (xs : List Section) → IsTypedReply (Regs xs) → CanBeTold (Regs xs) → All IsToldSection xs
told_sections xs typed told = all_with IsTypedSection IsShownSection IsToldSection (λ s t h. record { typed = t; shown = h }) xs typed told.1

told_channels : (r : ℕ) (xs : List (Chan × Dfs)) → IsTypedReply (Channels r xs) → CanBeTold (Channels r xs) → All IsToldChannel xs
told_channels r xs typed told = all_with IsTypedChannel (λ (x : Chan × Dfs). IsWholeMhz x.0.khz) IsToldChannel (λ x t h. (t, h)) xs typed.1 told.1

same_radio : (m n : Msg) (r s : ℕ) (xs ys : List (Chan × Dfs)) → IsTypedReply (Channels r xs) → IsTypedReply (Channels s ys) → CanBeTold (Channels r xs) → CanBeTold (Channels s ys) → Same m n (Channels r xs) (Channels s ys) → r ≡ s
same_radio m n r s [] ys tr ts cr cs e = absurd (omega (arith, cr.0))
same_radio m n r s (x ∷ xs) [] tr ts cr cs e = absurd (omega (arith, cs.0))
same_radio m n r s ((c, d) ∷ xs) ((k, h) ∷ ys) tr ts cr cs e =
    let le = tr.0 in let also = ts.0 in
    same_le32 r s (omega arith) (omega arith) (ap (payload_at 0) (first_attrs m n (Channels r ((c, d) ∷ xs)) (Channels s ((k, h) ∷ ys)) e))

channels_one : (m n : Msg) (r s : ℕ) (xs ys : List (Chan × Dfs)) → IsTypedReply (Channels r xs) → IsTypedReply (Channels s ys) → CanBeTold (Channels r xs) → CanBeTold (Channels s ys) → Same m n (Channels r xs) (Channels s ys) → Channels r xs ≡ Channels s ys
channels_one m n r s xs ys tr ts cr cs e =
    let radio = same_radio m n r s xs ys tr ts cr cs e in
    let attrs = subst (λ (q : ℕ). map (channel_attrs q) xs ≡ map (channel_attrs s) ys) radio (same_shown m n 33 11 (map (channel_attrs r) xs) (map (channel_attrs s) ys) e) in
    let list = each_one IsToldChannel (channel_attrs s) (channel_one s) xs ys (told_channels r xs tr cr) (told_channels s ys ts cs) attrs in
    λ i. Channels (radio i) (list i)

by_kind : (m n : Msg) (r s : Reply) → IsTypedReply r → IsTypedReply s → CanBeTold r → CanBeTold s → Same m n r s → shown_of r ≡ shown_of s → r ≡ s
by_kind m n (Plain a xs) (Plain b ys) tr ts cr cs e kind = plain_one m n a b xs ys tr ts cr cs e
by_kind m n (Regs xs) (Regs ys) tr ts cr cs e kind =
    ap Regs (each_one IsToldSection section_attrs section_one xs ys (told_sections xs tr cr) (told_sections ys ts cs) (same_shown m n 32 31 (map section_attrs xs) (map section_attrs ys) e))
by_kind m n (Channels r xs) (Channels s ys) tr ts cr cs e kind = channels_one m n r s xs ys tr ts cr cs e
by_kind m n (OfRadio x) (OfRadio y) tr ts cr cs e kind = ap OfRadio (radio_one x y tr ts (first_attrs m n (OfRadio x) (OfRadio y) e))
by_kind m n (Iface x) (Iface y) tr ts cr cs e kind =
    ap Iface (report_one x y (record { typed = tr; shown = cr }) (record { typed = ts; shown = cs }) (first_attrs m n (Iface x) (Iface y) e))
by_kind m n (Plain a xs) (Regs ys) tr ts cr cs e kind = absurd cc
by_kind m n (Plain a xs) (Channels s ys) tr ts cr cs e kind = absurd cc
by_kind m n (Plain a xs) (OfRadio y) tr ts cr cs e kind = absurd cc
by_kind m n (Plain a xs) (Iface y) tr ts cr cs e kind = absurd cc
by_kind m n (Regs xs) (Plain b ys) tr ts cr cs e kind = absurd cc
by_kind m n (Regs xs) (Channels s ys) tr ts cr cs e kind = absurd cc
by_kind m n (Regs xs) (OfRadio y) tr ts cr cs e kind = absurd cc
by_kind m n (Regs xs) (Iface y) tr ts cr cs e kind = absurd cc
by_kind m n (Channels r xs) (Plain b ys) tr ts cr cs e kind = absurd cc
by_kind m n (Channels r xs) (Regs ys) tr ts cr cs e kind = absurd cc
by_kind m n (Channels r xs) (OfRadio y) tr ts cr cs e kind = absurd cc
by_kind m n (Channels r xs) (Iface y) tr ts cr cs e kind = absurd cc
by_kind m n (OfRadio x) (Plain b ys) tr ts cr cs e kind = absurd cc
by_kind m n (OfRadio x) (Regs ys) tr ts cr cs e kind = absurd cc
by_kind m n (OfRadio x) (Channels s ys) tr ts cr cs e kind = absurd cc
by_kind m n (OfRadio x) (Iface y) tr ts cr cs e kind = absurd cc
by_kind m n (Iface x) (Plain b ys) tr ts cr cs e kind = absurd cc
by_kind m n (Iface x) (Regs ys) tr ts cr cs e kind = absurd cc
by_kind m n (Iface x) (Channels s ys) tr ts cr cs e kind = absurd cc
by_kind m n (Iface x) (OfRadio y) tr ts cr cs e kind = absurd cc

pub reply_one : (m n : Msg) (r s : Reply) → IsTypedReply r → IsTypedReply s → CanBeTold r → CanBeTold s → reply_messages m r ≡ reply_messages n s → r ≡ s
reply_one m n r s tr ts cr cs e = by_kind m n r s tr ts cr cs e (same_kind m n r s cr cs e)
