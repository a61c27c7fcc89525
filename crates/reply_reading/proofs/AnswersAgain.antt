-- Answers and effects are those that attributes tell.
use Rattle.std.proofs.Common.{◌≡◌, ℕ, ◌/◌, ◌%◌, ◌^◌, ◌<◌, ◌≤◌, List, ◌∷◌, ◌++◌, ap, refl, subst, ◌∙◌, arith}
use Rattle.rule_tables.specs.declared.code.Alpha2.{Alpha2}
use Rattle.radio_drv.specs.Names.{IsName}
use Rattle.nl_attrs.specs.Endian.{le32, le64}
use Rattle.nl_attrs.specs.declared.attr.Attr.{Attr}
use Rattle.reg_journal.specs.Codes.{code_and_errno, code_of_answer}
use Rattle.reg_journal.specs.Forms.{IsShownAnswer, IsShownRefusal}
use Rattle.reg_journal.specs.declared.effects.Effect.{Effect}
use Rattle.reg_journal.specs.declared.effects.Effect.TheVariants.{Stopped, Dropped, Power as PowerSet}
use Rattle.reg_journal.specs.declared.refusal.Refusal.{Refusal}
use Rattle.reg_journal.specs.declared.refusal.Refusal.TheVariants.{MomentBack, MomentTooLarge, NoRadio, SlotUsed, NoInterface, NameTaken, Full, RadioLacks, RadioLacksWidth, RadioLacksContext, NoRule, Width, NoOfdm, NoIr, NoOutdoor, Power, RadioLacksRadarWidth, Radar, Unchecked, NoCountry, TooManyRows, TooManyRules, BadRule, ElementShort, ElementOdd}
use Rattle.reg_journal.specs.declared.reply.Answer.{Answer}
use Rattle.reg_journal.specs.declared.reply.Answer.TheVariants.{Ok, Hint, Started, Checking, Refused}
use Rattle.reg_journal.specs.declared.reply.HintAnswer.TheVariants.{Treated, Own}
use Rattle.reg_hints.specs.declared.hint.Treatment.TheVariants.{Replace, Intersect, Already, Ignore}
use Rattle.nl80211_cmds.specs.Values.{number_attr}
use Rattle.nl80211_replies.specs.Plain.{answer_attrs, effect_list, refusal_value}
use Rattle.nl80211_replies.specs.declared.attribute.TheConstants.{CODE}
use Rattle.reply_reading.specs.Typed.{IsTypedAnswer, IsTypedEffect, IsTypedRefusal}
use Rattle.reply_reading.specs.inner.Reading.{code_payload, name_payload, payload_at}
use Rattle.reply_reading.specs.inner.Refusals.{answer_told, effect_told, refusal_told}
use Rattle.reply_reading.specs.inner.Values.{below, khz_of}
use Rattle.reply_reading.proofs.Numbered.{below_is, khz_is, radio_is}

-- ---- what is read at a place

abbrev pub Numbers32 : List Attr → ℕ → ℕ → Type 0
Numbers32 attrs k n = (m : ℕ) → m < 2 ^ 32 → payload_at k attrs ≡ le32 m → n ≡ m

abbrev pub Numbers64 : List Attr → ℕ → ℕ → Type 0
Numbers64 attrs k n = (m : ℕ) → m < 2 ^ 64 → payload_at k attrs ≡ le64 m → n ≡ m

abbrev pub Names : List Attr → ℕ → List ℕ → Type 0
Names attrs k name = (t : List ℕ) → IsName t → payload_at k attrs ≡ name_payload t → name ≡ t

abbrev pub Codes : List Attr → ℕ → Alpha2 → Type 0
Codes attrs k code = (a : Alpha2) → payload_at k attrs ≡ code_payload a → code ≡ a

-- ---- refusals

khz_told : (f : ℕ → Refusal) (n khz : ℕ) → khz < 2 ^ 32 → khz % 1000 ≡ 0 → n ≡ khz / 1000 → f (khz_of n) ≡ f khz
khz_told f n khz lt whole e = ap f (khz_is n khz lt whole e)

below_told : (f : ℕ → Refusal) (limit n m : ℕ) → m < limit → n ≡ m → f (below limit n) ≡ f m
below_told f limit n m lt e = ap f (below_is limit n m lt e)

radio_told : (f : ℕ → Refusal) (n r : ℕ) → r ≤ 7 → n ≡ r → f (n % 8) ≡ f r
radio_told f n r le e = ap f (radio_is n r le e)

refusal_again : (e : Refusal) (a : Attr) (more : List Attr) (n : ℕ) (name : List ℕ) (code : Alpha2) → IsTypedRefusal e → IsShownRefusal e
    → Numbers64 (a ∷ refusal_value e ++ more) 1 n → Names (a ∷ refusal_value e ++ more) 1 name → Codes (a ∷ refusal_value e ++ more) 1 code
    → refusal_told (code_and_errno e).0 n name code ≡ e
refusal_again (MomentBack m) a more n name code typed shown wide text letters = ap MomentBack (wide m typed refl)
refusal_again (MomentTooLarge m) a more n name code typed shown wide text letters = ap MomentTooLarge (wide m typed refl)
refusal_again (NoRadio r) a more n name code typed shown wide text letters = radio_told NoRadio n r typed (wide r (omega arith) refl)
refusal_again (SlotUsed r) a more n name code typed shown wide text letters = radio_told SlotUsed n r typed (wide r (omega arith) refl)
refusal_again (NoInterface t) a more n name code typed shown wide text letters = ap NoInterface (text t typed refl)
refusal_again (NameTaken t) a more n name code typed shown wide text letters = ap NameTaken (text t typed refl)
refusal_again (RadioLacks khz) a more n name code typed shown wide text letters = khz_told RadioLacks n khz typed shown (wide (khz / 1000) (omega arith) refl)
refusal_again (RadioLacksWidth m) a more n name code typed shown wide text letters = below_told RadioLacksWidth 65536 n m (omega arith) (wide m (omega arith) refl)
refusal_again (RadioLacksContext m) a more n name code typed shown wide text letters = below_told RadioLacksContext 256 n m (omega arith) (wide m (omega arith) refl)
refusal_again (NoRule khz) a more n name code typed shown wide text letters = khz_told NoRule n khz typed shown (wide (khz / 1000) (omega arith) refl)
refusal_again (Width khz) a more n name code typed shown wide text letters = khz_told Width n khz typed shown (wide (khz / 1000) (omega arith) refl)
refusal_again (NoOfdm khz) a more n name code typed shown wide text letters = khz_told NoOfdm n khz typed shown (wide (khz / 1000) (omega arith) refl)
refusal_again (NoIr khz) a more n name code typed shown wide text letters = khz_told NoIr n khz typed shown (wide (khz / 1000) (omega arith) refl)
refusal_again (NoOutdoor khz) a more n name code typed shown wide text letters = khz_told NoOutdoor n khz typed shown (wide (khz / 1000) (omega arith) refl)
refusal_again (Power m) a more n name code typed shown wide text letters = below_told Power 65536 n m (omega arith) (wide m (omega arith) refl)
refusal_again (RadioLacksRadarWidth m) a more n name code typed shown wide text letters = below_told RadioLacksRadarWidth 65536 n m (omega arith) (wide m (omega arith) refl)
refusal_again (Radar khz) a more n name code typed shown wide text letters = khz_told Radar n khz typed shown (wide (khz / 1000) (omega arith) refl)
refusal_again (Unchecked khz) a more n name code typed shown wide text letters = khz_told Unchecked n khz typed shown (wide (khz / 1000) (omega arith) refl)
refusal_again (NoCountry c) a more n name code typed shown wide text letters = ap NoCountry (letters c refl)
refusal_again (TooManyRows m) a more n name code typed shown wide text letters = ap TooManyRows (wide m typed refl)
refusal_again (TooManyRules m) a more n name code typed shown wide text letters = ap TooManyRules (wide m typed refl)
refusal_again (BadRule m) a more n name code typed shown wide text letters = ap BadRule (wide m typed refl)
refusal_again (ElementShort m) a more n name code typed shown wide text letters = ap ElementShort (wide m typed refl)
refusal_again (ElementOdd m) a more n name code typed shown wide text letters = ap ElementOdd (wide m typed refl)
refusal_again e a more n name code typed shown wide text letters = refl

refusal_small : (e : Refusal) → (code_and_errno e).0 < 256
refusal_small Full = omega arith
refusal_small e = omega arith

-- codes of refusals are none of the first eight
refused : (e : Refusal) (n : ℕ) (name : List ℕ) (code : Alpha2) → answer_told (code_and_errno e).0 n name code ≡ Refused (refusal_told (code_and_errno e).0 n name code)
refused Full n name code = refl
refused e n name code = refl

-- ---- answers

answer_small : (answer : Answer) → code_of_answer answer < 2 ^ 32
answer_small Ok = omega arith
answer_small (Hint (Treated Replace)) = omega arith
answer_small (Hint (Treated Intersect)) = omega arith
answer_small (Hint (Treated Already)) = omega arith
answer_small (Hint (Treated Ignore)) = omega arith
answer_small (Hint Own) = omega arith
answer_small (Started power) = omega arith
answer_small (Checking length) = omega arith
answer_small (Refused e) = omega (arith, refusal_small e)

told_again : (answer : Answer) (more : List Attr) (n : ℕ) (name : List ℕ) (code : Alpha2) → IsTypedAnswer answer → IsShownAnswer answer
    → Numbers64 (answer_attrs answer ++ more) 1 n → Names (answer_attrs answer ++ more) 1 name → Codes (answer_attrs answer ++ more) 1 code
    → answer_told (code_of_answer answer) n name code ≡ answer
told_again Ok more n name code typed shown wide text letters = refl
told_again (Hint (Treated Replace)) more n name code typed shown wide text letters = refl
told_again (Hint (Treated Intersect)) more n name code typed shown wide text letters = refl
told_again (Hint (Treated Already)) more n name code typed shown wide text letters = refl
told_again (Hint (Treated Ignore)) more n name code typed shown wide text letters = refl
told_again (Hint Own) more n name code typed shown wide text letters = refl
told_again (Started m) more n name code typed shown wide text letters = ap Started (below_is 65536 n m (omega arith) (wide m (omega arith) refl))
told_again (Checking m) more n name code typed shown wide text letters = ap Checking (below_is 4294967296 n m (omega arith) (wide m (omega arith) refl))
told_again (Refused e) more n name code typed shown wide text letters = refused e n name code ∙ ap Refused (refusal_again e (number_attr CODE (code_and_errno e).0) more n name code typed shown wide text letters)

pub answer_again : (answer : Answer) (more attrs : List Attr) (c n : ℕ) (name : List ℕ) (code : Alpha2) → IsTypedAnswer answer → IsShownAnswer answer
    → attrs ≡ answer_attrs answer ++ more → Numbers32 attrs 0 c → Numbers64 attrs 1 n → Names attrs 1 name → Codes attrs 1 code
    → answer_told c n name code ≡ answer
answer_again answer more attrs c n name code typed shown is first wide text letters =
    let P64 : List Attr → Type 0 = λ x. Numbers64 x 1 n in let PName : List Attr → Type 0 = λ x. Names x 1 name in let PCode : List Attr → Type 0 = λ x. Codes x 1 code in
    ap (λ (x : ℕ). answer_told x n name code) (first (code_of_answer answer) (answer_small answer) (ap (payload_at 0) is))
    ∙ told_again answer more n name code typed shown (subst P64 is wide) (subst PName is text) (subst PCode is letters)

-- ---- effects

pub effect_again : (e : Effect) (attrs : List Attr) (c n : ℕ) (name : List ℕ) → IsTypedEffect e → attrs ≡ effect_list e → Numbers32 attrs 0 c → Names attrs 1 name → Numbers64 attrs 2 n
    → effect_told c name n ≡ e
effect_again (Stopped t) attrs c n name typed is first text wide =
    ap (λ (x : ℕ). effect_told x name n) (first 0 (omega arith) (ap (payload_at 0) is)) ∙ ap Stopped (text t typed (ap (payload_at 1) is))
effect_again (Dropped t) attrs c n name typed is first text wide =
    ap (λ (x : ℕ). effect_told x name n) (first 1 (omega arith) (ap (payload_at 0) is)) ∙ ap Dropped (text t typed (ap (payload_at 1) is))
effect_again (PowerSet t m) attrs c n name typed is first text wide =
    let lt = typed.1 in
    let same = text t typed.0 (ap (payload_at 1) is) in
    let power = below_is 65536 n m (omega arith) (wide m (omega arith) (ap (payload_at 2) is)) in
    ap (λ (x : ℕ). effect_told x name n) (first 2 (omega arith) (ap (payload_at 0) is)) ∙ (λ i. PowerSet (same i) (power i))
