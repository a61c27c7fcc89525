-- The attributes of effects stand behind those of the answer, which has one or two.
use Rattle.std.proofs.Common.{◌≡◌, ℕ, true, false, List, [], ◌∷◌, ◌++◌, ◌⊎◌, inl, inr, map, drop, not, ap, refl, sym, subst, ◌∙◌}
use Rattle.std.specs.Prelude.{slice_get}
use Rattle.nl_attrs.specs.declared.attr.Attr.{Attr}
use Rattle.reg_journal.specs.declared.effects.Effect.{Effect}
use Rattle.reg_journal.specs.declared.refusal.Refusal.{Refusal}
use Rattle.reg_journal.specs.declared.refusal.Refusal.TheVariants.{MomentBack, MomentTooLarge, NoRadio, SlotUsed, NoInterface, NameTaken, RadioLacks, RadioLacksWidth, RadioLacksContext, NoRule, Width, NoOfdm, NoIr, NoOutdoor, Power, RadioLacksRadarWidth, Radar, Unchecked, NoCountry, TooManyRows, TooManyRules, BadRule, ElementShort, ElementOdd}
use Rattle.reg_journal.specs.declared.reply.Answer.{Answer}
use Rattle.reg_journal.specs.declared.reply.Answer.TheVariants.{Ok, Hint, Started, Checking, Refused}
use Rattle.reg_journal.specs.Codes.{code_of_answer}
use Rattle.nl80211_cmds.specs.Values.{number_attr}
use Rattle.nl80211_replies.specs.declared.attribute.TheConstants.{CODE}
use Rattle.nl80211_replies.specs.Plain.{answer_attrs, answer_value, effect_attr, refusal_value}
use Rattle.reply_reading.specs.inner.Reading.{is_plain}

-- nothing, or one attribute that holds no others
IsShortValue : List Attr → Type 0
IsShortValue value = (value ≡ []) ⊎ ((a : Attr) × (value ≡ a ∷ []) × (a.nested ≡ false))

alone : (a : Attr) → a.nested ≡ false → IsShortValue (a ∷ [])
unfolding IsShortValue
alone a plain = inr (a, refl, plain)

nothing : IsShortValue []
unfolding IsShortValue
nothing = inl refl

refusal_short : (e : Refusal) → IsShortValue (refusal_value e)
refusal_short (MomentBack m) = alone _ refl
refusal_short (MomentTooLarge m) = alone _ refl
refusal_short (NoRadio r) = alone _ refl
refusal_short (SlotUsed r) = alone _ refl
refusal_short (NoInterface t) = alone _ refl
refusal_short (NameTaken t) = alone _ refl
refusal_short (RadioLacks khz) = alone _ refl
refusal_short (RadioLacksWidth m) = alone _ refl
refusal_short (RadioLacksContext m) = alone _ refl
refusal_short (NoRule khz) = alone _ refl
refusal_short (Width khz) = alone _ refl
refusal_short (NoOfdm khz) = alone _ refl
refusal_short (NoIr khz) = alone _ refl
refusal_short (NoOutdoor khz) = alone _ refl
refusal_short (Power m) = alone _ refl
refusal_short (RadioLacksRadarWidth m) = alone _ refl
refusal_short (Radar khz) = alone _ refl
refusal_short (Unchecked khz) = alone _ refl
refusal_short (NoCountry c) = alone _ refl
refusal_short (TooManyRows m) = alone _ refl
refusal_short (TooManyRules m) = alone _ refl
refusal_short (BadRule m) = alone _ refl
refusal_short (ElementShort m) = alone _ refl
refusal_short (ElementOdd m) = alone _ refl
refusal_short e = nothing

answer_short : (answer : Answer) → IsShortValue (answer_value answer)
answer_short Ok = nothing
answer_short (Hint taken) = nothing
answer_short (Started m) = alone _ refl
answer_short (Checking m) = alone _ refl
answer_short (Refused e) = refusal_short e

-- the first effect holds others
none_plain : (effects : List Effect) → is_plain (slice_get (map effect_attr effects) 0) ≡ true → ⊥
none_plain [] e = cc
none_plain (x ∷ effects) e = cc

behind_value : (a : Attr) (value : List Attr) (effects : List Effect) → IsShortValue value → is_plain (slice_get (a ∷ value ++ map effect_attr effects) 1) ≡ true
    → drop 2 (a ∷ value ++ map effect_attr effects) ≡ map effect_attr effects
unfolding IsShortValue
behind_value a value effects short e =
    elim short [
      | inl none ↦ absurd (none_plain effects (subst (λ (v : List Attr). is_plain (slice_get (a ∷ v ++ map effect_attr effects) 1) ≡ true) none e))
      | inr one ↦ ap (λ (v : List Attr). drop 2 (a ∷ v ++ map effect_attr effects)) one.1
    ]

no_value : (a : Attr) (value : List Attr) (effects : List Effect) → IsShortValue value → is_plain (slice_get (a ∷ value ++ map effect_attr effects) 1) ≡ false
    → value ++ map effect_attr effects ≡ map effect_attr effects
unfolding IsShortValue
no_value a value effects short e =
    elim short [
      | inl none ↦ ap (λ (v : List Attr). v ++ map effect_attr effects) none
      | inr one ↦
          let plain : not one.0.nested ≡ false = subst (λ (v : List Attr). is_plain (slice_get (a ∷ v ++ map effect_attr effects) 1) ≡ false) one.1 e in
          let clash : true ≡ false = sym (ap not one.2) ∙ plain in
          absurd cc
    ]

pub behind_two : (answer : Answer) (effects : List Effect) (attrs : List Attr) → is_plain (slice_get attrs 1) ≡ true → attrs ≡ answer_attrs answer ++ map effect_attr effects → drop 2 attrs ≡ map effect_attr effects
behind_two answer effects attrs e is =
    ap (drop 2) is ∙ behind_value (number_attr CODE (code_of_answer answer)) (answer_value answer) effects (answer_short answer) (subst (λ (x : List Attr). is_plain (slice_get x 1) ≡ true) is e)

pub behind_one : (answer : Answer) (effects : List Effect) (attrs : List Attr) → is_plain (slice_get attrs 1) ≡ false → attrs ≡ answer_attrs answer ++ map effect_attr effects → drop 1 attrs ≡ map effect_attr effects
behind_one answer effects attrs e is =
    ap (drop 1) is ∙ no_value (number_attr CODE (code_of_answer answer)) (answer_value answer) effects (answer_short answer) (subst (λ (x : List Attr). is_plain (slice_get x 1) ≡ false) is e)

-- the payloads of effects
pub effect_payloads : (effects : List Effect) → map (λ (a : Attr). a.payload) (map effect_attr effects) ≡ map (λ (e : Effect). (effect_attr e).payload) effects
effect_payloads [] = refl
effect_payloads (e ∷ effects) = ap (λ (xs : List (List ℕ)). (effect_attr e).payload ∷ xs) (effect_payloads effects)
