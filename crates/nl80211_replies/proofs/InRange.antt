-- The messages of plain replies fit their fields.
use Rattle.std.proofs.Common.{◌≡◌, ℕ, ◌<◌, ◌≤◌, List, [], ◌∷◌, ◌++◌, map, All, true, refl, arith, subst, sym}
use Rattle.std.specs.List.{list_all}
use Rattle.std.proofs.lemmas.List.Elements.{All-append, All-cons, All-nil}
use Rattle.nl_attrs.specs.Messages.{IsInRange}
use Rattle.nl_attrs.specs.declared.attr.Attr.{Attr}
use Rattle.nl_attrs.specs.declared.message.Msg.{Msg}
use Rattle.reg_journal.specs.declared.effects.Effect.{Effect}
use Rattle.reg_journal.specs.declared.refusal.Refusal.{Refusal}
use Rattle.reg_journal.specs.declared.refusal.Refusal.TheVariants.{Full}
use Rattle.reg_journal.specs.declared.reply.Answer.{Answer}
use Rattle.reg_journal.specs.declared.reply.Answer.TheVariants.{Ok, Hint, Started, Checking, Refused}
use Rattle.reg_journal.specs.Codes.{code_of_answer}
use Rattle.nl80211_cmds.specs.Errors.{error_answer}
use Rattle.nl80211_cmds.specs.Values.{number_attr}
use Rattle.nl80211_cmds.proofs.InRange.{has_kind, kinds}
use Rattle.nl80211_replies.specs.Plain.{answer_attrs, answer_errno, answer_value, effect_attr, plain_attrs, plain_messages, refusal_value}
use Rattle.nl80211_replies.specs.declared.attribute.TheConstants.{CODE}

abbrev HasKind : Attr → Type 0
HasKind a = a.kind < 16384

one : (a : Attr) → HasKind a → All HasKind (a ∷ [])
one a lt = All-cons HasKind a [] lt (All-nil HasKind)

refusals_test : (e : Refusal) → list_all has_kind (refusal_value e) ≡ true
refusals_test Full = refl
refusals_test e = refl

refusals : (e : Refusal) → All HasKind (refusal_value e)
refusals e = kinds (refusal_value e) (refusals_test e)

answers : (answer : Answer) → All HasKind (answer_value answer)
answers Ok = All-nil HasKind
answers (Hint taken) = All-nil HasKind
answers (Started power) = one _ (omega arith)
answers (Checking length) = one _ (omega arith)
answers (Refused e) = refusals e

effects_have : (effects : List Effect) → All HasKind (map effect_attr effects)
effects_have [] = All-nil HasKind
effects_have (effect ∷ effects) = All-cons HasKind (effect_attr effect) (map effect_attr effects) (omega arith) (effects_have effects)

plain_have : (answer : Answer) (effects : List Effect) → All HasKind (plain_attrs answer effects)
plain_have answer effects =
    All-append HasKind (answer_attrs answer) (map effect_attr effects) (All-cons HasKind (number_attr CODE (code_of_answer answer)) (answer_value answer) (omega arith) (answers answer)) (effects_have effects)

pub plain_in_range : (request : Msg) (answer : Answer) (effects : List Effect) → All IsInRange (plain_messages request answer effects)
plain_in_range request answer effects =
    All-cons IsInRange _ (error_answer request (answer_errno answer) ∷ []) (omega arith, plain_have answer effects) (All-cons IsInRange (error_answer request (answer_errno answer)) [] tt (All-nil IsInRange))

pub made_in_range : (msgs : List Msg) (request : Msg) (answer : Answer) (effects : List Effect) → msgs ≡ plain_messages request answer effects → All IsInRange msgs
made_in_range msgs request answer effects is = let P : List Msg → Type 0 = All IsInRange in subst P (sym is) (plain_in_range request answer effects)
