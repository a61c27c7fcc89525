-- There is one answer to each question.
use Rattle.std.proofs.Common.{◌≡◌, ℕ, false, List, Option, None, Some, IsSomeAnd, Result, Ok, Err, is_some, refl, sym, ap, subst, ◌∙◌, inl, inr}
use Rattle.std.proofs.lemmas.Bool.{false≢true}
use Rattle.rule_tables.specs.declared.domain.Domain.{Domain}
use Rattle.chan_def.specs.declared.definition.ChanDef.{ChanDef}
use Rattle.chan_def.specs.declared.kind.Kind.{Kind}
use Rattle.chan_flags.specs.Verdicts.{power_of}
use Rattle.chan_flags.proofs.OneAnswer.{IsCheckLength-unique, IsLimit-unique}
use Rattle.chan_flags.proofs.Told.{told_radio_channel}
use Rattle.chan_flags.specs.Profiles.{Abilities}
use Rattle.dfs_states.specs.declared.dfs.Dfs.{Dfs}
use Rattle.dfs_states.specs.declared.dfs.Dfs.TheVariants.{Usable}
use Rattle.reg_journal.specs.Applicable.{applies}
use Rattle.reg_journal.specs.Asking.{IsStateOn, WouldCheck, WouldStart}
use Rattle.reg_journal.specs.Facts.{Journal}
use Rattle.reg_journal.specs.Permits.{asked_by, IsLengthOf, IsLimitOf, IsPowerOf}
use Rattle.reg_journal.specs.Present.{Iface, abilities_of, named, profile_of}
use Rattle.reg_journal.specs.Radar.{IsChannelState}
use Rattle.reg_journal.specs.Refusals.{LacksIface}
use Rattle.reg_journal.specs.declared.refusal.Refusal.{Refusal}
use Rattle.reg_journal.proofs.Answering.{cause-check, cause-start}
use Rattle.reg_journal.proofs.Deciding.{length_for, limit_of, power_for}
use Rattle.reg_journal.proofs.OneRefusal.{one-check, one-start}
use Rattle.reg_journal.proofs.OneReply.{one-state}
use Rattle.reg_journal.proofs.Operations.{some_value}
use Rattle.reg_journal.proofs.Permitting.{free-first, never_where}
use Rattle.reg_journal.proofs.Regular.{is_there}
use Rattle.reg_journal.proofs.ToldStates.{some_state}

pub some_start : (db : List Domain) (J : Journal) (name : List ℕ) (kind : Kind) (c : ChanDef) → (answer : Result ℕ Refusal) × WouldStart db J name kind c answer
some_start db J name kind c = elim (cause-start db J name kind c false) [
  | inl (e, cause) ↦ (Err e, cause)
  | inr free ↦
      let found = some_value (named J name) (is_there (named J name) (never_where _ _ (free-first (LacksIface J name) _ free))) in
      let power = power_for db J found.0 c in
      (Ok power.0, (free, subst (λ o. IsSomeAnd o (λ x. IsPowerOf db J x c power.0)) (sym found.1) power.1))
]

same_power : (db : List Domain) (J : Journal) (c : ChanDef) (one other : ℕ) (o : Option Iface) → IsSomeAnd o (λ x. IsPowerOf db J x c one) → IsSomeAnd o (λ x. IsPowerOf db J x c other)
    → one ≡ other
same_power db J c one other None is is' = absurd is
same_power db J c one other (Some x) (limit, at, same) (limit', at', same') =
    same ∙ ap (power_of x.setting) (IsLimit-unique (applies db J x.radio) (asked_by J x c) limit limit' at at') ∙ sym same'

pub one_start : (db : List Domain) (J : Journal) (name : List ℕ) (kind : Kind) (c : ChanDef) (one other : Result ℕ Refusal) → WouldStart db J name kind c one
    → WouldStart db J name kind c other → one ≡ other
one_start db J name kind c (Ok power) (Ok power') is is' = ap (λ n. Ok n) (same_power db J c power power' (named J name) is.1 is'.1)
one_start db J name kind c (Ok power) (Err e) is cause = absurd (is.0 e cause)
one_start db J name kind c (Err e) (Ok power) cause is = absurd (is.0 e cause)
one_start db J name kind c (Err e) (Err e') cause cause' = ap (λ n. Err n) (one-start db J name kind c false e e' cause cause')

pub some_check : (db : List Domain) (J : Journal) (name : List ℕ) (c : ChanDef) → (answer : Result (ℕ × ℕ) Refusal) × WouldCheck db J name c answer
some_check db J name c = elim (cause-check db J name c false) [
  | inl (e, cause) ↦ (Err e, cause)
  | inr free ↦
      let found = some_value (named J name) (is_there (named J name) (never_where _ _ (free-first (LacksIface J name) _ free))) in
      let length = length_for db J found.0 c in
      let limit = limit_of db J found.0 c in
      (Ok (length.0, limit.0), (free, subst (λ o. IsSomeAnd o (λ x. IsLengthOf db J x c length.0 × IsLimitOf db J x c limit.0)) (sym found.1) (length.1, limit.1)))
]

same_length : (db : List Domain) (J : Journal) (c : ChanDef) (one other : ℕ × ℕ) (o : Option Iface) → IsSomeAnd o (λ x. IsLengthOf db J x c one.0 × IsLimitOf db J x c one.1)
    → IsSomeAnd o (λ x. IsLengthOf db J x c other.0 × IsLimitOf db J x c other.1) → (one.0 ≡ other.0) × (one.1 ≡ other.1)
same_length db J c one other None is is' = absurd is
same_length db J c one other (Some x) is is' = (
  IsCheckLength-unique (applies db J x.radio) (asked_by J x c) one.0 other.0 is.0 is'.0,
  IsLimit-unique (applies db J x.radio) (asked_by J x c) one.1 other.1 is.1 is'.1,
)

same_pair : (a b : ℕ × ℕ) → (a.0 ≡ b.0) × (a.1 ≡ b.1) → a ≡ b
same_pair a b same = λ i. (same.0 i, same.1 i)

pub one_check : (db : List Domain) (J : Journal) (name : List ℕ) (c : ChanDef) (one other : Result (ℕ × ℕ) Refusal) → WouldCheck db J name c one → WouldCheck db J name c other
    → one ≡ other
one_check db J name c (Ok a) (Ok b) is is' = ap (λ n. Ok n) (same_pair a b (same_length db J c a b (named J name) is.1 is'.1))
one_check db J name c (Ok answer) (Err e) is cause = absurd (is.0 e cause)
one_check db J name c (Err e) (Ok answer) cause is = absurd (is.0 e cause)
one_check db J name c (Err e) (Err e') cause cause' = ap (λ n. Err n) (one-check db J name c false e e' cause cause')

-- ---- states

some_on : (db : List Domain) (J : Journal) (r s : ℕ) → (dfs : Dfs) × IsChannelState db J r s dfs
some_on db J r s = elim (told_radio_channel (abilities_of J r).bands s) [
  | inl is ↦ let state = some_state db J r s in (state.0, record { of_channel = λ has. state.1; of_other = λ never. absurd (never is) })
  | inr not ↦ (Usable, record { of_channel = λ has. absurd (not has); of_other = λ never. refl })
]

pub some_state_on : (db : List Domain) (J : Journal) (r s : ℕ) → (answer : Option Dfs) × IsStateOn db J r s answer
some_state_on db J r s = by (profile_of J r) refl
  where
    by : (o : Option Abilities) → profile_of J r ≡ o → (answer : Option Dfs) × IsStateOn db J r s answer
    by None none = (None, none)
    by (Some p) some = let state = some_on db J r s in (Some state.0, (ap is_some some, state.1))

pub one_state_on : (db : List Domain) (J : Journal) (r s : ℕ) (one other : Option Dfs) → IsStateOn db J r s one → IsStateOn db J r s other → one ≡ other
one_state_on db J r s None None is is' = refl
one_state_on db J r s None (Some dfs) none is = absurd (false≢true (sym (ap is_some none) ∙ is.0))
one_state_on db J r s (Some dfs) None is none = absurd (false≢true (sym (ap is_some none) ∙ is.0))
one_state_on db J r s (Some dfs) (Some other) is is' = ap (λ d. Some d) (elim (told_radio_channel (abilities_of J r).bands s) [
  | inl has ↦ one-state db J r s dfs other (is.1.of_channel has) (is'.1.of_channel has)
  | inr not ↦ is.1.of_other not ∙ sym (is'.1.of_other not)
])
