-- A list of calls leaves one answer.
use Rattle.std.proofs.Common.{◌≡◌, ℕ, zero, suc, ◌<◌, List, [], ◌∷◌, length, get_or, Contains, Bool, Option, Some, None, arith, refl, sym, ap, ◌∙◌, ◌⊎◌, inl, inr}
use Rattle.std.proofs.lemmas.Bool.{cases_eq}
use Rattle.chan_def.specs.declared.definition.ChanDef.{ChanDef}
use Rattle.dfs_states.specs.Calls.{Call, moment_of}
use Rattle.dfs_states.specs.Greatest.{IsGreatest}
use Rattle.dfs_states.specs.Meaning.{HasNonoccupancy, IsPastNonoccupancy, CheckStands, IsBookState, IsBookAnswer, IsRunning}
use Rattle.dfs_states.specs.declared.dfs.Dfs.{Dfs}
use Rattle.dfs_states.specs.declared.dfs.Dfs.TheVariants.{Usable, Unavailable, Available}
use Rattle.dfs_states.proofs.Most.{greatest_same}
use Rattle.dfs_states.proofs.Running.{runs_same}

-- no subchannel is quiet within a nonoccupancy
not_quiet : (calls : List Call) (khz until : ℕ) → IsGreatest (HasNonoccupancy calls khz) until → moment_of calls < until → IsPastNonoccupancy calls khz → ⊥
not_quiet calls khz until is above quiet =
    let past = quiet until is.holds in
    absurd (omega arith)

one_state : (opening : Bool) (calls : List Call) (khz : ℕ) (one other : Dfs) → IsBookState opening calls khz one → IsBookState opening calls khz other → one ≡ other
one_state opening calls khz Usable Usable is is' = refl
one_state opening calls khz Usable (Unavailable until) is is' = absurd (not_quiet calls khz until is'.0 is'.1 is.0)
one_state opening calls khz Usable (Available since) is is' = absurd (is.1 since is'.1.holds)
one_state opening calls khz (Unavailable until) Usable is is' = absurd (not_quiet calls khz until is.0 is.1 is'.0)
one_state opening calls khz (Unavailable until) (Unavailable until') is is' = ap (λ n. Unavailable n) (greatest_same (HasNonoccupancy calls khz) until until' is.0 is'.0)
one_state opening calls khz (Unavailable until) (Available since) is is' = absurd (not_quiet calls khz until is.0 is.1 is'.0)
one_state opening calls khz (Available since) Usable is is' = absurd (is'.1 since is.1.holds)
one_state opening calls khz (Available since) (Unavailable until) is is' = absurd (not_quiet calls khz until is'.0 is'.1 is.0)
one_state opening calls khz (Available since) (Available since') is is' = ap (λ n. Available n) (greatest_same (CheckStands opening calls khz) since since' is.1 is'.1)

listed_or_not : (channels : List ℕ) (khz : ℕ) → Contains channels khz ⊎ (Contains channels khz → ⊥)
listed_or_not [] khz = inr (λ has. let below = has.1 in absurd (omega arith))
listed_or_not (x ∷ channels) khz = elim (cases_eq x khz) [
  | inl same ↦ inl (0, omega arith, same)
  | inr apart ↦ elim (listed_or_not channels khz) [
    | inl has ↦ let below = has.1 in inl (suc has.0, omega arith, has.2)
    | inr none ↦ inr (λ has. unlisted apart none has.0 has.1 has.2)
  ]
]
  where
    unlisted : (x ≡ khz → ⊥) → (Contains channels khz → ⊥) → (k : ℕ) → k < length (x ∷ channels) → get_or (x ∷ channels) k khz ≡ khz → ⊥
    unlisted apart none zero below same = apart same
    unlisted apart none (suc k) below same = none (k, omega arith, same)

pub state_determined : (channels : List ℕ) (opening : Bool) (calls : List Call) (khz : ℕ) (one other : Dfs) → IsBookAnswer channels opening calls khz one → IsBookAnswer channels opening calls khz other
    → one ≡ other
state_determined channels opening calls khz one other is is' = elim (listed_or_not channels khz) [
  | inl listed ↦ one_state opening calls khz one other (is.of_channel listed) (is'.of_channel listed)
  | inr unlisted ↦ is.of_other unlisted ∙ sym (is'.of_other unlisted)
]

pub running_determined : (calls : List Call) (slot : ℕ) (one other : Option (ChanDef × ℕ)) → IsRunning calls slot one → IsRunning calls slot other → one ≡ other
running_determined calls slot None None is is' = refl
running_determined calls slot None (Some other) is is' = absurd (is (record { chan = other.0; start = is'.0; end = other.1; runs = is'.1 }))
running_determined calls slot (Some one) None is is' = absurd (is' (record { chan = one.0; start = is.0; end = one.1; runs = is.1 }))
running_determined calls slot (Some one) (Some other) is is' =
    let same = runs_same calls slot one.0 other.0 is.0 is'.0 one.1 other.1 is.1 is'.1 in
    ap (λ (check : ChanDef × ℕ). Some check) (both one.0 other.0 one.1 other.1 same.0 same.2)
  where
    pair : ChanDef → ℕ → ChanDef × ℕ
    pair chan end = (chan, end)

    both : (chan chan' : ChanDef) (end end' : ℕ) → chan ≡ chan' → end ≡ end' → pair chan end ≡ pair chan' end'
    both chan chan' end end' channels ends = cc
