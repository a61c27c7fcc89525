-- The checks that run in the slots, after one more call.
use Rattle.std.proofs.Common.{◌≡◌, ℕ, ◌≤◌, ◌<◌, List, ◌∷◌, length, set, get_or, Option, Some, None, arith, sym, subst, inl, inr}
use Rattle.std.proofs.lemmas.Bool.{cases_eq}
use Rattle.std.proofs.lemmas.List.{get_or-set_same, get_or-set_other}
use Rattle.chan_def.specs.declared.definition.ChanDef.{ChanDef}
use Rattle.dfs_states.specs.Calls.{Call, Advance, Begin, DropCheck, moment_of}
use Rattle.dfs_states.specs.Meaning.{IsFreeSlot, EachMayBeCalled}
use Rattle.dfs_states.specs.StandsFor.{IsCheck, AreChecks}
use Rattle.dfs_states.specs.declared.check.Check.{Check}
use Rattle.dfs_states.proofs.Running.{runs_same, runs_on, runs_before, runs_begun, runs_dropped}

pub idle_before : (f : Call) (calls : List Call) (slot : ℕ) → ((c : ChanDef) (n : ℕ) → f ≡ Begin slot c n → ⊥) → EachMayBeCalled (f ∷ calls)
    → IsFreeSlot calls slot → IsFreeSlot (f ∷ calls) slot
idle_before f calls slot other due idle = λ busy. idle (record {
  chan = busy.chan;
  start = busy.start;
  end = busy.end;
  runs = runs_before f calls slot busy.chan busy.start busy.end other due busy.runs;
})

-- no time passes, and no check begins or is dropped in the slot
pub check_same : (f : Call) (calls : List Call) (slot : ℕ) (check : Option Check) → ((c : ChanDef) (n : ℕ) → f ≡ Begin slot c n → ⊥)
    → (f ≡ DropCheck slot → ⊥) → moment_of (f ∷ calls) ≡ moment_of calls → EachMayBeCalled (f ∷ calls) → IsCheck calls slot check → IsCheck (f ∷ calls) slot check
check_same f calls slot None other undropped now due is = idle_before f calls slot other due is
check_same f calls slot (Some check) other undropped now due is =
    let below = is.runs in
    runs_on f calls slot check.chan check.start check.end other undropped (omega arith) is

pub check_runs_on : (moment : ℕ) (calls : List Call) (slot : ℕ) (check : Check) → moment < check.end
    → IsCheck calls slot (Some check) → IsCheck (Advance moment ∷ calls) slot (Some check)
check_runs_on moment calls slot check below is =
    runs_on (Advance moment) calls slot check.chan check.start check.end (λ c n same. cc) (λ same. cc) below is

pub check_done : (moment : ℕ) (calls : List Call) (slot : ℕ) (check : Check) → check.end ≤ moment → EachMayBeCalled (Advance moment ∷ calls)
    → IsCheck calls slot (Some check) → IsFreeSlot (Advance moment ∷ calls) slot
check_done moment calls slot check done due is = λ busy.
    let runs = runs_before (Advance moment) calls slot busy.chan busy.start busy.end (λ c n same. cc) due busy.runs in
    let same = (runs_same calls slot busy.chan check.chan busy.start check.start busy.end check.end runs is).2 in
    let below = busy.runs.runs in
    absurd (omega arith)

pub check_none : (moment : ℕ) (calls : List Call) (slot : ℕ) → EachMayBeCalled (Advance moment ∷ calls) → IsFreeSlot calls slot → IsFreeSlot (Advance moment ∷ calls) slot
check_none moment calls slot due is = idle_before (Advance moment) calls slot (λ c n same. cc) due is

-- one slot's check is written, and the others' are as they were
pub checks_set : (f : Call) (calls : List Call) (checks : List (Option Check)) (slot : ℕ) (check : Option Check) → slot < length checks
    → IsCheck (f ∷ calls) slot check → ((c : ChanDef) (n other : ℕ) → f ≡ Begin other c n → other ≡ slot) → ((other : ℕ) → f ≡ DropCheck other → other ≡ slot)
    → moment_of (f ∷ calls) ≡ moment_of calls → EachMayBeCalled (f ∷ calls) → AreChecks checks calls → AreChecks (set checks slot check) (f ∷ calls)
checks_set f calls checks slot check within is begins drops now due are = λ other. elim (cases_eq other slot) [
  | inl same ↦
      let here : get_or (set checks slot check) other none ≡ check =
      subst (λ j. get_or (set checks slot check) j none ≡ check) (sym same) (get_or-set_same checks slot check none within) in
      let there : IsCheck (f ∷ calls) other check = subst (λ j. IsCheck (f ∷ calls) j check) (sym same) is in
      subst (λ o. IsCheck (f ∷ calls) other o) (sym here) there
  | inr apart ↦
      subst (λ o. IsCheck (f ∷ calls) other o) (sym (get_or-set_other checks slot other check none apart))
      (check_same f calls other (get_or checks other none) (λ c n same. apart (begins c n other same)) (λ same. apart (drops other same)) now due (are other))
]
  where
    none : Option Check
    none = None

pub checks_same : (f : Call) (calls : List Call) (checks : List (Option Check)) → ((slot : ℕ) (c : ChanDef) (n : ℕ) → f ≡ Begin slot c n → ⊥)
    → ((slot : ℕ) → f ≡ DropCheck slot → ⊥) → moment_of (f ∷ calls) ≡ moment_of calls → EachMayBeCalled (f ∷ calls) → AreChecks checks calls → AreChecks checks (f ∷ calls)
checks_same f calls checks other undropped now due are = λ slot.
    check_same f calls slot (get_or checks slot None) (other slot) (undropped slot) now due (are slot)

-- a check of length 0 runs at no moment
pub idle_at_once : (calls : List Call) (slot : ℕ) (chan : ChanDef) → IsFreeSlot (Begin slot chan 0 ∷ calls) slot
idle_at_once calls slot chan = λ busy.
    let begun = runs_begun calls slot chan busy.chan 0 busy.start busy.end busy.runs in
    let starts = begun.1 in
    let ends = begun.2 in
    let below = busy.runs.runs in
    absurd (omega arith)

pub idle_dropped : (calls : List Call) (slot : ℕ) → IsFreeSlot (DropCheck slot ∷ calls) slot
idle_dropped calls slot = λ busy. runs_dropped calls slot busy.chan busy.start busy.end busy.runs
