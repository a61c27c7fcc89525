-- The running check of an interface is that of its slot.
use Rattle.std.proofs.Common.{◌≡◌, ℕ, ◌+◌, ◌==◌, ◌&&◌, List, [], ◌∷◌, ◌++◌, Some, None, arith, refl, sym, ap, subst, ◌∙◌, eq-eqb}
use Rattle.std.proofs.lemmas.Option.{none-some}
use Rattle.rule_tables.specs.declared.domain.Domain.{Domain}
use Rattle.chan_def.specs.declared.definition.ChanDef.{ChanDef}
use Rattle.dfs_states.specs.Calls.{Call, Radar, Begin, DropCheck, Operate, moment_of as now_of_calls, HasCall, HasBegin}
use Rattle.dfs_states.specs.Meaning.{Runs, IsFreeSlot}
use Rattle.reg_journal.specs.Facts.{Journal, moment_is, radio_added, radio_removed, hinted, radar_met, started, stopped, check_begun, check_dropped}
use Rattle.reg_journal.specs.OnAir.{is_on}
use Rattle.reg_journal.specs.Present.{Check, now_of, radio_of, check_of, last_check_of}
use Rattle.reg_journal.specs.Due.{EachMayFollow}
use Rattle.reg_journal.specs.Radar.{HasCheck}
use Rattle.reg_books.specs.Calls.{calls_of, sends_first}
use Rattle.reg_books.specs.Slots.{slot_of}
use Rattle.reg_books.proofs.Apart.{slots_apart}
use Rattle.reg_books.proofs.Begins.{home_back, radio_begun, begin_of_check, began_again}
use Rattle.reg_books.proofs.CallOf.{comes_from, call-begin}
use Rattle.reg_books.proofs.Drops.{drop_of_drop, dropped_again}
use Rattle.reg_journal.proofs.Homes.{home_of}
use Rattle.reg_journal.proofs.LastCheck.{check_parts, check_runs, last_check, last_same, check_home}
use Rattle.reg_journal.proofs.Later.{radio_later}
use Rattle.reg_books.proofs.Later.{slot_later}
use Rattle.reg_books.proofs.Over.{where_pushed, region_pushed, calls_over, calls_at, from_calls}
use Rattle.reg_journal.proofs.Splits.{HasDrop}

-- the book was told the present moment
abbrev IsNow : Journal → List Call → Type 0
IsNow J calls = now_of_calls calls ≡ now_of J

-- a book is told each moment
pub calls-now : (db : List Domain) (J : Journal) (r : ℕ) → now_of_calls (calls_of db J r) ≡ now_of J
calls-now db [] r = refl
calls-now db (moment_is moment ∷ J) r = refl
calls-now db (radar_met q chan ∷ J) r = where_pushed (IsNow J) (r == q) (Radar chan) (calls_of db J r) (λ is. calls-now db J r) (calls-now db J r)
calls-now db (check_begun i chan length ∷ J) r =
    where_pushed (IsNow J) (is_on J i r) (Begin (slot_of J i) chan length) (calls_of db J r) (λ is. calls-now db J r) (calls-now db J r)
calls-now db (check_dropped i ∷ J) r =
    where_pushed (IsNow J) (is_on J i r) (DropCheck (slot_of J i)) (calls_of db J r) (λ is. calls-now db J r) (calls-now db J r)
calls-now db (started i chan power ∷ J) r =
    where_pushed (IsNow J) (is_on J i r && sends_first J i) (Operate (slot_of J i) (Some chan)) (calls_of db J r) (λ is. calls-now db J r) (calls-now db J r)
calls-now db (stopped i ∷ J) r =
    where_pushed (IsNow J) (is_on J i r && sends_first J i) (Operate (slot_of J i) None) (calls_of db J r) (λ is. calls-now db J r) (calls-now db J r)
calls-now db (hinted hint ∷ J) r = region_pushed (IsNow J) db (hinted hint) J r (calls_of db J r) (calls-now db J r) (calls-now db J r)
calls-now db (radio_added q profile ∷ J) r =
    region_pushed (IsNow J) db (radio_added q profile) J r (calls_of db J r) (calls-now db J r) (calls-now db J r)
calls-now db (radio_removed q ∷ J) r = region_pushed (IsNow J) db (radio_removed q) J r (calls_of db J r) (calls-now db J r) (calls-now db J r)
calls-now db (f ∷ J) r = calls-now db J r

-- the running check of an interface runs in its slot
pub runs_of_check : (db : List Domain) (J : Journal) (i r : ℕ) (k : Check) → EachMayFollow db J → radio_of J i ≡ Some r → check_of J i ≡ Some k
    → Runs (calls_of db J r) (slot_of J i) k.chan k.begin (k.begin + k.length)
runs_of_check db J i r k due radio check =
    let parts = check_parts J i k check in
    let was = last_check J i k parts.0 in
    let base : Journal = check_begun i k.chan k.length ∷ was.older in
    let due' : EachMayFollow db (was.newer ++ base) = subst (EachMayFollow db) was.begun due in
    let on_radio : radio_of (was.newer ++ base) i ≡ Some r = subst (λ xs. radio_of xs i ≡ Some r) was.begun radio in
    let radio' = radio_begun db was.newer was.older i r k.chan k.length due' on_radio in
    let check' : check_of (was.newer ++ base) i ≡ Some k = subst (λ xs. check_of xs i ≡ Some k) was.begun check in
    let slots : slot_of was.older i ≡ slot_of J i = sym (ap (λ xs. slot_of xs i) was.begun ∙ slot_later db was.newer base i r due' radio') in
    let before = parts.1 in
    let now = calls-now db J r in
    subst (λ n. Runs (calls_of db J r) n k.chan k.begin (k.begin + k.length)) slots (record {
      newer = calls_over db was.newer base r;
      length = k.length;
      older = calls_of db was.older r;
      begun = calls_at db J was.newer was.older (check_begun i k.chan k.length) r (Begin (slot_of was.older i) k.chan k.length) was.begun
          (call-begin db was.older r i k.chan k.length radio');
      last = λ has. was.last (began_again db was.newer base i r k due' radio' check' has);
      kept = λ has. was.kept (dropped_again db was.newer base i r k due' radio' check' was.last has);
      starts = was.begins ∙ sym (calls-now db was.older r);
      ends = refl;
      runs = omega arith;
    })

-- a check that runs in a slot is that of an interface which is there on the radio, and has the slot
pub check_of_runs : (db : List Domain) (J : Journal) (r slot : ℕ) (chan : ChanDef) (start end : ℕ) → EachMayFollow db J → Runs (calls_of db J r) slot chan start end
    → (i : ℕ) × (k : Check) × (home_of J i ≡ Some r) × (slot_of J i ≡ slot) × (check_of J i ≡ Some k)
check_of_runs db J r slot chan start end due runs =
    let of = from_calls db J r runs.newer (Begin slot chan runs.length) runs.older runs.begun in
    let from = comes_from db of.fact of.older r (Begin slot chan runs.length) of.is in
    let i : ℕ = from.0 in
    let base : Journal = check_begun i chan runs.length ∷ of.older in
    let begun : J ≡ of.newer ++ base = of.at ∙ ap (λ f. of.newer ++ f ∷ of.older) from.1 in
    let after : runs.newer ≡ calls_over db of.newer base r = of.after ∙ ap (λ f. calls_over db of.newer (f ∷ of.older) r) from.1 in
    let due' : EachMayFollow db (of.newer ++ base) = subst (EachMayFollow db) begun due in
    let radio : radio_of base i ≡ Some r = from.2 in
    let radio' : radio_of (of.newer ++ base) i ≡ Some r = radio_later db of.newer base i r due' radio in
    let slots : slot_of (of.newer ++ base) i ≡ slot = slot_later db of.newer base i r due' radio ∙ from.3 in
    let last : HasCheck of.newer i → ⊥ =
    λ has. runs.last (subst (λ xs. HasBegin xs slot) (sym after)
    (subst (λ n. HasBegin (calls_over db of.newer base r) n) slots (begin_of_check db of.newer base i r due' radio' has))) in
    let kept : HasDrop of.newer i → ⊥ =
    λ has. runs.kept (subst (λ xs. HasCall xs (DropCheck slot)) (sym after)
    (subst (λ n. HasCall (calls_over db of.newer base r) (DropCheck n)) from.3 (drop_of_drop db of.newer base i r due' radio has))) in
    let k : Check = record { chan = chan; begin = now_of of.older; length = runs.length } in
    let newest : last_check_of base i ≡ Some k = rw (eq-eqb i i refl) in
    let before = runs.runs in
    let starts = runs.starts in
    let ends = runs.ends in
    let earlier : now_of_calls runs.older ≡ now_of of.older = ap now_of_calls of.earlier ∙ calls-now db of.older r in
    let now : now_of_calls (calls_of db J r) ≡ now_of (of.newer ++ base) = calls-now db J r ∙ ap now_of begun in
    let check : check_of (of.newer ++ base) i ≡ Some k = check_runs (of.newer ++ base) i k (last_same of.newer base i last kept ∙ newest) (omega arith) in
    let home = check_home db (of.newer ++ base) i k due' check in
    let home' = home_back db [] (of.newer ++ base) i home.0 r due' home.1 radio' in (
      i,
      k,
      subst (λ xs. home_of xs i ≡ Some r) (sym begun) home',
      subst (λ xs. slot_of xs i ≡ slot) (sym begun) slots,
      subst (λ xs. check_of xs i ≡ Some k) (sym begun) check,
    )

-- where no check of an interface runs that is there, none runs in its slot
pub idle_of_none : (db : List Domain) (J : Journal) (i r : ℕ) → EachMayFollow db J → home_of J i ≡ Some r → check_of J i ≡ None
    → IsFreeSlot (calls_of db J r) (slot_of J i)
idle_of_none db J i r due home none busy =
    let of = check_of_runs db J r (slot_of J i) busy.chan busy.start busy.end due busy.runs in
    let same : of.0 ≡ i = slots_apart db J of.0 i r due of.2 home of.3 in
    none-some of.1 (sym none ∙ subst (λ n. check_of J n ≡ Some of.1) same of.4)
