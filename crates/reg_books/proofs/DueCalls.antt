-- A book is told nothing but what it may be told.
use Rattle.std.proofs.Common.{ℕ, ◌+◌, ◌==◌, ◌≤◌, ◌&&◌, List, [], ◌∷◌, Some, None, subst, sym}
use Rattle.rule_tables.specs.declared.domain.Domain.{Domain}
use Rattle.dfs_states.specs.Calls.{Radar, Begin, DropCheck, Operate}
use Rattle.dfs_states.specs.Meaning.{EachMayBeCalled as AreDueCalls}
use Rattle.reg_journal.specs.Facts.{Journal, moment_is, radio_added, radio_removed, hinted, radar_met, started, stopped, check_begun, check_dropped}
use Rattle.reg_journal.specs.OnAir.{is_on}
use Rattle.reg_journal.specs.Present.{check_of}
use Rattle.reg_journal.specs.Due.{EachMayFollow}
use Rattle.reg_books.specs.Calls.{calls_of, sends_first}
use Rattle.reg_books.specs.Slots.{slot_of}
use Rattle.reg_books.proofs.Begins.{home_begun}
use Rattle.reg_books.proofs.CallOf.{radio_on}
use Rattle.reg_journal.proofs.Operations.{some_value}
use Rattle.reg_books.proofs.Over.{where_pushed, region_pushed}
use Rattle.reg_books.proofs.Running.{calls-now, runs_of_check, idle_of_none}

-- each call came where it might
pub due_calls : (db : List Domain) (J : Journal) (r : ℕ) → EachMayFollow db J → AreDueCalls (calls_of db J r)
due_calls db [] r due = tt
due_calls db (moment_is moment ∷ J) r due = ((subst (λ n. n ≤ moment) (sym (calls-now db J r)) due.0.0, due.0.1), due_calls db J r due.1)
due_calls db (radar_met q chan ∷ J) r due =
    where_pushed AreDueCalls (r == q) (Radar chan) (calls_of db J r) (λ is. (due.0.1, due_calls db J r due.1)) (due_calls db J r due.1)
due_calls db (check_begun i chan length ∷ J) r due =
    where_pushed AreDueCalls (is_on J i r) (Begin (slot_of J i) chan length) (calls_of db J r)
    (λ is.
    let home = home_begun db J i r chan length due (radio_on J i r is) in
    ((due.0.2, idle_of_none db J i r due.1 home due.0.0.2), due_calls db J r due.1))
    (due_calls db J r due.1)
due_calls db (check_dropped i ∷ J) r due =
    where_pushed AreDueCalls (is_on J i r) (DropCheck (slot_of J i)) (calls_of db J r)
    (λ is.
    let check = some_value (check_of J i) due.0 in
    let k = check.0 in
    let runs = runs_of_check db J i r k due.1 (radio_on J i r is) check.1 in
    (record { chan = k.chan; start = k.begin; end = k.begin + k.length; runs = runs }, due_calls db J r due.1))
    (due_calls db J r due.1)
due_calls db (started i chan power ∷ J) r due =
    where_pushed AreDueCalls (is_on J i r && sends_first J i) (Operate (slot_of J i) (Some chan)) (calls_of db J r) (λ is. (due.0.1, due_calls db J r due.1))
    (due_calls db J r due.1)
due_calls db (stopped i ∷ J) r due =
    where_pushed AreDueCalls (is_on J i r && sends_first J i) (Operate (slot_of J i) None) (calls_of db J r) (λ is. (tt, due_calls db J r due.1)) (due_calls db J r due.1)
due_calls db (hinted hint ∷ J) r due = region_pushed AreDueCalls db (hinted hint) J r (calls_of db J r) (tt, due_calls db J r due.1) (due_calls db J r due.1)
due_calls db (radio_added q profile ∷ J) r due =
    region_pushed AreDueCalls db (radio_added q profile) J r (calls_of db J r) (tt, due_calls db J r due.1) (due_calls db J r due.1)
due_calls db (radio_removed q ∷ J) r due =
    region_pushed AreDueCalls db (radio_removed q) J r (calls_of db J r) (tt, due_calls db J r due.1) (due_calls db J r due.1)
due_calls db (f ∷ J) r due = due_calls db J r due.1
