-- What the laws say of an interface that is there.
use Rattle.std.proofs.Common.{◌≡◌, ◌↔◌, ℕ, ◌+◌, ◌==◌, false, List, Contains, Option, Some, None, option_map, refl, sym, ap, ◌∙◌}
use Rattle.std.specs.Option.{option_map_or}
use Rattle.std.proofs.lemmas.Option.{none-some, same_Some}
use Rattle.rule_tables.specs.declared.domain.Domain.{Domain}
use Rattle.dfs_states.specs.Meaning.{Runs, IsFreeSlot}
use Rattle.reg_journal.specs.Facts.{Journal}
use Rattle.reg_journal.specs.OnAir.{is_on}
use Rattle.reg_journal.specs.Present.{Iface, Check, ifaces_of, indexed, radio_of, check_of}
use Rattle.reg_journal.specs.Due.{EachMayFollow}
use Rattle.reg_books.specs.Calls.{calls_of}
use Rattle.reg_books.specs.Slots.{slot_of}
use Rattle.reg_books.proofs.Apart.{slots_apart}
use Rattle.reg_journal.proofs.Homes.{home_of, home_found, radio_of_home}
use Rattle.reg_journal.proofs.LastCheck.{check_home}
use Rattle.reg_journal.proofs.Listed.{Contains-find, home_of_indexed, indexed_listed}
use Rattle.reg_books.proofs.Running.{runs_of_check, idle_of_none}
use Rattle.reg_journal.proofs.Radios.{home_listed, radio_listed}

-- and on no other
pub on_its_radio : (db : List Domain) (J : Journal) (x : Iface) (r : ℕ) → EachMayFollow db J → Contains (ifaces_of J) x → is_on J x.index r ≡ (x.radio == r)
on_its_radio db J x r due has = ap (λ o. option_map_or (λ q. q == r) o false) (radio_listed db J x due has)

-- what is there is found by its index
pub listed_is_indexed : (db : List Domain) (J : Journal) (x : Iface) → EachMayFollow db J → Contains (ifaces_of J) x ↔ (indexed J x.index ≡ Some x)
listed_is_indexed db J x due = (indexed_listed db J x due, Contains-find (λ y. y.index == x.index) (ifaces_of J) x)

-- one with a running check is there
pub checked_indexed : (db : List Domain) (J : Journal) (i : ℕ) (k : Check) → EachMayFollow db J → check_of J i ≡ Some k → (x : Iface) × (indexed J i ≡ Some x)
checked_indexed db J i k due check =
    let home = check_home db J i k due check in
    by home.0 (indexed J i) (sym (home_found (ifaces_of J) i) ∙ home.1)
  where
    by : (r : ℕ) (o : Option Iface) → option_map (λ (x : Iface). x.radio) o ≡ Some r → (x : Iface) × (o ≡ Some x)
    by r None some = absurd (none-some r some)
    by r (Some x) some = (x, refl)

-- two of one radio have different slots
pub one_a_slot : (db : List Domain) (J : Journal) (x y : Iface) → EachMayFollow db J → Contains (ifaces_of J) x → Contains (ifaces_of J) y → x.radio ≡ y.radio
    → slot_of J x.index ≡ slot_of J y.index → x ≡ y
one_a_slot db J x y due here there radios slots =
    let home : home_of J x.index ≡ Some y.radio = home_listed db J x due here ∙ ap (λ n. Some n) radios in
    let index = slots_apart db J x.index y.index y.radio due home (home_listed db J y due there) slots in
    same_Some x y (sym (indexed_listed db J x due here) ∙ ap (λ n. indexed J n) index ∙ indexed_listed db J y due there)

-- its running check runs in its slot
pub runs_in_slot : (db : List Domain) (J : Journal) (x : Iface) (k : Check) → EachMayFollow db J → Contains (ifaces_of J) x → check_of J x.index ≡ Some k
    → Runs (calls_of db J x.radio) (slot_of J x.index) k.chan k.begin (k.begin + k.length)
runs_in_slot db J x k due has check = runs_of_check db J x.index x.radio k due (radio_listed db J x due has) check

-- where it has none, none runs there
pub idle_in_slot : (db : List Domain) (J : Journal) (x : Iface) → EachMayFollow db J → Contains (ifaces_of J) x → check_of J x.index ≡ None
    → IsFreeSlot (calls_of db J x.radio) (slot_of J x.index)
idle_in_slot db J x due has none = idle_of_none db J x.index x.radio due (home_listed db J x due has) none
