-- Uses of a subchannel, and lapses of its checks, are those of the radio's book.
use Rattle.std.proofs.Common.{◌≡◌, ℕ, ◌+◌, ◌==◌, ◌≤◌, Bool, true, false, List, [], ◌∷◌, filter, Contains, Option, Some, None, IsSomeAnd, refl, sym, ap, subst, ◌∙◌, inl, inr, eq-eqb, eqb-true, option_map}
use Rattle.std.specs.Option.{option_map_or}
use Rattle.std.proofs.lemmas.Bool.{cases_Bool}
use Rattle.std.proofs.lemmas.Option.{none-some, same_Some}
use Rattle.freq_range.proofs.Members.{Contains-cases, Contains-head, Contains-later, Contains-nothing}
use Rattle.rule_tables.specs.declared.domain.Domain.{Domain}
use Rattle.chan_def.specs.Covered.{IsCovered}
use Rattle.chan_def.specs.Kinds.{initiates}
use Rattle.chan_def.specs.declared.definition.ChanDef.{ChanDef}
use Rattle.dfs_states.specs.Calls.{slot_operation as operation_in, moment_of as now_of_calls}
use Rattle.dfs_states.specs.Greatest.{IsGreatest}
use Rattle.dfs_states.specs.Meaning.{HasOperation, OperatedAt, IsEndOrUse, CheckLapsed}
use Rattle.dfs_states.proofs.Most.{most_same}
use Rattle.reg_journal.specs.Due.{EachMayFollow}
use Rattle.reg_journal.specs.Facts.{Journal}
use Rattle.reg_journal.specs.Present.{Iface, Operation, ifaces_of, indexed, operation_of}
use Rattle.reg_journal.specs.Radar.{IsUsed, WasUsedAt, IsUse, HasLapsed}
use Rattle.reg_books.specs.Calls.{calls_of, sends_first}
use Rattle.reg_books.specs.Slots.{slot_of}
use Rattle.reg_journal.proofs.Homes.{home_found, home_of}
use Rattle.reg_journal.proofs.Radios.{home_listed}
use Rattle.reg_journal.proofs.Later.{due_older}
use Rattle.reg_journal.proofs.Listed.{Contains-filter, Contains-find, index_of_indexed, indexed_listed}
use Rattle.reg_books.proofs.Over.{calls_over, calls-append, oldest_calls}
use Rattle.reg_books.proofs.Running.{calls-now}
use Rattle.reg_books.proofs.Uses.{operations_told, told_by, told_operation}
use Rattle.reg_journal.proofs.Lasting.{Contains-kept}

-- ---- uses

covered_told : (sends : Bool) (o : Option Operation) (s : ℕ) → sends ≡ true → IsSomeAnd o (λ p. IsCovered p.chan s) → IsSomeAnd (told_by sends o) (λ c. IsCovered c s)
covered_told sends None s is covered = absurd covered
covered_told sends (Some o) s is covered = rw is covered

covered_back : (sends : Bool) (o : Option Operation) (s : ℕ) → IsSomeAnd (told_by sends o) (λ c. IsCovered c s) → (sends ≡ true) × IsSomeAnd o (λ p. IsCovered p.chan s)
covered_back false o s covered = absurd covered
covered_back true None s covered = absurd covered
covered_back true (Some o) s covered = (refl, covered)

-- an interface that sends first uses the subchannel, both ways
pub used_to_book : (db : List Domain) (J : Journal) (r s : ℕ) → EachMayFollow db J → IsUsed J r s → HasOperation (calls_of db J r) s
used_to_book db J r s due used =
    let x = used.iface in
    let on = Contains-filter (λ y. y.radio == r) (ifaces_of J) x used.there in
    let home : home_of J x.index ≡ Some r = home_listed db J x due on.1 ∙ ap (λ n. Some n) (eqb-true x.radio r on.0) in
    let sends : sends_first J x.index ≡ true = ap (λ o. option_map_or (λ y. initiates y.kind) o false) (indexed_listed db J x due on.1) ∙ used.sends_first in
    let told = (operations_told db J r due).0 x.index home in
    record {
      slot = slot_of J x.index;
      covers = subst (λ o. IsSomeAnd o (λ c. IsCovered c s)) (sym told) (covered_told (sends_first J x.index) (operation_of J x.index) s sends used.operates);
    }

pub used_from_book : (db : List Domain) (J : Journal) (r s : ℕ) → EachMayFollow db J → HasOperation (calls_of db J r) s → IsUsed J r s
used_from_book db J r s due has = by (operation_in (calls_of db J r) has.slot) refl has.covers
  where
    of : (i : ℕ) (x : Iface) → home_of J i ≡ Some r → indexed J i ≡ Some x → IsSomeAnd (told_operation J i) (λ c. IsCovered c s) → IsUsed J r s
    of i x home found covered =
        let back = covered_back (sends_first J i) (operation_of J i) s covered in
        let radio : x.radio ≡ r = same_Some x.radio r (sym (home_found (ifaces_of J) i ∙ ap (λ o. option_map (λ (y : Iface). y.radio) o) found) ∙ home) in
        record {
          iface = x;
          there = Contains-kept (λ y. y.radio == r) (ifaces_of J) x (Contains-find (λ y. y.index == i) (ifaces_of J) x found) (eq-eqb x.radio r radio);
          sends_first = ap (λ o. option_map_or (λ y. initiates y.kind) o false) (sym found) ∙ back.0;
          operates = subst (λ n. IsSomeAnd (operation_of J n) (λ o. IsCovered o.chan s)) (sym (index_of_indexed J i x found)) back.1;
        }

    there : (i : ℕ) → home_of J i ≡ Some r → IsSomeAnd (told_operation J i) (λ c. IsCovered c s) → (o : Option Iface) → indexed J i ≡ o → IsUsed J r s
    there i home covered None none = absurd (none-some r (sym (home_found (ifaces_of J) i ∙ ap (λ o. option_map (λ (y : Iface). y.radio) o) none) ∙ home))
    there i home covered (Some x) found = of i x home found covered

    by : (o : Option ChanDef) → operation_in (calls_of db J r) has.slot ≡ o → IsSomeAnd o (λ c. IsCovered c s) → IsUsed J r s
    by None at covered = absurd covered
    by (Some chan) at covered =
        let are = operations_told db J r due in
        let of_slot = are.1 has.slot chan at in
        let told : told_operation J of_slot.0 ≡ Some chan = sym (are.0 of_slot.0 of_slot.1) ∙ ap (operation_in (calls_of db J r)) of_slot.2 ∙ at in
        there of_slot.0 of_slot.1 (subst (λ o. IsSomeAnd o (λ c. IsCovered c s)) (sym told) covered) (indexed J of_slot.0) refl

-- the moments of use
was_used_to_book : (db : List Domain) (J : Journal) (r s moment : ℕ) → EachMayFollow db J → WasUsedAt J r s moment → OperatedAt (calls_of db J r) s moment
was_used_to_book db J r s moment due was = record {
  newer = calls_over db was.newer was.older r;
  older = calls_of db was.older r;
  at = ap (λ xs. calls_of db xs r) was.split ∙ calls-append db was.newer was.older r;
  used = used_to_book db was.older r s (due_older db was.newer was.older (subst (EachMayFollow db) was.split due)) was.used;
  when = was.at ∙ sym (calls-now db was.older r);
}

was_used_from_book : (db : List Domain) (J : Journal) (r s moment : ℕ) → EachMayFollow db J → OperatedAt (calls_of db J r) s moment → WasUsedAt J r s moment
was_used_from_book db J r s moment due was =
    let are = oldest_calls db J r was.newer was.older was.at in
    record {
      newer = are.newer;
      older = are.older;
      split = are.at;
      used = used_from_book db are.older r s (due_older db are.newer are.older (subst (EachMayFollow db) are.at due)) (subst (λ xs. HasOperation xs s) (sym are.are) was.used);
      at = was.when ∙ ap now_of_calls (sym are.are) ∙ calls-now db are.older r;
    }

use_to_book : (db : List Domain) (J : Journal) (r s end moment : ℕ) → EachMayFollow db J → IsUse J r s end moment → IsEndOrUse (calls_of db J r) s end moment
use_to_book db J r s end moment due (inl same) = inl same
use_to_book db J r s end moment due (inr was) = inr (was_used_to_book db J r s moment due was)

use_from_book : (db : List Domain) (J : Journal) (r s end moment : ℕ) → EachMayFollow db J → IsEndOrUse (calls_of db J r) s end moment → IsUse J r s end moment
use_from_book db J r s end moment due (inl same) = inl same
use_from_book db J r s end moment due (inr was) = inr (was_used_from_book db J r s moment due was)

-- ---- lapses

-- both ways
pub lapsed_to_book : (db : List Domain) (J : Journal) (r s end : ℕ) → EachMayFollow db J → HasLapsed J r s end → CheckLapsed (calls_of db J r) s end
lapsed_to_book db J r s end due lapsed =
    let due' = due_older db lapsed.newer lapsed.older (subst (EachMayFollow db) lapsed.split due) in
    record {
      newer = calls_over db lapsed.newer lapsed.older r;
      older = calls_of db lapsed.older r;
      at = ap (λ xs. calls_of db xs r) lapsed.split ∙ calls-append db lapsed.newer lapsed.older r;
      last = lapsed.last;
      is_last = most_same (IsUse lapsed.older r s end) (IsEndOrUse (calls_of db lapsed.older r) s end) (Some lapsed.last)
          (λ m. use_to_book db lapsed.older r s end m due') (λ m. use_from_book db lapsed.older r s end m due') lapsed.is_last;
      long_ago = subst (λ n. lapsed.last + 2000 ≤ n) (sym (calls-now db lapsed.older r)) lapsed.long_ago;
    }

pub lapsed_from_book : (db : List Domain) (J : Journal) (r s end : ℕ) → EachMayFollow db J → CheckLapsed (calls_of db J r) s end → HasLapsed J r s end
lapsed_from_book db J r s end due lapsed =
    let are = oldest_calls db J r lapsed.newer lapsed.older lapsed.at in
    let due' = due_older db are.newer are.older (subst (EachMayFollow db) are.at due) in
    let last : IsGreatest (IsEndOrUse (calls_of db are.older r) s end) lapsed.last = subst (λ xs. IsGreatest (IsEndOrUse xs s end) lapsed.last) (sym are.are) lapsed.is_last in
    record {
      newer = are.newer;
      older = are.older;
      split = are.at;
      last = lapsed.last;
      is_last = most_same (IsEndOrUse (calls_of db are.older r) s end) (IsUse are.older r s end) (Some lapsed.last)
          (λ m. use_from_book db are.older r s end m due') (λ m. use_to_book db are.older r s end m due') last;
      long_ago = subst (λ n. lapsed.last + 2000 ≤ n) (ap now_of_calls (sym are.are) ∙ calls-now db are.older r) lapsed.long_ago;
    }
