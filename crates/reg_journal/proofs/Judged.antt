-- What an interface does may go on after a fact that leaves its radio.
use Rattle.std.proofs.Common.{◌≡◌, List, ◌∷◌, Contains, Option, Some, None, refl, ◌∙◌}
use Rattle.rule_tables.specs.declared.domain.Domain.{Domain}
use Rattle.reg_journal.specs.Due.{EachMayFollow}
use Rattle.reg_journal.specs.Facts.{Fact, Journal}
use Rattle.reg_journal.specs.Granted.{IsPermitted}
use Rattle.reg_journal.specs.Present.{Check, Iface, Operation, check_of, ifaces_of, operation_of}
use Rattle.reg_journal.specs.Settled.{IsCheckPermitted, IsSettled}
use Rattle.reg_journal.proofs.Lasting.{LeavesRadio, check_permitted_stays, permitted_stays}
use Rattle.reg_journal.proofs.Operations.{BeginsCheck, check_ran}

-- one that does nothing
pub idle_settled : (db : List Domain) (J : Journal) (x : Iface) → operation_of J x.index ≡ None → check_of J x.index ≡ None → IsSettled db J x
idle_settled db J x no_operation no_check = rw (no_operation, no_check) tt

-- the operation that is settled is permitted
pub operation_settled : (db : List Domain) (J : Journal) (x : Iface) (o : Operation) → operation_of J x.index ≡ Some o → IsPermitted db J x o.chan o.power → IsSettled db J x
operation_settled db J x o is may = rw is may

pub settled_operation : (db : List Domain) (J : Journal) (x : Iface) (o : Operation) → operation_of J x.index ≡ Some o → IsSettled db J x → IsPermitted db J x o.chan o.power
settled_operation db J x o is settled = rw is at settled

-- so is a running check
pub check_settled : (db : List Domain) (J : Journal) (x : Iface) (k : Check) → operation_of J x.index ≡ None → check_of J x.index ≡ Some k → IsCheckPermitted db J x k
    → IsSettled db J x
check_settled db J x k none is may = rw (none, is) may

pub settled_check : (db : List Domain) (J : Journal) (x : Iface) (k : Check) → operation_of J x.index ≡ None → check_of J x.index ≡ Some k → IsSettled db J x
    → IsCheckPermitted db J x k
settled_check db J x k none is settled = rw is at (rw none at settled)

-- one that neither starts, stops nor begins a check, on a radio that the fact leaves
pub settled_stays : (db : List Domain) (f : Fact) (J : Journal) (x : Iface) → EachMayFollow db (f ∷ J) → LeavesRadio db f J x.radio → Contains (ifaces_of (f ∷ J)) x
    → operation_of (f ∷ J) x.index ≡ operation_of J x.index → (BeginsCheck f x.index → ⊥) → IsSettled db J x → IsSettled db (f ∷ J) x
settled_stays db f J x due leaves there same other settled = by (operation_of J x.index) refl
  where
    checked : operation_of J x.index ≡ None → (o : Option Check) → check_of (f ∷ J) x.index ≡ o → IsSettled db (f ∷ J) x
    checked none None is = idle_settled db (f ∷ J) x (same ∙ none) is
    checked none (Some k) is =
        check_settled db (f ∷ J) x k (same ∙ none) is
        (check_permitted_stays db f J x k due leaves (settled_check db J x k none (check_ran db f J x.index k due other is) settled))

    by : (o : Option Operation) → operation_of J x.index ≡ o → IsSettled db (f ∷ J) x
    by None is = checked is (check_of (f ∷ J) x.index) refl
    by (Some o) is =
        operation_settled db (f ∷ J) x o (same ∙ is)
        (permitted_stays db f J x o.chan o.power due leaves (record { there = there; power = o.power; on_channel = same ∙ is }) (settled_operation db J x o is settled))
