-- What may go on is not swept away.
use Rattle.std.proofs.Common.{◌≡◌, List, [], ◌∷◌, Contains, Option, Some, None, IfSome, MatchOption, refl, inl, inr}
use Rattle.freq_range.proofs.Members.{Contains-head, Contains-later}
use Rattle.rule_tables.specs.declared.domain.Domain.{Domain}
use Rattle.reg_journal.specs.Causes.{IsFree}
use Rattle.reg_journal.specs.Facts.{Fact, Journal}
use Rattle.reg_journal.specs.Granted.{IsPermitted}
use Rattle.reg_journal.specs.Permits.{EndsCheck}
use Rattle.reg_journal.specs.Present.{Iface, Operation, Check, check_of, operation_of}
use Rattle.reg_journal.specs.Settled.{IsCheckPermitted, IsSettled}
use Rattle.reg_journal.specs.Sweep.{AreSwept, Becomes, CheckBecomes, MustDrop, OperationBecomes}
use Rattle.reg_journal.proofs.Fitting.{none_bars_of_fits}
use Rattle.reg_journal.proofs.Granting.{free-before, free-rules_forbid, free_of_permitted, free_of_radar, free_of_radio, power_of_permitted}

-- nothing ends a running check that may go on
pub free_of_check : (db : List Domain) (J : Journal) (x : Iface) (k : Check) → IsCheckPermitted db J x k → IsFree (EndsCheck db J x k.chan)
free_of_check db J x k may =
    free-before _ _ (free_of_radio db J x k.chan may.carried)
    (free-before _ _ (free-rules_forbid db J x k.chan (none_bars_of_fits db J x k.chan 0 may.carried may.fits).1)
    (free_of_radar db J x k.chan may.carried.radar_width may.quiet))

-- so it needn't go
pub not_dropped : (db : List Domain) (J : Journal) (x : Iface) (k : Check) → IsCheckPermitted db J x k → MustDrop db J x k → ⊥
not_dropped db J x k may (inl (e, cause)) = free_of_check db J x k may e cause
not_dropped db J x k may (inr changed) = may.same_region changed

-- what may go on goes on as it is
pub settled_goes_on : (db : List Domain) (J : Journal) (x : Iface) → IsSettled db J x → Becomes db J x None
settled_goes_on db J x settled = by (operation_of J x.index) (check_of J x.index) None refl settled
  where
    by : (o : Option Operation) (k : Option Check) (fact : Option Fact) → fact ≡ None
        → MatchOption o (IfSome k (IsCheckPermitted db J x)) (λ o. IsPermitted db J x o.chan o.power)
        → MatchOption o (MatchOption k (fact ≡ None) (λ k. CheckBecomes db J x k fact)) (λ o. OperationBecomes db J x o fact)
    by None None fact none may = none
    by None (Some k) None none may = not_dropped db J x k may
    by None (Some k) (Some f) none may = cc
    by (Some o) k None none may = (free_of_permitted db J x o.chan o.power may, power_of_permitted db J x o.chan o.power may)
    by (Some o) k (Some f) none may = cc

-- a sweep of such interfaces does nothing
pub nothing_swept : (db : List Domain) (J : Journal) (xs : List Iface) → ((x : Iface) → Contains xs x → IsSettled db J x) → AreSwept db J xs []
nothing_swept db J [] settled = refl
nothing_swept db J (x ∷ xs) settled = (
  None,
  [],
  settled_goes_on db J x (settled x (Contains-head x xs)),
  nothing_swept db J xs (λ y has. settled y (Contains-later x xs y has)),
  refl,
)
