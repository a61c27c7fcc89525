-- What the interfaces do may go on as it is.
use Rattle.std.specs.Prelude.{List, Contains, IfSome, MatchOption}
use Rattle.rule_tables.specs.declared.domain.Domain.{Domain}
use Rattle.reg_journal.specs.Facts.{Journal}
use Rattle.reg_journal.specs.Granted.{FitsRules, IsCarried, IsPermitted}
use Rattle.reg_journal.specs.Permits.{OnEachBound}
use Rattle.reg_journal.specs.Present.{Iface, Check, check_of, ifaces_of, operation_of}
use Rattle.reg_journal.specs.Radar.{IsQuiet}
use Rattle.reg_journal.specs.Sweep.{RegionChangedInCheck}

-- The running check (CAC) of the interface may go on: the radio carries the channel, which fits the rules whatever the power; for an
-- interface that sends first, no nonoccupancy (NOP) runs on a subchannel that has to be checked; and the radio's region hasn't changed
-- since the check began.
pub record IsCheckPermitted (db : List Domain) (J : Journal) (x : Iface) (k : Check) : Type 0 where
  pub carried : IsCarried db J x k.chan
  pub fits : FitsRules db J x k.chan 0
  pub quiet : OnEachBound db J x k.chan (IsQuiet J x.radio)
  pub same_region : RegionChangedInCheck db J x → ⊥

-- what the interface does may go on: its operation with its power, or else its running check
abbrev pub IsSettled : List Domain → Journal → Iface → Type 0
IsSettled db J x = MatchOption (operation_of J x.index)
    (IfSome (check_of J x.index) (IsCheckPermitted db J x))
    (λ o. IsPermitted db J x o.chan o.power)

-- what each interface does may go on
abbrev pub AreSettled : List Domain → Journal → Type 0
AreSettled db J = (x : Iface) → Contains (ifaces_of J) x → IsSettled db J x
