use Rattle.std.proofs.Common.{ap}
use Rattle.reg_journal.specs.Facts.{stopped}
use Rattle.reg_core.proofs.core_state.Core.commit.Goals as goal

pub returns-in-Stopped : goal.returns-in-Stopped
returns-in-Stopped c = record {
  kept = λ db J x s may is.
      let may' = rw c.in-Stopped.is at may in
      let is' = rw c.in-Stopped.is at is in
      rw c.in-Stopped.is (c.operate.ensures.kept db J x (stopped c.in-Stopped.interface.index) s is' (ap stopped is'.index) (may', s.due));
}

pub returns-in-Powered : goal.returns-in-Powered
returns-in-Powered c = record {
  kept = λ db J x s may is.
      let may' = rw c.in-Powered.is at may in
      let is' = rw c.in-Powered.is at is in
      rw c.in-Powered.is (c.repower.ensures.kept db J x s is' (may', s.due));
}

pub returns-in-Dropped : goal.returns-in-Dropped
returns-in-Dropped c = record {
  kept = λ db J x s may is.
      let may' = rw c.in-Dropped.is at may in
      let is' = rw c.in-Dropped.is at is in
      rw c.in-Dropped.is (c.drop_check.ensures.kept db J x s is' (may', s.due));
}

pub returns-in-Ended : goal.returns-in-Ended
returns-in-Ended c = record {
  kept = λ db J x s may is.
      let may' = rw c.in-Ended.is at may in
      let is' = rw c.in-Ended.is at is in
      rw c.in-Ended.is (c.end_iface.ensures.kept db J x s is' (may', s.due));
}
