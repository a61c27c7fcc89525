use Rattle.reg_core.proofs.Taking.{telling_ends, telling_goes_on, way_begins, way_ends, way_goes_on}
use Rattle.reg_core.proofs.core_state.Core.take_all.Goals as goal

pub loop-change-init : goal.loop-change-init
loop-change-init g c = record {
  eight = c.requires.eight;
  kept = λ db J keeps can. way_begins db J c.args.changes.now c.args.self.now keeps can;
  told = λ last told. told;
}

pub loop-change-preserved : goal.loop-change-preserved
loop-change-preserved g c = record {
  eight = c.tell.ensures.eight;
  kept = λ db J keeps can.
      way_goes_on db J c.args.changes.now c.loop-change.change-index c.change-item.result c.loop-change.self c.commit.new.self c.loop-change-test.true c.change-item.is
      (λ K x keeps may is. c.commit.ensures.kept db K x keeps may is) (c.loop-change.invariant.kept db J keeps can);
  told = λ last rest.
      telling_goes_on c.args.changes.now c.loop-change.change-index c.change-item.result _ _ _ last c.loop-change-test.true c.change-item.is c.tell.ensures.told c.loop-change.invariant.told rest;
}

pub returns : goal.returns
returns g c = record {
  kept = λ db J keeps can. way_ends db J c.args.changes.now c.loop-change.change-index c.loop-change.self c.loop-change-test.false (c.loop-change.invariant.kept db J keeps can);
  told = telling_ends c.args.changes.now c.loop-change.change-index _ _ c.loop-change-test.false c.loop-change.invariant.told;
  eight = c.loop-change.invariant.eight;
}
