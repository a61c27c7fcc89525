use Rattle.std.proofs.Common.{arith}
use Rattle.reg_core.proofs.SweepPlaces.{few_kept, few_more, judged_all, judged_more}
use Rattle.reg_core.proofs.core_state.Core.sweep.Goals as goal

pub add_change-requires : goal.add_change-requires
add_change-requires c =
    let core = c.requires.core in
    let few = few_kept core.db core.journal c.args.self.now core.keeps in
    let below = c.loop-k-test.true in
    let so = c.loop-k.invariant.few in
    let len = c.len-k-end.ensures.len in
    record { room = omega (arith, few, below, so, len) }

pub loop-k-preserved : goal.loop-k-preserved
loop-k-preserved c = record {
  few = few_more c.loop-k.changes c.add_change.new.changes c.change_at.result c.loop-k.k c.loop-k.invariant.few c.add_change.ensures;
  each = λ db J s moved.
      let below = c.loop-k-test.true in
      let len = c.len-k-end.ensures.len in
      judged_more db J c.args.self.now c.args.only.now c.loop-k.k c.loop-k.changes c.add_change.new.changes c.change_at.result s (omega (arith, below, len))
      (c.loop-k.invariant.each db J s moved) (λ x here. c.change_at.ensures db J x s moved here) c.add_change.ensures;
}

pub returns : goal.returns
returns c = record {
  judged = λ db J s moved.
      let end = c.loop-k-test.false in
      let len = c.len-k-end.ensures.len in
      judged_all db J c.args.self.now c.args.only.now c.loop-k.k c.loop-k.changes s (omega (arith, end, len)) (c.loop-k.invariant.each db J s moved);
}
