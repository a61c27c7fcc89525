use Rattle.std.proofs.Common.{set, ap, ◌∙◌}
use Rattle.radio_drv.proofs.Lists.{started_first, started_end}
use Rattle.radio_drv.proofs.air_list.AirList.start.Goals as goal

pub returns-in-Some : goal.returns-in-Some
returns-in-Some c = record {
  started = c.set.ensures.set ∙ ap (λ xs. set xs c.in-Some.k c.args.entry) c.self.view_is
      ∙ started_first c.args.entry c.args.self.now c.in-Some.k (rw c.as_slice.ensures.items at c.in-Some.ensures);
}

pub returns-in-None : goal.returns-in-None
returns-in-None c = record {
  started = c.push.ensures.pushed ∙ started_end c.args.entry c.args.self.now (rw c.as_slice.ensures.items at c.in-None.ensures);
}
