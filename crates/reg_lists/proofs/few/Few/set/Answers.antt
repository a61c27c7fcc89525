use Rattle.std.proofs.Common.{set, ap, ◌∙◌}
use Rattle.reg_lists.proofs.Places.{take-set}
use Rattle.reg_lists.proofs.few.Few.set.Goals as goal

pub returns : goal.returns
returns g c = record {
  set = take-set c.self.inside.count c.self.inside.items c.args.k c.args.item ∙ ap (λ xs. set xs c.args.k c.args.item) c.self.view_is;
}
