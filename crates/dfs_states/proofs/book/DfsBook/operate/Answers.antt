use Rattle.std.proofs.Common.{set, arith, refl, sym, ap, ◌∙◌}
use Rattle.std.specs.Option.{option_copied}
use Rattle.dfs_states.proofs.Each.{follows_written}
use Rattle.dfs_states.proofs.Whole.{stands_operate}
use Rattle.dfs_states.proofs.book.DfsBook.operate.Goals as goal

pub returns : goal.returns
returns c = record {
  stands_for = λ channels opening calls stands due.
      let stood = rw (← c.self.view_is) at stands in
      let slot = c.place-slot.ensures.number in
      stands_operate _ _ channels opening calls c.args.iface (option_copied c.args.chan) stood due (omega arith) refl refl
      (follows_written _ _ _ _ (sym c.self.inside.places.ok.0) (rw c.as_mut_slice-places.ensures.value at (c.settle_each.ensures c.args.iface (option_copied c.args.chan) (rw (slot, c.copied-begun.ensures) at c.reach_of-reach.ensures)))) refl
      (ap (λ i. set c.self.inside.operations i c.copied-begun.result) slot ∙ ap (λ o. set c.self.inside.operations c.args.iface o) c.copied-begun.ensures);
}
