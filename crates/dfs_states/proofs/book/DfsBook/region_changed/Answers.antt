use Rattle.std.proofs.Common.{refl, sym}
use Rattle.dfs_states.proofs.Each.{follows_written}
use Rattle.dfs_states.proofs.Whole.{stands_region}
use Rattle.dfs_states.proofs.book.DfsBook.region_changed.Goals as goal

pub returns : goal.returns
returns c = record {
  stands_for = λ channels opening calls stands.
      let stood = rw (← c.self.view_is) at stands in
      stands_region _ _ channels opening calls c.args.lasts stood refl refl refl (follows_written _ _ _ _ (sym c.self.inside.places.ok.0) (rw c.as_mut_slice.ensures.value at c.change_region.ensures)) refl;
}
