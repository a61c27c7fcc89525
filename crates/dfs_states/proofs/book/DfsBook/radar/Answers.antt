use Rattle.std.proofs.Common.{refl, sym}
use Rattle.dfs_states.proofs.Each.{follows_written}
use Rattle.dfs_states.proofs.Whole.{stands_radar}
use Rattle.dfs_states.proofs.book.DfsBook.radar.Goals as goal

pub returns : goal.returns
returns c = record {
  stands_for = λ channels opening calls stands due.
      let stood = rw (← c.self.view_is) at stands in
      stands_radar _ _ channels opening calls c.args.c.now stood due refl (record { lasts = refl; operations = refl }) (follows_written _ _ _ _ (sym c.self.inside.places.ok.0) (rw c.as_mut_slice.ensures.value at c.meet_radar.ensures)) refl;
}
