use Rattle.std.proofs.Common.{refl, sym}
use Rattle.dfs_states.proofs.Each.{follows_written}
use Rattle.dfs_states.proofs.Whole.{stands_advance, stands_waiting}
use Rattle.dfs_states.proofs.book.DfsBook.advance.Goals as goal

pub returns : goal.returns
returns c = record {
  stands_for = λ channels opening calls stands due.
      let stood = rw (← c.self.view_is) at stands in
      stands_advance _ _ channels opening calls c.args.now stood due refl (record { lasts = refl; operations = refl }) (follows_written _ _ _ _ (sym c.self.inside.places.ok.0) (rw c.as_mut_slice.ensures.value at c.advance_each.ensures)) c.clear_done.ensures;
}

pub returns-then-not-some_is_done : goal.returns-then-not-some_is_done
returns-then-not-some_is_done c = record {
  stands_for = λ channels opening calls stands due.
      let stood = rw (← c.self.view_is) at stands in
      stands_waiting _ _ channels opening calls c.args.now stood due (λ some. let found = c.if-not-some_is_done.ensures.1 some in cc) refl (record { lasts = refl; operations = refl }) refl refl;
}
