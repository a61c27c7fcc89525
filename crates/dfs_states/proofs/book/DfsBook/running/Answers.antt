use Rattle.std.proofs.Common.{◌≡◌, get_or, subst}
use Rattle.dfs_states.proofs.Asked.{no_check, idle_means}
use Rattle.dfs_states.proofs.book.DfsBook.running.Goals as goal

pub returns-in_err-check : goal.returns-in_err-check
returns-in_err-check c = record {
  answer = λ channels opening calls stands.
      let stood = rw (← c.self.view_is) at stands in
      let empty : get_or c.self.inside.checks c.args.iface no_check ≡ no_check =
      subst (λ i. get_or c.self.inside.checks i no_check ≡ no_check) c.place.ensures.number c.in_err-check.was in
      rw c.from_residual.ensures (idle_means calls c.args.iface (get_or c.self.inside.checks c.args.iface no_check) empty (stood.checks c.args.iface));
}
