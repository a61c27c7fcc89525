use Rattle.std.proofs.Common.{set, None, arith, refl, ap, ◌∙◌}
use Rattle.dfs_states.proofs.Whole.{stands_drop, idle_is_empty}
use Rattle.dfs_states.proofs.book.DfsBook.drop_check.Goals as goal

pub returns-clause-stands_for : goal.returns-clause-stands_for
returns-clause-stands_for c = λ channels opening calls stands due.
    let stood = rw (← c.self.view_is) at stands in
    let slot = c.place.ensures.number in
    stands_drop _ _ channels opening calls c.args.iface stood due (omega arith) refl (record { lasts = refl; operations = refl }) refl (ap (λ i. set c.self.inside.checks i None) slot)

pub returns-clause-unchanged : goal.returns-clause-unchanged
returns-clause-unchanged c = λ channels opening calls stands idle.
    let stood = rw (← c.self.view_is) at stands in
    let slot = c.place.ensures.number in
    ap (λ checks. record { moment = c.self.inside.moment; lasts = c.self.inside.lasts; checks = checks; operations = c.self.inside.operations; places = c.self.inside.places.items })
    (ap (λ i. set c.self.inside.checks i None) slot ∙ idle_is_empty _ channels opening calls c.args.iface stood idle) ∙ c.self.view_is
