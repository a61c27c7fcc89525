use Rattle.std.proofs.Common.{insert, refl}
use Rattle.rule_tables.specs.Databases.{IsDb}
use Rattle.rule_tables.proofs.Inserted.{IsDb-insert}
use Rattle.rule_tables.proofs.database.Db.insert_new.Goals as goal
use Rattle.rule_tables.proofs.database.Db.insert_new.Goals.{in-Ok, in-Err}

-- the domains with the new one in its place are a database
kept : (c : goal.Joined-insert) → IsDb (insert c.self.inside.domains.items c.place_of-place.result c.args.domain)
kept c =
    let slice = c.as_slice.ensures.value in
    IsDb-insert c.self.inside.domains.items c.args.domain c.place_of-place.result c.self.invariant
    (rw (← c.self.view_is) at c.requires.fresh) c.requires.domain (rw slice at c.place_of-place.ensures.within)
    (rw slice at c.place_of-place.ensures.below) (rw slice at c.place_of-place.ensures.at)

pub invariant_of-self : goal.invariant_of-self
invariant_of-self c = elim c.match-insert.branch [
  | in-Ok w ↦ rw w.in-Ok.ensures.items (kept c)
  | in-Err w ↦ rw w.in-Err.ensures.items c.self.invariant
]

pub returns-clause-db : goal.returns-clause-db
returns-clause-db c = invariant_of-self c

pub returns-clause-ok : goal.returns-clause-ok
returns-clause-ok c = elim c.match-insert.branch [
  | in-Ok w ↦ rw (w.result-is, w.in-Ok.ensures.items, ← c.self.view_is) (record {
    fresh = rw (← c.self.view_is) at c.requires.fresh;
    is_domain = c.requires.domain;
    place = (c.place_of-place.result, rw c.as_slice.ensures.value at c.place_of-place.ensures.within, refl);
  })
  | in-Err w ↦ rw w.result-is tt
]
