use Rattle.rule_tables.proofs.database.Db.insert.Goals as goal

pub returns-in-Some-clause-cause : goal.returns-in-Some-clause-cause
returns-in-Some-clause-cause c = rw (← c.self.view_is, ← c.as_slice.ensures.value) c.in-Some.ensures
