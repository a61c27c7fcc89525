use Rattle.db_reader.specs.inner.Parts.{AreFirstRules}
use Rattle.db_reader.proofs.collection.read_rules.Given as goal

abbrev pub invariant-loop-k : goal.invariant-loop-k
invariant-loop-k l = AreFirstRules l.bytes l.place l.k l.rules
