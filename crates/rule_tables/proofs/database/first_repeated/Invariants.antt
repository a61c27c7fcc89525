use Rattle.std.proofs.Common.{ℕ, ◌<◌}
use Rattle.rule_tables.specs.Databases.{IsRepeatedAt}
use Rattle.rule_tables.proofs.database.first_repeated.Given as goal

abbrev pub invariant-loop-k : goal.invariant-loop-k
invariant-loop-k l = (k : ℕ) → k < l.k → IsRepeatedAt l.rules k → ⊥
