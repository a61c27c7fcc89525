use Rattle.std.proofs.Common.{◌≡◌, ◌++◌, drop}
use Rattle.rule_intersect.specs.inner.Pairs.{join_all}
use Rattle.rule_intersect.proofs.joining.join_rows.Given as goal

abbrev pub invariant-loop-row : goal.invariant-loop-row
invariant-loop-row l = l.joined.items ++ join_all (drop l.row-index l.rows) l.others ≡ join_all l.rows l.others
