use Rattle.std.proofs.Common.{vec_len}
use Rattle.rule_text.proofs.Assembled.{Assembled}
use Rattle.rule_text.proofs.assemble.assemble.Given as goal

abbrev pub invariant-loop-country : goal.invariant-loop-country
invariant-loop-country l = Assembled l.fn.countries.items l.left.items l.db

abbrev pub decreases-loop-country : goal.decreases-loop-country
decreases-loop-country l = vec_len l.left
