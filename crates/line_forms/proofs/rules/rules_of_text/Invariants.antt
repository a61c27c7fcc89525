use Rattle.std.proofs.Common.{length}
use Rattle.line_forms.proofs.RuleParts.{RulesSoFar}
use Rattle.line_forms.proofs.rules.rules_of_text.Given as goal

abbrev pub invariant-parts : goal.invariant-parts
invariant-parts l = RulesSoFar l.text l.left l.rules

abbrev pub decreases-parts : goal.decreases-parts
decreases-parts l = length l.left
