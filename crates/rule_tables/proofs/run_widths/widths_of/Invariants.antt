use Rattle.rule_tables.specs.inner.Runs.{IsRunBefore}
use Rattle.rule_tables.proofs.Runs.{AreFirstWidths}
use Rattle.rule_tables.proofs.run_widths.widths_of.Given as goal

abbrev pub invariant-loop-k : goal.invariant-loop-k
invariant-loop-k l = record { widths : AreFirstWidths l.rules l.k l.widths; before : IsRunBefore l.rules l.k l.before }
