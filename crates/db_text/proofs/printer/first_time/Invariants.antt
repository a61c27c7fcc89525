use Rattle.std.proofs.Common.{ℕ, ◌<◌, slice_index_or}
use Rattle.rule_tables.specs.declared.domain.Domain.{Domain}
use Rattle.db_text.specs.Printed.{LacksTimes}
use Rattle.db_text.proofs.printer.first_time.Given as goal

abbrev pub invariant-loop-domain : goal.invariant-loop-domain
invariant-loop-domain l = (j : ℕ) (d : Domain) → j < l.domain-index → LacksTimes (slice_index_or l.domains j d).rules
