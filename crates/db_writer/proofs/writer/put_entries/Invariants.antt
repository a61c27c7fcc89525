use Rattle.std.proofs.Common.{◌≡◌, ◌++◌, drop, flat_map}
use Rattle.db_writer.specs.LaidOut.{domain_entry}
use Rattle.db_writer.specs.inner.Planned.{planned_collection}
use Rattle.db_writer.proofs.writer.put_entries.Given as goal

-- what is written, and what the rest gives, is what all give
abbrev pub invariant-loop-domain : goal.invariant-loop-domain
invariant-loop-domain l =
    l.out ++ flat_map (domain_entry (planned_collection l.plan)) (drop l.domain-index l.domains) ≡ l.initial.out ++ flat_map (domain_entry (planned_collection l.plan)) l.domains
