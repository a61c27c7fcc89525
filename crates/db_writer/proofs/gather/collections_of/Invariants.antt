use Rattle.std.proofs.Common.{◌≡◌, ◌++◌, drop, map}
use Rattle.db_writer.specs.LaidOut.{collection_record}
use Rattle.db_writer.specs.inner.Filed.{rule_at_in}
use Rattle.db_writer.proofs.gather.collections_of.Given as goal

abbrev pub invariant-loop-domain : goal.invariant-loop-domain
invariant-loop-domain l =
    l.records.items ++ map (collection_record (rule_at_in l.sections)) (drop l.domain-index l.domains) ≡ map (collection_record (rule_at_in l.sections)) l.domains
