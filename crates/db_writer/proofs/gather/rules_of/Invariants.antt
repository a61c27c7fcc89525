use Rattle.std.proofs.Common.{◌≡◌, ◌++◌, drop, flat_map}
use Rattle.db_writer.specs.LaidOut.{wmm_place}
use Rattle.db_writer.specs.inner.Gathered.{records_of_domain}
use Rattle.db_writer.proofs.gather.rules_of.Given as goal

abbrev pub invariant-loop-domain : goal.invariant-loop-domain
invariant-loop-domain l =
    l.records.items ++ flat_map (records_of_domain (wmm_place l.wmm_rules.first l.wmm_rules.records.items)) (drop l.domain-index l.domains)
    ≡ flat_map (records_of_domain (wmm_place l.wmm_rules.first l.wmm_rules.records.items)) l.domains
