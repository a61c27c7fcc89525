use Rattle.std.proofs.Common.{◌≡◌, ◌++◌, drop, flat_map}
use Rattle.db_writer.specs.inner.Gathered.{wmm_of_domain}
use Rattle.db_writer.proofs.gather.wmm_rules_of.Given as goal

abbrev pub invariant-loop-domain : goal.invariant-loop-domain
invariant-loop-domain l = l.records.items ++ flat_map wmm_of_domain (drop l.domain-index l.domains) ≡ flat_map wmm_of_domain l.domains
