use Rattle.core_parts.proofs.Finding.{stored, stored_rules}
use Rattle.core_parts.proofs.domains.stored.Goals as goal

pub returns-clause-domain : goal.returns-clause-domain
returns-clause-domain c = stored c.args.db.now c.args.alpha2 _ c.as_slice-domains.ensures.db c.find.ensures

pub returns-clause-rules : goal.returns-clause-rules
returns-clause-rules c = stored_rules c.args.db.now c.args.alpha2 _ c.as_slice-domains.ensures.db c.find.ensures
