use Rattle.std.proofs.Common.{◌∙◌, sym}
use Rattle.std.proofs.lemmas.List.{at_drop_all}
use Rattle.db_text.specs.inner.Naming.{all_noted}
use Rattle.db_text.specs.Printed.{wmm_in}
use Rattle.db_text.proofs.Noted.{first_uses-noted}
use Rattle.db_text.proofs.wmm_names.wmm_names.Goals as goal

pub returns-clause-rules : goal.returns-clause-rules
returns-clause-rules c =
    sym (at_drop_all (λ ds. all_noted c.loop-domain.names.rules.items (wmm_in ds)) c.args.domains.now c.loop-domain.domain-index c.loop-domain-test.false)
    ∙ c.loop-domain.invariant.rules ∙ first_uses-noted (wmm_in c.args.domains.now)
