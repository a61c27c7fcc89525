use Rattle.std.proofs.Common.{◌≡◌, drop}
use Rattle.std.specs.Prelude.{[]}
use Rattle.db_text.specs.inner.Naming.{IsNumbered, all_noted}
use Rattle.db_text.specs.Printed.{wmm_in}
use Rattle.db_text.proofs.wmm_names.wmm_names.Given as goal

abbrev pub invariant-loop-domain : goal.invariant-loop-domain
invariant-loop-domain l = record {
  rules : all_noted l.names.rules.items (wmm_in (drop l.domain-index l.domains)) ≡ all_noted [] (wmm_in l.domains);
  numbered : IsNumbered l.names;
}
