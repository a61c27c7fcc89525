use Rattle.std.proofs.Common.{◌≡◌, drop}
use Rattle.db_text.specs.inner.Naming.{IsNumbered, all_noted}
use Rattle.db_text.specs.Printed.{wmm_in_rules}
use Rattle.db_text.proofs.wmm_names.add_rules.Given as goal

abbrev pub invariant-loop-rule : goal.invariant-loop-rule
invariant-loop-rule l = record {
  rules : all_noted l.names.rules.items (wmm_in_rules (drop l.rule-index l.rules)) ≡ all_noted l.initial.names.rules.items (wmm_in_rules l.rules);
  numbered : IsNumbered l.names;
}
