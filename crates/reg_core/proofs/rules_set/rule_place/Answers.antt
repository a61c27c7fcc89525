use Rattle.reg_core.proofs.rules_set.rule_place.Goals as goal

pub returns-in-There : goal.returns-in-There
returns-in-There c = record {
  kept = λ db J r rules keeps custom table.
      let there = rw c.in-There.is at keeps in
      (there.0, c.rule.ensures.kept db J r rules there.1 custom table);
}
