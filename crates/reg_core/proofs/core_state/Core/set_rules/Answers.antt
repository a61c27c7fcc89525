use Rattle.std.proofs.Common.{◌∷◌, refl}
use Rattle.reg_journal.specs.Facts.{rules_are}
use Rattle.reg_core.proofs.RulesSteps.{keeps_after_rules, rules_due}
use Rattle.reg_core.proofs.SweptSteps.{none_moved}
use Rattle.reg_core.proofs.core_state.Core.set_rules.Goals as goal

pub settle-requires-clause-core : goal.settle-requires-clause-core
settle-requires-clause-core g c =
    let core = c.requires.core in
    let r = c.args.radio in
    let rules = c.args.rules.now in
    let is = c.in-Ok.ensures core.db core.journal core.keeps in
    let due = rules_due core.db core.journal r rules core.keeps.due is.there is.are c.requires.askable in
    record {
      db = core.db;
      journal = rules_are r rules ∷ core.journal;
      keeps = keeps_after_rules core.db core.journal r rules c.args.self.now c.rule_at.new.radios core.keeps due
          (c.rule_at.ensures.kept core.db core.journal rules core.keeps.radios is.custom_is is.table_is);
    }

pub returns-clause-set : goal.returns-clause-set
returns-clause-set g c = λ db J s.
    let r = c.args.radio in
    let rules = c.args.rules.now in
    let is = c.in-Ok.ensures db J s.keeps in
    let due = rules_due db J r rules s.keeps.due is.there is.are c.requires.askable in
    let keeps = keeps_after_rules db J r rules c.args.self.now c.rule_at.new.radios s.keeps due (c.rule_at.ensures.kept db J rules s.keeps.radios is.custom_is is.table_is) in
    record {
      free = is.free;
      sweep = c.settle.ensures.swept db (rules_are r rules ∷ J) keeps
          (none_moved db J (rules_are r rules) c.args.self.now c.nowhere.result s due (λ q. refl) (λ i begins. let at = begins.2 in cc) refl (λ i. refl) c.nowhere.ensures);
    }
