use Rattle.std.proofs.Common.{arith, subst}
use Rattle.reg_journal.specs.Facts.{rules_are}
use Rattle.core_parts.specs.Kept.{KeepsPlace}
use Rattle.core_parts.proofs.KeptPlaces.{kept_at}
use Rattle.reg_core.proofs.rules_set.rule_at.Goals as goal

pub returns : goal.returns
returns c = record {
  kept = λ db J rules keeps custom table.
      let few = c.get.ensures.few in
      kept_at db J (rules_are c.args.radio rules) c.args.radios.now c.args.radio c.get.result c.index-radios-get.result c.rule_place.new.place keeps (λ q other. other)
      c.requires.eight (omega (arith, few)) c.get.ensures.number c.index-radios-get.is
      (λ place. c.rule_place.ensures.kept db J c.args.radio rules (subst (KeepsPlace db J c.args.radio) c.index-radios-get.is place) custom table);
}
