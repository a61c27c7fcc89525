use Rattle.std.proofs.Common.{arith, subst}
use Rattle.reg_hints.specs.Table.{Own}
use Rattle.reg_journal.specs.Facts.{hinted}
use Rattle.core_parts.specs.Kept.{KeepsPlace}
use Rattle.core_parts.proofs.KeptPlaces.{kept_at}
use Rattle.reg_core.proofs.driver_hints.tune_at.Goals as goal

pub returns : goal.returns
returns c = record {
  kept = λ db J keeps tunes.
      let few = c.get.ensures.few in
      kept_at db J (hinted (Own c.args.radio c.args.alpha2)) c.args.radios.now c.args.radio c.get.result c.index-radios-get.result c.tune_place.new.place keeps (λ q other. other)
      c.requires.eight (omega (arith, few)) c.get.ensures.number c.index-radios-get.is
      (λ place. c.tune_place.ensures.kept db J c.args.radio (subst (KeepsPlace db J c.args.radio) c.index-radios-get.is place) tunes);
}
