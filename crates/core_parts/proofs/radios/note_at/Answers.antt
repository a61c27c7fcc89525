use Rattle.std.proofs.Common.{arith, subst}
use Rattle.core_parts.specs.Kept.{KeepsPlace}
use Rattle.core_parts.proofs.BookNotes.{noted_all}
use Rattle.core_parts.proofs.radios.note_at.Goals as goal

pub returns : goal.returns
returns c = record {
  kept = λ db J f keeps speaks is spares due.
      let few = c.get.ensures.few in
      noted_all db J f c.args.radios.now c.args.radio c.get.result c.args.call.now c.index-radios-get.result c.note.new.self keeps speaks is spares due c.requires.eight
      (omega (arith, few)) c.get.ensures.number c.index-radios-get.is
      (λ q place told. c.note.ensures.kept db J q f (subst (λ p. KeepsPlace db J q p) c.index-radios-get.is place) speaks told due);
}
