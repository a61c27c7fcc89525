use Rattle.core_parts.proofs.BookNotes.{noted_place, place_stays}
use Rattle.core_parts.proofs.radio.RadioPlace.note.Goals as goal

pub returns-in-There : goal.returns-in-There
returns-in-There c = record {
  kept = λ db J r f keeps speaks is due.
      let there = rw c.in-There.is at keeps in
      noted_place db J r f c.in-There.radio c.note.new.self speaks there (c.note.ensures.kept db J r f there.1 speaks is due);
}
