use Rattle.core_parts.proofs.RadarStates.{not_clear, not_quiet, quiet_unless}
use Rattle.core_parts.proofs.radar.meets.Goals as goal
use Rattle.core_parts.proofs.radar.meets.Goals.{in-Unavailable, in_default}

pub returns-after-matches : goal.returns-after-matches
returns-after-matches c = λ db J r s is. elim c.match-matches.branch [
  | in-Unavailable w ↦ rw (w.matches-is, c.in-Quiet.is) (not_quiet db J r s w.in-Unavailable.until (rw w.in-Unavailable.is at is))
  | in_default w ↦ rw (w.matches-is, c.in-Quiet.is) (quiet_unless db J r s c.args.state is w.in_default.not-Unavailable)
]

pub returns-in_default-matches : goal.returns-in_default-matches
returns-in_default-matches c = λ db J r s is meets. not_clear db J r s c.args.state is c.in_default-matches.not-Available (rw c.in-Clear.is at meets)
