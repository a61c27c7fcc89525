use Rattle.std.proofs.Common.{ℕ, ◌<◌, List}
use Rattle.rule_tables.specs.declared.domain.Domain.{Domain}
use Rattle.chan_def.specs.Covered.{width_khz, IsSubchannel}
use Rattle.reg_journal.specs.Facts.{Journal}
use Rattle.reg_journal.specs.Permits.{IsBoundOn}
use Rattle.core_parts.specs.Demands.{HasRules, MeetsDemand}
use Rattle.core_parts.proofs.radar.lowest_failing.Given as goal

abbrev pub invariant-loop-i : goal.invariant-loop-i
invariant-loop-i l = (db : List Domain) (J : Journal) (r : ℕ) → HasRules db J r l.radio l.chan
    → (s j : ℕ) → j < l.i → IsSubchannel (width_khz l.chan.width) l.chan.centre_khz j s → IsBoundOn db J r s → MeetsDemand db J r l.demand s
