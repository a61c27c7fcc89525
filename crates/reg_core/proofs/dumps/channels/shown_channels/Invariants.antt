use Rattle.std.proofs.Common.{ℕ, ◌-◌, ◌≤◌, List, length, map, take}
use Rattle.std.specs.List.{AllZip}
use Rattle.rule_tables.specs.declared.domain.Domain.{Domain}
use Rattle.chan_flags.specs.declared.record.Chan.{Chan}
use Rattle.reg_journal.specs.Due.{EachMayFollow}
use Rattle.reg_journal.specs.Dumps.{IsShownChannel}
use Rattle.reg_journal.specs.Facts.{Journal}
use Rattle.core_parts.specs.Kept.{KeepsRadio}
use Rattle.reg_core.proofs.dumps.channels.shown_channels.Given as goal

abbrev pub invariant-channels : goal.invariant-channels
invariant-channels l = record {
  shown : (db : List Domain) (J : Journal) (r : ℕ) → EachMayFollow db J → KeepsRadio db J r l.radio
      → AllZip (IsShownChannel db J r) (map (λ (c : Chan). c.khz) (take l.i l.radio.chans.chans)) l.list;
  within : l.i ≤ length l.radio.chans.chans;
}

abbrev pub decreases-channels : goal.decreases-channels
decreases-channels l = length l.radio.chans.chans - l.i
