-- What has been accepted. The journal is the list of these facts, the newest first.
use Rattle.std.specs.Prelude.{◌≡◌, ℕ, Bool, List, [], ◌∷◌, ◌++◌}
use Rattle.freq_range.specs.declared.rule.Rule.{Rule}
use Rattle.chan_def.specs.declared.definition.ChanDef.{ChanDef}
use Rattle.chan_def.specs.declared.kind.Kind.{Kind}
use Rattle.chan_flags.specs.Profiles.{Abilities}
use Rattle.chan_flags.specs.declared.verdict.PowerSetting.{PowerSetting}
use Rattle.reg_hints.specs.Table.{Hinted}

-- Radios go by their numbers and interfaces by their indexes. Moments and lengths are in ms, powers in mBm.
pub data Fact : Type 0 where
  moment_is : (moment : ℕ) → Fact
  radio_added : (radio : ℕ) (profile : Abilities) → Fact
  radio_removed : (radio : ℕ) → Fact
  rules_are : (radio : ℕ) (rules : List Rule) → Fact
  hinted : (hint : Hinted) → Fact
  indoor_is : (on : Bool) → Fact
  radar_met : (radio : ℕ) (chan : ChanDef) → Fact
  made : (iface : ℕ) (name : List ℕ) (radio : ℕ) (kind : Kind) → Fact
  ended : (iface : ℕ) → Fact
  typed : (iface : ℕ) (kind : Kind) → Fact
  set_to : (iface : ℕ) (setting : PowerSetting) → Fact
  started : (iface : ℕ) (chan : ChanDef) (power : ℕ) → Fact
  stopped : (iface : ℕ) → Fact
  powered : (iface : ℕ) (power : ℕ) → Fact
  check_begun : (iface : ℕ) (chan : ChanDef) (length : ℕ) → Fact
  check_dropped : (iface : ℕ) → Fact

-- all that happened, the newest first
abbrev pub Journal : Type 0
Journal = List Fact

-- the fact is one of these: the newer ones came after it, and the older ones before
abbrev pub CameAmong : Journal → Journal → Fact → Journal → Type 0
CameAmong facts newer fact older = facts ≡ newer ++ fact ∷ older

-- the journal with more facts, the oldest of which stands first
abbrev pub after : List Fact → Journal → Journal
after [] J = J
after (f ∷ facts) J = after facts (f ∷ J)
