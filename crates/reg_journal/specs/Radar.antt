-- Radar and checks (CAC, channel availability check), over the whole journal: quiet subchannels, and checks that stand for one.
use Rattle.std.specs.Prelude.{◌≡◌, ℕ, ◌+◌, ◌<◌, ◌≤◌, ◌⊎◌, List, ◌∷◌, ◌++◌, Contains, Some, IsSomeAnd, IsTrue}
use Rattle.rule_tables.specs.declared.code.Region.TheVariants.{Etsi}
use Rattle.rule_tables.specs.declared.domain.Domain.{Domain}
use Rattle.chan_def.specs.Covered.{IsCovered}
use Rattle.chan_def.specs.Kinds.{initiates}
use Rattle.chan_def.specs.declared.definition.ChanDef.{ChanDef}
use Rattle.chan_flags.specs.Lists.{IsRadioChannel}
use Rattle.dfs_states.specs.Greatest.{IsGreatest}
use Rattle.dfs_states.specs.declared.moments.TheConstants.{NONOCCUPANCY_MS, UNUSED_CHECK_MS}
use Rattle.dfs_states.specs.declared.dfs.Dfs.{Dfs}
use Rattle.dfs_states.specs.declared.dfs.Dfs.TheVariants.{Usable, Unavailable, Available}
use Rattle.reg_journal.specs.Facts.{Fact, Journal, CameAmong, radar_met, check_begun, check_dropped}
use Rattle.reg_journal.specs.Present.{Iface, now_of, abilities_of, radio_of, ifaces_on, operation_of}
use Rattle.reg_journal.specs.Applicable.{region_of}

-- ---- radar

-- the radio met radar on the subchannel, and its nonoccupancy (NOP, non-occupancy period) ends at this moment
pub record IsBarred (J : Journal) (r s until : ℕ) : Type 0 where
  pub newer : Journal
  pub chan : ChanDef
  pub older : Journal
  pub met : CameAmong J newer (radar_met r chan) older
  pub covered : IsCovered chan s
  pub ends : until ≡ now_of older + NONOCCUPANCY_MS

-- each nonoccupancy of the subchannel is over
abbrev pub IsQuiet : Journal → ℕ → ℕ → Type 0
IsQuiet J r s = (until : ℕ) → IsBarred J r s until → until ≤ now_of J

-- ---- checks

-- the radio met radar on the subchannel
pub record HasRadar (facts : Journal) (r s : ℕ) : Type 0 where
  pub newer : Journal
  pub chan : ChanDef
  pub older : Journal
  pub met : CameAmong facts newer (radar_met r chan) older
  pub covered : IsCovered chan s

-- some check began on the interface
pub record HasCheck (facts : Journal) (i : ℕ) : Type 0 where
  pub newer : Journal
  pub chan : ChanDef
  pub length : ℕ
  pub older : Journal
  pub begun : CameAmong facts newer (check_begun i chan length) older

-- No drop on the interface comes before its next check begins.
abbrev pub IsKept : Journal → ℕ → Type 0
IsKept facts i = (newer between : Journal) → CameAmong facts newer (check_dropped i) between → HasCheck between i

-- The radio's region changes at none of these facts: it is after each of them what it was just before. They came after `older`.
abbrev pub KeepsRegion : List Domain → Journal → Journal → ℕ → Type 0
KeepsRegion db facts older r =
    (newer : Journal) (f : Fact) (between : Journal) → CameAmong facts newer f between → region_of db (f ∷ between ++ older) r ≡ region_of db (between ++ older) r

-- A check on an interface of the radio, which ends at this moment, counts for the subchannel: it covers it, wasn't dropped,
-- and since it began the radio met no radar there and its region didn't change.
pub record Counts (db : List Domain) (J : Journal) (r s end : ℕ) : Type 0 where
  pub newer : Journal
  pub iface : ℕ
  pub chan : ChanDef
  pub length : ℕ
  pub older : Journal
  pub begun : CameAmong J newer (check_begun iface chan length) older
  pub on_radio : radio_of J iface ≡ Some r
  pub covered : IsCovered chan s
  pub ends : end ≡ now_of older + length
  pub kept : IsKept newer iface
  pub no_radar : HasRadar newer r s → ⊥
  pub same_region : KeepsRegion db newer (check_begun iface chan length ∷ older) r

-- ---- checks that lapse

-- an interface of the radio that sends first operates on the subchannel
pub record IsUsed (J : Journal) (r s : ℕ) : Type 0 where
  pub iface : Iface
  pub there : Contains (ifaces_on J r) iface
  pub sends_first : IsTrue (initiates iface.kind)
  pub operates : IsSomeAnd (operation_of J iface.index) (λ o. IsCovered o.chan s)

-- the subchannel was used at this moment: it was so over the journal or over one before it
pub record WasUsedAt (J : Journal) (r s moment : ℕ) : Type 0 where
  pub newer : Journal
  pub older : Journal
  pub split : J ≡ newer ++ older
  pub used : IsUsed older r s
  pub at : moment ≡ now_of older

-- the check ended at this moment, or the subchannel was used at it
abbrev pub IsUse : Journal → ℕ → ℕ → ℕ → ℕ → Type 0
IsUse J r s end moment = (moment ≡ end) ⊎ WasUsedAt J r s moment

-- A check that ended at this moment has lapsed: at some time, 2,000 ms had passed since its end and since the last use of the
-- subchannel up to then.
pub record HasLapsed (J : Journal) (r s end : ℕ) : Type 0 where
  pub newer : Journal
  pub older : Journal
  pub split : J ≡ newer ++ older
  pub last : ℕ
  pub is_last : IsGreatest (IsUse older r s end) last
  pub long_ago : last + UNUSED_CHECK_MS ≤ now_of older

-- A check stands for the subchannel: it counts, and it ended at this moment, which isn't to come. Where the radio's region isn't
-- that of ETSI, it hasn't lapsed.
pub record Stands (db : List Domain) (J : Journal) (r s end : ℕ) : Type 0 where
  pub counts : Counts db J r s end
  pub over : end ≤ now_of J
  pub lasts : (region_of db J r ≡ Etsi) ⊎ (HasLapsed J r s end → ⊥)

-- no check stands for the subchannel
abbrev pub NoneStands : List Domain → Journal → ℕ → ℕ → Type 0
NoneStands db J r s = (end : ℕ) → Stands db J r s end → ⊥

-- ---- the state of a subchannel

-- the state of a subchannel: unavailable until its nonoccupancy ends, available since its last check that stands, or usable
abbrev pub IsState : List Domain → Journal → ℕ → ℕ → Dfs → Type 0
IsState db J r s (Unavailable until) = IsGreatest (IsBarred J r s) until × (now_of J < until)
IsState db J r s (Available since) = IsQuiet J r s × IsGreatest (Stands db J r s) since
IsState db J r s Usable = IsQuiet J r s × NoneStands db J r s

-- the state of any centre: that of a channel of the radio's bands, and usable for any other
pub record IsChannelState (db : List Domain) (J : Journal) (r s : ℕ) (dfs : Dfs) : Type 0 where
  pub of_channel : IsRadioChannel (abilities_of J r).bands s → IsState db J r s dfs
  pub of_other : (IsRadioChannel (abilities_of J r).bands s → ⊥) → dfs ≡ Usable
