-- Whether the rules of a list of domains allow a channel.
use Rattle.std.specs.Prelude.{◌≡◌, ℕ, ◌*◌, ◌<◌, ◌≤◌, ◌⊎◌, min, List, [], ◌∷◌, Contains, Bool, false, IsTrue}
use Rattle.rule_tables.specs.Governing.{Governs}
use Rattle.rule_tables.specs.declared.domain.Domain.{Domain}
use Rattle.chan_def.specs.Covered.{width_khz, IsCovered}
use Rattle.chan_def.specs.Kinds.{initiates}
use Rattle.chan_def.specs.declared.definition.ChanDef.{ChanDef}
use Rattle.chan_def.specs.declared.kind.Kind.{Kind}
use Rattle.rule_intersect.specs.Subchannels.{SomeLacksRule}
use Rattle.rule_intersect.specs.Tuples.{Choice, IsChoice, check_ms}
use Rattle.chan_flags.specs.Lists.{IsRadioChannel}
use Rattle.chan_flags.specs.Profiles.{Abilities}
use Rattle.chan_flags.specs.declared.profile.Bands.{Bands}
use Rattle.chan_flags.specs.declared.asked.Asked.{Asked}
use Rattle.chan_flags.specs.declared.asked.Obstacle.{Obstacle}
use Rattle.chan_flags.specs.declared.asked.Obstacle.TheVariants.{Missing, Unruled, Narrow, OfdmBarred, IrBarred, OutdoorBarred}
use Rattle.chan_flags.specs.declared.verdict.ChanRefusal.{ChanRefusal}
use Rattle.chan_flags.specs.declared.verdict.ChanRefusal.TheVariants.{LacksChannel, LacksWidth, NoRule, TooNarrow, NoOfdm, NoIr, NoOutdoor, AboveLimit}
use Rattle.chan_flags.specs.declared.verdict.PowerSetting.{PowerSetting}
use Rattle.chan_flags.specs.declared.verdict.PowerSetting.TheVariants.{Auto, Limit, Fixed}
use Rattle.chan_flags.specs.declared.verdict.Verdict.{Verdict}
use Rattle.chan_flags.specs.declared.verdict.Verdict.TheVariants.{Fits, Refused}

-- a channel that is asked of a radio with this profile, by an interface of this kind with this setting of its power
abbrev pub asked : Abilities → ChanDef → Kind → Bool → PowerSetting → Asked
asked profile chan kind indoor setting = record { profile = profile; chan = chan; kind = kind; indoor = indoor; setting = setting }

-- Below, s and t are centres of subchannels in kHz, ds a list of domains, and q what is asked.

-- the choice is the domain's governing rule for s, with the width that it allows
abbrev pub IsGoverning : Domain → ℕ → Choice → Type 0
IsGoverning d s g = IsChoice d.rules g × Governs d.rules s g.number

-- P holds of the governing rule of some domain
abbrev pub SomeGoverning : (Choice → Type 0) → List Domain → ℕ → Type 0
SomeGoverning P ds s = (d : Domain) × Contains ds d × (g : Choice) × IsGoverning d s g × P g

-- a radio with these bands has no such channel
abbrev pub IsMissing : Bands → ℕ → Type 0
IsMissing bands s = IsRadioChannel bands s → ⊥

-- some rule allows less than the width of the whole channel
abbrev pub IsNarrow : List Domain → Asked → ℕ → Type 0
IsNarrow ds q s = SomeGoverning (λ g. g.width_khz < width_khz q.chan.width) ds s

-- the whole channel is wider than 20 MHz, and some rule has NO-OFDM
abbrev pub IsOfdmBarred : List Domain → Asked → ℕ → Type 0
IsOfdmBarred ds q s = (20000 < width_khz q.chan.width) × SomeGoverning (λ g. IsTrue g.rule.flags.no_ofdm) ds s

-- the interface sends first, and some rule has NO-IR
abbrev pub IsIrBarred : List Domain → Asked → ℕ → Type 0
IsIrBarred ds q s = IsTrue (initiates q.kind) × SomeGoverning (λ g. IsTrue g.rule.flags.no_ir) ds s

-- the interface sends first and outdoors, and some rule has NO-OUTDOOR
abbrev pub IsOutdoorBarred : List Domain → Asked → ℕ → Type 0
IsOutdoorBarred ds q s = IsTrue (initiates q.kind) × (q.indoor ≡ false) × SomeGoverning (λ g. IsTrue g.rule.flags.no_outdoor) ds s

-- the obstacle bars the subchannel
abbrev pub Bars : List Domain → Asked → Obstacle → ℕ → Type 0
Bars ds q Missing s = IsMissing q.profile.bands s
Bars ds q Unruled s = SomeLacksRule ds s
Bars ds q Narrow s = IsNarrow ds q s
Bars ds q OfdmBarred s = IsOfdmBarred ds q s
Bars ds q IrBarred s = IsIrBarred ds q s
Bars ds q OutdoorBarred s = IsOutdoorBarred ds q s

-- some rule has DFS: the subchannel has to be checked for radar (CAC, channel availability check)
abbrev pub IsBound : List Domain → ℕ → Type 0
IsBound ds s = SomeGoverning (λ g. IsTrue g.rule.flags.dfs) ds s

-- the limit, in mBm, is the least of the radio's power and the powers of all rules of all subchannels
pub record IsLimit (ds : List Domain) (q : Asked) (limit : ℕ) : Type 0 where
  pub radio : limit ≤ q.profile.power_mbm
  pub rules : (s : ℕ) (d : Domain) (g : Choice) → IsCovered q.chan s → Contains ds d → IsGoverning d s g → limit ≤ g.rule.eirp_mbm
  pub least : (limit ≡ q.profile.power_mbm) ⊎ ((s : ℕ) × IsCovered q.chan s × SomeGoverning (λ g. limit ≡ g.rule.eirp_mbm) ds s)

-- the length, in ms, is that of the longest check for radar among the rules with DFS of all subchannels, or 0 where none has it
pub record IsCheckLength (ds : List Domain) (q : Asked) (length : ℕ) : Type 0 where
  pub rules : (s : ℕ) (d : Domain) (g : Choice) → IsCovered q.chan s → Contains ds d → IsGoverning d s g → IsTrue g.rule.flags.dfs → check_ms g.rule ≤ length
  pub greatest : (length ≡ 0) ⊎ ((s : ℕ) × IsCovered q.chan s × SomeGoverning (λ g. IsTrue g.rule.flags.dfs × (length ≡ check_ms g.rule)) ds s)

-- What follows is said of any obstacles (bars), limits and lengths.

-- the obstacle bars none of the channel's subchannels
abbrev pub BarsNone : (ℕ → Type 0) → ChanDef → Type 0
BarsNone bars c = (s : ℕ) → IsCovered c s → bars s → ⊥

-- s is the lowest of the channel's subchannels that the obstacle bars
pub record BarsFirst (bars : ℕ → Type 0) (c : ChanDef) (s : ℕ) : Type 0 where
  pub covered : IsCovered c s
  pub here : bars s
  pub none_below : (t : ℕ) → t < s → IsCovered c t → bars t → ⊥

-- none of the obstacles bars a subchannel
abbrev pub NoneBars : (Obstacle → ℕ → Type 0) → ChanDef → List Obstacle → Type 0
NoneBars bars c [] = Unit {0}
NoneBars bars c (obstacle ∷ obstacles) = BarsNone (bars obstacle) c × NoneBars bars c obstacles

-- the radio can be on a channel that wide
abbrev pub HasWidth : Asked → Type 0
HasWidth q = width_khz q.chan.width ≤ q.profile.width_mhz * 1000

-- the power that is set is one that a limit allows: a fixed one is refused where it is above it
abbrev pub IsWithinLimit : PowerSetting → ℕ → Type 0
IsWithinLimit Auto limit = Unit {0}
IsWithinLimit (Limit power) limit = Unit {0}
IsWithinLimit (Fixed power) limit = power ≤ limit

-- a fixed power is above this limit; no other setting ever is
abbrev pub IsAbove : PowerSetting → ℕ → Type 0
IsAbove Auto limit = ⊥
IsAbove (Limit power) limit = ⊥
IsAbove (Fixed power) limit = limit < power

-- the power, in mBm, that the setting gives under a limit
abbrev pub power_of : PowerSetting → ℕ → ℕ
power_of Auto limit = limit
power_of (Limit power) limit = min limit power
power_of (Fixed power) limit = power

-- Which refusal comes: the first obstacle that bars a subchannel, with the lowest one that it bars. The width that the radio
-- lacks is asked after its channels, and a fixed power last.
abbrev pub IsChanRefusal : (Obstacle → ℕ → Type 0) → (ℕ → Type 0) → Asked → ChanRefusal → Type 0
IsChanRefusal bars limits q (LacksChannel s) = BarsFirst (bars Missing) q.chan s
IsChanRefusal bars limits q (LacksWidth mhz) =
    NoneBars bars q.chan (Missing ∷ []) × (q.profile.width_mhz * 1000 < width_khz q.chan.width) × (mhz * 1000 ≡ width_khz q.chan.width)
IsChanRefusal bars limits q (NoRule s) = HasWidth q × NoneBars bars q.chan (Missing ∷ []) × BarsFirst (bars Unruled) q.chan s
IsChanRefusal bars limits q (TooNarrow s) = HasWidth q × NoneBars bars q.chan (Missing ∷ Unruled ∷ []) × BarsFirst (bars Narrow) q.chan s
IsChanRefusal bars limits q (NoOfdm s) = HasWidth q × NoneBars bars q.chan (Missing ∷ Unruled ∷ Narrow ∷ []) × BarsFirst (bars OfdmBarred) q.chan s
IsChanRefusal bars limits q (NoIr s) =
    HasWidth q × NoneBars bars q.chan (Missing ∷ Unruled ∷ Narrow ∷ OfdmBarred ∷ []) × BarsFirst (bars IrBarred) q.chan s
IsChanRefusal bars limits q (NoOutdoor s) =
    HasWidth q × NoneBars bars q.chan (Missing ∷ Unruled ∷ Narrow ∷ OfdmBarred ∷ IrBarred ∷ []) × BarsFirst (bars OutdoorBarred) q.chan s
IsChanRefusal bars limits q (AboveLimit limit) =
    HasWidth q × NoneBars bars q.chan (Missing ∷ Unruled ∷ Narrow ∷ OfdmBarred ∷ IrBarred ∷ OutdoorBarred ∷ []) × limits limit × IsAbove q.setting limit

-- a channel that is allowed, with its power and the length of its check for radar: no refusal comes
pub record IsAllowed (bars : Obstacle → ℕ → Type 0) (limits lengths : ℕ → Type 0) (q : Asked) (power length : ℕ) : Type 0 where
  pub has_width : HasWidth q
  pub none_bars : NoneBars bars q.chan (Missing ∷ Unruled ∷ Narrow ∷ OfdmBarred ∷ IrBarred ∷ OutdoorBarred ∷ [])
  pub limit : ℕ
  pub is_limit : limits limit
  pub within : IsWithinLimit q.setting limit
  pub power_is : power ≡ power_of q.setting limit
  pub length_is : lengths length

-- the verdict, over any tests for what bars a subchannel, for limits and for lengths of checks: a refusal, or power and length
abbrev pub IsVerdictOf : (Obstacle → ℕ → Type 0) → (ℕ → Type 0) → (ℕ → Type 0) → Asked → Verdict → Type 0
IsVerdictOf bars limits lengths q (Refused refusal) = IsChanRefusal bars limits q refusal
IsVerdictOf bars limits lengths q (Fits power length) = IsAllowed bars limits lengths q power length

-- the verdict of the governing rules of all domains of the list
abbrev pub IsVerdict : List Domain → Asked → Verdict → Type 0
IsVerdict ds q verdict = IsVerdictOf (Bars ds q) (IsLimit ds q) (IsCheckLength ds q) q verdict
