-- Whether the records of a radio's channels allow a channel.
use Rattle.std.specs.Prelude.{◌≡◌, ℕ, ◌==◌, ◌<◌, ◌≤◌, ◌⊎◌, List, find, false, Option, None, Some, IfSome, IsNone, IsSomeAnd, IsTrue}
use Rattle.chan_def.specs.Covered.{width_khz, IsCovered}
use Rattle.chan_def.specs.Kinds.{initiates}
use Rattle.chan_flags.specs.Verdicts.{IsVerdictOf}
use Rattle.chan_flags.specs.declared.asked.Asked.{Asked}
use Rattle.chan_flags.specs.declared.asked.Obstacle.{Obstacle}
use Rattle.chan_flags.specs.declared.asked.Obstacle.TheVariants.{Missing, Unruled, Narrow, OfdmBarred, IrBarred, OutdoorBarred}
use Rattle.chan_flags.specs.declared.record.Chan.{Chan}
use Rattle.chan_flags.specs.declared.record.Fit.{Fit}
use Rattle.chan_flags.specs.declared.verdict.Verdict.{Verdict}

-- the radio's channel with this centre, in kHz
abbrev pub chan_with_centre : List Chan → ℕ → Option Chan
chan_with_centre chans s = find (λ chan. chan.khz == s) chans

-- the radio has the channel, and it has no record
abbrev pub IsUnfit : Option Chan → Type 0
IsUnfit None = ⊥
IsUnfit (Some chan) = IsNone chan.fit

-- the radio has the channel, and P holds of its record
abbrev pub FitHas : (Fit → Type 0) → Option Chan → Type 0
FitHas P None = ⊥
FitHas P (Some chan) = IsSomeAnd chan.fit P

-- where the radio has the channel, and it has a record, P holds of that
abbrev pub IfFit : (Fit → Type 0) → Option Chan → Type 0
IfFit P None = Unit {0}
IfFit P (Some chan) = IfSome chan.fit P

-- the obstacle bars a channel with this record
abbrev pub BarsChannel : Asked → Obstacle → Option Chan → Type 0
BarsChannel q Missing chan = IsNone chan
BarsChannel q Unruled chan = IsUnfit chan
BarsChannel q Narrow chan = FitHas (λ fit. fit.width_khz < width_khz q.chan.width) chan
BarsChannel q OfdmBarred chan = (20000 < width_khz q.chan.width) × FitHas (λ fit. IsTrue fit.flags.no_ofdm) chan
BarsChannel q IrBarred chan = IsTrue (initiates q.kind) × FitHas (λ fit. IsTrue fit.flags.no_ir) chan
BarsChannel q OutdoorBarred chan = IsTrue (initiates q.kind) × (q.indoor ≡ false) × FitHas (λ fit. IsTrue fit.flags.no_outdoor) chan

-- the obstacle bars the subchannel, by the record of the channel with this centre
abbrev pub BarsBy : List Chan → Asked → Obstacle → ℕ → Type 0
BarsBy chans q obstacle s = BarsChannel q obstacle (chan_with_centre chans s)

-- the channel has a record with DFS
abbrev pub IsBoundBy : List Chan → ℕ → Type 0
IsBoundBy chans s = FitHas (λ fit. IsTrue fit.flags.dfs) (chan_with_centre chans s)

-- the limit, in mBm, is the least of the radio's power and the limits of the records of all subchannels
pub record IsLimitBy (chans : List Chan) (q : Asked) (limit : ℕ) : Type 0 where
  pub radio : limit ≤ q.profile.power_mbm
  pub records : (s : ℕ) → IsCovered q.chan s → IfFit (λ fit. limit ≤ fit.limit_mbm) (chan_with_centre chans s)
  pub least : (limit ≡ q.profile.power_mbm) ⊎ ((s : ℕ) × IsCovered q.chan s × FitHas (λ fit. limit ≡ fit.limit_mbm) (chan_with_centre chans s))

-- the length, in ms, is that of the longest check among the records with DFS of all subchannels, or 0 where none has it
pub record IsCheckLengthBy (chans : List Chan) (q : Asked) (length : ℕ) : Type 0 where
  pub records : (s : ℕ) → IsCovered q.chan s → IfFit (λ fit. IsTrue fit.flags.dfs → fit.check_ms ≤ length) (chan_with_centre chans s)
  pub greatest : (length ≡ 0) ⊎ ((s : ℕ) × IsCovered q.chan s × FitHas (λ fit. IsTrue fit.flags.dfs × (length ≡ fit.check_ms)) (chan_with_centre chans s))

-- the verdict of the records
abbrev pub IsVerdictBy : List Chan → Asked → Verdict → Type 0
IsVerdictBy chans q verdict = IsVerdictOf (BarsBy chans q) (IsLimitBy chans q) (IsCheckLengthBy chans q) q verdict
