-- The checks that ended, after one more call. No other file opens `CheckEnded`.
use Rattle.std.proofs.Common.{◌≡◌, ℕ, ◌≤◌, ◌<◌, List, ◌∷◌, arith, subst, ◌⊎◌, inl, inr}
use Rattle.std.proofs.lemmas.Bool.{cases_lt}
use Rattle.chan_def.specs.Covered.{IsCovered}
use Rattle.chan_def.specs.declared.definition.ChanDef.{ChanDef}
use Rattle.dfs_states.specs.Calls.{Call, Advance, Begin, moment_of}
use Rattle.dfs_states.specs.Meaning.{CheckCounts, CheckEnded}
use Rattle.dfs_states.proofs.Checks.{counts_begun}

-- it counts, and it is done
pub ended_counts : (calls : List Call) (khz end : ℕ) → CheckEnded calls khz end → (slot : ℕ) × CheckCounts calls khz slot end × (end ≤ moment_of calls)
ended_counts calls khz end ended = (ended.slot, ended.counts, ended.done)

-- where no time passes, and the same checks count, the same ones ended
pub ended_same : (calls others : List Call) (khz end : ℕ) → moment_of calls ≡ moment_of others
    → ((slot : ℕ) → end ≤ moment_of calls → CheckCounts calls khz slot end → CheckCounts others khz slot end) → CheckEnded calls khz end → CheckEnded others khz end
ended_same calls others khz end now same ended =
    record { slot = ended.slot; counts = same ended.slot ended.done ended.counts; done = subst (λ n. end ≤ n) now ended.done }

-- a check that ends as a moment comes, or before
pub ended_by : (moment : ℕ) (calls : List Call) (khz slot end : ℕ) → CheckCounts (Advance moment ∷ calls) khz slot end → end ≤ moment
    → CheckEnded (Advance moment ∷ calls) khz end
ended_by moment calls khz slot end counts done = record { slot = slot; counts = counts; done = done }

-- what has ended when a moment has come had ended before, or it has ended since
pub ended_cases : (moment : ℕ) (calls : List Call) (khz end : ℕ) → ((slot : ℕ) → CheckCounts (Advance moment ∷ calls) khz slot end → CheckCounts calls khz slot end)
    → CheckEnded (Advance moment ∷ calls) khz end → CheckEnded calls khz end ⊎ ((slot : ℕ) × CheckCounts calls khz slot end × (moment_of calls < end) × (end ≤ moment))
ended_cases moment calls khz end before ended = elim (cases_lt (moment_of calls) end) [
  | inl now ↦ inr (ended.slot, before ended.slot ended.counts, now, ended.done)
  | inr was ↦ inl (record { slot = ended.slot; counts = before ended.slot ended.counts; done = was })
]

-- a check of length 0
pub ended_at_once : (calls : List Call) (khz slot : ℕ) (chan : ChanDef) → IsCovered chan khz → CheckEnded (Begin slot chan 0 ∷ calls) khz (moment_of calls)
ended_at_once calls khz slot chan covered =
    record { slot = slot; counts = counts_begun calls khz slot chan 0 (moment_of calls) covered (omega arith); done = omega arith }
