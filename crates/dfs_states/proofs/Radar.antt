-- The nonoccupancy of a subchannel, after one more call.
use Rattle.std.proofs.Common.{◌≡◌, ℕ, ◌+◌, List, [], ◌∷◌, refl, sym, ap, ◌∙◌, ◌⊎◌, inl, inr}
use Rattle.chan_def.specs.Covered.{IsCovered}
use Rattle.chan_def.specs.declared.definition.ChanDef.{ChanDef}
use Rattle.dfs_states.specs.declared.moments.TheConstants.{NONOCCUPANCY_MS}
use Rattle.dfs_states.specs.Calls.{Call, Radar, moment_of}
use Rattle.dfs_states.specs.Meaning.{HasNonoccupancy}
use Rattle.dfs_states.proofs.Splits.{split_cons, split_more}

pub barred_cases : (f : Call) (calls : List Call) (khz until : ℕ) → HasNonoccupancy (f ∷ calls) khz until
    → ((chan : ChanDef) × (f ≡ Radar chan) × IsCovered chan khz × (until ≡ moment_of calls + NONOCCUPANCY_MS)) ⊎ HasNonoccupancy calls khz until
barred_cases f calls khz until barred = elim (split_cons f calls barred.newer barred.older (Radar barred.chan) barred.met) [
  | inl newest ↦ inl (barred.chan, newest.1, barred.covered, barred.ends ∙ ap (λ xs. moment_of xs + NONOCCUPANCY_MS) (sym newest.2))
  | inr older ↦ inr (record {
    newer = older.0;
    chan = barred.chan;
    older = barred.older;
    met = older.2;
    covered = barred.covered;
    ends = barred.ends;
  })
]

pub barred_older : (f : Call) (calls : List Call) (khz until : ℕ) → HasNonoccupancy calls khz until → HasNonoccupancy (f ∷ calls) khz until
barred_older f calls khz until barred = record {
  newer = f ∷ barred.newer;
  chan = barred.chan;
  older = barred.older;
  met = split_more f calls barred.newer barred.older (Radar barred.chan) barred.met;
  covered = barred.covered;
  ends = barred.ends;
}

pub barred_newest : (chan : ChanDef) (calls : List Call) (khz until : ℕ) → IsCovered chan khz → until ≡ moment_of calls + NONOCCUPANCY_MS
    → HasNonoccupancy (Radar chan ∷ calls) khz until
barred_newest chan calls khz until covered ends =
    record { newer = []; chan = chan; older = calls; met = refl; covered = covered; ends = ends }

pub barred_earlier : (f : Call) (calls : List Call) (khz : ℕ) → ((chan : ChanDef) → f ≡ Radar chan → IsCovered chan khz → ⊥) → (until : ℕ)
    → HasNonoccupancy (f ∷ calls) khz until → HasNonoccupancy calls khz until
barred_earlier f calls khz apart until barred = elim (barred_cases f calls khz until barred) [
  | inl newest ↦ absurd (apart newest.0 newest.1 newest.2)
  | inr older ↦ older
]
