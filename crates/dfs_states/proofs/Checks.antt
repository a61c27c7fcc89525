-- A check that counts for a subchannel, after one more call.
use Rattle.std.proofs.Common.{◌≡◌, ℕ, ◌+◌, Bool, List, [], ◌∷◌, ◌++◌, refl, sym, ap, subst, ◌∙◌, ◌⊎◌, inl, inr}
use Rattle.chan_def.specs.Covered.{IsCovered}
use Rattle.chan_def.specs.declared.definition.ChanDef.{ChanDef}
use Rattle.dfs_states.specs.Calls.{Call, Radar, Begin, DropCheck, RegionChanged, moment_of, HasBegin}
use Rattle.dfs_states.specs.Meaning.{Spares, CheckCounts}
use Rattle.dfs_states.proofs.Splits.{split_cons, split_more, has_newest, has_older, has_cases, none_has, radar_older, radar_cases, kept_older, kept_more}

-- the call does nothing to a check of the slot, for the subchannel
pub record IsHarmless (f : Call) (khz slot : ℕ) : Type 0 where
  pub no_drop : f ≡ DropCheck slot → ⊥
  pub no_radar : (chan : ChanDef) → f ≡ Radar chan → IsCovered chan khz → ⊥
  pub same_region : (lasts : Bool) → f ≡ RegionChanged lasts → ⊥

-- the newest call is the beginning of the check
pub record Opens (f : Call) (calls : List Call) (khz slot end : ℕ) : Type 0 where
  pub chan : ChanDef
  pub length : ℕ
  pub begins : f ≡ Begin slot chan length
  pub covered : IsCovered chan khz
  pub ends : end ≡ moment_of calls + length

-- the check began before, and the newest call spares it too
pub record Outlasts (f : Call) (calls : List Call) (khz slot end : ℕ) : Type 0 where
  pub newer : List Call
  pub chan : ChanDef
  pub length : ℕ
  pub older : List Call
  pub begun : calls ≡ newer ++ Begin slot chan length ∷ older
  pub covered : IsCovered chan khz
  pub ends : end ≡ moment_of older + length
  pub spared : Spares (f ∷ newer) khz slot

pub spares_older : (f : Call) (newer : List Call) (khz slot : ℕ) → Spares (f ∷ newer) khz slot → Spares newer khz slot
spares_older f newer khz slot spared = record {
  kept = kept_older f newer slot spared.kept;
  no_radar = λ has. spared.no_radar (radar_older f newer khz has);
  same_region = λ lasts has. spared.same_region lasts (has_older f (RegionChanged lasts) newer has);
}

pub spares_none : (khz slot : ℕ) → Spares [] khz slot
spares_none khz slot = record {
  kept = λ newer between at. absurd (none_has (DropCheck slot) (record { newer = newer; older = between; at = at }));
  no_radar = λ has. none_has (Radar has.chan) has.met;
  same_region = λ lasts has. none_has (RegionChanged lasts) has;
}

-- a drop spares a check where another has begun in the slot since
spares_more : (f : Call) (newer : List Call) (khz slot : ℕ) → (f ≡ DropCheck slot → HasBegin newer slot)
    → ((chan : ChanDef) → f ≡ Radar chan → IsCovered chan khz → ⊥) → ((lasts : Bool) → f ≡ RegionChanged lasts → ⊥) → Spares newer khz slot → Spares (f ∷ newer) khz slot
spares_more f newer khz slot drop radar region spared = record {
  kept = kept_more f newer slot drop spared.kept;
  no_radar = λ has. elim (radar_cases f newer khz has) [
    | inl newest ↦ radar newest.0 newest.1 newest.2
    | inr older ↦ spared.no_radar older
  ];
  same_region = λ lasts has. elim (has_cases f (RegionChanged lasts) newer has) [
    | inl newest ↦ region lasts newest
    | inr older ↦ spared.same_region lasts older
  ];
}

pub counts_cases : (f : Call) (calls : List Call) (khz slot end : ℕ) → CheckCounts (f ∷ calls) khz slot end
    → Opens f calls khz slot end ⊎ Outlasts f calls khz slot end
counts_cases f calls khz slot end counts = elim (split_cons f calls counts.newer counts.older (Begin slot counts.chan counts.length) counts.begun) [
  | inl newest ↦ inl (record {
    chan = counts.chan;
    length = counts.length;
    begins = newest.1;
    covered = counts.covered;
    ends = counts.ends ∙ ap (λ xs. moment_of xs + counts.length) (sym newest.2);
  })
  | inr older ↦ inr (record {
    newer = older.0;
    chan = counts.chan;
    length = counts.length;
    older = counts.older;
    begun = older.2;
    covered = counts.covered;
    ends = counts.ends;
    spared = subst (λ xs. Spares xs khz slot) older.1 counts.spared;
  })
]

pub counts_outlasting : (f : Call) (calls : List Call) (khz slot end : ℕ) → Outlasts f calls khz slot end → CheckCounts (f ∷ calls) khz slot end
counts_outlasting f calls khz slot end lasts = record {
  newer = f ∷ lasts.newer;
  chan = lasts.chan;
  length = lasts.length;
  older = lasts.older;
  begun = split_more f calls lasts.newer lasts.older (Begin slot lasts.chan lasts.length) lasts.begun;
  covered = lasts.covered;
  ends = lasts.ends;
  spared = lasts.spared;
}

pub counts_before : (f : Call) (calls : List Call) (khz slot end : ℕ) → Outlasts f calls khz slot end → CheckCounts calls khz slot end
counts_before f calls khz slot end lasts = record {
  newer = lasts.newer;
  chan = lasts.chan;
  length = lasts.length;
  older = lasts.older;
  begun = lasts.begun;
  covered = lasts.covered;
  ends = lasts.ends;
  spared = spares_older f lasts.newer khz slot lasts.spared;
}

pub counts_begun : (calls : List Call) (khz slot : ℕ) (chan : ChanDef) (length end : ℕ) → IsCovered chan khz → end ≡ moment_of calls + length
    → CheckCounts (Begin slot chan length ∷ calls) khz slot end
counts_begun calls khz slot chan length end covered ends = record {
  newer = [];
  chan = chan;
  length = length;
  older = calls;
  begun = refl;
  covered = covered;
  ends = ends;
  spared = spares_none khz slot;
}

-- a check that counted outlasts a drop of the slot, where another has begun there since
pub outlasts_drop : (f : Call) (calls : List Call) (khz slot end : ℕ) (counts : CheckCounts calls khz slot end) → (f ≡ DropCheck slot → HasBegin counts.newer slot)
    → ((chan : ChanDef) → f ≡ Radar chan → IsCovered chan khz → ⊥) → ((lasts : Bool) → f ≡ RegionChanged lasts → ⊥) → Outlasts f calls khz slot end
outlasts_drop f calls khz slot end counts drop radar region = record {
  newer = counts.newer;
  chan = counts.chan;
  length = counts.length;
  older = counts.older;
  begun = counts.begun;
  covered = counts.covered;
  ends = counts.ends;
  spared = spares_more f counts.newer khz slot drop radar region counts.spared;
}

pub counts_harmless : (f : Call) (calls : List Call) (khz slot end : ℕ) → IsHarmless f khz slot → CheckCounts calls khz slot end → CheckCounts (f ∷ calls) khz slot end
counts_harmless f calls khz slot end harmless counts =
    counts_outlasting f calls khz slot end
    (outlasts_drop f calls khz slot end counts (λ is. absurd (harmless.no_drop is)) harmless.no_radar harmless.same_region)

-- where no check begins, those that count have counted
pub counts_earlier : (f : Call) (calls : List Call) (khz slot end : ℕ) → ((chan : ChanDef) (length : ℕ) → f ≡ Begin slot chan length → IsCovered chan khz → ⊥)
    → CheckCounts (f ∷ calls) khz slot end → CheckCounts calls khz slot end
counts_earlier f calls khz slot end other counts = elim (counts_cases f calls khz slot end counts) [
  | inl opens ↦ absurd (other opens.chan opens.length opens.begins opens.covered)
  | inr lasts ↦ counts_before f calls khz slot end lasts
]

-- radar on the subchannel leaves no check
pub counts_no_radar : (chan : ChanDef) (calls : List Call) (khz slot end : ℕ) → IsCovered chan khz → CheckCounts (Radar chan ∷ calls) khz slot end → ⊥
counts_no_radar chan calls khz slot end covered counts = elim (counts_cases (Radar chan) calls khz slot end counts) [
  | inl opens ↦ let begins : Radar chan ≡ Begin slot opens.chan opens.length = opens.begins in cc
  | inr lasts ↦ lasts.spared.no_radar (record { chan = chan; covered = covered; met = has_newest (Radar chan) lasts.newer })
]

-- a change of the region leaves none either
pub counts_no_region : (region : Bool) (calls : List Call) (khz slot end : ℕ) → CheckCounts (RegionChanged region ∷ calls) khz slot end → ⊥
counts_no_region region calls khz slot end counts = elim (counts_cases (RegionChanged region) calls khz slot end counts) [
  | inl opens ↦ let begins : RegionChanged region ≡ Begin slot opens.chan opens.length = opens.begins in cc
  | inr lasts ↦ lasts.spared.same_region region (has_newest (RegionChanged region) lasts.newer)
]
