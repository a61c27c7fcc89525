-- A call that came is the newest one, or it came before that.
use Rattle.std.proofs.Common.{◌≡◌, ℕ, List, [], ◌∷◌, ◌++◌, refl, ap, subst, ◌⊎◌, inl, inr}
use Rattle.chan_def.specs.Covered.{IsCovered}
use Rattle.chan_def.specs.declared.definition.ChanDef.{ChanDef}
use Rattle.dfs_states.specs.Calls.{Call, Radar, Begin, DropCheck, HasCall, HasBegin, HasRadarCall, IsUndropped}

pub split_cons : (f : Call) (calls newer older : List Call) (g : Call) → f ∷ calls ≡ newer ++ g ∷ older
    → ((newer ≡ []) × (f ≡ g) × (calls ≡ older)) ⊎ ((rest : List Call) × (newer ≡ f ∷ rest) × (calls ≡ rest ++ g ∷ older))
split_cons f calls [] older g at = inl (refl, cc, cc)
split_cons f calls (x ∷ newer) older g at = inr (newer, cc, cc)

pub split_more : (f : Call) (calls newer older : List Call) (g : Call) → calls ≡ newer ++ g ∷ older → f ∷ calls ≡ (f ∷ newer) ++ g ∷ older
split_more f calls newer older g at = ap (λ xs. f ∷ xs) at

pub has_newest : (f : Call) (calls : List Call) → HasCall (f ∷ calls) f
has_newest f calls = record { newer = []; older = calls; at = refl }

pub has_older : (f g : Call) (calls : List Call) → HasCall calls g → HasCall (f ∷ calls) g
has_older f g calls has = record { newer = f ∷ has.newer; older = has.older; at = split_more f calls has.newer has.older g has.at }

pub has_cases : (f g : Call) (calls : List Call) → HasCall (f ∷ calls) g → (f ≡ g) ⊎ HasCall calls g
has_cases f g calls has = elim (split_cons f calls has.newer has.older g has.at) [
  | inl newest ↦ inl newest.1
  | inr older ↦ inr (record { newer = older.0; older = has.older; at = older.2 })
]

pub none_has : (g : Call) → HasCall [] g → ⊥
none_has g has = nothing has.newer has.older has.at
  where
    nothing : (newer older : List Call) → [] ≡ newer ++ g ∷ older → ⊥
    nothing [] older at = cc
    nothing (x ∷ newer) older at = cc

pub begin_older : (f : Call) (calls : List Call) (slot : ℕ) → HasBegin calls slot → HasBegin (f ∷ calls) slot
begin_older f calls slot has =
    record { chan = has.chan; length = has.length; begun = has_older f (Begin slot has.chan has.length) calls has.begun }

pub begin_newest : (calls : List Call) (slot : ℕ) (chan : ChanDef) (length : ℕ) → HasBegin (Begin slot chan length ∷ calls) slot
begin_newest calls slot chan length = record { chan = chan; length = length; begun = has_newest (Begin slot chan length) calls }

pub begin_cases : (f : Call) (calls : List Call) (slot : ℕ) → HasBegin (f ∷ calls) slot
    → ((chan : ChanDef) × (length : ℕ) × (f ≡ Begin slot chan length)) ⊎ HasBegin calls slot
begin_cases f calls slot has = elim (has_cases f (Begin slot has.chan has.length) calls has.begun) [
  | inl newest ↦ inl (has.chan, has.length, newest)
  | inr older ↦ inr (record { chan = has.chan; length = has.length; begun = older })
]

pub radar_older : (f : Call) (calls : List Call) (khz : ℕ) → HasRadarCall calls khz → HasRadarCall (f ∷ calls) khz
radar_older f calls khz has =
    record { chan = has.chan; covered = has.covered; met = has_older f (Radar has.chan) calls has.met }

pub radar_cases : (f : Call) (calls : List Call) (khz : ℕ) → HasRadarCall (f ∷ calls) khz
    → ((chan : ChanDef) × (f ≡ Radar chan) × IsCovered chan khz) ⊎ HasRadarCall calls khz
radar_cases f calls khz has = elim (has_cases f (Radar has.chan) calls has.met) [
  | inl newest ↦ inl (has.chan, newest, has.covered)
  | inr older ↦ inr (record { chan = has.chan; covered = has.covered; met = older })
]

pub kept_older : (f : Call) (newer : List Call) (slot : ℕ) → IsUndropped (f ∷ newer) slot → IsUndropped newer slot
kept_older f newer slot kept = λ n between at. kept (f ∷ n) between (split_more f newer n between (DropCheck slot) at)

pub kept_more : (f : Call) (newer : List Call) (slot : ℕ) → (f ≡ DropCheck slot → HasBegin newer slot) → IsUndropped newer slot → IsUndropped (f ∷ newer) slot
kept_more f newer slot still kept = λ n between at. elim (split_cons f newer n between (DropCheck slot) at) [
  | inl newest ↦ subst (λ xs. HasBegin xs slot) newest.2 (still newest.1)
  | inr older ↦ kept older.0 between older.2
]

-- a check that isn't dropped before the next one begins, where none begins, isn't dropped
pub kept_last : (newer : List Call) (slot : ℕ) → IsUndropped newer slot → (HasBegin newer slot → ⊥) → HasCall newer (DropCheck slot) → ⊥
kept_last newer slot kept last has = last (after has.newer has.older has.at (kept has.newer has.older has.at))
  where
    after : (n between : List Call) → newer ≡ n ++ DropCheck slot ∷ between → HasBegin between slot → HasBegin newer slot
    after n between at begun = subst (λ xs. HasBegin xs slot) (at-sym n between at) (deeper n between begun)
      where
        at-sym : (n between : List Call) → newer ≡ n ++ DropCheck slot ∷ between → n ++ DropCheck slot ∷ between ≡ newer
        at-sym n between at = cc

        deeper : (n between : List Call) → HasBegin between slot → HasBegin (n ++ DropCheck slot ∷ between) slot
        deeper [] between begun = begin_older (DropCheck slot) between slot begun
        deeper (x ∷ n) between begun = begin_older x (n ++ DropCheck slot ∷ between) slot (deeper n between begun)
