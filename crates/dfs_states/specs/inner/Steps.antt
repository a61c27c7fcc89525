-- What the steps of a book do to its parts, one by one.
use Rattle.std.specs.Prelude.{◌≡◌, ℕ, ◌<◌, ◌≤◌, ◌⊎◌, List, [], ◌∷◌, length, map, All, Option, Some, IsSomeAnd, slice_index_or, Bool, true, false, None}
use Rattle.chan_def.specs.Covered.{IsCovered}
use Rattle.chan_def.specs.declared.definition.ChanDef.{ChanDef}
use Rattle.dfs_states.specs.Calls.{Call, Advance, moment_of, lasts_of}
use Rattle.dfs_states.specs.Meaning.{EachMayBeCalled}
use Rattle.dfs_states.specs.StandsFor.{IsCheck, AreOperations, IsLongAgo, IsPlace}
use Rattle.dfs_states.specs.declared.check.Check.{Check}
use Rattle.dfs_states.specs.declared.place.Place.{Place}
use Rattle.dfs_states.specs.declared.span.Span.{Span}

-- each element of the new list follows the one at its place in the old list
pub record EachFollows {X : Type 0} (Follows : X → X → Type 0) (old new : List X) : Type 0 where
  pub as_long : length new ≡ length old
  pub each : (k : ℕ) (d : X) → k < length old → Follows (slice_index_or old k d) (slice_index_or new k d)

-- whatever calls the channel's old place stood for, where the premise holds of them, the new place stands for them and
-- this call
pub record PlaceFollows (Premise : Bool → List Call → Type 0) (call : Call) (old new : Place) : Type 0 where
  pub khz : new.khz ≡ old.khz
  pub stands : (opening : Bool) (calls : List Call) → EachMayBeCalled (call ∷ calls) → Premise opening calls → IsPlace opening calls old
      → IsPlace opening (call ∷ calls) new

-- the present moment, whether checks last, and the operations, as the calls leave them
pub record IsPresent (now : ℕ) (lasts : Bool) (operations : List (Option ChanDef)) (opening : Bool) (calls : List Call) : Type 0 where
  pub moment : moment_of calls ≡ now
  pub region : lasts_of opening calls ≡ lasts
  pub operating : AreOperations operations calls

-- the operation covers the channel with this centre, in kHz
abbrev pub OperatesOn : ℕ → Option ChanDef → Type 0
OperatesOn khz operation = IsSomeAnd operation (λ chan. IsCovered chan khz)

-- the frequency, in kHz, is one of the span's
pub record IsWithin (span : Span) (khz : ℕ) : Type 0 where
  pub from : span.low ≤ khz
  pub to : khz ≤ span.high

-- the span holds the centres of the subchannels of the slot's operation, and of those of the channel on which it operates next
pub record IsReach (operations : List (Option ChanDef)) (slot : ℕ) (chan : Option ChanDef) (span : Span) : Type 0 where
  pub ended : (khz : ℕ) → OperatesOn khz (slice_index_or operations slot None) → IsWithin span khz
  pub begun : (khz : ℕ) → OperatesOn khz chan → IsWithin span khz

-- what is left of a check, where checks last or lapse and its channel is in use or not: nothing where it has lapsed
abbrev pub IsRemaining : ℕ → Bool → Bool → Place → Option ℕ → Type 0
IsRemaining now lasts in_use p None = (end : ℕ) → p.since ≡ Some end → (lasts ≡ false) × (in_use ≡ false) × IsLongAgo now end p.used
IsRemaining now lasts in_use p (Some end) = (p.since ≡ Some end) × ((lasts ≡ true) ⊎ ((in_use ≡ true) ⊎ (IsLongAgo now end p.used → ⊥)))

-- whatever calls the slot's check stood for, it stands for them and the new moment
abbrev pub CheckFollows : ℕ → Option Check → Option Check → Type 0
CheckFollows moment old new =
    (calls : List Call) (slot : ℕ) → EachMayBeCalled (Advance moment ∷ calls) → IsCheck calls slot old → IsCheck (Advance moment ∷ calls) slot new

-- there is a check, and it is done
abbrev pub IsDone : ℕ → Option Check → Type 0
IsDone now None = ⊥
IsDone now (Some check) = check.end ≤ now

-- the check that runs in a slot counts for the channel, and it ends at this moment, which is past or present
pub record IsEnded (now : ℕ) (counts : Bool) (running : Option Check) (end : ℕ) : Type 0 where
  pub counting : counts ≡ true
  pub check : Check
  pub in_slot : running ≡ Some check
  pub ends : check.end ≡ end
  pub done : end ≤ now

-- the places of these channels, on which nothing has happened
pub record ArePlaces (channels : List ℕ) (places : List Place) : Type 0 where
  pub centres : map (λ p. p.khz) places ≡ channels
  pub each : (opening : Bool) → All (IsPlace opening []) places
