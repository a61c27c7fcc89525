-- What is kept of a channel beside the operation that begins or ends.
use Rattle.std.proofs.Common.{◌≡◌, ℕ, ◌+◌, ◌-◌, ◌/◌, ◌≤◌, Bool, false, List, ◌∷◌, Option, Some, None, get_or, arith, refl, sym, subst, inl, inr}
use Rattle.std.proofs.lemmas.Bool.{cases_eq}
use Rattle.std.proofs.lemmas.Bool.Decides.{nat_tests}
use Rattle.chan_def.specs.Covered.{IsInside}
use Rattle.chan_def.specs.declared.definition.ChanDef.{ChanDef}
use Rattle.dfs_states.specs.Calls.{Call, Operate, slot_operation, lasts_of}
use Rattle.dfs_states.specs.Meaning.{HasNonoccupancy, HasOperation, CheckEnded, CheckLapsed, EachMayBeCalled}
use Rattle.dfs_states.specs.StandsFor.{AreOperations, IsLastUse, IsPlace, IsSinceOrNone, OutlastsLapse}
use Rattle.dfs_states.specs.inner.Steps.{IsReach, IsWithin, OperatesOn}
use Rattle.dfs_states.specs.declared.place.Place.{Place}
use Rattle.dfs_states.specs.declared.span.Span.{Span}
use Rattle.dfs_states.proofs.Checks.{IsHarmless, counts_harmless, counts_earlier}
use Rattle.dfs_states.proofs.Lapses.{lapsed_cases, left_now, use_next}
use Rattle.dfs_states.proofs.Most.{most_same}
use Rattle.dfs_states.proofs.Places.{tells_still}
use Rattle.dfs_states.proofs.Radar.{barred_older, barred_earlier}
use Rattle.dfs_states.proofs.Since.{none_kept}
use Rattle.dfs_states.proofs.Standing.{ended_same}

-- the subchannels of a channel of this width round this centre, in kHz
pub inside_span : (width centre khz : ℕ) (span : Span) → span.low ≡ centre + 10000 - width / 2 → span.high ≡ centre + width / 2 - 10000 → IsInside width centre khz
    → IsWithin span khz
inside_span width centre khz span low high inside =
    let within = inside.1.within in
    let at = inside.1.at in
    record { from = omega arith; to = omega arith }

told : (slot other : ℕ) (chan : Option ChanDef) (calls : List Call) → slot ≡ other → slot_operation (Operate slot chan ∷ calls) other ≡ chan
told slot other chan calls same = grind (arith, nat_tests)

untold : (slot other : ℕ) (chan : Option ChanDef) (calls : List Call) → (slot ≡ other → ⊥) → slot_operation (Operate slot chan ∷ calls) other ≡ slot_operation calls other
untold slot other chan calls apart = grind (arith, nat_tests)

-- beside it, a channel that is in use after it was so before
pub used_before : (operations : List (Option ChanDef)) (slot : ℕ) (chan : Option ChanDef) (span : Span) (calls : List Call) (khz : ℕ) → IsReach operations slot chan span
    → (IsWithin span khz → ⊥) → HasOperation (Operate slot chan ∷ calls) khz → HasOperation calls khz
used_before operations slot chan span calls khz reach beside has = elim (cases_eq slot has.slot) [
  | inl same ↦ absurd (beside (reach.begun khz (subst (OperatesOn khz) (told slot has.slot chan calls same) has.covers)))
  | inr apart ↦ record { slot = has.slot; covers = subst (OperatesOn khz) (untold slot has.slot chan calls apart) has.covers }
]

-- and one that was in use before is so after it
pub used_after : (operations : List (Option ChanDef)) (slot : ℕ) (chan : Option ChanDef) (span : Span) (calls : List Call) (khz : ℕ) → AreOperations operations calls
    → IsReach operations slot chan span → (IsWithin span khz → ⊥) → HasOperation calls khz → HasOperation (Operate slot chan ∷ calls) khz
used_after operations slot chan span calls khz are reach beside has = elim (cases_eq slot has.slot) [
  | inl same ↦
      let here : OperatesOn khz (get_or operations slot no_chan) =
      subst (λ k. OperatesOn khz (get_or operations k no_chan)) (sym same) (subst (OperatesOn khz) (sym (are has.slot)) has.covers) in
      absurd (beside (reach.ended khz here))
  | inr apart ↦ record { slot = has.slot; covers = subst (OperatesOn khz) (sym (untold slot has.slot chan calls apart)) has.covers }
]
  where
    no_chan : Option ChanDef
    no_chan = None

lapse_beside : (opening : Bool) (slot : ℕ) (chan : Option ChanDef) (calls : List Call) (khz end : ℕ) (used : Option ℕ)
    → (HasOperation (Operate slot chan ∷ calls) khz → HasOperation calls khz) → IsLastUse (Operate slot chan ∷ calls) khz used
    → (lasts_of opening calls ≡ false → CheckLapsed calls khz end → OutlastsLapse calls khz end used) → lasts_of opening calls ≡ false
    → CheckLapsed (Operate slot chan ∷ calls) khz end → OutlastsLapse (Operate slot chan ∷ calls) khz end used
lapse_beside opening slot chan calls khz end used before use_is was lapses lapsed = elim (lapsed_cases (Operate slot chan) calls khz end lapsed) [
  | inl now ↦ left_now (Operate slot chan ∷ calls) khz end used use_is now
  | inr earlier ↦
      let left = was lapses earlier in
      record { unused = λ has. left.unused (before has); long_ago = left.long_ago }
]

since_beside : (opening : Bool) (slot : ℕ) (chan : Option ChanDef) (calls : List Call) (khz : ℕ) (used since : Option ℕ)
    → (HasOperation (Operate slot chan ∷ calls) khz → HasOperation calls khz) → IsLastUse (Operate slot chan ∷ calls) khz used
    → ((end : ℕ) → CheckEnded calls khz end → CheckEnded (Operate slot chan ∷ calls) khz end)
    → ((end : ℕ) → CheckEnded (Operate slot chan ∷ calls) khz end → CheckEnded calls khz end) → IsSinceOrNone opening calls khz used since
    → IsSinceOrNone opening (Operate slot chan ∷ calls) khz used since
since_beside opening slot chan calls khz used None before use_is forth back none = none_kept opening (Operate slot chan) calls khz refl back none
since_beside opening slot chan calls khz used (Some end) before use_is forth back is = record {
  latest = record { holds = forth end is.latest.holds; none_above = λ m ended. is.latest.none_above m (back m ended) };
  lapse = lapse_beside opening slot chan calls khz end used before use_is is.lapse;
}

-- a channel that is in use after the operation as before it stays as it is
pub place_beside : (opening : Bool) (slot : ℕ) (chan : Option ChanDef) (calls : List Call) (p : Place) → EachMayBeCalled (Operate slot chan ∷ calls)
    → (HasOperation (Operate slot chan ∷ calls) p.khz → HasOperation calls p.khz) → (HasOperation calls p.khz → HasOperation (Operate slot chan ∷ calls) p.khz)
    → IsPlace opening calls p → IsPlace opening (Operate slot chan ∷ calls) p
place_beside opening slot chan calls p due before after is =
    let use_is : IsLastUse (Operate slot chan ∷ calls) p.khz p.used = λ unused.
    use_next (Operate slot chan) calls p.khz p.used (λ has. unused (after has)) is.used unused in
    record {
      until = most_same (HasNonoccupancy calls p.khz) (HasNonoccupancy (Operate slot chan ∷ calls) p.khz) p.until
          (barred_older (Operate slot chan) calls p.khz) (barred_earlier (Operate slot chan) calls p.khz (λ c same covered. cc)) is.until;
      since = since_beside opening slot chan calls p.khz p.used p.since before use_is
          (λ end. ended_same calls (Operate slot chan ∷ calls) p.khz end refl (λ other done. counts_harmless (Operate slot chan) calls p.khz other end (harmless other)))
          (λ end. ended_same (Operate slot chan ∷ calls) calls p.khz end refl (λ other done. counts_earlier (Operate slot chan) calls p.khz other end (λ c n same covered. cc))) is.since;
      used = use_is;
      counting = λ other. tells_still (Operate slot chan) calls p.khz other (get_or p.counts other false) due (λ c n same. cc) (harmless other) (is.counting other);
    }
  where
    harmless : (other : ℕ) → IsHarmless (Operate slot chan) p.khz other
    harmless other = record { no_drop = λ same. cc; no_radar = λ c same covered. cc; same_region = λ l same. cc }
