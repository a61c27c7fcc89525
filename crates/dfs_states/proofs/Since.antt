-- The latest end of a check, and whether it stands, after one more call.
use Rattle.std.proofs.Common.{◌≡◌, ℕ, ◌≤◌, ◌<◌, Bool, true, false, List, ◌∷◌, Option, Some, None, arith, refl, sym, subst, ◌∙◌, ◌⊎◌, inl, inr}
use Rattle.std.proofs.lemmas.Option.{none-some, same_Some}
use Rattle.chan_def.specs.declared.definition.ChanDef.{ChanDef}
use Rattle.dfs_states.specs.Calls.{Call, Advance, Operate, moment_of, lasts_of}
use Rattle.dfs_states.specs.Greatest.{IsMost}
use Rattle.dfs_states.specs.Meaning.{CheckEnded, CheckLapsed, CheckStands, NoCheckStands, HasOperation, EachMayBeCalled}
use Rattle.dfs_states.specs.StandsFor.{IsLongAgo, IsLastUse, IsSince, IsSinceOrNone, IsPlace}
use Rattle.dfs_states.specs.inner.Steps.{IsRemaining}
use Rattle.dfs_states.specs.declared.place.Place.{Place}
use Rattle.dfs_states.proofs.Lapses.{IsNoOperate, IsNoRegion, lasts_same, lapsed_older, lapsed_cases, lapsed_past, left_now, lapsed_left, long_later, lapse_next}
use Rattle.dfs_states.proofs.Standing.{ended_counts}

-- a check that stands did so before, if it had ended
stood_before : (opening : Bool) (f : Call) (calls : List Call) (khz end : ℕ) → lasts_of opening (f ∷ calls) ≡ lasts_of opening calls → CheckEnded calls khz end
    → CheckStands opening (f ∷ calls) khz end → CheckStands opening calls khz end
stood_before opening f calls khz end same ended stands = record {
  ended = ended;
  alive = elim stands.alive [
    | inl lasts ↦ inl (sym same ∙ lasts)
    | inr alive ↦ inr (λ lapsed. alive (lapsed_older f calls khz end lapsed))
  ];
}

pub none_kept : (opening : Bool) (f : Call) (calls : List Call) (khz : ℕ) → lasts_of opening (f ∷ calls) ≡ lasts_of opening calls
    → ((end : ℕ) → CheckEnded (f ∷ calls) khz end → CheckEnded calls khz end) → NoCheckStands opening calls khz → NoCheckStands opening (f ∷ calls) khz
none_kept opening f calls khz same back none = λ end stands. none end (stood_before opening f calls khz end same (back end stands.ended) stands)

-- the same checks have ended
pub since_kept : (opening : Bool) (f : Call) (calls : List Call) (khz : ℕ) (used since : Option ℕ) → IsNoOperate f → IsNoRegion f → EachMayBeCalled (f ∷ calls)
    → IsLastUse (f ∷ calls) khz used → ((end : ℕ) → CheckEnded calls khz end → CheckEnded (f ∷ calls) khz end)
    → ((end : ℕ) → CheckEnded (f ∷ calls) khz end → CheckEnded calls khz end) → IsSinceOrNone opening calls khz used since
    → IsSinceOrNone opening (f ∷ calls) khz used since
since_kept opening f calls khz used None apart region due use_is forth back none =
    none_kept opening f calls khz (lasts_same opening f calls region) back none
since_kept opening f calls khz used (Some end) apart region due use_is forth back is = record {
  latest = record { holds = forth end is.latest.holds; none_above = λ m ended. is.latest.none_above m (back m ended) };
  lapse = lapse_next opening f calls khz end used apart region due use_is is.lapse;
}

-- a check that ended only now is the latest
since_new : (opening : Bool) (f : Call) (calls : List Call) (khz end : ℕ) (used : Option ℕ) → EachMayBeCalled (f ∷ calls) → IsLastUse (f ∷ calls) khz used
    → CheckEnded (f ∷ calls) khz end → moment_of calls < end → ((m : ℕ) → CheckEnded (f ∷ calls) khz m → CheckEnded calls khz m ⊎ (m ≤ end))
    → IsSince opening (f ∷ calls) khz used end
since_new opening f calls khz end used due use_is ended late back = record {
  latest = record {
    holds = ended;
    none_above = λ m other. elim (back m other) [
      | inl was ↦ let past = (ended_counts calls khz m was).2 in omega arith
      | inr below ↦ below
    ];
  };
  lapse = λ lapses lapsed. elim (lapsed_cases f calls khz end lapsed) [
    | inl now ↦ left_now (f ∷ calls) khz end used use_is now
    | inr before ↦ let past = lapsed_past calls khz end due.1 before in absurd (omega arith)
  ];
}

-- the latest of the end so far and of those of the checks that end as a moment comes
pub since_advanced : (opening : Bool) (moment : ℕ) (calls : List Call) (khz : ℕ) (used since next : Option ℕ) (Ended : ℕ → Type 0) → EachMayBeCalled (Advance moment ∷ calls)
    → IsLastUse (Advance moment ∷ calls) khz used → ((end : ℕ) → CheckEnded calls khz end → CheckEnded (Advance moment ∷ calls) khz end)
    → ((end : ℕ) → Ended end → CheckEnded (Advance moment ∷ calls) khz end × (moment_of calls < end))
    → ((end : ℕ) → CheckEnded (Advance moment ∷ calls) khz end → CheckEnded calls khz end ⊎ Ended end)
    → IsMost (λ end. (since ≡ Some end) ⊎ Ended end) next → IsSinceOrNone opening calls khz used since
    → IsSinceOrNone opening (Advance moment ∷ calls) khz used next
since_advanced opening moment calls khz used None None Ended due use_is forth newly back latest none = λ end stands. elim (back end stands.ended) [
  | inl was ↦ none end (stood_before opening (Advance moment) calls khz end refl was stands)
  | inr ended ↦ latest end (inr ended)
]
since_advanced opening moment calls khz used (Some since) None Ended due use_is forth newly back latest is = absurd (latest since (inl refl))
since_advanced opening moment calls khz used None (Some next) Ended due use_is forth newly back latest none = elim latest.holds [
  | inl same ↦ absurd (none-some next same)
  | inr ended ↦
      since_new opening (Advance moment) calls khz next used due use_is (newly next ended).0 (newly next ended).1
      (λ m other. elim (back m other) [
        | inl was ↦ inl was
        | inr end ↦ inr (latest.none_above m (inr end))
      ])
]
since_advanced opening moment calls khz used (Some since) (Some next) Ended due use_is forth newly back latest is = elim latest.holds [
  | inl same ↦
      let ends : since ≡ next = same_Some since next same in
      let is' : IsSince opening calls khz used next = subst (λ n. IsSince opening calls khz used n) ends is in
      record {
        latest = record {
          holds = forth next is'.latest.holds;
          none_above = λ m other. elim (back m other) [
            | inl was ↦ is'.latest.none_above m was
            | inr end ↦ latest.none_above m (inr end)
          ];
        };
        lapse = lapse_next opening (Advance moment) calls khz next used (λ slot chan other. cc) (λ lasts other. cc) due use_is is'.lapse;
      }
  | inr ended ↦
      since_new opening (Advance moment) calls khz next used due use_is (newly next ended).0 (newly next ended).1
      (λ m other. elim (back m other) [
        | inl was ↦ inl was
        | inr end ↦ inr (latest.none_above m (inr end))
      ])
]

-- ---- what remains of the latest check

-- where its lapse is told by the present moment, none stands
none_remains : (opening : Bool) (calls : List Call) (khz : ℕ) (lasts in_use : Bool) (used since : Option ℕ) → lasts_of opening calls ≡ lasts
    → (in_use ≡ false → HasOperation calls khz → ⊥) → IsLastUse calls khz used
    → ((end : ℕ) → since ≡ Some end → (lasts ≡ false) × (in_use ≡ false) × IsLongAgo (moment_of calls) end used) → IsSinceOrNone opening calls khz used since
    → NoCheckStands opening calls khz
none_remains opening calls khz lasts in_use used None region out use_is gone none = none
none_remains opening calls khz lasts in_use used (Some since) region out use_is gone is = λ end stands.
    let told = gone since refl in
    let earlier = is.latest.none_above end stands.ended in
    let long = long_later (moment_of calls) (moment_of calls) since end used (omega arith) earlier told.2 in
    elim stands.alive [
      | inl lasting ↦ let lapses : lasts_of opening calls ≡ false = region ∙ told.0 in cc
      | inr alive ↦ alive (lapsed_left calls khz end used use_is (out told.1) long)
    ]

-- and where it isn't, it hasn't lapsed
unlapsed : (opening : Bool) (calls : List Call) (khz end : ℕ) (lasts in_use : Bool) (used : Option ℕ) → lasts_of opening calls ≡ lasts
    → (in_use ≡ true → HasOperation calls khz) → ((lasts ≡ true) ⊎ ((in_use ≡ true) ⊎ (IsLongAgo (moment_of calls) end used → ⊥)))
    → IsSince opening calls khz used end → lasts_of opening calls ≡ false → CheckLapsed calls khz end → ⊥
unlapsed opening calls khz end lasts in_use used region in_it stays is lapses lapsed =
    let left = is.lapse lapses lapsed in
    elim stays [
      | inl lasting ↦ let same = region ∙ lasting in cc
      | inr (inl using) ↦ left.unused (in_it using)
      | inr (inr recent) ↦ recent left.long_ago
    ]

pub remaining_most : (opening : Bool) (calls : List Call) (now : ℕ) (lasts in_use : Bool) (p : Place) (remaining : Option ℕ) → moment_of calls ≡ now
    → lasts_of opening calls ≡ lasts → (in_use ≡ true → HasOperation calls p.khz) → (in_use ≡ false → HasOperation calls p.khz → ⊥)
    → IsRemaining now lasts in_use p remaining → IsPlace opening calls p → IsMost (CheckStands opening calls p.khz) remaining
remaining_most opening calls now lasts in_use p None present region in_it out gone is =
    none_remains opening calls p.khz lasts in_use p.used p.since region out is.used
    (λ end at. subst (λ m. (lasts ≡ false) × (in_use ≡ false) × IsLongAgo m end p.used) (sym present) (gone end at)) is.since
remaining_most opening calls now lasts in_use p (Some end) present region in_it out stays is =
    let since : IsSince opening calls p.khz p.used end = subst (λ o. IsSinceOrNone opening calls p.khz p.used o) stays.0 is.since in
    let kept = subst (λ m. (lasts ≡ true) ⊎ ((in_use ≡ true) ⊎ (IsLongAgo m end p.used → ⊥))) (sym present) stays.1 in
    record {
      holds = record { ended = since.latest.holds; alive = alive (lasts_of opening calls) refl (unlapsed opening calls p.khz end lasts in_use p.used region in_it kept since) };
      none_above = λ m stands. since.latest.none_above m stands.ended;
    }
  where
    alive : (b : Bool) → lasts_of opening calls ≡ b → (lasts_of opening calls ≡ false → CheckLapsed calls p.khz end → ⊥)
        → (lasts_of opening calls ≡ true) ⊎ (CheckLapsed calls p.khz end → ⊥)
    alive true at never = inl at
    alive false at never = inr (never at)

-- an operation begins or ends: what has lapsed by then is gone for good
pub since_operated : (opening : Bool) (slot : ℕ) (chan : Option ChanDef) (calls : List Call) (now : ℕ) (lasts in_use : Bool) (p : Place) (remaining used : Option ℕ)
    → EachMayBeCalled (Operate slot chan ∷ calls) → moment_of calls ≡ now → lasts_of opening calls ≡ lasts → (in_use ≡ true → HasOperation calls p.khz)
    → (in_use ≡ false → HasOperation calls p.khz → ⊥) → IsRemaining now lasts in_use p remaining
    → ((end : ℕ) → CheckEnded calls p.khz end → CheckEnded (Operate slot chan ∷ calls) p.khz end)
    → ((end : ℕ) → CheckEnded (Operate slot chan ∷ calls) p.khz end → CheckEnded calls p.khz end) → IsPlace opening calls p
    → IsLastUse (Operate slot chan ∷ calls) p.khz used → IsSinceOrNone opening (Operate slot chan ∷ calls) p.khz used remaining
since_operated opening slot chan calls now lasts in_use p None used due present region in_it out gone forth back is use_is =
    none_kept opening (Operate slot chan) calls p.khz refl back
    (none_remains opening calls p.khz lasts in_use p.used p.since region out is.used
    (λ end at. subst (λ m. (lasts ≡ false) × (in_use ≡ false) × IsLongAgo m end p.used) (sym present) (gone end at)) is.since)
since_operated opening slot chan calls now lasts in_use p (Some end) used due present region in_it out stays forth back is use_is =
    let since : IsSince opening calls p.khz p.used end = subst (λ o. IsSinceOrNone opening calls p.khz p.used o) stays.0 is.since in
    let kept = subst (λ m. (lasts ≡ true) ⊎ ((in_use ≡ true) ⊎ (IsLongAgo m end p.used → ⊥))) (sym present) stays.1 in
    record {
      latest = record { holds = forth end since.latest.holds; none_above = λ m ended. since.latest.none_above m (back m ended) };
      lapse = λ lapses lapsed. elim (lapsed_cases (Operate slot chan) calls p.khz end lapsed) [
        | inl now ↦ left_now (Operate slot chan ∷ calls) p.khz end used use_is now
        | inr before ↦ absurd (unlapsed opening calls p.khz end lasts in_use p.used region in_it kept since lapses before)
      ];
    }
