-- What is kept of one channel, after a check has begun or was dropped.
use Rattle.std.proofs.Common.{◌≡◌, ℕ, ◌≤◌, ◌<◌, List, ◌∷◌, length, set, get_or, Bool, true, false, Some, arith, refl, sym, ap, subst, ◌∙◌, inl, inr}
use Rattle.std.proofs.lemmas.Bool.{cases_eq}
use Rattle.std.proofs.lemmas.List.{get_or-set_same, get_or-set_other}
use Rattle.chan_def.specs.Covered.{IsCovered}
use Rattle.chan_def.specs.declared.definition.ChanDef.{ChanDef}
use Rattle.dfs_states.specs.Calls.{Call, Begin, DropCheck, moment_of, HasBegin}
use Rattle.dfs_states.specs.Meaning.{HasNonoccupancy, CheckCounts, Runs, IsBusy, IsFreeSlot, EachMayBeCalled}
use Rattle.dfs_states.specs.StandsFor.{IsPlace}
use Rattle.dfs_states.specs.declared.place.Place.{Place}
use Rattle.dfs_states.proofs.Checks.{IsHarmless, counts_cases, counts_outlasting, counts_before, counts_begun, counts_harmless, counts_earlier, outlasts_drop}
use Rattle.dfs_states.proofs.Most.{most_same}
use Rattle.dfs_states.proofs.Places.{Tells, tells_still, place_kept}
use Rattle.dfs_states.proofs.Radar.{barred_older, barred_earlier}
use Rattle.dfs_states.proofs.Running.{same_begin, runs_begun, runs_dropped, counting_runs}
use Rattle.dfs_states.proofs.Lapses.{use_kept, lapsed_past}
use Rattle.dfs_states.proofs.Standing.{ended_counts, ended_at_once}

harmless_begin : (slot : ℕ) (chan : ChanDef) (n khz other : ℕ) → IsHarmless (Begin slot chan n) khz other
harmless_begin slot chan n khz other = record { no_drop = λ same. cc; no_radar = λ c same covered. cc; same_region = λ l same. cc }

-- the flags of the other slots stay, and that of this one is told
tells_set : (slot : ℕ) (chan : ChanDef) (n : ℕ) (calls : List Call) (khz : ℕ) (flags : List Bool) (flag : Bool) → slot < length flags
    → EachMayBeCalled (Begin slot chan n ∷ calls) → Tells (Begin slot chan n ∷ calls) khz slot flag → ((other : ℕ) → Tells calls khz other (get_or flags other false))
    → (other : ℕ) → Tells (Begin slot chan n ∷ calls) khz other (get_or (set flags slot flag) other false)
tells_set slot chan n calls khz flags flag within due here told other = elim (cases_eq other slot) [
  | inl same ↦
      let at : get_or (set flags slot flag) other false ≡ flag =
      subst (λ j. get_or (set flags slot flag) j false ≡ flag) (sym same) (get_or-set_same flags slot flag false within) in
      subst (λ b. Tells (Begin slot chan n ∷ calls) khz other b) (sym at) (subst (λ j. Tells (Begin slot chan n ∷ calls) khz j flag) (sym same) here)
  | inr apart ↦
      let at : get_or (set flags slot flag) other false ≡ get_or flags other false = get_or-set_other flags slot other flag false apart in
      subst (λ b. Tells (Begin slot chan n ∷ calls) khz other b) (sym at)
      (tells_still (Begin slot chan n) calls khz other (get_or flags other false) due
      (λ c l same. let slots : slot ≡ other = cc in apart (sym slots)) (harmless_begin slot chan n khz other) (told other))
]

-- in an idle slot no check counts that isn't done
idle_counts : (calls : List Call) (khz slot end : ℕ) → EachMayBeCalled calls → IsFreeSlot calls slot → moment_of calls < end → CheckCounts calls khz slot end → ⊥
idle_counts calls khz slot end due idle below counts =
    let runs = counting_runs calls khz slot end due counts below in
    idle (record { chan = runs.0; start = runs.1; end = end; runs = runs.2 })

-- a check begins on another channel
pub place_begun_apart : (opening : Bool) (slot : ℕ) (chan : ChanDef) (n : ℕ) (calls : List Call) (p : Place) → slot < length p.counts → EachMayBeCalled (Begin slot chan n ∷ calls)
    → (IsCovered chan p.khz → ⊥) → IsPlace opening calls p → IsPlace opening (Begin slot chan n ∷ calls) (record p { counts = set p.counts slot false })
place_begun_apart opening slot chan n calls p within due apart is =
    place_kept opening (Begin slot chan n) calls p (set p.counts slot false) (λ other o same. cc) (λ l same. cc) due refl (λ c same covered. cc)
    (λ other end done. counts_harmless (Begin slot chan n) calls p.khz other end (harmless_begin slot chan n p.khz other))
    (λ other end done. counts_earlier (Begin slot chan n) calls p.khz other end (elsewhere other))
    (tells_set slot chan n calls p.khz p.counts false within due here is.counting) is
  where
    elsewhere : (other : ℕ) (c : ChanDef) (l : ℕ) → Begin slot chan n ≡ Begin other c l → IsCovered c p.khz → ⊥
    elsewhere other c l same covered =
        let channels : chan ≡ c = cc in
        apart (subst (λ x. IsCovered x p.khz) (sym channels) covered)

    here : Tells (Begin slot chan n ∷ calls) p.khz slot false
    here c start end runs =
        let below = runs.runs in (
          λ set. absurd cc,
          λ counts. absurd (idle_counts calls p.khz slot end due.1 due.0.1 below
              (counts_earlier (Begin slot chan n) calls p.khz slot end (elsewhere slot) counts)),
        )

-- a check begins on this channel
pub place_begun : (opening : Bool) (slot : ℕ) (chan : ChanDef) (n : ℕ) (calls : List Call) (p : Place) → slot < length p.counts → EachMayBeCalled (Begin slot chan n ∷ calls)
    → IsCovered chan p.khz → 0 < n → IsPlace opening calls p → IsPlace opening (Begin slot chan n ∷ calls) (record p { counts = set p.counts slot true })
place_begun opening slot chan n calls p within due covered some is =
    place_kept opening (Begin slot chan n) calls p (set p.counts slot true) (λ other o same. cc) (λ l same. cc) due refl (λ c same covered'. cc)
    (λ other end done. counts_harmless (Begin slot chan n) calls p.khz other end (harmless_begin slot chan n p.khz other))
    before (tells_set slot chan n calls p.khz p.counts true within due here is.counting) is
  where
    before : (other end : ℕ) → end ≤ moment_of calls → CheckCounts (Begin slot chan n ∷ calls) p.khz other end → CheckCounts calls p.khz other end
    before other end done counts = elim (counts_cases (Begin slot chan n) calls p.khz other end counts) [
      | inl opens ↦
          let begins : Begin slot chan n ≡ Begin other opens.chan opens.length = opens.begins in
          let lengths : n ≡ opens.length = cc in
          let ends = opens.ends in
          absurd (omega arith)
      | inr lasts ↦ counts_before (Begin slot chan n) calls p.khz other end lasts
    ]

    here : Tells (Begin slot chan n ∷ calls) p.khz slot true
    here c start end runs =
        let begun = runs_begun calls slot chan c n start end runs in
        let starts = begun.1 in
        let ends = begun.2 in
        (λ set. counts_begun calls p.khz slot chan n end covered (omega arith), λ counts. refl)

at_once : (opening : Bool) (slot : ℕ) (chan : ChanDef) (calls : List Call) (p : Place) → EachMayBeCalled (Begin slot chan 0 ∷ calls) → IsCovered chan p.khz
    → IsPlace opening calls p → IsPlace opening (Begin slot chan 0 ∷ calls) (record p { since = Some (moment_of calls) })
at_once opening slot chan calls p due covered is = record {
  until = most_same (HasNonoccupancy calls p.khz) (HasNonoccupancy (Begin slot chan 0 ∷ calls) p.khz) p.until
      (barred_older (Begin slot chan 0) calls p.khz) (barred_earlier (Begin slot chan 0) calls p.khz (λ c same covered'. cc)) is.until;
  since = record {
    latest = record {
      holds = ended_at_once calls p.khz slot chan covered;
      none_above = λ end ended. (ended_counts (Begin slot chan 0 ∷ calls) p.khz end ended).2;
    };
    lapse = λ lapses lapsed. let past = lapsed_past (Begin slot chan 0 ∷ calls) p.khz (moment_of calls) due lapsed in absurd (omega arith);
  };
  used = use_kept (Begin slot chan 0) calls p.khz p.used (λ other o same. cc) is.used;
  counting = told;
}
  where
    told : (other : ℕ) → Tells (Begin slot chan 0 ∷ calls) p.khz other (get_or p.counts other false)
    told other = elim (cases_eq other slot) [
      | inl same ↦ λ c start end runs.
          let runs' : Runs (Begin slot chan 0 ∷ calls) slot c start end = subst (λ j. Runs (Begin slot chan 0 ∷ calls) j c start end) same runs in
          let begun = runs_begun calls slot chan c 0 start end runs' in
          let starts = begun.1 in
          let ends = begun.2 in
          let below = runs.runs in
          absurd (omega arith)
      | inr apart ↦
          tells_still (Begin slot chan 0) calls p.khz other (get_or p.counts other false) due
          (λ c l same. let slots : slot ≡ other = cc in apart (sym slots)) (harmless_begin slot chan 0 p.khz other) (is.counting other)
    ]

-- a check of length 0 begins on this channel, and is done
pub place_at_once : (opening : Bool) (slot : ℕ) (chan : ChanDef) (n moment : ℕ) (calls : List Call) (p : Place) → n ≡ 0 → moment_of calls ≡ moment
    → EachMayBeCalled (Begin slot chan n ∷ calls) → IsCovered chan p.khz → IsPlace opening calls p → IsPlace opening (Begin slot chan n ∷ calls) (record p { since = Some moment })
place_at_once opening slot chan n moment calls p none now due covered is =
    subst (λ m. IsPlace opening (Begin slot chan n ∷ calls) (record p { since = Some m })) now
    (subst (λ l. EachMayBeCalled (Begin slot chan l ∷ calls) → IsPlace opening (Begin slot chan l ∷ calls) (record p { since = Some (moment_of calls) })) (sym none)
    (λ due'. at_once opening slot chan calls p due' covered is) due)

-- the slot's check is dropped: those that stand for the channel still do, and what runs elsewhere runs on
pub place_dropped : (opening : Bool) (slot : ℕ) (calls : List Call) (p : Place) → EachMayBeCalled (DropCheck slot ∷ calls) → IsPlace opening calls p → IsPlace opening (DropCheck slot ∷ calls) p
place_dropped opening slot calls p due is =
    place_kept opening (DropCheck slot) calls p p.counts (λ other o same. cc) (λ l same. cc) due refl (λ c same covered. cc) outlasts
    (λ other end done. counts_earlier (DropCheck slot) calls p.khz other end (λ c n same covered. cc)) told is
  where
    outlasts : (other end : ℕ) → end ≤ moment_of calls → CheckCounts calls p.khz other end → CheckCounts (DropCheck slot ∷ calls) p.khz other end
    outlasts other end done counts =
        counts_outlasting (DropCheck slot) calls p.khz other end
        (outlasts_drop (DropCheck slot) calls p.khz other end counts begun (λ c same covered. cc) (λ l same. cc))
      where
        begun : DropCheck slot ≡ DropCheck other → HasBegin counts.newer other
        begun same =
            let slots : slot ≡ other = cc in
            let busy : IsBusy calls other = subst (λ j. IsBusy calls j) slots due.0 in
            let runs = busy.runs in
            elim (same_begin other counts.newer runs.newer counts.chan busy.chan counts.length runs.length counts.older runs.older (sym counts.begun ∙ runs.begun) runs.last) [
              | inl earlier ↦ earlier
              | inr same ↦
                  let lengths = same.1 in
                  let moments : moment_of counts.older ≡ moment_of runs.older = ap moment_of same.2 in
                  let starts = runs.starts in
                  let ends = runs.ends in
                  let ends' = counts.ends in
                  let below = runs.runs in
                  absurd (omega arith)
            ]

    told : (other : ℕ) → Tells (DropCheck slot ∷ calls) p.khz other (get_or p.counts other false)
    told other = elim (cases_eq other slot) [
      | inl same ↦ λ c start end runs. absurd (runs_dropped calls slot c start end (subst (λ j. Runs (DropCheck slot ∷ calls) j c start end) same runs))
      | inr apart ↦
          tells_still (DropCheck slot) calls p.khz other (get_or p.counts other false) due (λ c n same. cc)
          (record { no_drop = λ same. let slots : slot ≡ other = cc in apart (sym slots); no_radar = λ c same covered. cc; same_region = λ l same. cc }) (is.counting other)
    ]
