-- What is kept of one channel, after one more call.
use Rattle.std.proofs.Common.{◌≡◌, ℕ, zero, suc, ◌+◌, ◌≤◌, ◌<◌, ◌↔◌, List, [], ◌∷◌, ◌++◌, length, get_or, Bool, true, false, Option, Some, None, arith, refl, sym, ap, subst, ◌⊎◌, inl, inr}
use Rattle.std.proofs.lemmas.Option.{same_Some}
use Rattle.chan_def.specs.Covered.{IsCovered}
use Rattle.chan_def.specs.declared.definition.ChanDef.{ChanDef}
use Rattle.dfs_states.specs.declared.moments.TheConstants.{NONOCCUPANCY_MS}
use Rattle.dfs_states.specs.Calls.{Call, Advance, Radar, Begin, Operate, RegionChanged, moment_of, lasts_of}
use Rattle.dfs_states.specs.Greatest.{IsMost}
use Rattle.dfs_states.specs.Meaning.{HasNonoccupancy, CheckCounts, CheckEnded, HasOperation, Runs, EachMayBeCalled}
use Rattle.dfs_states.specs.StandsFor.{IsCheck, AreChecks, IsLastUse, IsPlace}
use Rattle.dfs_states.specs.inner.Steps.{IsEnded, IsRemaining}
use Rattle.dfs_states.specs.declared.check.Check.{Check}
use Rattle.dfs_states.specs.declared.place.Place.{Place}
use Rattle.dfs_states.proofs.Checks.{IsHarmless, counts_harmless, counts_earlier, counts_no_radar, counts_no_region}
use Rattle.dfs_states.proofs.Most.{most_same, most_either}
use Rattle.dfs_states.proofs.Radar.{barred_cases, barred_older, barred_earlier, barred_newest}
use Rattle.dfs_states.proofs.Running.{runs_same, runs_before, counting_runs}
use Rattle.dfs_states.proofs.Lapses.{IsNoOperate, IsNoRegion, use_kept}
use Rattle.dfs_states.proofs.Since.{since_kept, since_advanced, since_operated}
use Rattle.dfs_states.proofs.Standing.{ended_counts, ended_same, ended_by, ended_cases}

-- the flag of a slot tells whether the check that runs there counts for the subchannel
abbrev pub Tells : List Call → ℕ → ℕ → Bool → Type 0
Tells calls khz slot flag = (chan : ChanDef) (start end : ℕ) → Runs calls slot chan start end → ((flag ≡ true) ↔ CheckCounts calls khz slot end)

-- a call that doesn't touch the slot's check leaves the flag right
pub tells_still : (f : Call) (calls : List Call) (khz slot : ℕ) (flag : Bool) → EachMayBeCalled (f ∷ calls) → ((c : ChanDef) (n : ℕ) → f ≡ Begin slot c n → ⊥)
    → IsHarmless f khz slot → Tells calls khz slot flag → Tells (f ∷ calls) khz slot flag
tells_still f calls khz slot flag due other harmless told = λ chan start end runs.
    let was = told chan start end (runs_before f calls slot chan start end other due runs) in (
      λ set. counts_harmless f calls khz slot end harmless (was.0 set),
      λ counts. was.1 (counts_earlier f calls khz slot end (λ c n is covered. other c n is) counts),
    )

pub place_unused : (khz : ℕ) (counts : List Bool) (opening : Bool) → IsPlace opening [] (record { khz = khz; until = None; since = None; used = None; counts = counts })
place_unused khz counts opening = record {
  until = λ until barred. none_met barred.newer barred.chan barred.older barred.met;
  since = λ end stands. let counts = (ended_counts [] khz end stands.ended).1 in none_begun counts.newer (ended_counts [] khz end stands.ended).0 counts.chan counts.length counts.older counts.begun;
  used = λ unused. λ moment was. unused (none_operates was.newer was.older was.at was.used);
  counting = λ slot chan start end runs. absurd (none_begun runs.newer slot chan runs.length runs.older runs.begun);
}
  where
    none_operates : (newer older : List Call) → [] ≡ newer ++ older → HasOperation older khz → HasOperation [] khz
    none_operates [] older at has = subst (λ xs. HasOperation xs khz) (sym at) has
    none_operates (x ∷ newer) older at has = cc

    none_met : (newer : List Call) (chan : ChanDef) (older : List Call) → [] ≡ newer ++ Radar chan ∷ older → ⊥
    none_met [] chan older at = cc
    none_met (x ∷ newer) chan older at = cc

    none_begun : (newer : List Call) (slot : ℕ) (chan : ChanDef) (length : ℕ) (older : List Call) → [] ≡ newer ++ Begin slot chan length ∷ older → ⊥
    none_begun [] slot chan length older at = cc
    none_begun (x ∷ newer) slot chan length older at = cc

-- no time passes, there is no radar on the channel, and the same checks stand for it
pub place_kept : (opening : Bool) (f : Call) (calls : List Call) (p : Place) (counts : List Bool) → IsNoOperate f → IsNoRegion f → EachMayBeCalled (f ∷ calls)
    → moment_of (f ∷ calls) ≡ moment_of calls
    → ((chan : ChanDef) → f ≡ Radar chan → IsCovered chan p.khz → ⊥)
    → ((slot end : ℕ) → end ≤ moment_of calls → CheckCounts calls p.khz slot end → CheckCounts (f ∷ calls) p.khz slot end)
    → ((slot end : ℕ) → end ≤ moment_of (f ∷ calls) → CheckCounts (f ∷ calls) p.khz slot end → CheckCounts calls p.khz slot end)
    → ((slot : ℕ) → Tells (f ∷ calls) p.khz slot (get_or counts slot false)) → IsPlace opening calls p
    → IsPlace opening (f ∷ calls) (record p { counts = counts })
place_kept opening f calls p counts no_operate no_region due now apart forth back told is = record {
  until = most_same (HasNonoccupancy calls p.khz) (HasNonoccupancy (f ∷ calls) p.khz) p.until (barred_older f calls p.khz) (barred_earlier f calls p.khz apart) is.until;
  since = since_kept opening f calls p.khz p.used p.since no_operate no_region due (use_kept f calls p.khz p.used no_operate is.used)
      (λ end. ended_same calls (f ∷ calls) p.khz end (sym now) (λ slot. forth slot end))
      (λ end. ended_same (f ∷ calls) calls p.khz end now (λ slot. back slot end)) is.since;
  used = use_kept f calls p.khz p.used no_operate is.used;
  counting = told;
}

pub place_advanced : (opening : Bool) (moment : ℕ) (calls : List Call) (checks : List (Option Check)) (p : Place) (since : Option ℕ) → EachMayBeCalled (Advance moment ∷ calls) → AreChecks checks calls
    → IsMost (λ end. (p.since ≡ Some end) ⊎ ((slot : ℕ) × IsEnded moment (get_or p.counts slot false) (get_or checks slot None) end)) since
    → IsPlace opening calls p → IsPlace opening (Advance moment ∷ calls) (record p { since = since })
place_advanced opening moment calls checks p since due are latest is = record {
  until = most_same (HasNonoccupancy calls p.khz) (HasNonoccupancy (Advance moment ∷ calls) p.khz) p.until
      (barred_older (Advance moment) calls p.khz) (barred_earlier (Advance moment) calls p.khz (λ chan same covered. cc)) is.until;
  since = since_advanced opening moment calls p.khz p.used p.since since Ended due used forth newly back latest is.since;
  used = used;
  counting = λ slot. tells_still (Advance moment) calls p.khz slot (get_or p.counts slot false) due (λ c n same. cc) (harmless slot) (is.counting slot);
}
  where
    Ended : ℕ → Type 0
    Ended end = (slot : ℕ) × IsEnded moment (get_or p.counts slot false) (get_or checks slot None) end

    harmless : (slot : ℕ) → IsHarmless (Advance moment) p.khz slot
    harmless slot = record { no_drop = λ same. cc; no_radar = λ chan same covered. cc; same_region = λ l same. cc }

    used : IsLastUse (Advance moment ∷ calls) p.khz p.used
    used = use_kept (Advance moment) calls p.khz p.used (λ slot chan same. cc) is.used

    forth : (end : ℕ) → CheckEnded calls p.khz end → CheckEnded (Advance moment ∷ calls) p.khz end
    forth end ended =
        let was = ended_counts calls p.khz end ended in
        let done = was.2 in
        let later = due.0.0 in
        ended_by moment calls p.khz was.0 end (counts_harmless (Advance moment) calls p.khz was.0 end (harmless was.0) was.1) (omega arith)

    newly : (end : ℕ) → Ended end → CheckEnded (Advance moment ∷ calls) p.khz end × (moment_of calls < end)
    newly end ended =
        let check = ended.1.check in
        let runs : Runs calls ended.0 check.chan check.start check.end = subst (λ o. IsCheck calls ended.0 o) ended.1.in_slot (are ended.0) in
        let counts : CheckCounts calls p.khz ended.0 check.end = (is.counting ended.0 check.chan check.start check.end runs).0 ended.1.counting in
        let below = runs.runs in
        let same = ended.1.ends in (
          ended_by moment calls p.khz ended.0 end
              (counts_harmless (Advance moment) calls p.khz ended.0 end (harmless ended.0) (subst (λ e. CheckCounts calls p.khz ended.0 e) ended.1.ends counts))
              ended.1.done,
          omega arith,
        )

    running : (slot end : ℕ) (o : Option Check) → get_or checks slot None ≡ o → IsCheck calls slot o → CheckCounts calls p.khz slot end → moment_of calls < end → end ≤ moment → Ended end
    running slot end None at idle counts below done =
        let runs = counting_runs calls p.khz slot end due.1 counts below in
        absurd (idle (record { chan = runs.0; start = runs.1; end = end; runs = runs.2 }))
    running slot end (Some check) at is_check counts below done =
        let runs = counting_runs calls p.khz slot end due.1 counts below in
        let same = (runs_same calls slot check.chan runs.0 check.start runs.1 check.end end is_check runs.2).2 in (
          slot,
          record {
            counting = (is.counting slot runs.0 runs.1 end runs.2).1 counts;
            check = check;
            in_slot = at;
            ends = same;
            done = done;
          },
        )

    back : (end : ℕ) → CheckEnded (Advance moment ∷ calls) p.khz end → CheckEnded calls p.khz end ⊎ Ended end
    back end some = elim (ended_cases moment calls p.khz end (λ slot. counts_earlier (Advance moment) calls p.khz slot end (λ c n same covered. cc)) some) [
      | inl was ↦ inl was
      | inr ended ↦ inr (running ended.0 end (get_or checks ended.0 None) refl (are ended.0) ended.1 ended.2 ended.3)
    ]

pub place_apart : (opening : Bool) (chan : ChanDef) (calls : List Call) (p : Place) → EachMayBeCalled (Radar chan ∷ calls) → (IsCovered chan p.khz → ⊥) → IsPlace opening calls p
    → IsPlace opening (Radar chan ∷ calls) p
place_apart opening chan calls p due apart is =
    place_kept opening (Radar chan) calls p p.counts (λ slot c same. cc) (λ l same. cc) due refl elsewhere (λ slot end done. counts_harmless (Radar chan) calls p.khz slot end (harmless slot))
    (λ slot end done. counts_earlier (Radar chan) calls p.khz slot end (λ c n same covered. cc))
    (λ slot. tells_still (Radar chan) calls p.khz slot (get_or p.counts slot false) due (λ c n same. cc) (harmless slot) (is.counting slot)) is
  where
    elsewhere : (c : ChanDef) → Radar chan ≡ Radar c → IsCovered c p.khz → ⊥
    elsewhere c same covered =
        let channels : chan ≡ c = cc in
        apart (subst (λ x. IsCovered x p.khz) (sym channels) covered)

    harmless : (slot : ℕ) → IsHarmless (Radar chan) p.khz slot
    harmless slot = record { no_drop = λ same. cc; no_radar = elsewhere; same_region = λ l same. cc }

-- the flags of a channel for which no check counts
abbrev pub unset : List Bool
unset = false ∷ false ∷ false ∷ false ∷ false ∷ false ∷ false ∷ false ∷ []

unset_more : (flags : List Bool) → ((slot : ℕ) → get_or flags slot false ≡ false) → (slot : ℕ) → get_or (false ∷ flags) slot false ≡ false
unset_more flags all zero = refl
unset_more flags all (suc slot) = all slot

unset_at : (slot : ℕ) → get_or unset slot false ≡ false
unset_at = grown 8
  where
    flags : ℕ → List Bool
    flags zero = []
    flags (suc n) = false ∷ flags n

    grown : (n : ℕ) (slot : ℕ) → get_or (flags n) slot false ≡ false
    grown zero slot = refl
    grown (suc n) slot = unset_more (flags n) (grown n) slot

none_counts : (f : Call) (calls : List Call) (khz : ℕ) → ((slot end : ℕ) → CheckCounts (f ∷ calls) khz slot end → ⊥) → (slot : ℕ)
    → Tells (f ∷ calls) khz slot (get_or unset slot false)
none_counts f calls khz none slot = λ chan start end runs.
    let at = unset_at slot in
    (λ set. absurd cc, λ counts. absurd (none slot end counts))

pub place_met : (opening : Bool) (chan : ChanDef) (moment : ℕ) (calls : List Call) (p : Place) (until : Option ℕ) → moment_of calls ≡ moment → IsCovered chan p.khz
    → IsMost (λ end. (p.until ≡ Some end) ⊎ (Some (moment + NONOCCUPANCY_MS) ≡ Some end)) until → IsPlace opening calls p
    → IsPlace opening (Radar chan ∷ calls) (record p { until = until; since = None; counts = unset })
place_met opening chan moment calls p until now covered latest is = record {
  until = most_same (λ end. HasNonoccupancy calls p.khz end ⊎ (Some (moment + NONOCCUPANCY_MS) ≡ Some end)) (HasNonoccupancy (Radar chan ∷ calls) p.khz) until forth back
      (most_either (HasNonoccupancy calls p.khz) (λ end. Some (moment + NONOCCUPANCY_MS) ≡ Some end) p.until until is.until latest);
  since = λ end stands. let was = ended_counts (Radar chan ∷ calls) p.khz end stands.ended in none was.0 end was.1;
  used = use_kept (Radar chan) calls p.khz p.used (λ slot c same. cc) is.used;
  counting = none_counts (Radar chan) calls p.khz none;
}
  where
    none : (slot end : ℕ) → CheckCounts (Radar chan ∷ calls) p.khz slot end → ⊥
    none slot end counts = counts_no_radar chan calls p.khz slot end covered counts

    forth : (end : ℕ) → HasNonoccupancy calls p.khz end ⊎ (Some (moment + NONOCCUPANCY_MS) ≡ Some end) → HasNonoccupancy (Radar chan ∷ calls) p.khz end
    forth end (inl barred) = barred_older (Radar chan) calls p.khz end barred
    forth end (inr same) =
        let ends : moment + NONOCCUPANCY_MS ≡ end = same_Some (moment + NONOCCUPANCY_MS) end same in
        barred_newest chan calls p.khz end covered (omega arith)

    back : (end : ℕ) → HasNonoccupancy (Radar chan ∷ calls) p.khz end → HasNonoccupancy calls p.khz end ⊎ (Some (moment + NONOCCUPANCY_MS) ≡ Some end)
    back end barred = elim (barred_cases (Radar chan) calls p.khz end barred) [
      | inl newest ↦
          let ends = newest.3 in
          let same : moment + NONOCCUPANCY_MS ≡ end = omega arith in
          inr (ap (λ n. Some n) same)
      | inr older ↦ inl older
    ]

pub place_region : (opening lasts : Bool) (calls : List Call) (p : Place) → IsPlace opening calls p
    → IsPlace opening (RegionChanged lasts ∷ calls) (record p { since = None; counts = unset })
place_region opening lasts calls p is = record {
  until = most_same (HasNonoccupancy calls p.khz) (HasNonoccupancy (RegionChanged lasts ∷ calls) p.khz) p.until
      (barred_older (RegionChanged lasts) calls p.khz) (barred_earlier (RegionChanged lasts) calls p.khz (λ chan same covered. cc)) is.until;
  since = λ end stands. let was = ended_counts (RegionChanged lasts ∷ calls) p.khz end stands.ended in counts_no_region lasts calls p.khz was.0 end was.1;
  used = use_kept (RegionChanged lasts) calls p.khz p.used (λ slot c same. cc) is.used;
  counting = none_counts (RegionChanged lasts) calls p.khz (λ slot end. counts_no_region lasts calls p.khz slot end);
}

-- an operation begins or ends in a slot
pub place_operated : (opening : Bool) (slot : ℕ) (chan : Option ChanDef) (calls : List Call) (now : ℕ) (lasts in_use : Bool) (p : Place) (remaining used : Option ℕ)
    → EachMayBeCalled (Operate slot chan ∷ calls) → moment_of calls ≡ now → lasts_of opening calls ≡ lasts → (in_use ≡ true → HasOperation calls p.khz)
    → (in_use ≡ false → HasOperation calls p.khz → ⊥) → IsRemaining now lasts in_use p remaining → IsLastUse (Operate slot chan ∷ calls) p.khz used → IsPlace opening calls p
    → IsPlace opening (Operate slot chan ∷ calls) (record p { since = remaining; used = used })
place_operated opening slot chan calls now lasts in_use p remaining used due present region in_it out remains use_is is = record {
  until = most_same (HasNonoccupancy calls p.khz) (HasNonoccupancy (Operate slot chan ∷ calls) p.khz) p.until
      (barred_older (Operate slot chan) calls p.khz) (barred_earlier (Operate slot chan) calls p.khz (λ c same covered. cc)) is.until;
  since = since_operated opening slot chan calls now lasts in_use p remaining used due present region in_it out remains
      (λ end. ended_same calls (Operate slot chan ∷ calls) p.khz end refl (λ other done. counts_harmless (Operate slot chan) calls p.khz other end (harmless other)))
      (λ end. ended_same (Operate slot chan ∷ calls) calls p.khz end refl (λ other done. counts_earlier (Operate slot chan) calls p.khz other end (λ c n same covered. cc))) is use_is;
  used = use_is;
  counting = λ other. tells_still (Operate slot chan) calls p.khz other (get_or p.counts other false) due (λ c n same. cc) (harmless other) (is.counting other);
}
  where
    harmless : (other : ℕ) → IsHarmless (Operate slot chan) p.khz other
    harmless other = record { no_drop = λ same. cc; no_radar = λ c same covered. cc; same_region = λ l same. cc }
