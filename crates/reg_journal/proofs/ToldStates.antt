-- What is decided over each journal: whether the subchannel is quiet, whether a check stands for it, whether one has lapsed; and so
-- there is a state.
use Rattle.std.proofs.Common.{◌≡◌, ℕ, zero, suc, ◌+◌, ◌<◌, ◌≤◌, ◌⊎◌, List, [], ◌∷◌, ◌++◌, Option, Some, None, IsSomeAnd, IsTrue, arith, refl, sym, subst, inl, inr}
use Rattle.std.proofs.lemmas.Bool.{cases_eq, cases_lt}
use Rattle.freq_range.proofs.Deciding.{Told, Tells, tells_option, tells_through, told_as, told_both, told_le}
use Rattle.rule_tables.specs.Regions.{region_number}
use Rattle.rule_tables.specs.declared.code.Region.{Region}
use Rattle.rule_tables.specs.declared.code.Region.TheVariants.{Unset, Fcc, Etsi, Jp}
use Rattle.rule_tables.specs.declared.domain.Domain.{Domain}
use Rattle.chan_def.specs.Covered.{IsCovered}
use Rattle.chan_def.specs.Kinds.{initiates}
use Rattle.chan_def.specs.declared.definition.ChanDef.{ChanDef}
use Rattle.chan_flags.proofs.Ends.{Ends, Upward, ends_as, ends_either, ends_none, ends_one, upward}
use Rattle.chan_flags.proofs.Existing.{told_covered, told_not, told_true}
use Rattle.chan_flags.proofs.Told.{told_either}
use Rattle.dfs_states.specs.Greatest.{IsGreatest}
use Rattle.dfs_states.specs.declared.dfs.Dfs.{Dfs}
use Rattle.dfs_states.specs.declared.dfs.Dfs.TheVariants.{Usable, Unavailable, Available}
use Rattle.dfs_states.specs.declared.moments.TheConstants.{NONOCCUPANCY_MS, UNUSED_CHECK_MS}
use Rattle.reg_journal.specs.Applicable.{region_of}
use Rattle.reg_journal.specs.Facts.{Journal, radar_met, check_begun, check_dropped}
use Rattle.reg_journal.specs.Present.{Iface, Operation, ifaces_on, now_of, operation_of, radio_of}
use Rattle.reg_journal.specs.Radar.{HasCheck, HasLapsed, HasRadar, IsBarred, IsKept, IsQuiet, IsState, IsUse, IsUsed, KeepsRegion, NoneStands, Stands, WasUsedAt}
use Rattle.reg_journal.proofs.Splitting.{SomeSplit, ends_split, told_member, told_split}

-- ---- regions

region_numbered : ℕ → Region
region_numbered zero = Unset
region_numbered (suc zero) = Fcc
region_numbered (suc (suc zero)) = Etsi
region_numbered (suc (suc (suc n))) = Jp

pub tells_region : Tells Region
unfolding region_numbered
tells_region = tells_through {A = Region} {B = ℕ} region_number region_numbered back cases_eq
  where
    back : (r : Region) → region_numbered (region_number r) ≡ r
    back Unset = refl
    back Fcc = refl
    back Etsi = refl
    back Jp = refl

-- ---- facts that came

-- the list begins with radar of the radio on the subchannel
abbrev BeginsWithRadar : ℕ → ℕ → Journal → Type 0
BeginsWithRadar r s [] = ⊥
BeginsWithRadar r s (radar_met q chan ∷ older) = (q ≡ r) × IsCovered chan s
BeginsWithRadar r s (f ∷ older) = ⊥

told_begins_with_radar : (r s : ℕ) (facts : Journal) → Told (BeginsWithRadar r s facts)
told_begins_with_radar r s [] = inr (λ is. is)
told_begins_with_radar r s (radar_met q chan ∷ older) = told_both (cases_eq q r) (told_covered chan s)
told_begins_with_radar r s (f ∷ older) = inr (λ is. is)

radar_there : (r s : ℕ) (facts : Journal) → SomeSplit (λ newer older. BeginsWithRadar r s older) facts → HasRadar facts r s
radar_there r s facts (newer, [], at, is) = absurd is
radar_there r s facts (newer, radar_met q chan ∷ older, at, (same, covered)) = record {
  newer = newer;
  chan = chan;
  older = older;
  met = subst (λ n. facts ≡ newer ++ radar_met n chan ∷ older) same at;
  covered = covered;
}
radar_there r s facts (newer, f ∷ older, at, is) = absurd is

told_radar : (facts : Journal) (r s : ℕ) → Told (HasRadar facts r s)
told_radar facts r s = told_as (radar_there r s facts) (λ has. (has.newer, radar_met r has.chan ∷ has.older, has.met, (refl, has.covered)))
    (told_split (λ newer older. BeginsWithRadar r s older) (λ newer older. told_begins_with_radar r s older) facts)

-- the list begins with a check on the interface
abbrev BeginsWithCheck : ℕ → Journal → Type 0
BeginsWithCheck i [] = ⊥
BeginsWithCheck i (check_begun j chan length ∷ older) = j ≡ i
BeginsWithCheck i (f ∷ older) = ⊥

told_begins_with_check : (i : ℕ) (facts : Journal) → Told (BeginsWithCheck i facts)
told_begins_with_check i [] = inr (λ is. is)
told_begins_with_check i (check_begun j chan length ∷ older) = cases_eq j i
told_begins_with_check i (f ∷ older) = inr (λ is. is)

check_there : (i : ℕ) (facts : Journal) → SomeSplit (λ newer older. BeginsWithCheck i older) facts → HasCheck facts i
check_there i facts (newer, [], at, is) = absurd is
check_there i facts (newer, check_begun j chan length ∷ older, at, same) = record {
  newer = newer;
  chan = chan;
  length = length;
  older = older;
  begun = subst (λ n. facts ≡ newer ++ check_begun n chan length ∷ older) same at;
}
check_there i facts (newer, f ∷ older, at, is) = absurd is

pub told_check : (facts : Journal) (i : ℕ) → Told (HasCheck facts i)
told_check facts i = told_as (check_there i facts) (λ has. (has.newer, check_begun i has.chan has.length ∷ has.older, has.begun, refl))
    (told_split (λ newer older. BeginsWithCheck i older) (λ newer older. told_begins_with_check i older) facts)

-- the list begins with a drop on the interface before whose next check
abbrev BeginsWithLoss : ℕ → Journal → Type 0
BeginsWithLoss i [] = ⊥
BeginsWithLoss i (check_dropped j ∷ between) = (j ≡ i) × (HasCheck between i → ⊥)
BeginsWithLoss i (f ∷ between) = ⊥

told_begins_with_loss : (i : ℕ) (facts : Journal) → Told (BeginsWithLoss i facts)
told_begins_with_loss i [] = inr (λ is. is)
told_begins_with_loss i (check_dropped j ∷ between) = told_both (cases_eq j i) (told_not (HasCheck between i) (told_check between i))
told_begins_with_loss i (f ∷ between) = inr (λ is. is)

kept_not_lost : (i : ℕ) (facts : Journal) → IsKept facts i → SomeSplit (λ newer older. BeginsWithLoss i older) facts → ⊥
kept_not_lost i facts kept (newer, [], at, is) = is
kept_not_lost i facts kept (newer, check_dropped j ∷ between, at, (same, none)) = none (kept newer between (subst (λ n. facts ≡ newer ++ check_dropped n ∷ between) same at))
kept_not_lost i facts kept (newer, f ∷ between, at, is) = is

told_kept : (facts : Journal) (i : ℕ) → Told (IsKept facts i)
told_kept facts i = elim (told_split (λ newer older. BeginsWithLoss i older) (λ newer older. told_begins_with_loss i older) facts) [
  | inl lost ↦ inr (λ kept. kept_not_lost i facts kept lost)
  | inr none ↦ inl (λ newer between at. elim (told_check between i) [
    | inl has ↦ has
    | inr never ↦ absurd (none (newer, check_dropped i ∷ between, at, (refl, never)))
  ])
]

-- the list begins with a fact that changes the radio's region
abbrev BeginsWithMove : List Domain → Journal → ℕ → Journal → Type 0
BeginsWithMove db base r [] = ⊥
BeginsWithMove db base r (f ∷ between) = region_of db (f ∷ between ++ base) r ≡ region_of db (between ++ base) r → ⊥

told_begins_with_move : (db : List Domain) (base : Journal) (r : ℕ) (facts : Journal) → Told (BeginsWithMove db base r facts)
told_begins_with_move db base r [] = inr (λ is. is)
told_begins_with_move db base r (f ∷ between) = told_not _ (tells_region (region_of db (f ∷ between ++ base) r) (region_of db (between ++ base) r))

kept_not_moved : (db : List Domain) (facts base : Journal) (r : ℕ) → KeepsRegion db facts base r → SomeSplit (λ newer older. BeginsWithMove db base r older) facts → ⊥
kept_not_moved db facts base r keeps (newer, [], at, is) = is
kept_not_moved db facts base r keeps (newer, f ∷ between, at, moves) = moves (keeps newer f between at)

pub told_region_kept : (db : List Domain) (facts base : Journal) (r : ℕ) → Told (KeepsRegion db facts base r)
told_region_kept db facts base r = elim (told_split (λ newer older. BeginsWithMove db base r older) (λ newer older. told_begins_with_move db base r older) facts) [
  | inl moved ↦ inr (λ keeps. kept_not_moved db facts base r keeps moved)
  | inr none ↦ inl (λ newer f between at. elim (tells_region (region_of db (f ∷ between ++ base) r) (region_of db (between ++ base) r)) [
    | inl same ↦ same
    | inr moves ↦ absurd (none (newer, f ∷ between, at, moves))
  ])
]

-- ---- checks that lapse

told_operates : (o : Option Operation) (s : ℕ) → Told (IsSomeAnd o (λ o. IsCovered o.chan s))
told_operates None s = inr (λ is. is)
told_operates (Some o) s = told_covered o.chan s

pub told_used : (J : Journal) (r s : ℕ) → Told (IsUsed J r s)
told_used J r s = told_as
    (λ (x, there, (sends, operates)). record { iface = x; there = there; sends_first = sends; operates = operates })
    (λ is. (is.iface, is.there, (is.sends_first, is.operates)))
    (told_member (λ x. IsTrue (initiates x.kind) × IsSomeAnd (operation_of J x.index) (λ o. IsCovered o.chan s))
    (λ (x : Iface). told_both (told_true (initiates x.kind)) (told_operates (operation_of J x.index) s)) (ifaces_on J r))

ends_uses : (J : Journal) (r s : ℕ) → Ends Upward (WasUsedAt J r s)
ends_uses J r s = ends_as Upward (λ n. SomeSplit (λ newer older. IsUsed older r s × (n ≡ now_of older)) J) (WasUsedAt J r s)
    (λ n (newer, older, split, (used, at)). record { newer = newer; older = older; split = split; used = used; at = at })
    (λ n was. (was.newer, was.older, was.split, (was.used, was.at)))
    (ends_split Upward upward (λ newer older n. IsUsed older r s × (n ≡ now_of older)) (λ newer older. ends_one Upward upward (IsUsed older r s) (now_of older) (told_used older r s)) J)

-- there is a last use, since the check's end is one
pub last_use : (J : Journal) (r s end : ℕ) → (last : ℕ) × IsGreatest (IsUse J r s end) last
last_use J r s end = from (ends_either Upward upward (λ n. n ≡ end) (WasUsedAt J r s)
    (ends_as Upward (λ n. Unit {0} × (n ≡ end)) (λ n. n ≡ end) (λ n is. is.1) (λ n is. (tt, is)) (ends_one Upward upward (Unit {0}) end (inl tt)))
    (ends_uses J r s))
  where
    from : Ends Upward (IsUse J r s end) → (last : ℕ) × IsGreatest (IsUse J r s end) last
    from (inl none) = absurd (none end (inl refl))
    from (inr (last, is, most)) = (last, record { holds = is; none_above = most })

-- at the end of the list the check has been unused for long
abbrev IsLongUnused : ℕ → ℕ → ℕ → Journal → Type 0
IsLongUnused r s end J = (last : ℕ) × IsGreatest (IsUse J r s end) last × (last + UNUSED_CHECK_MS ≤ now_of J)

told_long_unused : (r s end : ℕ) (J : Journal) → Told (IsLongUnused r s end J)
told_long_unused r s end J =
    let found = last_use J r s end in
    elim (told_le (found.0 + UNUSED_CHECK_MS) (now_of J)) [
      | inl long ↦ inl (found.0, found.1, long)
      | inr not ↦ inr (λ (last, is, long). not (subst (λ n. n + UNUSED_CHECK_MS ≤ now_of J) (one last is) long))
    ]
  where
    one : (last : ℕ) → IsGreatest (IsUse J r s end) last → last ≡ (last_use J r s end).0
    one last is =
        let found = last_use J r s end in
        let below = found.1.none_above last is.holds in
        let above = is.none_above found.0 found.1.holds in
        omega (arith, below, above)

pub told_lapsed : (J : Journal) (r s end : ℕ) → Told (HasLapsed J r s end)
told_lapsed J r s end = told_as
    (λ (newer, older, split, (last, is_last, long_ago)). record { newer = newer; older = older; split = split; last = last; is_last = is_last; long_ago = long_ago })
    (λ has. (has.newer, has.older, has.split, (has.last, has.is_last, has.long_ago)))
    (told_split (λ newer older. IsLongUnused r s end older) (λ newer older. told_long_unused r s end older) J)

-- ---- checks that stand

-- all that is asked of a check but its end
abbrev StandsAt : List Domain → Journal → ℕ → ℕ → Journal → ℕ → ChanDef → ℕ → Journal → Type 0
StandsAt db J r s newer i chan length older =
    (radio_of J i ≡ Some r) × (IsCovered chan s × (IsKept newer i × ((HasRadar newer r s → ⊥) × (KeepsRegion db newer (check_begun i chan length ∷ older) r
    × ((now_of older + length ≤ now_of J) × ((region_of db J r ≡ Etsi) ⊎ (HasLapsed J r s (now_of older + length) → ⊥)))))))

told_stands_at : (db : List Domain) (J : Journal) (r s : ℕ) (newer : Journal) (i : ℕ) (chan : ChanDef) (length : ℕ) (older : Journal)
    → Told (StandsAt db J r s newer i chan length older)
told_stands_at db J r s newer i chan length older =
    told_both (tells_option cases_eq (radio_of J i) (Some r))
    (told_both (told_covered chan s)
    (told_both (told_kept newer i)
    (told_both (told_not (HasRadar newer r s) (told_radar newer r s))
    (told_both (told_region_kept db newer (check_begun i chan length ∷ older) r)
    (told_both (told_le (now_of older + length) (now_of J))
    (told_either (tells_region (region_of db J r) Etsi) (told_not (HasLapsed J r s (now_of older + length)) (told_lapsed J r s (now_of older + length)))))))))

-- the older facts begin with a check that stands, and that ended at n
abbrev StandsFirst : List Domain → Journal → ℕ → ℕ → Journal → Journal → ℕ → Type 0
StandsFirst db J r s newer [] n = ⊥
StandsFirst db J r s newer (check_begun i chan length ∷ older) n = StandsAt db J r s newer i chan length older × (n ≡ now_of older + length)
StandsFirst db J r s newer (f ∷ older) n = ⊥

ends_stands_first : (db : List Domain) (J : Journal) (r s : ℕ) (newer older : Journal) → Ends Upward (StandsFirst db J r s newer older)
ends_stands_first db J r s newer [] = ends_none Upward _ (λ n is. is)
ends_stands_first db J r s newer (check_begun i chan length ∷ older) =
    ends_one Upward upward (StandsAt db J r s newer i chan length older) (now_of older + length) (told_stands_at db J r s newer i chan length older)
ends_stands_first db J r s newer (f ∷ older) = ends_none Upward _ (λ n is. is)

stands_there : (db : List Domain) (J : Journal) (r s n : ℕ) → SomeSplit (λ newer older. StandsFirst db J r s newer older n) J → Stands db J r s n
stands_there db J r s n (newer, [], at, is) = absurd is
stands_there db J r s n (newer, check_begun i chan length ∷ older, at, ((radio, (covered, (kept, (no_radar, (same_region, (over, lasts)))))), ends)) = record {
  counts = record {
    newer = newer;
    iface = i;
    chan = chan;
    length = length;
    older = older;
    begun = at;
    on_radio = radio;
    covered = covered;
    ends = ends;
    kept = kept;
    no_radar = no_radar;
    same_region = same_region;
  };
  over = subst (λ m. m ≤ now_of J) (sym ends) over;
  lasts = subst (λ m. (region_of db J r ≡ Etsi) ⊎ (HasLapsed J r s m → ⊥)) (sym ends) lasts;
}
stands_there db J r s n (newer, f ∷ older, at, is) = absurd is

stands_split : (db : List Domain) (J : Journal) (r s n : ℕ) → Stands db J r s n → SomeSplit (λ newer older. StandsFirst db J r s newer older n) J
stands_split db J r s n is =
    let c = is.counts in (
      c.newer,
      check_begun c.iface c.chan c.length ∷ c.older,
      c.begun,
      (
        (
          c.on_radio,
          (
            c.covered,
            (
              c.kept,
              (
                c.no_radar,
                (
                  c.same_region,
                  (
                    subst (λ m. m ≤ now_of J) c.ends is.over,
                    subst (λ m. (region_of db J r ≡ Etsi) ⊎ (HasLapsed J r s m → ⊥)) c.ends is.lasts,
                  ),
                ),
              ),
            ),
          ),
        ),
        c.ends,
      ),
    )

pub ends_stands : (db : List Domain) (J : Journal) (r s : ℕ) → Ends Upward (Stands db J r s)
ends_stands db J r s = ends_as Upward (λ n. SomeSplit (λ newer older. StandsFirst db J r s newer older n) J) (Stands db J r s)
    (stands_there db J r s) (stands_split db J r s)
    (ends_split Upward upward (λ newer older n. StandsFirst db J r s newer older n) (λ newer older. ends_stands_first db J r s newer older) J)

-- ---- radar

-- the list begins with radar of the radio on the subchannel, whose nonoccupancy ends at n
abbrev BarsFrom : ℕ → ℕ → Journal → ℕ → Type 0
BarsFrom r s [] n = ⊥
BarsFrom r s (radar_met q chan ∷ older) n = ((q ≡ r) × IsCovered chan s) × (n ≡ now_of older + NONOCCUPANCY_MS)
BarsFrom r s (f ∷ older) n = ⊥

ends_bars_from : (r s : ℕ) (facts : Journal) → Ends Upward (BarsFrom r s facts)
ends_bars_from r s [] = ends_none Upward _ (λ n is. is)
ends_bars_from r s (radar_met q chan ∷ older) =
    ends_one Upward upward ((q ≡ r) × IsCovered chan s) (now_of older + NONOCCUPANCY_MS) (told_both (cases_eq q r) (told_covered chan s))
ends_bars_from r s (f ∷ older) = ends_none Upward _ (λ n is. is)

barred_there : (J : Journal) (r s n : ℕ) → SomeSplit (λ newer older. BarsFrom r s older n) J → IsBarred J r s n
barred_there J r s n (newer, [], at, is) = absurd is
barred_there J r s n (newer, radar_met q chan ∷ older, at, ((same, covered), ends)) = record {
  newer = newer;
  chan = chan;
  older = older;
  met = subst (λ m. J ≡ newer ++ radar_met m chan ∷ older) same at;
  covered = covered;
  ends = ends;
}
barred_there J r s n (newer, f ∷ older, at, is) = absurd is

pub ends_barred : (J : Journal) (r s : ℕ) → Ends Upward (IsBarred J r s)
ends_barred J r s = ends_as Upward (λ n. SomeSplit (λ newer older. BarsFrom r s older n) J) (IsBarred J r s)
    (barred_there J r s) (λ n is. (is.newer, radar_met r is.chan ∷ is.older, is.met, ((refl, is.covered), is.ends)))
    (ends_split Upward upward (λ newer older n. BarsFrom r s older n) (λ newer older. ends_bars_from r s older) J)

-- the subchannel is quiet, or a last nonoccupancy isn't over
pub quiet_or_barred : (J : Journal) (r s : ℕ) → IsQuiet J r s ⊎ ((until : ℕ) × IsGreatest (IsBarred J r s) until × (now_of J < until))
quiet_or_barred J r s = elim (ends_barred J r s) [
  | inl none ↦ inl (λ until barred. absurd (none until barred))
  | inr (until, is, last) ↦ elim (cases_lt (now_of J) until) [
    | inl more ↦ inr (until, record { holds = is; none_above = last }, more)
    | inr over ↦ inl (λ other barred. let below = last other barred in omega (arith, below, over))
  ]
]

pub told_quiet : (J : Journal) (r s : ℕ) → Told (IsQuiet J r s)
told_quiet J r s = elim (quiet_or_barred J r s) [
  | inl quiet ↦ inl quiet
  | inr (until, is, more) ↦ inr (λ quiet. let over = quiet until is.holds in omega (arith, over, more))
]

-- ---- states

pub some_stands : (db : List Domain) (J : Journal) (r s : ℕ) → ((end : ℕ) × Stands db J r s end) ⊎ NoneStands db J r s
some_stands db J r s = elim (ends_stands db J r s) [
  | inl none ↦ inr none
  | inr (end, is, last) ↦ inl (end, is)
]

pub some_state : (db : List Domain) (J : Journal) (r s : ℕ) → (dfs : Dfs) × IsState db J r s dfs
some_state db J r s = elim (quiet_or_barred J r s) [
  | inr (until, is, more) ↦ (Unavailable until, (is, more))
  | inl quiet ↦ elim (ends_stands db J r s) [
    | inl none ↦ (Usable, (quiet, none))
    | inr (since, is, last) ↦ (Available since, (quiet, record { holds = is; none_above = last }))
  ]
]
