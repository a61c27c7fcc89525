-- A check of 60,000 ms stands from 60,000 ms on, but where radar came beside it, and lapses at 62,000 ms; nonoccupancy from 70,000 ms on
-- ends at 1,870,000 ms.
use Rattle.std.proofs.Common.{◌≡◌, ◌≢◌, ℕ, ◌<◌, ◌≤◌, List, [], ◌∷◌, ◌++◌, None, IsSomeAnd, arith, refl, sym, ap, subst, ◌∙◌, inl, inr}
use Rattle.rule_tables.specs.declared.code.Region.TheVariants.{Etsi}
use Rattle.rule_tables.specs.declared.domain.Domain.{Domain}
use Rattle.chan_def.specs.Covered.{IsCovered}
use Rattle.chan_def.specs.declared.definition.ChanDef.{ChanDef}
use Rattle.chan_def.specs.declared.kind.Kind.TheVariants.{Ap}
use Rattle.chan_flags.specs.Profiles.{Abilities}
use Rattle.reg_journal.specs.Applicable.{region_of}
use Rattle.reg_journal.specs.Facts.{Fact, Journal, moment_is, radio_added, radar_met, made, check_begun, check_dropped}
use Rattle.reg_journal.specs.Present.{now_of, operation_of}
use Rattle.reg_journal.specs.Radar.{Counts, IsBarred, IsQuiet, NoneStands, Stands, WasUsedAt}
use Rattle.reg_journal.specs.Rows.{checked_row, disturbed_row, radar_row}
use Rattle.reg_journal.proofs.Splits.{not_split, split_cases}

-- ---- what holds of each front of a journal

-- nothing started, and no moment is after this one
abbrev IsCalm : ℕ → Fact → Type 0
IsCalm last (moment_is moment) = moment ≤ last
IsCalm last (made i name r kind) = Unit {0}
IsCalm last (radio_added r profile) = Unit {0}
IsCalm last (check_begun i c n) = Unit {0}
IsCalm last (radar_met r c) = Unit {0}
IsCalm last f = ⊥

abbrev AreCalm : ℕ → Journal → Type 0
AreCalm last [] = Unit {0}
AreCalm last (f ∷ J) = IsCalm last f × AreCalm last J

calm_older : (last : ℕ) (newer older : Journal) → AreCalm last (newer ++ older) → AreCalm last older
calm_older last [] older calm = calm
calm_older last (f ∷ newer) older calm = calm_older last newer older calm.1

calm_now : (last : ℕ) (J : Journal) → AreCalm last J → now_of J ≤ last
calm_now last [] calm = omega arith
calm_now last (moment_is moment ∷ J) calm = calm.0
calm_now last (made i name r kind ∷ J) calm = calm_now last J calm.1
calm_now last (radio_added r profile ∷ J) calm = calm_now last J calm.1
calm_now last (check_begun i c n ∷ J) calm = calm_now last J calm.1
calm_now last (radar_met r c ∷ J) calm = calm_now last J calm.1
calm_now last (f ∷ J) calm = absurd calm.0

calm_idle : (last : ℕ) (J : Journal) (i : ℕ) → AreCalm last J → operation_of J i ≡ None
calm_idle last [] i calm = refl
calm_idle last (moment_is moment ∷ J) i calm = calm_idle last J i calm.1
calm_idle last (made j name r kind ∷ J) i calm = calm_idle last J i calm.1
calm_idle last (radio_added r profile ∷ J) i calm = calm_idle last J i calm.1
calm_idle last (check_begun j c n ∷ J) i calm = calm_idle last J i calm.1
calm_idle last (radar_met r c ∷ J) i calm = calm_idle last J i calm.1
calm_idle last (f ∷ J) i calm = absurd calm.0

calm_unused : (last : ℕ) (J : Journal) (r s moment : ℕ) → AreCalm last J → WasUsedAt J r s moment → ⊥
calm_unused last J r s moment calm was =
    let none = calm_idle last was.older was.used.iface.index (calm_older last was.newer was.older (subst (AreCalm last) was.split calm)) in
    subst (λ o. IsSomeAnd o (λ o. IsCovered o.chan s)) none was.used.operates

-- ---- the check

calm_row : (p : Abilities) (name : List ℕ) (c : ChanDef) (m : ℕ) → AreCalm m (checked_row p name c m)
calm_row p name c m = (omega arith, (tt, (tt, (tt, tt))))

-- each check that stands is the one that began
only_end : (db : List Domain) (p : Abilities) (name : List ℕ) (c : ChanDef) (m s end : ℕ) → Stands db (checked_row p name c m) 0 s end → end ≡ 60000
only_end db p name c m s end stands =
    let k = stands.counts in
    elim (split_cases (moment_is m) _ k.newer k.older (check_begun k.iface k.chan k.length) k.begun) [
      | inl (_, at, _) ↦ absurd (no_moment k.iface k.chan k.length at)
      | inr (rest, _, split) ↦ elim (split_cases (check_begun 1 c 60000) _ rest k.older (check_begun k.iface k.chan k.length) split) [
        | inl (_, at, older) ↦
            let ends = k.ends in
            let now = ap now_of (sym older) in
            let length = same_length k.iface k.chan k.length at in
            omega (arith, ends, now, length)
        | inr (rest, _, split) ↦ elim (split_cases (made 1 name 0 Ap) _ rest k.older (check_begun k.iface k.chan k.length) split) [
          | inl (_, at, _) ↦ absurd (no_made k.iface k.chan k.length at)
          | inr (rest, _, split) ↦ elim (split_cases (radio_added 0 p) [] rest k.older (check_begun k.iface k.chan k.length) split) [
            | inl (_, at, _) ↦ absurd (no_radio k.iface k.chan k.length at)
            | inr (rest, _, split) ↦ absurd (not_split rest k.older (check_begun k.iface k.chan k.length) split)
          ]
        ]
      ]
    ]
  where
    no_moment : (i : ℕ) (d : ChanDef) (n : ℕ) → moment_is m ≡ check_begun i d n → ⊥
    no_moment i d n at = cc

    no_made : (i : ℕ) (d : ChanDef) (n : ℕ) → made 1 name 0 Ap ≡ check_begun i d n → ⊥
    no_made i d n at = cc

    no_radio : (i : ℕ) (d : ChanDef) (n : ℕ) → radio_added 0 p ≡ check_begun i d n → ⊥
    no_radio i d n at = cc

    same_length : (i : ℕ) (d : ChanDef) (n : ℕ) → check_begun 1 c 60000 ≡ check_begun i d n → n ≡ 60000
    same_length i d n at = cc

pub none_early : (db : List Domain) (p : Abilities) (name : List ℕ) (c : ChanDef) (m s : ℕ) → m < 60000 → NoneStands db (checked_row p name c m) 0 s
none_early db p name c m s early end stands =
    let same = only_end db p name c m s end stands in
    let over = stands.over in
    omega (arith, same, over, early)

-- one fact of a list of one
only_fact : (m : ℕ) (newer older : Journal) (g : Fact) → moment_is m ∷ [] ≡ newer ++ g ∷ older → moment_is m ≡ g
only_fact m newer older g at = elim (split_cases (moment_is m) [] newer older g at) [
  | inl newest ↦ newest.1
  | inr (rest, _, split) ↦ absurd (not_split rest older g split)
]

only_first : (m : ℕ) (newer older : Journal) (g : Fact) → moment_is m ∷ [] ≡ newer ++ g ∷ older → older ≡ []
only_first m newer older g at = elim (split_cases (moment_is m) [] newer older g at) [
  | inl newest ↦ sym newest.2
  | inr (rest, _, split) ↦ absurd (not_split rest older g split)
]

counts_then : (db : List Domain) (p : Abilities) (name : List ℕ) (c : ChanDef) (m s : ℕ) → IsCovered c s → Counts db (checked_row p name c m) 0 s 60000
counts_then db p name c m s covered = record {
  newer = moment_is m ∷ [];
  iface = 1;
  chan = c;
  length = 60000;
  older = base;
  begun = refl;
  on_radio = refl;
  covered = covered;
  ends = refl;
  kept = λ newer between at. absurd (no_drop (only_fact m newer between (check_dropped 1) at));
  no_radar = λ has. no_radar has.chan (only_fact m has.newer has.older (radar_met 0 has.chan) has.met);
  same_region = λ newer f between at.
      subst (λ xs. region_of db (f ∷ xs ++ (check_begun 1 c 60000 ∷ base)) 0 ≡ region_of db (xs ++ (check_begun 1 c 60000 ∷ base)) 0) (sym (only_first m newer between f at))
      (subst (λ g. region_of db (g ∷ (check_begun 1 c 60000 ∷ base)) 0 ≡ region_of db (check_begun 1 c 60000 ∷ base) 0) (only_fact m newer between f at) refl);
}
  where
    base : Journal
    base = made 1 name 0 Ap ∷ radio_added 0 p ∷ []

    no_drop : moment_is m ≡ check_dropped 1 → ⊥
    no_drop at = cc

    no_radar : (d : ChanDef) → moment_is m ≡ radar_met 0 d → ⊥
    no_radar d at = cc

pub stands_then : (db : List Domain) (p : Abilities) (name : List ℕ) (c : ChanDef) (m s : ℕ) → IsCovered c s → 60000 ≤ m → m < 62000 → Stands db (checked_row p name c m) 0 s 60000
stands_then db p name c m s covered late soon = record {
  counts = counts_then db p name c m s covered;
  over = late;
  lasts = inr (λ lapsed.
      let least = lapsed.is_last.none_above 60000 (inl refl) in
      let long = lapsed.long_ago in
      let now = calm_now m lapsed.older (calm_older m lapsed.newer lapsed.older (subst (AreCalm m) lapsed.split (calm_row p name c m))) in
      omega (arith, least, long, now, soon));
}

-- in the region ETSI no check lapses
pub stands_on : (db : List Domain) (p : Abilities) (name : List ℕ) (c : ChanDef) (m s : ℕ) → IsCovered c s → 60000 ≤ m → region_of db (checked_row p name c m) 0 ≡ Etsi
    → Stands db (checked_row p name c m) 0 s 60000
stands_on db p name c m s covered late etsi = record { counts = counts_then db p name c m s covered; over = late; lasts = inl etsi }

pub none_late : (db : List Domain) (p : Abilities) (name : List ℕ) (c : ChanDef) (m s : ℕ) → 62000 ≤ m → region_of db (checked_row p name c m) 0 ≢ Etsi
    → NoneStands db (checked_row p name c m) 0 s
none_late db p name c m s late other end stands = elim stands.lasts [
  | inl etsi ↦ other etsi
  | inr never ↦ never (record {
    newer = [];
    older = checked_row p name c m;
    split = refl;
    last = end;
    is_last = record {
      holds = inl refl;
      none_above = λ moment used. elim used [
        | inl at ↦ omega (arith, at)
        | inr was ↦ absurd (calm_unused m (checked_row p name c m) 0 s moment (calm_row p name c m) was)
      ];
    };
    long_ago = let same = only_end db p name c m s end stands in omega (arith, same, late);
  })
]

-- ---- radar beside a running check

-- a moment, or radar of the radio on the channel
abbrev IsMild : ChanDef → Fact → Type 0
IsMild d (moment_is moment) = Unit {0}
IsMild d (radar_met r e) = e ≡ d
IsMild d f = ⊥

abbrev AreMild : ChanDef → Journal → Type 0
AreMild d [] = Unit {0}
AreMild d (f ∷ facts) = IsMild d f × AreMild d facts

mild_at : (d : ChanDef) (newer older : Journal) (f : Fact) → AreMild d (newer ++ f ∷ older) → IsMild d f
mild_at d [] older f mild = mild.0
mild_at d (g ∷ newer) older f mild = mild_at d newer older f mild.1

mild_region : (db : List Domain) (d : ChanDef) (f : Fact) (J : Journal) (r : ℕ) → IsMild d f → region_of db (f ∷ J) r ≡ region_of db J r
mild_region db d (moment_is moment) J r mild = refl
mild_region db d (radar_met q e) J r mild = refl
mild_region db d f J r mild = absurd mild

-- no check stands for a subchannel of both channels
pub voided_by_radar : (db : List Domain) (p : Abilities) (name : List ℕ) (c d : ChanDef) (m s : ℕ) → IsCovered d s → NoneStands db (disturbed_row p name c d m) 0 s
voided_by_radar db p name c d m s covered end stands =
    let k = stands.counts in
    elim (split_cases (moment_is m) _ k.newer k.older (check_begun k.iface k.chan k.length) k.begun) [
      | inl (_, at, _) ↦ absurd (no_moment k.iface k.chan k.length at)
      | inr (rest, newer, split) ↦ elim (split_cases (radar_met 0 d) _ rest k.older (check_begun k.iface k.chan k.length) split) [
        | inl (_, at, _) ↦ absurd (no_check k.iface k.chan k.length at)
        | inr (later, is, _) ↦ k.no_radar (record {
          newer = moment_is m ∷ [];
          chan = d;
          older = later;
          met = newer ∙ ap (λ xs. moment_is m ∷ xs) is;
          covered = covered;
        })
      ]
    ]
  where
    no_moment : (i : ℕ) (e : ChanDef) (n : ℕ) → moment_is m ≡ check_begun i e n → ⊥
    no_moment i e n at = cc

    no_check : (i : ℕ) (e : ChanDef) (n : ℕ) → radar_met 0 d ≡ check_begun i e n → ⊥
    no_check i e n at = cc

-- for the checked channel's others it does
pub spared_by_radar : (db : List Domain) (p : Abilities) (name : List ℕ) (c d : ChanDef) (m s : ℕ) → IsCovered c s → (IsCovered d s → ⊥) → 60000 ≤ m → m < 62000
    → Stands db (disturbed_row p name c d m) 0 s 60000
spared_by_radar db p name c d m s covered spared late soon = record {
  counts = record {
    newer = facts;
    iface = 1;
    chan = c;
    length = 60000;
    older = base;
    begun = refl;
    on_radio = refl;
    covered = covered;
    ends = refl;
    kept = λ newer between at. absurd (mild_at d newer between (check_dropped 1) (subst (AreMild d) at mild));
    no_radar = λ has. spared (subst (λ e. IsCovered e s) (mild_at d has.newer has.older (radar_met 0 has.chan) (subst (AreMild d) has.met mild)) has.covered);
    same_region = λ newer f between at.
        mild_region db d f (between ++ (check_begun 1 c 60000 ∷ base)) 0 (mild_at d newer between f (subst (AreMild d) at mild));
  };
  over = late;
  lasts = inr (λ lapsed.
      let least = lapsed.is_last.none_above 60000 (inl refl) in
      let long = lapsed.long_ago in
      let now = calm_now m lapsed.older (calm_older m lapsed.newer lapsed.older (subst (AreCalm m) lapsed.split calm)) in
      omega (arith, least, long, now, soon));
}
  where
    base : Journal
    base = made 1 name 0 Ap ∷ radio_added 0 p ∷ []

    facts : Journal
    facts = moment_is m ∷ radar_met 0 d ∷ moment_is 30000 ∷ []

    mild : AreMild d facts
    mild = (tt, (refl, (tt, tt)))

    calm : AreCalm m (disturbed_row p name c d m)
    calm = (omega arith, (tt, (omega (arith, late), (tt, (tt, (tt, tt))))))

-- ---- nonoccupancy

only_until : (p : Abilities) (c : ChanDef) (m s until : ℕ) → IsBarred (radar_row p c m) 0 s until → until ≡ 1870000
only_until p c m s until barred = elim (split_cases (moment_is m) _ barred.newer barred.older (radar_met 0 barred.chan) barred.met) [
  | inl (_, at, _) ↦ absurd (no_moment m barred.chan at)
  | inr (rest, _, split) ↦ elim (split_cases (radar_met 0 c) _ rest barred.older (radar_met 0 barred.chan) split) [
    | inl (_, _, older) ↦
        let ends = barred.ends in
        let now = ap now_of (sym older) in
        omega (arith, ends, now)
    | inr (rest, _, split) ↦ elim (split_cases (moment_is 70000) _ rest barred.older (radar_met 0 barred.chan) split) [
      | inl (_, at, _) ↦ absurd (no_moment 70000 barred.chan at)
      | inr (rest, _, split) ↦ elim (split_cases (radio_added 0 p) [] rest barred.older (radar_met 0 barred.chan) split) [
        | inl (_, at, _) ↦ absurd (no_radio barred.chan at)
        | inr (rest, _, split) ↦ absurd (not_split rest barred.older (radar_met 0 barred.chan) split)
      ]
    ]
  ]
]
  where
    no_moment : (n : ℕ) (d : ChanDef) → moment_is n ≡ radar_met 0 d → ⊥
    no_moment n d at = cc

    no_radio : (d : ChanDef) → radio_added 0 p ≡ radar_met 0 d → ⊥
    no_radio d at = cc

pub quiet_then : (p : Abilities) (c : ChanDef) (m s : ℕ) → 1870000 ≤ m → IsQuiet (radar_row p c m) 0 s
quiet_then p c m s late until barred = let same = only_until p c m s until barred in omega (arith, same, late)

pub not_quiet_before : (p : Abilities) (c : ChanDef) (m s : ℕ) → IsCovered c s → m < 1870000 → IsQuiet (radar_row p c m) 0 s → ⊥
not_quiet_before p c m s covered early quiet =
    let over = quiet 1870000 (record { newer = moment_is m ∷ []; chan = c; older = moment_is 70000 ∷ radio_added 0 p ∷ []; met = refl; covered = covered; ends = refl }) in
    omega (arith, over, early)
