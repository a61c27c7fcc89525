-- A check whose channel is used from before it lapses stands as long as it is used, and lapses 2,000 ms after the last use.
use Rattle.std.proofs.Common.{◌≡◌, ◌≢◌, ℕ, ◌+◌, ◌==◌, ◌<◌, ◌≤◌, ◌⊎◌, List, [], ◌∷◌, ◌++◌, Bool, true, false, None, Some, IsSomeAnd, if◌then◌else◌, arith, refl, sym, ap, subst, ◌∙◌, inl, inr}
use Rattle.rule_tables.specs.declared.code.Region.TheVariants.{Etsi}
use Rattle.rule_tables.specs.declared.domain.Domain.{Domain}
use Rattle.freq_range.proofs.Members.{Contains-head}
use Rattle.chan_def.specs.Covered.{IsCovered}
use Rattle.chan_def.specs.declared.definition.ChanDef.{ChanDef}
use Rattle.chan_def.specs.declared.kind.Kind.TheVariants.{Ap}
use Rattle.chan_flags.specs.Profiles.{Abilities}
use Rattle.reg_journal.specs.Applicable.{region_of}
use Rattle.reg_journal.specs.Facts.{Fact, Journal, moment_is, radio_added, radar_met, made, started, stopped, check_begun, check_dropped}
use Rattle.reg_journal.specs.Present.{Operation, new_iface, now_of, operation_of}
use Rattle.reg_journal.specs.Radar.{Counts, HasLapsed, IsUse, IsUsed, NoneStands, Stands, WasUsedAt}
use Rattle.reg_journal.specs.Rows.{used_row}
use Rattle.reg_journal.proofs.Splits.{not_split, split_cases}

-- ---- how late it is

-- the fact isn't a later moment than this one
abbrev IsBy : ℕ → Fact → Type 0
IsBy last (moment_is moment) = moment ≤ last
IsBy last f = Unit {0}

abbrev AreBy : ℕ → Journal → Type 0
AreBy last [] = Unit {0}
AreBy last (f ∷ J) = IsBy last f × AreBy last J

by_now : (last : ℕ) (J : Journal) → AreBy last J → now_of J ≤ last
by_now last [] by = omega arith
by_now last (moment_is moment ∷ J) by = by.0
by_now last (f ∷ J) by = by_now last J by.1

by_older : (last : ℕ) (newer older : Journal) → AreBy last (newer ++ older) → AreBy last older
by_older last [] older by = by
by_older last (f ∷ newer) older by = by_older last newer older by.1

-- a journal ends in all of it, or in an end of what was before its newest fact
end_cases : (f : Fact) (J newer older : Journal) → f ∷ J ≡ newer ++ older → (older ≡ f ∷ J) ⊎ ((rest : Journal) × (J ≡ rest ++ older))
end_cases f J [] older at = inl (sym at)
end_cases f J (g ∷ newer) older at = inr (newer, cc)

-- ---- the row

-- up to the start, up to the use, and all of it
abbrev checked : Abilities → List ℕ → ChanDef → Journal
checked p name c = moment_is 61999 ∷ check_begun 1 c 60000 ∷ made 1 name 0 Ap ∷ radio_added 0 p ∷ []

abbrev used : Abilities → List ℕ → ChanDef → ℕ → Journal
used p name c power = moment_is 100000 ∷ started 1 c power ∷ checked p name c

is_used : (p : Abilities) (name : List ℕ) (c : ChanDef) (power s : ℕ) → IsCovered c s → IsUsed (used p name c power) 0 s
is_used p name c power s covered = record { iface = new_iface 1 name 0 Ap; there = Contains-head (new_iface 1 name 0 Ap) []; sends_first = refl; operates = covered }

-- it was used at 100,000 ms, over each journal that is no shorter
used_in : (p : Abilities) (name : List ℕ) (c : ChanDef) (power s : ℕ) (J newer : Journal) → IsCovered c s → J ≡ newer ++ used p name c power → WasUsedAt J 0 s 100000
used_in p name c power s J newer covered split = record { newer = newer; older = used p name c power; split = split; used = is_used p name c power s covered; at = refl }

-- the facts since the check began
abbrev since : ChanDef → (power m : ℕ) → Journal
since c power m = moment_is m ∷ stopped 1 ∷ moment_is 100000 ∷ started 1 c power ∷ moment_is 61999 ∷ []

-- a moment, a start or a stop
abbrev IsMove : Fact → Type 0
IsMove (moment_is moment) = Unit {0}
IsMove (started i c power) = Unit {0}
IsMove (stopped i) = Unit {0}
IsMove f = ⊥

abbrev AreMoves : Journal → Type 0
AreMoves [] = Unit {0}
AreMoves (f ∷ facts) = IsMove f × AreMoves facts

move_at : (newer older : Journal) (f : Fact) → AreMoves (newer ++ f ∷ older) → IsMove f
move_at [] older f moves = moves.0
move_at (g ∷ newer) older f moves = move_at newer older f moves.1

move_region : (db : List Domain) (f : Fact) (J : Journal) (r : ℕ) → IsMove f → region_of db (f ∷ J) r ≡ region_of db J r
move_region db (moment_is moment) J r move = refl
move_region db (started i c power) J r move = refl
move_region db (stopped i) J r move = refl
move_region db f J r move = absurd move

are_moves : (c : ChanDef) (power m : ℕ) → AreMoves (since c power m)
are_moves c power m = (tt, (tt, (tt, (tt, (tt, tt)))))

counts_used : (db : List Domain) (p : Abilities) (name : List ℕ) (c : ChanDef) (power m s : ℕ) → IsCovered c s → Counts db (used_row p name c power m) 0 s 60000
counts_used db p name c power m s covered = record {
  newer = since c power m;
  iface = 1;
  chan = c;
  length = 60000;
  older = made 1 name 0 Ap ∷ radio_added 0 p ∷ [];
  begun = refl;
  on_radio = refl;
  covered = covered;
  ends = refl;
  kept = λ newer between at. absurd (move_at newer between (check_dropped 1) (subst AreMoves at (are_moves c power m)));
  no_radar = λ has. move_at has.newer has.older (radar_met 0 has.chan) (subst AreMoves has.met (are_moves c power m));
  same_region = λ newer f between at.
      move_region db f (between ++ (check_begun 1 c 60000 ∷ made 1 name 0 Ap ∷ radio_added 0 p ∷ [])) 0 (move_at newer between f (subst AreMoves at (are_moves c power m)));
}

-- ---- it is kept by its use

-- 2,000 ms hadn't passed since the check's end and the last use, at any time before 102,000 ms
not_lapsed : (p : Abilities) (name : List ℕ) (c : ChanDef) (power m s : ℕ) → IsCovered c s → m < 102000 → HasLapsed (used_row p name c power m) 0 s 60000 → ⊥
not_lapsed p name c power m s covered soon lapsed = elim (end_cases (moment_is m) (stopped 1 ∷ used p name c power) lapsed.newer lapsed.older lapsed.split) [
  | inl whole ↦ after_use (moment_is m ∷ stopped 1 ∷ []) whole (subst (λ J. now_of J < 102000) (sym whole) soon)
  | inr (rest, split) ↦ elim (end_cases (stopped 1) (used p name c power) rest lapsed.older split) [
    | inl whole ↦ after_use (stopped 1 ∷ []) whole (subst (λ J. now_of J < 102000) (sym whole) (omega arith))
    | inr (rest, split) ↦ elim (end_cases (moment_is 100000) (started 1 c power ∷ checked p name c) rest lapsed.older split) [
      | inl whole ↦ after_use [] whole (subst (λ J. now_of J < 102000) (sym whole) (omega arith))
      | inr (rest, split) ↦
          let least = lapsed.is_last.none_above 60000 (inl refl) in
          let long = lapsed.long_ago in
          let now = by_now 61999 lapsed.older (by_older 61999 rest lapsed.older (subst (AreBy 61999) split (tt, (omega arith, (tt, (tt, (tt, tt))))))) in
          omega (arith, least, long, now)
    ]
  ]
]
  where
    after_use : (newer : Journal) → lapsed.older ≡ newer ++ used p name c power → now_of lapsed.older < 102000 → ⊥
    after_use newer split now =
        let last = lapsed.is_last.none_above 100000 (inr (used_in p name c power s lapsed.older newer covered split)) in
        let long = lapsed.long_ago in
        omega (arith, last, long, now)

pub stands_used : (db : List Domain) (p : Abilities) (name : List ℕ) (c : ChanDef) (power m s : ℕ) → IsCovered c s → 100000 ≤ m → m < 102000
    → Stands db (used_row p name c power m) 0 s 60000
stands_used db p name c power m s covered late soon = record {
  counts = counts_used db p name c power m s covered;
  over = omega (arith, late);
  lasts = inr (not_lapsed p name c power m s covered soon);
}

-- ---- it lapses after its use

-- a check that began before a fact that began none
began_before : (f : Fact) (J : Journal) (newer older : Journal) (i : ℕ) (d : ChanDef) (n : ℕ) → (f ≡ check_begun i d n → ⊥) → f ∷ J ≡ newer ++ check_begun i d n ∷ older
    → (rest : Journal) × (J ≡ rest ++ check_begun i d n ∷ older)
began_before f J newer older i d n not at = elim (split_cases f J newer older (check_begun i d n) at) [
  | inl (_, same, _) ↦ absurd (not same)
  | inr (rest, _, split) ↦ (rest, split)
]

-- the check that began is the one of the row
only_check : (p : Abilities) (name : List ℕ) (c : ChanDef) (power m : ℕ) (newer older : Journal) (i : ℕ) (d : ChanDef) (n : ℕ)
    → used_row p name c power m ≡ newer ++ check_begun i d n ∷ older → (now_of older + n ≡ 60000) × (d ≡ c)
only_check p name c power m newer older i d n begun =
    let (_, one) = began_before (moment_is m) (stopped 1 ∷ used p name c power) newer older i d n (λ e. no_moment m e) begun in
    let (_, two) = began_before (stopped 1) (used p name c power) _ older i d n (λ e. no_stop e) one in
    let (_, three) = began_before (moment_is 100000) (started 1 c power ∷ checked p name c) _ older i d n (λ e. no_moment 100000 e) two in
    let (_, four) = began_before (started 1 c power) (checked p name c) _ older i d n (λ e. no_start e) three in
    let (rest, five) = began_before (moment_is 61999) (check_begun 1 c 60000 ∷ made 1 name 0 Ap ∷ radio_added 0 p ∷ []) _ older i d n (λ e. no_moment 61999 e) four in
    elim (split_cases (check_begun 1 c 60000) (made 1 name 0 Ap ∷ radio_added 0 p ∷ []) rest older (check_begun i d n) five) [
      | inl (_, at, old) ↦ (let now = ap now_of (sym old) in let length = same_length at in omega (arith, now, length), same_channel at)
      | inr (rest, _, split) ↦
          let (_, none) = began_before (made 1 name 0 Ap) (radio_added 0 p ∷ []) rest older i d n (λ e. no_made e) split in
          let (last, nothing) = began_before (radio_added 0 p) [] _ older i d n (λ e. no_radio e) none in
          absurd (not_split last older (check_begun i d n) nothing)
    ]
  where
    no_moment : (k : ℕ) → moment_is k ≡ check_begun i d n → ⊥
    no_moment k e = cc

    no_stop : stopped 1 ≡ check_begun i d n → ⊥
    no_stop e = cc

    no_start : started 1 c power ≡ check_begun i d n → ⊥
    no_start e = cc

    no_made : made 1 name 0 Ap ≡ check_begun i d n → ⊥
    no_made e = cc

    no_radio : radio_added 0 p ≡ check_begun i d n → ⊥
    no_radio e = cc

    same_length : check_begun 1 c 60000 ≡ check_begun i d n → n ≡ 60000
    same_length e = cc

    same_channel : check_begun 1 c 60000 ≡ check_begun i d n → d ≡ c
    same_channel e = cc

-- nothing operates any more
idle : (p : Abilities) (name : List ℕ) (c : ChanDef) (power m i : ℕ) → operation_of (used_row p name c power m) i ≡ None
idle p name c power m i = by_test (i == 1) (record { chan = c; power = power })
  where
    by_test : (t : Bool) (o : Operation) → (if t then None else (if t then Some o else None)) ≡ None
    by_test true o = refl
    by_test false o = refl

-- the last use was at 100,000 ms
last_use : (p : Abilities) (name : List ℕ) (c : ChanDef) (power m s moment : ℕ) → IsUse (used_row p name c power m) 0 s 60000 moment → moment ≤ 100000
last_use p name c power m s moment (inl at) = omega (arith, at)
last_use p name c power m s moment (inr was) = elim (end_cases (moment_is m) (stopped 1 ∷ used p name c power) was.newer was.older was.split) [
  | inl whole ↦ absurd (subst (λ o. IsSomeAnd o (λ (o : Operation). IsCovered o.chan s)) (ap (λ J. operation_of J was.used.iface.index) whole ∙ idle p name c power m was.used.iface.index) was.used.operates)
  | inr (rest, split) ↦
      let now = by_now 100000 was.older (by_older 100000 rest was.older (subst (AreBy 100000) split (tt, (omega arith, (tt, (omega arith, (tt, (tt, (tt, tt))))))))) in
      let at = was.at in
      omega (arith, now, at)
]

pub lapses_after : (db : List Domain) (p : Abilities) (name : List ℕ) (c : ChanDef) (power m s : ℕ) → 102000 ≤ m → region_of db (used_row p name c power m) 0 ≢ Etsi
    → NoneStands db (used_row p name c power m) 0 s
lapses_after db p name c power m s late other end stands =
    let k = stands.counts in
    let one = only_check p name c power m k.newer k.older k.iface k.chan k.length k.begun in
    let at : end ≡ 60000 = k.ends ∙ one.0 in
    let covered : IsCovered c s = subst (λ d. IsCovered d s) one.1 k.covered in
    elim stands.lasts [
      | inl etsi ↦ other etsi
      | inr never ↦ never (subst (HasLapsed (used_row p name c power m) 0 s) (sym at) (record {
        newer = [];
        older = used_row p name c power m;
        split = refl;
        last = 100000;
        is_last = record {
          holds = inr (used_in p name c power s (used_row p name c power m) (moment_is m ∷ stopped 1 ∷ []) covered refl);
          none_above = λ moment is. last_use p name c power m s moment is;
        };
        long_ago = omega (arith, late);
      }))
    ]
