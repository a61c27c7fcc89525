-- What may go on may go on after a fact that leaves what decides over it.
use Rattle.std.proofs.Common.{◌≡◌, ℕ, ◌+◌, ◌≤◌, ◌==◌, Bool, true, false, List, [], ◌∷◌, ◌++◌, filter, Contains, Some, IsSome, IsSomeAnd, IsTrue, if◌then◌else◌, unwrap_or, arith, refl, sym, subst, ap, ◌∙◌, inl, inr, eq-eqb}
use Rattle.std.proofs.lemmas.Option.{same_Some}
use Rattle.freq_range.proofs.Members.{Contains-cases, Contains-head, Contains-later, Contains-nothing}
use Rattle.rule_tables.specs.declared.domain.Domain.{Domain}
use Rattle.chan_def.specs.Covered.{IsCovered}
use Rattle.chan_def.specs.Kinds.{initiates}
use Rattle.chan_def.specs.declared.definition.ChanDef.{ChanDef}
use Rattle.chan_flags.specs.Profiles.{Abilities}
use Rattle.chan_flags.specs.Verdicts.{asked, IsBound}
use Rattle.dfs_states.specs.Greatest.{IsGreatest}
use Rattle.dfs_states.specs.declared.moments.TheConstants.{UNUSED_CHECK_MS}
use Rattle.reg_journal.specs.Applicable.{applies, region_of}
use Rattle.reg_journal.specs.Due.{EachMayFollow}
use Rattle.reg_journal.specs.Facts.{Fact, Journal, radar_met, check_begun, check_dropped}
use Rattle.reg_journal.specs.Granted.{IsPermitted}
use Rattle.reg_journal.specs.Permits.{asked_by, IsBoundOn}
use Rattle.reg_journal.specs.Present.{Check, Iface, abilities_of, check_of, ifaces_of, is_indoor, no_abilities, now_of, operation_of, profile_of}
use Rattle.reg_journal.specs.Radar.{HasCheck, HasLapsed, HasRadar, IsKept, IsQuiet, IsUse, IsUsed, KeepsRegion, Stands}
use Rattle.reg_journal.specs.Settled.{IsCheckPermitted}
use Rattle.reg_journal.specs.Sweep.{RegionChangedInCheck}
use Rattle.reg_journal.proofs.Fitting.{carried_over, fits_over, given_over}
use Rattle.reg_journal.proofs.Operations.{some_value}
use Rattle.reg_journal.proofs.LastCheck.{check_before, check_parts}
use Rattle.reg_journal.proofs.Later.{now_later, radio_later}
use Rattle.reg_journal.proofs.Splits.{check_older, not_split, split_cases}

-- The fact leaves the domains that apply to the radio, its profile and its region, and where the radios stand, and is no radar that
-- the radio met.
pub record LeavesRadio (db : List Domain) (f : Fact) (J : Journal) (r : ℕ) : Type 0 where
  pub domains : applies db (f ∷ J) r ≡ applies db J r
  pub profile : profile_of (f ∷ J) r ≡ profile_of J r
  pub region : region_of db (f ∷ J) r ≡ region_of db J r
  pub indoor : is_indoor (f ∷ J) ≡ is_indoor J
  pub unmet : (chan : ChanDef) → f ≡ radar_met r chan → ⊥

-- the interface is there, and operates on the channel
pub record Operates (J : Journal) (x : Iface) (c : ChanDef) : Type 0 where
  pub there : Contains (ifaces_of J) x
  pub power : ℕ
  pub on_channel : operation_of J x.index ≡ Some (record { chan = c; power = power })

-- what a list has and a filter keeps is kept
pub Contains-kept : {X : Type 0} (p : X → Bool) (xs : List X) (x : X) → Contains xs x → p x ≡ true → Contains (filter p xs) x
Contains-kept p [] x has passes = absurd (Contains-nothing x has)
Contains-kept p (y ∷ xs) x has passes = elim (Contains-cases y xs x has) [
  | inl same ↦ rw (ap p same ∙ passes) (subst (λ z. Contains (y ∷ filter p xs) z) same (Contains-head y (filter p xs)))
  | inr later ↦ elim (p y) as (λ b. Contains (if b then y ∷ filter p xs else filter p xs) x) [
    | true ↦ Contains-later y (filter p xs) x (Contains-kept p xs x later passes)
    | false ↦ Contains-kept p xs x later passes
  ]
]

-- so an interface that sends first uses the channel's subchannels
used_by : (J : Journal) (x : Iface) (c : ChanDef) (s : ℕ) → Operates J x c → IsTrue (initiates x.kind) → IsCovered c s → IsUsed J x.radio s
used_by J x c s operates sends covered = record {
  iface = x;
  there = Contains-kept (λ y. y.radio == x.radio) (ifaces_of J) x operates.there (eq-eqb x.radio x.radio refl);
  sends_first = sends;
  operates = subst (λ o. IsSomeAnd o (λ o. IsCovered o.chan s)) (sym operates.on_channel) covered;
}

-- ---- radar

-- a quiet subchannel stays quiet
pub quiet_stays : (db : List Domain) (f : Fact) (J : Journal) (r s : ℕ) → EachMayFollow db (f ∷ J) → LeavesRadio db f J r → IsQuiet J r s → IsQuiet (f ∷ J) r s
quiet_stays db f J r s due leaves quiet until barred = elim (split_cases f J barred.newer barred.older (radar_met r barred.chan) barred.met) [
  | inl newest ↦ absurd (leaves.unmet barred.chan newest.1)
  | inr (newer, _, met) ↦
      let over = quiet until (record { newer = newer; chan = barred.chan; older = barred.older; met = met; covered = barred.covered; ends = barred.ends }) in
      let later = now_later db (f ∷ []) J due in
      omega (arith, over, later)
]

-- radar that the radio met came before
pub radar_before : (f : Fact) (facts : Journal) (r s : ℕ) → ((chan : ChanDef) → f ≡ radar_met r chan → ⊥) → HasRadar (f ∷ facts) r s → HasRadar facts r s
radar_before f facts r s unmet has = elim (split_cases f facts has.newer has.older (radar_met r has.chan) has.met) [
  | inl newest ↦ absurd (unmet has.chan newest.1)
  | inr (newer, _, met) ↦ record { newer = newer; chan = has.chan; older = has.older; met = met; covered = has.covered }
]

-- ---- checks that stand

-- where a check runs on the interface of one that is over, it began after that one
begun_again : (db : List Domain) (newer older : Journal) (i : ℕ) (chan : ChanDef) (length : ℕ) (k : Check) → EachMayFollow db (newer ++ check_begun i chan length ∷ older)
    → now_of older + length ≤ now_of (newer ++ check_begun i chan length ∷ older) → check_of (newer ++ check_begun i chan length ∷ older) i ≡ Some k → HasCheck newer i
begun_again db newer older i chan length k due over is = elim (check_before db newer (check_begun i chan length ∷ older) i k due is) [
  | inl has ↦ has
  | inr was ↦
      let this : Check = record { chan = chan; begin = now_of older; length = length } in
      let last = (check_parts (check_begun i chan length ∷ older) i k was).0 in
      let same : this ≡ k = same_Some this k (rw (eq-eqb i i refl) at last) in
      let begins = ap (λ (c : Check). c.begin) same in
      let lasts = ap (λ (c : Check). c.length) same in
      let runs = (check_parts (newer ++ check_begun i chan length ∷ older) i k is).1 in
      absurd (omega (arith, over, begins, lasts, runs))
]

-- a check that stands is kept: only a running one is dropped
pub kept_stays : (db : List Domain) (f : Fact) (J : Journal) (r s end : ℕ) → EachMayFollow db (f ∷ J) → (stands : Stands db J r s end)
    → IsKept (f ∷ stands.counts.newer) stands.counts.iface
kept_stays db f J r s end due stands newer between at =
    let c = stands.counts in
    elim (split_cases f c.newer newer between (check_dropped c.iface) at) [
      | inl (_, drops, rest) ↦
          let dropped : IsSome (check_of J c.iface) = (subst (λ g. EachMayFollow db (g ∷ J)) drops due).0 in
          let running = some_value (check_of J c.iface) dropped in
          let ends = c.ends in
          let over = stands.over in
          let now = ap now_of c.begun in
          subst (λ xs. HasCheck xs c.iface) rest
          (begun_again db c.newer c.older c.iface c.chan c.length running.0 (subst (EachMayFollow db) c.begun due.1) (omega (arith, ends, over, now))
          (subst (λ xs. check_of xs c.iface ≡ Some running.0) c.begun running.1))
      | inr (older, _, at') ↦ c.kept older between at'
    ]

-- the region stays what it was since
pub region_stays : (db : List Domain) (f : Fact) (J newer base : Journal) (r : ℕ) → J ≡ newer ++ base → region_of db (f ∷ J) r ≡ region_of db J r
    → KeepsRegion db newer base r → KeepsRegion db (f ∷ newer) base r
region_stays db f J newer base r at same keeps newer' g between split = elim (split_cases f newer newer' between g split) [
  | inl (_, fact, rest) ↦
      let whole : J ≡ between ++ base = at ∙ ap (λ xs. xs ++ base) rest in
      subst (λ h. region_of db (h ∷ (between ++ base)) r ≡ region_of db (between ++ base) r) fact
      (subst (λ xs. region_of db (f ∷ xs) r ≡ region_of db xs r) whole same)
  | inr (older, _, split') ↦ keeps older g between split'
]

-- ---- checks that lapse

-- A check that hadn't lapsed hasn't lapsed while the subchannel is used.
unlapsed_stays : (f : Fact) (J : Journal) (r s end : ℕ) → IsUsed (f ∷ J) r s → (HasLapsed J r s end → ⊥) → HasLapsed (f ∷ J) r s end → ⊥
unlapsed_stays f J r s end used never lapsed = by lapsed.newer lapsed.older lapsed.split lapsed.is_last lapsed.long_ago
  where
    rest : (g : Fact) (xs : Journal) → f ∷ J ≡ g ∷ xs → J ≡ xs
    rest g xs e = cc

    by : (newer older : Journal) → f ∷ J ≡ newer ++ older → IsGreatest (IsUse older r s end) lapsed.last → lapsed.last + UNUSED_CHECK_MS ≤ now_of older → ⊥
    by [] older split is_last long =
        let now = is_last.none_above (now_of older) (inr (record { newer = []; older = older; split = refl; used = subst (λ xs. IsUsed xs r s) split used; at = refl })) in
        omega (arith, now, long)
    by (g ∷ newer) older split is_last long =
        never (record { newer = newer; older = older; split = rest g (newer ++ older) split; last = lapsed.last; is_last = is_last; long_ago = long })

-- a check that stands stays while the subchannel is used
pub stands_stays : (db : List Domain) (f : Fact) (J : Journal) (r s end : ℕ) → EachMayFollow db (f ∷ J) → LeavesRadio db f J r → IsUsed (f ∷ J) r s
    → Stands db J r s end → Stands db (f ∷ J) r s end
stands_stays db f J r s end due leaves used stands =
    let c = stands.counts in
    let over = stands.over in
    let later = now_later db (f ∷ []) J due in
    record {
      counts = record {
        newer = f ∷ c.newer;
        iface = c.iface;
        chan = c.chan;
        length = c.length;
        older = c.older;
        begun = ap (λ xs. f ∷ xs) c.begun;
        on_radio = radio_later db (f ∷ []) J c.iface r due c.on_radio;
        covered = c.covered;
        ends = c.ends;
        kept = kept_stays db f J r s end due stands;
        no_radar = λ has. c.no_radar (radar_before f c.newer r s leaves.unmet has);
        same_region = region_stays db f J c.newer (check_begun c.iface c.chan c.length ∷ c.older) r c.begun leaves.region c.same_region;
      };
      over = omega (arith, over, later);
      lasts = elim stands.lasts [
        | inl etsi ↦ inl (leaves.region ∙ etsi)
        | inr never ↦ inr (unlapsed_stays f J r s end used never)
      ];
    }

-- ---- regions

-- no facts change it
pub region_kept_by_none : (db : List Domain) (base : Journal) (r : ℕ) → KeepsRegion db [] base r
region_kept_by_none db base r newer f between at = absurd (not_split newer between f at)

-- a region that changed in a check had changed before
pub region_changed_before : (db : List Domain) (f : Fact) (J : Journal) (x : Iface) → region_of db (f ∷ J) x.radio ≡ region_of db J x.radio
    → RegionChangedInCheck db (f ∷ J) x → RegionChangedInCheck db J x
region_changed_before db f J x same moved = elim (split_cases f J moved.newer moved.older (check_begun x.index moved.chan moved.length) moved.begun) [
  | inl (none, _, _) ↦ absurd (moved.changed (subst (λ facts. KeepsRegion db facts base x.radio) (sym none) (region_kept_by_none db base x.radio)))
  | inr (newer, is, begun) ↦ record {
    newer = newer;
    chan = moved.chan;
    length = moved.length;
    older = moved.older;
    begun = begun;
    last = λ has. moved.last (subst (λ facts. HasCheck facts x.index) (sym is) (check_older f newer x.index has));
    changed = λ keeps. moved.changed (subst (λ facts. KeepsRegion db facts base x.radio) (sym is) (region_stays db f J newer base x.radio begun same keeps));
  }
]
  where
    base : Journal
    base = check_begun x.index moved.chan moved.length ∷ moved.older

-- ---- what may go on

abilities_stay : (db : List Domain) (f : Fact) (J : Journal) (r : ℕ) → LeavesRadio db f J r → abilities_of (f ∷ J) r ≡ abilities_of J r
abilities_stay db f J r leaves = ap (λ o. unwrap_or o no_abilities) leaves.profile

-- an interface asks the same
asked_stays : (db : List Domain) (f : Fact) (J : Journal) (x : Iface) (c : ChanDef) → LeavesRadio db f J x.radio → asked_by (f ∷ J) x c ≡ asked_by J x c
asked_stays db f J x c leaves =
    ap (λ (a : Abilities). asked a c x.kind (is_indoor (f ∷ J)) x.setting) (abilities_stay db f J x.radio leaves)
    ∙ ap (λ b. asked (abilities_of J x.radio) c x.kind b x.setting) leaves.indoor

-- a subchannel that has to be checked had to be before
bound_before : (db : List Domain) (f : Fact) (J : Journal) (r s : ℕ) → LeavesRadio db f J r → IsBoundOn db (f ∷ J) r s → IsBoundOn db J r s
bound_before db f J r s leaves bound = subst (λ ds. IsBound ds s) leaves.domains bound

-- an operation that goes on where it might may go on
pub permitted_stays : (db : List Domain) (f : Fact) (J : Journal) (x : Iface) (c : ChanDef) (power : ℕ) → EachMayFollow db (f ∷ J) → LeavesRadio db f J x.radio
    → Operates (f ∷ J) x c → IsPermitted db J x c power → IsPermitted db (f ∷ J) x c power
permitted_stays db f J x c power due leaves operates may = record {
  carried = carried_over db J (f ∷ J) x c (abilities_stay db f J x.radio leaves) leaves.domains may.carried;
  fits = fits_over db J (f ∷ J) x c power (asked_stays db f J x c leaves) leaves.domains may.fits;
  given = given_over db J (f ∷ J) x c power (asked_stays db f J x c leaves) leaves.domains may.given;
  clear = λ sends s covered bound.
      let clear = may.clear sends s covered (bound_before db f J x.radio s leaves bound) in
      record {
        quiet = quiet_stays db f J x.radio s due leaves clear.quiet;
        end = clear.end;
        stands = stands_stays db f J x.radio s clear.end due leaves (used_by (f ∷ J) x c s operates sends covered) clear.stands;
      };
}

pub check_permitted_stays : (db : List Domain) (f : Fact) (J : Journal) (x : Iface) (k : Check) → EachMayFollow db (f ∷ J) → LeavesRadio db f J x.radio
    → IsCheckPermitted db J x k → IsCheckPermitted db (f ∷ J) x k
check_permitted_stays db f J x k due leaves may = record {
  carried = carried_over db J (f ∷ J) x k.chan (abilities_stay db f J x.radio leaves) leaves.domains may.carried;
  fits = fits_over db J (f ∷ J) x k.chan 0 (asked_stays db f J x k.chan leaves) leaves.domains may.fits;
  quiet = λ sends s covered bound. quiet_stays db f J x.radio s due leaves (may.quiet sends s covered (bound_before db f J x.radio s leaves bound));
  same_region = λ changed. may.same_region (region_changed_before db f J x leaves.region changed);
}
