-- Some cause comes, or none does; and so a sweep has its facts.
use Rattle.std.proofs.Common.{◌≡◌, ℕ, ◌⊎◌, List, [], ◌∷◌, ◌++◌, length, Option, Some, None, MatchOption, refl, sym, subst, inl, inr}
use Rattle.std.specs.Option.{option_to_list}
use Rattle.std.proofs.lemmas.Bool.{cases_eq}
use Rattle.freq_range.proofs.Deciding.{Told, told_as, told_both, told_lt}
use Rattle.rule_tables.specs.declared.domain.Domain.{Domain}
use Rattle.chan_def.specs.Covered.{IsCovered}
use Rattle.chan_def.specs.Kinds.{initiates}
use Rattle.chan_def.specs.declared.definition.ChanDef.{ChanDef}
use Rattle.chan_flags.specs.Verdicts.{Bars, IsAbove, power_of}
use Rattle.chan_flags.specs.declared.asked.Obstacle.{Obstacle}
use Rattle.chan_flags.specs.declared.asked.Obstacle.TheVariants.{Missing, Unruled, Narrow, OfdmBarred, IrBarred, OutdoorBarred}
use Rattle.chan_flags.specs.declared.verdict.PowerSetting.{PowerSetting}
use Rattle.chan_flags.proofs.Existing.{first_or_none, some_length, some_limit, told_bars, told_not, told_true, within_or_above}
use Rattle.chan_flags.proofs.OneAnswer.{IsLimit-unique}
use Rattle.reg_journal.specs.Applicable.{applies}
use Rattle.reg_journal.specs.Causes.{IsFree, SomeComes, ◌before◌, Where, AtLowest}
use Rattle.reg_journal.specs.Facts.{Fact, Journal, stopped, powered, check_begun, check_dropped}
use Rattle.reg_journal.specs.Permits.{asked_by, channels_beside, distinct, width_mhz, IsBoundOn, IsLengthOf, IsLimitOf, IsPowerOf, LacksChannel, LacksWidth, LacksContext, RadarForbids, RadioForbids, RulesForbid, PassesLimit, LacksRadarWidth, MetRadar, LacksCheck, HasNothingToCheck, EndsOperation, EndsCheck, BarsOperation, BarsCheck}
use Rattle.reg_journal.specs.Present.{Check, Iface, Operation, abilities_of, check_of, operation_of}
use Rattle.reg_journal.specs.Radar.{HasCheck, IsQuiet, KeepsRegion, NoneStands}
use Rattle.reg_journal.specs.Sweep.{AreSwept, Becomes, CheckBecomes, MustDrop, OperationBecomes, RegionChangedInCheck}
use Rattle.reg_journal.specs.declared.refusal.Refusal.{Refusal}
use Rattle.reg_journal.specs.declared.refusal.Refusal.TheVariants.{RadioLacks, NoRule, Width as TooNarrow, NoOfdm, NoIr, NoOutdoor, Power, Radar, Unchecked}
use Rattle.reg_journal.proofs.Granting.{not_above}
use Rattle.reg_journal.proofs.Permitting.{told_bound, told_none_stands, told_three}
use Rattle.reg_journal.proofs.Splitting.{SomeSplit, told_split}
use Rattle.reg_journal.proofs.ToldStates.{some_stands, told_check, told_quiet, told_region_kept}

-- some refusal comes by the cause, or none does
abbrev pub TellsCause : (Refusal → Type 0) → Type 0
TellsCause cause = SomeComes cause ⊎ IsFree cause

pub cause-where : (P : Type 0) (x : Refusal) → Told P → TellsCause (Where P x)
cause-where P x (inl is) = inl (x, (is, refl))
cause-where P x (inr never) = inr (λ e cause. never cause.0)

-- the next is asked where the first is free
pub cause-before : (one next : Refusal → Type 0) → TellsCause one → (IsFree one → TellsCause next) → TellsCause (one before next)
cause-before one next (inl (e, cause)) rest = inl (e, inl cause)
cause-before one next (inr free) rest = elim (rest free) [
  | inl (e, cause) ↦ inl (e, inr (free, cause))
  | inr none ↦ inr (λ e either. elim either [ inl cause ↦ free e cause | inr cause ↦ none e cause.1 ])
]

cause-lowest : (bars : ℕ → Type 0) (c : ChanDef) (refusal : ℕ → Refusal) → ((s : ℕ) → Told (bars s)) → TellsCause (AtLowest bars c refusal)
cause-lowest bars c refusal tell = elim (first_or_none bars c tell) [
  | inl none ↦ inr (λ e (s, first, same). none s first.covered first.here)
  | inr (s, first) ↦ inl (refusal s, (s, first, refl))
]

-- ---- each cause

cause-obstacle : (db : List Domain) (J : Journal) (x : Iface) (c : ChanDef) (obstacle : Obstacle) (refusal : ℕ → Refusal)
    → TellsCause (AtLowest (Bars (applies db J x.radio) (asked_by J x c) obstacle) c refusal)
cause-obstacle db J x c obstacle refusal =
    cause-lowest (Bars (applies db J x.radio) (asked_by J x c) obstacle) c refusal (told_bars (applies db J x.radio) (asked_by J x c) obstacle)

cause-channel : (db : List Domain) (J : Journal) (x : Iface) (c : ChanDef) → TellsCause (LacksChannel db J x c)
cause-channel db J x c = cause-obstacle db J x c Missing RadioLacks

cause-width : (J : Journal) (x : Iface) (c : ChanDef) → TellsCause (LacksWidth J x c)
cause-width J x c = cause-where _ _ (told_lt (abilities_of J x.radio).width_mhz (width_mhz c))

cause-context : (J : Journal) (x : Iface) (c : ChanDef) → TellsCause (LacksContext J x c)
cause-context J x c = cause-where _ _ (told_lt (abilities_of J x.radio).contexts (length (distinct (c ∷ channels_beside J x))))

cause-rules : (db : List Domain) (J : Journal) (x : Iface) (c : ChanDef) → TellsCause (RulesForbid db J x c)
cause-rules db J x c =
    cause-before (AtLowest (Bars (applies db J x.radio) (asked_by J x c) Unruled) c NoRule) _ (cause-obstacle db J x c Unruled NoRule) (λ free.
    cause-before (AtLowest (Bars (applies db J x.radio) (asked_by J x c) Narrow) c TooNarrow) _ (cause-obstacle db J x c Narrow TooNarrow) (λ free.
    cause-before (AtLowest (Bars (applies db J x.radio) (asked_by J x c) OfdmBarred) c NoOfdm) _ (cause-obstacle db J x c OfdmBarred NoOfdm) (λ free.
    cause-before (AtLowest (Bars (applies db J x.radio) (asked_by J x c) IrBarred) c NoIr) _ (cause-obstacle db J x c IrBarred NoIr) (λ free.
    cause-obstacle db J x c OutdoorBarred NoOutdoor))))

pub limit_of : (db : List Domain) (J : Journal) (x : Iface) (c : ChanDef) → (limit : ℕ) × IsLimitOf db J x c limit
limit_of db J x c = some_limit (applies db J x.radio) (asked_by J x c)

-- a fixed power that may be above the limit
pub cause-power : (db : List Domain) (J : Journal) (x : Iface) (c : ChanDef) (setting : PowerSetting)
    → TellsCause (PassesLimit db J x setting c)
cause-power db J x c setting =
    let limit = limit_of db J x c in
    elim (within_or_above setting limit.0) [
      | inl within ↦ inr (λ e (other, is, above, same). not_above setting limit.0 within (subst (IsAbove setting) (IsLimit-unique (applies db J x.radio) (asked_by J x c) other limit.0 is limit.1) above))
      | inr above ↦ inl (Power limit.0, (limit.0, limit.1, above, refl))
    ]

cause-radar_width : (db : List Domain) (J : Journal) (x : Iface) (c : ChanDef) → TellsCause (LacksRadarWidth db J x c)
cause-radar_width db J x c = cause-where _ _ (told_three _ _ _ (told_true (initiates x.kind)) bound (told_lt (abilities_of J x.radio).radar_mhz (width_mhz c)))
  where
    bound : Told ((s : ℕ) × IsCovered c s × IsBoundOn db J x.radio s)
    bound = elim (first_or_none (IsBoundOn db J x.radio) c (told_bound db J x.radio)) [
      | inl none ↦ inr (λ (s, covered, is). none s covered is)
      | inr (s, first) ↦ inl (s, first.covered, first.here)
    ]

cause-radar : (db : List Domain) (J : Journal) (x : Iface) (c : ChanDef) → TellsCause (MetRadar db J x c)
cause-radar db J x c = cause-lowest _ c Radar
    (λ s. told_three _ _ _ (told_true (initiates x.kind)) (told_bound db J x.radio s) (told_not (IsQuiet J x.radio s) (told_quiet J x.radio s)))

cause-check : (db : List Domain) (J : Journal) (x : Iface) (c : ChanDef) → TellsCause (LacksCheck db J x c)
cause-check db J x c = cause-lowest _ c Unchecked
    (λ s. told_three _ _ _ (told_true (initiates x.kind)) (told_bound db J x.radio s) (told_none_stands db J x.radio s))

pub told_nothing : (db : List Domain) (J : Journal) (x : Iface) (c : ChanDef) → Told (HasNothingToCheck db J x c)
told_nothing db J x c = elim (first_or_none (λ s. IsBoundOn db J x.radio s × NoneStands db J x.radio s) c (λ s. told_both (told_bound db J x.radio s) (told_none_stands db J x.radio s))) [
  | inl none ↦ inl (λ s covered bound. elim (some_stands db J x.radio s) [ inl found ↦ found | inr not ↦ absurd (none s covered (bound, not)) ])
  | inr (s, first) ↦ inr (λ all. let found = all s first.covered first.here.0 in first.here.1 found.0 found.1)
]

-- ---- all of it

cause-radio : (db : List Domain) (J : Journal) (x : Iface) (c : ChanDef) → TellsCause (RadioForbids db J x c)
cause-radio db J x c = cause-before (LacksChannel db J x c) _ (cause-channel db J x c) (λ free. cause-width J x c)

cause-by_radar : (db : List Domain) (J : Journal) (x : Iface) (c : ChanDef) → TellsCause (RadarForbids db J x c)
cause-by_radar db J x c = cause-before (LacksRadarWidth db J x c) _ (cause-radar_width db J x c) (λ free. cause-radar db J x c)

cause-behind : (db : List Domain) (J : Journal) (x : Iface) (c : ChanDef)
    → TellsCause (RulesForbid db J x c before PassesLimit db J x x.setting c before RadarForbids db J x c before LacksCheck db J x c)
cause-behind db J x c =
    cause-before (RulesForbid db J x c) _ (cause-rules db J x c) (λ free.
    cause-before (PassesLimit db J x x.setting c) _ (cause-power db J x c x.setting) (λ free.
    cause-before (RadarForbids db J x c) _ (cause-by_radar db J x c) (λ free. cause-check db J x c)))

cause-of_check : (db : List Domain) (J : Journal) (x : Iface) (c : ChanDef) → TellsCause (RulesForbid db J x c before RadarForbids db J x c)
cause-of_check db J x c = cause-before (RulesForbid db J x c) _ (cause-rules db J x c) (λ free. cause-by_radar db J x c)

cause-ends_operation : (db : List Domain) (J : Journal) (x : Iface) (c : ChanDef) → TellsCause (EndsOperation db J x c)
cause-ends_operation db J x c = cause-before (RadioForbids db J x c) _ (cause-radio db J x c) (λ free. cause-behind db J x c)

cause-ends_check : (db : List Domain) (J : Journal) (x : Iface) (c : ChanDef) → TellsCause (EndsCheck db J x c)
cause-ends_check db J x c = cause-before (RadioForbids db J x c) _ (cause-radio db J x c) (λ free. cause-of_check db J x c)

pub cause-bars_operation : (db : List Domain) (J : Journal) (x : Iface) (c : ChanDef) → TellsCause (BarsOperation db J x c)
cause-bars_operation db J x c =
    cause-before (RadioForbids db J x c) _ (cause-radio db J x c) (λ free. cause-before (LacksContext J x c) _ (cause-context J x c) (λ free. cause-behind db J x c))

pub cause-bars_check : (db : List Domain) (J : Journal) (x : Iface) (c : ChanDef) → TellsCause (BarsCheck db J x c)
cause-bars_check db J x c =
    cause-before (RadioForbids db J x c) _ (cause-radio db J x c) (λ free. cause-before (LacksContext J x c) _ (cause-context J x c) (λ free. cause-of_check db J x c))

-- ---- regions

-- the older facts begin with a check on the interface, since which the region changed
abbrev BeginsWithMovedCheck : List Domain → Iface → Journal → Journal → Type 0
BeginsWithMovedCheck db x newer [] = ⊥
BeginsWithMovedCheck db x newer (check_begun i c n ∷ older) =
    ((i ≡ x.index) × (HasCheck newer x.index → ⊥)) × (KeepsRegion db newer (check_begun x.index c n ∷ older) x.radio → ⊥)
BeginsWithMovedCheck db x newer (f ∷ older) = ⊥

told_moved_check : (db : List Domain) (x : Iface) (newer older : Journal) → Told (BeginsWithMovedCheck db x newer older)
told_moved_check db x newer [] = inr (λ is. is)
told_moved_check db x newer (check_begun i c n ∷ older) =
    told_both (told_both (cases_eq i x.index) (told_not (HasCheck newer x.index) (told_check newer x.index)))
    (told_not (KeepsRegion db newer (check_begun x.index c n ∷ older) x.radio) (told_region_kept db newer (check_begun x.index c n ∷ older) x.radio))
told_moved_check db x newer (f ∷ older) = inr (λ is. is)

moved_from : (db : List Domain) (J : Journal) (x : Iface) → SomeSplit (BeginsWithMovedCheck db x) J → RegionChangedInCheck db J x
moved_from db J x (newer, [], at, is) = absurd is
moved_from db J x (newer, check_begun i c n ∷ older, at, ((same, last), changed)) = record {
  newer = newer;
  chan = c;
  length = n;
  older = older;
  begun = subst (λ k. J ≡ newer ++ check_begun k c n ∷ older) same at;
  last = last;
  changed = changed;
}
moved_from db J x (newer, f ∷ older, at, is) = absurd is

told_region_changed : (db : List Domain) (J : Journal) (x : Iface) → Told (RegionChangedInCheck db J x)
told_region_changed db J x = told_as (moved_from db J x)
    (λ is. (is.newer, check_begun x.index is.chan is.length ∷ is.older, is.begun, ((refl, is.last), is.changed)))
    (told_split (BeginsWithMovedCheck db x) (told_moved_check db x) J)

-- ---- sweeps

told_must_drop : (db : List Domain) (J : Journal) (x : Iface) (k : Check) → Told (MustDrop db J x k)
told_must_drop db J x k = elim (cause-ends_check db J x k.chan) [
  | inl comes ↦ inl (inl comes)
  | inr free ↦ elim (told_region_changed db J x) [
    | inl changed ↦ inl (inr changed)
    | inr same ↦ inr (λ must. elim must [ inl (e, cause) ↦ free e cause | inr changed ↦ same changed ])
  ]
]

some_becomes : (db : List Domain) (J : Journal) (x : Iface) → (fact : Option Fact) × Becomes db J x fact
some_becomes db J x = by (operation_of J x.index) (check_of J x.index)
  where
    operates : (o : Operation) → (fact : Option Fact) × OperationBecomes db J x o fact
    operates o = elim (cause-ends_operation db J x o.chan) [
      | inl comes ↦ (Some (stopped x.index), (refl, comes))
      | inr free ↦
          let limit = limit_of db J x o.chan in
          let power = power_of x.setting limit.0 in
          elim (cases_eq power o.power) [
            | inl same ↦ (None, (free, (limit.0, limit.1, sym same)))
            | inr other ↦ (Some (powered x.index power), (refl, free, (limit.0, limit.1, refl), other))
          ]
    ]

    checks : (k : Check) → (fact : Option Fact) × CheckBecomes db J x k fact
    checks k = elim (told_must_drop db J x k) [
      | inl must ↦ (Some (check_dropped x.index), (refl, must))
      | inr stays ↦ (None, stays)
    ]

    by : (o : Option Operation) (k : Option Check) → (fact : Option Fact) × MatchOption o (MatchOption k (fact ≡ None) (λ k. CheckBecomes db J x k fact)) (λ o. OperationBecomes db J x o fact)
    by None None = (None, refl)
    by None (Some k) = checks k
    by (Some o) k = operates o

pub some_swept : (db : List Domain) (J : Journal) (xs : List Iface) → (facts : List Fact) × AreSwept db J xs facts
some_swept db J [] = ([], refl)
some_swept db J (x ∷ xs) =
    let first = some_becomes db J x in
    let rest = some_swept db J xs in
    (option_to_list first.0 ++ rest.0, (first.0, rest.0, first.1, rest.1, refl))

pub power_for : (db : List Domain) (J : Journal) (x : Iface) (c : ChanDef) → (power : ℕ) × IsPowerOf db J x c power
power_for db J x c = let limit = limit_of db J x c in (power_of x.setting limit.0, (limit.0, limit.1, refl))

pub length_for : (db : List Domain) (J : Journal) (x : Iface) (c : ChanDef) → (length : ℕ) × IsLengthOf db J x c length
length_for db J x c = some_length (applies db J x.radio) (asked_by J x c)
