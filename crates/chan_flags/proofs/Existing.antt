-- There is a verdict on whatever is asked.
use Rattle.std.proofs.Common.{◌≡◌, ℕ, ◌+◌, ◌-◌, ◌*◌, ◌/◌, ◌<◌, ◌⊎◌, false, List, Contains, IsTrue, arith, refl, subst, inl, inr}
use Rattle.std.proofs.lemmas.Bool.{cases_eq, cases_lt}
use Rattle.freq_range.proofs.Deciding.{Told, tells_bool, told_any, told_as, told_both, told_lt}
use Rattle.rule_tables.specs.Governing.{NoneGoverns}
use Rattle.rule_tables.specs.declared.domain.Domain.{Domain}
use Rattle.rule_tables.proofs.Governed.{governs_or_none}
use Rattle.rule_tables.proofs.Widths.{some_width}
use Rattle.chan_def.specs.Covered.{width_khz, IsCovered, IsSubchannel}
use Rattle.chan_def.specs.Kinds.{initiates}
use Rattle.chan_def.specs.declared.definition.ChanDef.{ChanDef}
use Rattle.chan_def.specs.declared.width.Width.{Width}
use Rattle.chan_def.specs.declared.width.Width.TheVariants.{Noht, W20, W40, W80, W160, W320}
use Rattle.rule_intersect.specs.Subchannels.{SomeLacksRule}
use Rattle.rule_intersect.specs.Tuples.{Choice, check_ms}
use Rattle.rule_intersect.proofs.OwnRows.{element_at}
use Rattle.chan_flags.specs.Verdicts.{power_of, Bars, BarsFirst, BarsNone, HasWidth, IsAbove, IsCheckLength, IsGoverning, IsLimit, IsVerdict, IsWithinLimit, SomeGoverning}
use Rattle.chan_flags.specs.declared.asked.Asked.{Asked}
use Rattle.chan_flags.specs.declared.asked.Obstacle.{Obstacle}
use Rattle.chan_flags.specs.declared.asked.Obstacle.TheVariants.{Missing, Unruled, Narrow, OfdmBarred, IrBarred, OutdoorBarred}
use Rattle.chan_flags.specs.declared.verdict.ChanRefusal.TheVariants.{LacksChannel, LacksWidth, NoRule, TooNarrow, NoOfdm, NoIr, NoOutdoor, AboveLimit}
use Rattle.chan_flags.specs.declared.verdict.PowerSetting.{PowerSetting}
use Rattle.chan_flags.specs.declared.verdict.PowerSetting.TheVariants.{Auto, Limit, Fixed}
use Rattle.chan_flags.specs.declared.verdict.Verdict.{Verdict}
use Rattle.chan_flags.specs.declared.verdict.Verdict.TheVariants.{Fits, Refused}
use Rattle.chan_flags.proofs.Covering.{one_centre}
use Rattle.chan_flags.proofs.Ends.{Downward, Ends, IsOrder, Upward, downward, ends_any, ends_as, ends_below, ends_either, ends_none, ends_one, upward}
use Rattle.chan_flags.proofs.Together.{one_governing}
use Rattle.chan_flags.proofs.Told.{told_below, told_radio_channel}

pub told_true : (b : _) → Told (IsTrue b)
told_true b = tells_bool b _

pub told_not : (P : Type 0) → Told P → Told (P → ⊥)
told_not P (inl is) = inr (λ never. never is)
told_not P (inr never) = inl never

-- ---- governing rules

-- the domain has a governing rule for the subchannel, or none
pub governing_or_none : (d : Domain) (s : ℕ) → ((g : Choice) × IsGoverning d s g) ⊎ NoneGoverns d.rules s
governing_or_none d s = elim (governs_or_none d.rules s) [
  | inr none ↦ inr none
  | inl (k, governs) ↦
      let rule = element_at d.rules k governs.here.0 in
      let width = some_width d.rules k rule.0 rule.1 in
      inl (record { number = k; rule = rule.0; width_khz = width.0 }, (record { rule = rule.1; width = width.1 }, governs))
]

not_none : (d : Domain) (s : ℕ) (g : Choice) → IsGoverning d s g → NoneGoverns d.rules s → ⊥
not_none d s g is none = none g.number g.rule is.1.here.0 (is.1.here.1 g.rule)

told_none_governs : (d : Domain) (s : ℕ) → Told (NoneGoverns d.rules s)
told_none_governs d s = elim (governing_or_none d s) [
  | inl (g, is) ↦ inr (not_none d s g is)
  | inr none ↦ inl none
]

told_of_domain : (P : Choice → Type 0) → ((g : Choice) → Told (P g)) → (d : Domain) (s : ℕ) → Told ((g : Choice) × IsGoverning d s g × P g)
told_of_domain P tell d s = elim (governing_or_none d s) [
  | inr none ↦ inr (λ (g, is, p). not_none d s g is none)
  | inl (g, is) ↦ elim (tell g) [
    | inl p ↦ inl (g, is, p)
    | inr never ↦ inr (λ (h, is_h, p). never (subst P (one_governing d s h g is_h is) p))
  ]
]

pub told_governing : (P : Choice → Type 0) → ((g : Choice) → Told (P g)) → (ds : List Domain) (s : ℕ) → Told (SomeGoverning P ds s)
told_governing P tell ds s = elim (told_any (λ d. (g : Choice) × IsGoverning d s g × P g) (λ d. told_of_domain P tell d s) ds) [
  | inl (d, has, (g, is, p)) ↦ inl (d, has, g, is, p)
  | inr none ↦ inr (λ (d, has, g, is, p). none d has (g, is, p))
]

told_lacks : (ds : List Domain) (s : ℕ) → Told (SomeLacksRule ds s)
told_lacks ds s = elim (told_any (λ d. NoneGoverns d.rules s) (λ d. told_none_governs d s) ds) [
  | inl found ↦ inl found
  | inr none ↦ inr (λ (d, has, is). none d has is)
]

pub told_bars : (ds : List Domain) (q : Asked) (obstacle : Obstacle) (s : ℕ) → Told (Bars ds q obstacle s)
told_bars ds q Missing s = told_not _ (told_radio_channel q.profile.bands s)
told_bars ds q Unruled s = told_lacks ds s
told_bars ds q Narrow s = told_governing (λ g. g.width_khz < width_khz q.chan.width) (λ g. told_lt g.width_khz (width_khz q.chan.width)) ds s
told_bars ds q OfdmBarred s =
    told_both (told_lt 20000 (width_khz q.chan.width)) (told_governing (λ g. IsTrue g.rule.flags.no_ofdm) (λ g. told_true g.rule.flags.no_ofdm) ds s)
told_bars ds q IrBarred s =
    told_both (told_true (initiates q.kind)) (told_governing (λ g. IsTrue g.rule.flags.no_ir) (λ g. told_true g.rule.flags.no_ir) ds s)
told_bars ds q OutdoorBarred s = told_as (λ (sends, rest). (sends, rest.0, rest.1)) (λ (sends, outdoors, some). (sends, (outdoors, some)))
    (told_both (told_true (initiates q.kind))
    (told_both (tells_bool q.indoor false) (told_governing (λ g. IsTrue g.rule.flags.no_outdoor) (λ g. told_true g.rule.flags.no_outdoor) ds s)))

-- the last of the numbers of governing rules with a property
ends_of_domain : (R : ℕ → ℕ → Type 0) → IsOrder R → (P : Choice → Type 0) (f : Choice → ℕ) → ((g : Choice) → Told (P g)) → (s : ℕ) (d : Domain)
    → Ends R (λ n. (g : Choice) × IsGoverning d s g × P g × (n ≡ f g))
ends_of_domain R order P f tell s d = elim (governing_or_none d s) [
  | inr none ↦ ends_none R _ (λ n (g, is, p, at). not_none d s g is none)
  | inl (g, is) ↦ ends_as R (λ n. P g × (n ≡ f g)) _ (λ n (p, at). (g, is, p, at)) (here g is) (ends_one R order (P g) (f g) (tell g))
]
  where
    here : (g : Choice) → IsGoverning d s g → (n : ℕ) → (h : Choice) × IsGoverning d s h × P h × (n ≡ f h) → P g × (n ≡ f g)
    here g is n (h, is_h, p, at) = subst (λ x. P x × (n ≡ f x)) (one_governing d s h g is_h is) (p, at)

ends_of_domains : (R : ℕ → ℕ → Type 0) → IsOrder R → (P : Choice → Type 0) (f : Choice → ℕ) → ((g : Choice) → Told (P g)) → (ds : List Domain) (s : ℕ)
    → Ends R (λ n. SomeGoverning (λ g. P g × (n ≡ f g)) ds s)
ends_of_domains R order P f tell ds s = ends_as R
    (λ n. (d : Domain) × Contains ds d × ((g : Choice) × IsGoverning d s g × P g × (n ≡ f g)))
    (λ n. SomeGoverning (λ g. P g × (n ≡ f g)) ds s)
    (λ n (d, has, (g, is, p, at)). (d, has, g, is, (p, at)))
    (λ n (d, has, g, is, (p, at)). (d, has, (g, is, p, at)))
    (ends_any R order Domain (λ d n. (g : Choice) × IsGoverning d s g × P g × (n ≡ f g)) (ends_of_domain R order P f tell s) ds)

-- ---- subchannels

-- whether the channel covers the subchannel
pub told_covered : (c : ChanDef) (s : ℕ) → Told (IsCovered c s)
told_covered c s = told_as
    (λ (i, below, at). (i, record { within = below; at = at }))
    (λ (i, is). (i, is.within, is.at))
    (told_below (λ i. s + width_khz c.width / 2 ≡ c.centre_khz + 10000 + 20000 * i) (λ i. cases_eq (s + width_khz c.width / 2) (c.centre_khz + 10000 + 20000 * i)) (width_khz c.width / 20000))

-- the centre of the subchannel at place i, or none where the channel begins below 0
subchannel_at : (width centre i : ℕ) → i < width / 20000 → ((s : ℕ) × IsSubchannel width centre i s) ⊎ ((s : ℕ) → IsSubchannel width centre i s → ⊥)
subchannel_at width centre i within = elim (cases_lt (centre + 10000 + 20000 * i) (width / 2)) [
  | inl less ↦ inr (λ s is. let at = is.at in omega (arith, less, at))
  | inr more ↦ inl (centre + 10000 + 20000 * i - width / 2, record { within = within; at = omega (arith, more) })
]

ends_of_place : (R : ℕ → ℕ → Type 0) → IsOrder R → (Q : ℕ → ℕ → Type 0) → ((s : ℕ) → Ends R (Q s)) → (width centre i : ℕ)
    → Ends R (λ n. (s : ℕ) × IsSubchannel width centre i s × Q s n)
ends_of_place R order Q each width centre i = elim (cases_lt i (width / 20000)) [
  | inr past ↦ ends_none R _ (λ n (s, is, q). let within = is.within in omega (arith, within, past))
  | inl within ↦ elim (subchannel_at width centre i within) [
    | inr none ↦ ends_none R _ (λ n (s, is, q). none s is)
    | inl (s, is) ↦ ends_as R (Q s) _ (λ n q. (s, is, q)) (λ n (t, is_t, q). subst (λ x. Q x n) (one_centre width centre i t s is_t is) q) (each s)
  ]
]

-- the last of the numbers of all subchannels of the channel
pub ends_covered : (R : ℕ → ℕ → Type 0) → IsOrder R → (Q : ℕ → ℕ → Type 0) → ((s : ℕ) → Ends R (Q s)) → (c : ChanDef)
    → Ends R (λ n. (s : ℕ) × IsCovered c s × Q s n)
ends_covered R order Q each c = ends_as R
    (λ n. (i : ℕ) × (i < width_khz c.width / 20000) × ((s : ℕ) × IsSubchannel (width_khz c.width) c.centre_khz i s × Q s n))
    (λ n. (s : ℕ) × IsCovered c s × Q s n)
    (λ n (i, within, (s, is, q)). (s, (i, is), q))
    (λ n (s, (i, is), q). (i, is.within, (s, is, q)))
    (ends_below R order (λ i n. (s : ℕ) × IsSubchannel (width_khz c.width) c.centre_khz i s × Q s n) (ends_of_place R order Q each (width_khz c.width) c.centre_khz) (width_khz c.width / 20000))

-- the obstacle bars none of the channel's subchannels, or one of them is the lowest that it bars
pub first_or_none : (bars : ℕ → Type 0) (c : ChanDef) → ((s : ℕ) → Told (bars s)) → BarsNone bars c ⊎ ((s : ℕ) × BarsFirst bars c s)
first_or_none bars c tell = elim (ends_covered Downward downward (λ s n. bars s × (n ≡ s)) (λ s. ends_one Downward downward (bars s) s (tell s)) c) [
  | inl none ↦ inl (λ s covered bar. none s (s, covered, (bar, refl)))
  | inr (n, (s, covered, (bar, same)), last) ↦ inr (
    s,
    record {
      covered = covered;
      here = bar;
      none_below = λ t below covers other. let least = last t (t, covers, (other, refl)) in omega (arith, least, below, same);
    },
  )
]

-- ---- limits and lengths

pub some_limit : (ds : List Domain) (q : Asked) → (limit : ℕ) × IsLimit ds q limit
some_limit ds q = from (ends_either Downward downward (λ n. n ≡ q.profile.power_mbm) (λ n. (s : ℕ) × IsCovered q.chan s × SomeGoverning (λ g. Unit {0} × (n ≡ g.rule.eirp_mbm)) ds s)
    (ends_as Downward (λ n. Unit {0} × (n ≡ q.profile.power_mbm)) _ (λ n is. is.1) (λ n is. (tt, is)) (ends_one Downward downward (Unit {0}) q.profile.power_mbm (inl tt)))
    (ends_covered Downward downward (λ s n. SomeGoverning (λ g. Unit {0} × (n ≡ g.rule.eirp_mbm)) ds s) (ends_of_domains Downward downward (λ g. Unit {0}) (λ g. g.rule.eirp_mbm) (λ g. inl tt) ds) q.chan))
  where
    from : Ends Downward (λ n. (n ≡ q.profile.power_mbm) ⊎ ((s : ℕ) × IsCovered q.chan s × SomeGoverning (λ g. Unit {0} × (n ≡ g.rule.eirp_mbm)) ds s)) → (limit : ℕ) × IsLimit ds q limit
    from (inl none) = absurd (none q.profile.power_mbm (inl refl))
    from (inr (limit, is, last)) = (
      limit,
      record {
        radio = last q.profile.power_mbm (inl refl);
        rules = λ s d g covered has governs. last g.rule.eirp_mbm (inr (s, covered, (d, has, g, governs, (tt, refl))));
        least = elim is [
          | inl radio ↦ inl radio
          | inr (s, covered, (d, has, g, governs, (_, at))) ↦ inr (s, covered, (d, has, g, governs, at))
        ];
      },
    )

pub some_length : (ds : List Domain) (q : Asked) → (length : ℕ) × IsCheckLength ds q length
some_length ds q = from (ends_covered Upward upward (λ s n. SomeGoverning (λ g. IsTrue g.rule.flags.dfs × (n ≡ check_ms g.rule)) ds s)
    (ends_of_domains Upward upward (λ g. IsTrue g.rule.flags.dfs) (λ g. check_ms g.rule) (λ g. told_true g.rule.flags.dfs) ds) q.chan)
  where
    from : Ends Upward (λ n. (s : ℕ) × IsCovered q.chan s × SomeGoverning (λ g. IsTrue g.rule.flags.dfs × (n ≡ check_ms g.rule)) ds s) → (length : ℕ) × IsCheckLength ds q length
    from (inl none) = (
      0,
      record {
        rules = λ s d g covered has governs dfs. absurd (none (check_ms g.rule) (s, covered, (d, has, g, governs, (dfs, refl))));
        greatest = inl refl;
      },
    )
    from (inr (length, is, last)) = (
      length,
      record {
        rules = λ s d g covered has governs dfs. last (check_ms g.rule) (s, covered, (d, has, g, governs, (dfs, refl)));
        greatest = inr is;
      },
    )

-- ---- verdicts

-- every width is one in whole MHz
whole : (w : Width) → (mhz : ℕ) × (mhz * 1000 ≡ width_khz w)
whole Noht = (20, refl)
whole W20 = (20, refl)
whole W40 = (40, refl)
whole W80 = (80, refl)
whole W160 = (160, refl)
whole W320 = (320, refl)

pub within_or_above : (setting : PowerSetting) (limit : ℕ) → IsWithinLimit setting limit ⊎ IsAbove setting limit
within_or_above Auto limit = inl tt
within_or_above (Limit power) limit = inl tt
within_or_above (Fixed power) limit = elim (cases_lt limit power) [ inl above ↦ inr above | inr within ↦ inl within ]

pub some_verdict : (ds : List Domain) (q : Asked) → (v : Verdict) × IsVerdict ds q v
some_verdict ds q = elim (first Missing) [
  | inr (s, is) ↦ (Refused (LacksChannel s), is)
  | inl none ↦ elim (cases_lt (q.profile.width_mhz * 1000) (width_khz q.chan.width)) [
    | inl lacks ↦ let mhz = whole q.chan.width in (Refused (LacksWidth mhz.0), ((none, tt), lacks, mhz.1))
    | inr wide ↦ by_rules none wide
  ]
]
  where
    first : (obstacle : Obstacle) → BarsNone (Bars ds q obstacle) q.chan ⊎ ((s : ℕ) × BarsFirst (Bars ds q obstacle) q.chan s)
    first obstacle = first_or_none (Bars ds q obstacle) q.chan (told_bars ds q obstacle)

    by_power : BarsNone (Bars ds q Missing) q.chan → HasWidth q → BarsNone (Bars ds q Unruled) q.chan → BarsNone (Bars ds q Narrow) q.chan → BarsNone (Bars ds q OfdmBarred) q.chan
        → BarsNone (Bars ds q IrBarred) q.chan → BarsNone (Bars ds q OutdoorBarred) q.chan → (v : Verdict) × IsVerdict ds q v
    by_power none wide ruled broad ofdm ir outdoor =
        let limit = some_limit ds q in
        let ms = some_length ds q in
        elim (within_or_above q.setting limit.0) [
          | inr above ↦ (Refused (AboveLimit limit.0), (wide, (none, (ruled, (broad, (ofdm, (ir, (outdoor, tt)))))), limit.1, above))
          | inl within ↦ (
            Fits (power_of q.setting limit.0) ms.0,
            record {
              has_width = wide;
              none_bars = (none, (ruled, (broad, (ofdm, (ir, (outdoor, tt))))));
              limit = limit.0;
              is_limit = limit.1;
              within = within;
              power_is = refl;
              length_is = ms.1;
            },
          )
        ]

    by_rules : BarsNone (Bars ds q Missing) q.chan → HasWidth q → (v : Verdict) × IsVerdict ds q v
    by_rules none wide = elim (first Unruled) [
      | inr (s, is) ↦ (Refused (NoRule s), (wide, (none, tt), is))
      | inl ruled ↦ elim (first Narrow) [
        | inr (s, is) ↦ (Refused (TooNarrow s), (wide, (none, (ruled, tt)), is))
        | inl broad ↦ elim (first OfdmBarred) [
          | inr (s, is) ↦ (Refused (NoOfdm s), (wide, (none, (ruled, (broad, tt))), is))
          | inl ofdm ↦ elim (first IrBarred) [
            | inr (s, is) ↦ (Refused (NoIr s), (wide, (none, (ruled, (broad, (ofdm, tt)))), is))
            | inl ir ↦ elim (first OutdoorBarred) [
              | inr (s, is) ↦ (Refused (NoOutdoor s), (wide, (none, (ruled, (broad, (ofdm, (ir, tt))))), is))
              | inl outdoor ↦ by_power none wide ruled broad ofdm ir outdoor
            ]
          ]
        ]
      ]
    ]
