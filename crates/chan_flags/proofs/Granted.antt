-- A channel is allowed exactly where it fits the rules of all domains, a fixed power being within the limit.
use Rattle.std.proofs.Common.{◌≡◌, ℕ, ◌≤◌, Bool, true, false, List, Contains, arith, sym, subst, ◌∙◌, inl, inr}
use Rattle.std.proofs.lemmas.Bool.{cases_Bool, cases_lt, true≢false}
use Rattle.rule_tables.specs.declared.domain.Domain.{Domain}
use Rattle.rule_tables.proofs.Governed.{governs_or_none}
use Rattle.rule_tables.proofs.Widths.{some_width}
use Rattle.chan_def.specs.Covered.{width_khz, IsCovered}
use Rattle.chan_def.specs.declared.width.Width.{Width}
use Rattle.chan_def.specs.declared.width.Width.TheVariants.{Noht, W20, W40, W80, W160, W320}
use Rattle.rule_intersect.specs.Subchannels.{SomeLacksRule}
use Rattle.rule_intersect.specs.Tuples.{Choice}
use Rattle.rule_intersect.proofs.OwnRows.{element_at}
use Rattle.chan_flags.specs.Fits.{FitsRule, IsFitting, IsGranting}
use Rattle.chan_flags.specs.Lists.{IsRadioChannel}
use Rattle.chan_flags.specs.Verdicts.{power_of, Bars, BarsNone, IsAllowed, IsGoverning, IsCheckLength, IsLimit, IsMissing, IsVerdict, IsWithinLimit}
use Rattle.chan_flags.specs.declared.asked.Asked.{Asked}
use Rattle.chan_flags.specs.declared.asked.Obstacle.TheVariants.{Missing, Unruled, Narrow, OfdmBarred, IrBarred, OutdoorBarred}
use Rattle.chan_flags.specs.declared.profile.Bands.{Bands}
use Rattle.chan_flags.specs.declared.verdict.PowerSetting.{PowerSetting}
use Rattle.chan_flags.specs.declared.verdict.PowerSetting.TheVariants.{Auto, Limit, Fixed}
use Rattle.chan_flags.specs.declared.verdict.Verdict.TheVariants.{Fits}
use Rattle.chan_flags.proofs.Told.{told_radio_channel}
use Rattle.chan_flags.proofs.Together.{one_governing}

-- ---- what is allowed fits

not_missing : (bands : Bands) (s : ℕ) → (IsMissing bands s → ⊥) → IsRadioChannel bands s
not_missing bands s there = elim (told_radio_channel bands s) [
  | inl is ↦ is
  | inr missing ↦ absurd (there missing)
]

-- a domain of a list of which none lacks a rule has a governing rule
governed : (ds : List Domain) (s : ℕ) (d : Domain) → Contains ds d → (SomeLacksRule ds s → ⊥) → (g : Choice) × IsGoverning d s g
governed ds s d has ruled = elim (governs_or_none d.rules s) [
  | inr none ↦ absurd (ruled (d, has, none))
  | inl (k, governs) ↦
      let rule = element_at d.rules k governs.here.0 in
      let width = some_width d.rules k rule.0 rule.1 in
      (record { number = k; rule = rule.0; width_khz = width.0 }, (record { rule = rule.1; width = width.1 }, governs))
]

least_width : (w : Width) → 20000 ≤ width_khz w
least_width Noht = omega arith
least_width W20 = omega arith
least_width W40 = omega arith
least_width W80 = omega arith
least_width W160 = omega arith
least_width W320 = omega arith

pub power_within : (setting : PowerSetting) (limit : ℕ) → IsWithinLimit setting limit → power_of setting limit ≤ limit
power_within Auto limit within = omega arith
power_within (Limit power) limit within = omega arith
power_within (Fixed power) limit within = within

fits_rule : (ds : List Domain) (q : Asked) (mbm ms : ℕ) → IsAllowed (Bars ds q) (IsLimit ds q) (IsCheckLength ds q) q mbm ms
    → (s : ℕ) (d : Domain) (g : Choice) → IsCovered q.chan s → Contains ds d → IsGoverning d s g → FitsRule q mbm g
fits_rule ds q mbm ms is s d g covered has governs = record {
  width = elim (cases_lt g.width_khz (width_khz q.chan.width)) [
    | inl narrow ↦ absurd (is.none_bars.1.1.0 s covered (d, has, g, governs, narrow))
    | inr wide ↦ wide
  ];
  power =
      let most = is.is_limit.rules s d g covered has governs in
      let within = power_within q.setting is.limit is.within in
      let same = is.power_is in
      omega (arith, most, within, same);
  ofdm = elim (cases_Bool g.rule.flags.no_ofdm) [
    | inr none ↦ inl none
    | inl flag ↦ elim (cases_lt 20000 (width_khz q.chan.width)) [
      | inl wide ↦ absurd (is.none_bars.1.1.1.0 s covered (wide, (d, has, g, governs, flag)))
      | inr small ↦ let least = least_width q.chan.width in inr (omega (arith, small, least))
    ]
  ];
  ir = λ sends. elim (cases_Bool g.rule.flags.no_ir) [
    | inr none ↦ none
    | inl flag ↦ absurd (is.none_bars.1.1.1.1.0 s covered (sends, (d, has, g, governs, flag)))
  ];
  outdoor = λ sends. elim (cases_Bool g.rule.flags.no_outdoor) [
    | inr none ↦ inl none
    | inl flag ↦ elim (cases_Bool q.indoor) [
      | inl indoor ↦ inr indoor
      | inr outdoors ↦ absurd (is.none_bars.1.1.1.1.1.0 s covered (sends, outdoors, (d, has, g, governs, flag)))
    ]
  ];
}

pub granting_from_verdict : (ds : List Domain) (q : Asked) (mbm ms : ℕ) → IsVerdict ds q (Fits mbm ms) → IsGranting ds q mbm ms
granting_from_verdict ds q mbm ms is = record {
  fitting = record {
    channels = λ s covered. not_missing q.profile.bands s (is.none_bars.0 s covered);
    has_width = is.has_width;
    rules = λ s d covered has.
        let found = governed ds s d has (is.none_bars.1.0 s covered) in
        (found.0, found.1, fits_rule ds q mbm ms is s d found.0 covered has found.1);
  };
  limit = is.limit;
  is_limit = is.is_limit;
  within = is.within;
  power_is = is.power_is;
  length_is = is.length_is;
}

-- ---- what fits is allowed

-- of a governing rule of a channel that fits, each one holds what the rules allow
fits_each : (ds : List Domain) (q : Asked) (mbm : ℕ) → IsFitting ds q mbm → (s : ℕ) (d : Domain) (g : Choice) → IsCovered q.chan s → Contains ds d → IsGoverning d s g → FitsRule q mbm g
fits_each ds q mbm is s d g covered has governs =
    let found = is.rules s d covered has in
    subst (FitsRule q mbm) (one_governing d s found.0 g found.1 governs) found.2

flag_off : (b : Bool) → b ≡ true → b ≡ false → ⊥
flag_off b on off = true≢false (sym on ∙ off)

pub verdict_from_granting : (ds : List Domain) (q : Asked) (mbm ms : ℕ) → IsGranting ds q mbm ms → IsVerdict ds q (Fits mbm ms)
verdict_from_granting ds q mbm ms is = record {
  has_width = is.fitting.has_width;
  none_bars = (missing, (unruled, (narrow, (ofdm, (ir, (outdoor, tt))))));
  limit = is.limit;
  is_limit = is.is_limit;
  within = is.within;
  power_is = is.power_is;
  length_is = is.length_is;
}
  where
    missing : BarsNone (Bars ds q Missing) q.chan
    missing s covered bar = bar (is.fitting.channels s covered)

    unruled : BarsNone (Bars ds q Unruled) q.chan
    unruled s covered (d, has, none) =
        let found = is.fitting.rules s d covered has in
        let g = found.0 in
        let here = found.1.1.here in
        none g.number g.rule here.0 (here.1 g.rule)

    narrow : BarsNone (Bars ds q Narrow) q.chan
    narrow s covered (d, has, g, governs, less) =
        let wide = (fits_each ds q mbm is.fitting s d g covered has governs).width in
        omega (arith, wide, less)

    ofdm : BarsNone (Bars ds q OfdmBarred) q.chan
    ofdm s covered (wide, (d, has, g, governs, flag)) = elim (fits_each ds q mbm is.fitting s d g covered has governs).ofdm [
      | inl none ↦ flag_off g.rule.flags.no_ofdm flag none
      | inr narrowest ↦ omega (arith, wide, narrowest)
    ]

    ir : BarsNone (Bars ds q IrBarred) q.chan
    ir s covered (sends, (d, has, g, governs, flag)) =
        flag_off g.rule.flags.no_ir flag ((fits_each ds q mbm is.fitting s d g covered has governs).ir sends)

    outdoor : BarsNone (Bars ds q OutdoorBarred) q.chan
    outdoor s covered (sends, outdoors, (d, has, g, governs, flag)) = elim ((fits_each ds q mbm is.fitting s d g covered has governs).outdoor sends) [
      | inl none ↦ flag_off g.rule.flags.no_outdoor flag none
      | inr indoor ↦ flag_off q.indoor indoor outdoors
    ]
