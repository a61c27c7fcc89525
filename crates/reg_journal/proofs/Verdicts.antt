-- What a verdict of the domains says of the causes, in their order.
use Rattle.std.proofs.Common.{List, refl, ap, inl, inr, arith}
use Rattle.rule_tables.specs.declared.domain.Domain.{Domain}
use Rattle.chan_def.specs.declared.definition.ChanDef.{ChanDef}
use Rattle.chan_flags.specs.Verdicts.{Bars, BarsNone, HasWidth, IsVerdict}
use Rattle.chan_flags.specs.declared.asked.Obstacle.TheVariants.{Missing}
use Rattle.chan_flags.specs.declared.verdict.ChanRefusal.{ChanRefusal}
use Rattle.chan_flags.specs.declared.verdict.ChanRefusal.TheVariants.{LacksChannel as Lacking, LacksWidth as Narrower, NoRule as Ruleless, TooNarrow as Tight, NoOfdm as Ofdm, NoIr as Ir, NoOutdoor as Outdoor, AboveLimit}
use Rattle.chan_flags.specs.declared.verdict.Verdict.{Verdict}
use Rattle.chan_flags.specs.declared.verdict.Verdict.TheVariants.{Fits, Refused}
use Rattle.reg_journal.specs.Facts.{Journal}
use Rattle.reg_journal.specs.Present.{Iface}
use Rattle.reg_journal.specs.Applicable.{applies}
use Rattle.reg_journal.specs.Causes.{IsFree}
use Rattle.reg_journal.specs.Permits.{asked_by, IsPowerOf, IsLengthOf, LacksChannel, LacksWidth, RulesForbid, PassesLimit, refusal_of_channel}
use Rattle.reg_journal.specs.declared.refusal.Refusal.{Refusal}
use Rattle.reg_journal.specs.declared.refusal.Refusal.TheVariants.{RadioLacks, RadioLacksWidth, NoRule, Width as TooNarrow, NoOfdm, NoIr, NoOutdoor, Power}
use Rattle.reg_journal.proofs.Fitting.{whole_mhz}
use Rattle.reg_journal.proofs.Granting.{free-at_lowest, free-lacks_width, free-passes_limit, free-rules_forbid}

-- the radio has the channel and its width
pub record HasRadio (db : List Domain) (J : Journal) (x : Iface) (c : ChanDef) : Type 0 where
  pub channels : IsFree (LacksChannel db J x c)
  pub width : IsFree (LacksWidth J x c)

-- What the verdict says of the causes: the radio lacks something; or it has all, and the rules or a fixed power speak against it; or
-- nothing does.
abbrev pub Says : List Domain → Journal → Iface → ChanDef → Verdict → Type 0
Says db J x c (Refused (Lacking s)) = LacksChannel db J x c (RadioLacks s)
Says db J x c (Refused (Narrower mhz)) = IsFree (LacksChannel db J x c) × LacksWidth J x c (RadioLacksWidth mhz)
Says db J x c (Refused (AboveLimit limit)) = HasRadio db J x c × IsFree (RulesForbid db J x c) × PassesLimit db J x x.setting c (Power limit)
Says db J x c (Refused r) = HasRadio db J x c × RulesForbid db J x c (refusal_of_channel r)
Says db J x c (Fits power length) =
    HasRadio db J x c × IsFree (RulesForbid db J x c) × IsFree (PassesLimit db J x x.setting c) × IsPowerOf db J x c power × IsLengthOf db J x c length

has_radio : (db : List Domain) (J : Journal) (x : Iface) (c : ChanDef) → HasWidth (asked_by J x c) → BarsNone (Bars (applies db J x.radio) (asked_by J x c) Missing) c → HasRadio db J x c
has_radio db J x c wide none = record {
  channels = free-at_lowest _ c _ none;
  width = free-lacks_width J x c wide;
}

pub verdict_says : (db : List Domain) (J : Journal) (x : Iface) (c : ChanDef) (v : Verdict) → IsVerdict (applies db J x.radio) (asked_by J x c) v → Says db J x c v
verdict_says db J x c (Refused (Lacking s)) is = (s, is, refl)
verdict_says db J x c (Refused (Narrower mhz)) (none, less, same) =
    let whole = whole_mhz c.width in
    (free-at_lowest _ c _ none.0, (omega (arith, less, whole), ap RadioLacksWidth (omega (arith, same, whole))))
verdict_says db J x c (Refused (Ruleless s)) (wide, none, first) = (has_radio db J x c wide none.0, inl (s, first, refl))
verdict_says db J x c (Refused (Tight s)) (wide, none, first) =
    (has_radio db J x c wide none.0, inr (free-at_lowest _ c _ none.1.0, inl (s, first, refl)))
verdict_says db J x c (Refused (Ofdm s)) (wide, none, first) =
    (has_radio db J x c wide none.0, inr (free-at_lowest _ c _ none.1.0, inr (free-at_lowest _ c _ none.1.1.0, inl (s, first, refl))))
verdict_says db J x c (Refused (Ir s)) (wide, none, first) =
    (has_radio db J x c wide none.0, inr (free-at_lowest _ c _ none.1.0, inr (free-at_lowest _ c _ none.1.1.0, inr (free-at_lowest _ c _ none.1.1.1.0, inl (s, first, refl)))))
verdict_says db J x c (Refused (Outdoor s)) (wide, none, first) =
    (has_radio db J x c wide none.0, inr (free-at_lowest _ c _ none.1.0, inr (free-at_lowest _ c _ none.1.1.0, inr (free-at_lowest _ c _ none.1.1.1.0, inr (free-at_lowest _ c _ none.1.1.1.1.0, (s, first, refl))))))
verdict_says db J x c (Refused (AboveLimit limit)) (wide, none, is, above) =
    (has_radio db J x c wide none.0, free-rules_forbid db J x c none.1, (limit, is, above, refl))
verdict_says db J x c (Fits power length) is =
    let none = is.none_bars in (
      has_radio db J x c is.has_width none.0,
      free-rules_forbid db J x c none.1,
      free-passes_limit db J x x.setting c is.limit is.is_limit is.within,
      (is.limit, is.is_limit, is.power_is),
      is.length_is,
    )
