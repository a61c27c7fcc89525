-- An operation is permitted, or some cause ends it; a start is granted, or some cause bars it.
use Rattle.std.proofs.Common.{◌≡◌, ℕ, ◌<◌, ◌≤◌, Bool, true, false, List, ◌∷◌, length, Result, Ok, Err, MatchBool, MatchResult, arith, sym, ap, subst, inl, inr, ◌∙◌}
use Rattle.std.proofs.lemmas.Bool.{cases_lt}
use Rattle.rule_tables.specs.declared.domain.Domain.{Domain}
use Rattle.chan_def.specs.Covered.{IsValidDef}
use Rattle.chan_def.specs.declared.definition.ChanDef.{ChanDef}
use Rattle.chan_flags.specs.Profiles.{Abilities}
use Rattle.chan_flags.specs.Verdicts.{BarsNone, IsMissing, IsVerdict, asked}
use Rattle.chan_flags.specs.declared.verdict.ChanRefusal.{ChanRefusal}
use Rattle.chan_flags.specs.declared.verdict.ChanRefusal.TheVariants.{LacksChannel as Lacking, LacksWidth as Narrower, NoRule as Ruleless, TooNarrow as Tight, NoOfdm as Ofdm, NoIr as Ir, NoOutdoor as Outdoor, AboveLimit}
use Rattle.chan_flags.specs.declared.verdict.Verdict.{Verdict}
use Rattle.chan_flags.specs.declared.verdict.Verdict.TheVariants.{Fits, Refused}
use Rattle.chan_flags.proofs.Granted.{granting_from_verdict}
use Rattle.reg_journal.specs.Applicable.{applies}
use Rattle.reg_journal.specs.Causes.{◌before◌, IsFree, SomeComes}
use Rattle.reg_journal.specs.Due.{EachMayFollow}
use Rattle.reg_journal.specs.Facts.{Journal}
use Rattle.reg_journal.specs.Granted.{IsGranted, IsPermitted}
use Rattle.reg_journal.specs.Permits.{BarsOperation, EndsOperation, LacksCheck, LacksContext, RadarForbids, RadioForbids, RulesForbid, asked_by, channels_beside, distinct, refusal_of_channel}
use Rattle.reg_journal.specs.Present.{Iface, abilities_of, is_indoor}
use Rattle.reg_journal.specs.declared.refusal.Refusal.{Refusal}
use Rattle.reg_journal.specs.declared.refusal.Refusal.TheVariants.{RadioLacks, RadioLacksWidth, RadioLacksContext, NoRule, Width as TooNarrow, NoOfdm, NoIr, NoOutdoor}
use Rattle.reg_journal.proofs.Fitting.{permitted_of_granting}
use Rattle.reg_journal.proofs.Granting.{free-before, free-where, free_of_radio}
use Rattle.reg_journal.proofs.Verdicts.{HasRadio, verdict_says}
use Rattle.core_parts.specs.Demands.{AllMeetFor, HasRadarWidth, HasRules}
use Rattle.core_parts.specs.Judging.{HasVerdict, IsJudged, IsSwept, is_lacking}
use Rattle.core_parts.specs.Kept.{KeepsRadio}
use Rattle.core_parts.specs.declared.interface.Interface.{Interface}
use Rattle.core_parts.specs.declared.radar.Demand.TheVariants.{Clear, Quiet}
use Rattle.core_parts.specs.declared.radio.Radio.{Radio}
use Rattle.core_parts.proofs.RadarRefusals.{abilities_kept, free_of_radar, free_of_width}

-- ---- verdicts

-- the verdict on what is kept
pub verdict_kept : (db : List Domain) (J : Journal) (x : Iface) (interface : Interface) (radio : Radio) (indoor : Bool) (c : ChanDef) (v : Verdict)
    → IsSwept db J x interface radio indoor → IsVerdict (applies db J x.radio) (asked radio.chans.profile c interface.kind indoor interface.setting) v → HasVerdict db J x interface.kind radio c v
verdict_kept db J x interface radio indoor c v is verdict = record {
  due = is.due;
  kind_is = ap (λ (p : Interface). p.kind) is.interface_is;
  radio_is = is.radio_is;
  verdict_is =
      subst (λ (p : Interface). IsVerdict (applies db J x.radio) (asked (abilities_of J x.radio) c p.kind (is_indoor J) p.setting) v) is.interface_is
      (subst (λ b. IsVerdict (applies db J x.radio) (asked (abilities_of J x.radio) c interface.kind b interface.setting) v) is.indoor_is
      (subst (λ a. IsVerdict (applies db J x.radio) (asked a c interface.kind indoor interface.setting) v) (abilities_kept db J x.radio radio is.radio_is) verdict));
}

pub lacks_none : (db : List Domain) (J : Journal) (x : Iface) (c : ChanDef) → HasRadio db J x c → IsFree (RadioForbids db J x c)
lacks_none db J x c has = free-before _ _ has.channels has.width

-- one among those that are judged
pub swept_of_judged : (db : List Domain) (J : Journal) (x : Iface) (interface : Interface) (interfaces : List Interface) (radio : Radio) (indoor : Bool)
    → IsJudged db J x interface interfaces radio indoor → IsSwept db J x interface radio indoor
swept_of_judged db J x interface interfaces radio indoor is =
    record { due = is.among.due; there = is.among.there; interface_is = is.among.interface_is; radio_is = is.among.radio_is; indoor_is = is.indoor_is }

ends_by_rules : (db : List Domain) (J : Journal) (x : Iface) (c : ChanDef) (e : Refusal) → HasRadio db J x c × RulesForbid db J x c e → EndsOperation db J x c e
ends_by_rules db J x c e (has, forbid) = inr (lacks_none db J x c has, inl forbid)

-- what the verdict refuses ends the operation
pub ends_by : (db : List Domain) (J : Journal) (x : Iface) (c : ChanDef) (r : ChanRefusal) → IsVerdict (applies db J x.radio) (asked_by J x c) (Refused r) → EndsOperation db J x c (refusal_of_channel r)
ends_by db J x c (Lacking s) is = inl (inl (verdict_says db J x c (Refused (Lacking s)) is))
ends_by db J x c (Narrower mhz) is = inl (inr (verdict_says db J x c (Refused (Narrower mhz)) is))
ends_by db J x c (Ruleless s) is = ends_by_rules db J x c (NoRule s) (verdict_says db J x c (Refused (Ruleless s)) is)
ends_by db J x c (Tight s) is = ends_by_rules db J x c (TooNarrow s) (verdict_says db J x c (Refused (Tight s)) is)
ends_by db J x c (Ofdm s) is = ends_by_rules db J x c (NoOfdm s) (verdict_says db J x c (Refused (Ofdm s)) is)
ends_by db J x c (Ir s) is = ends_by_rules db J x c (NoIr s) (verdict_says db J x c (Refused (Ir s)) is)
ends_by db J x c (Outdoor s) is = ends_by_rules db J x c (NoOutdoor s) (verdict_says db J x c (Refused (Outdoor s)) is)
ends_by db J x c (AboveLimit limit) is =
    let says = verdict_says db J x c (Refused (AboveLimit limit)) is in inr (lacks_none db J x c says.0, inr (says.1, inl says.2))

-- where the verdict says that the radio lacks something, that is a cause, and else it is none
lacking_says : (db : List Domain) (J : Journal) (x : Iface) (c : ChanDef) (v : Verdict) → IsVerdict (applies db J x.radio) (asked_by J x c) v
    → MatchBool (is_lacking v) (SomeComes (RadioForbids db J x c)) (IsFree (RadioForbids db J x c))
lacking_says db J x c (Refused (Lacking s)) is = (RadioLacks s, inl (verdict_says db J x c (Refused (Lacking s)) is))
lacking_says db J x c (Refused (Narrower mhz)) is = (RadioLacksWidth mhz, inr (verdict_says db J x c (Refused (Narrower mhz)) is))
lacking_says db J x c (Refused (Ruleless s)) is = lacks_none db J x c (verdict_says db J x c (Refused (Ruleless s)) is).0
lacking_says db J x c (Refused (Tight s)) is = lacks_none db J x c (verdict_says db J x c (Refused (Tight s)) is).0
lacking_says db J x c (Refused (Ofdm s)) is = lacks_none db J x c (verdict_says db J x c (Refused (Ofdm s)) is).0
lacking_says db J x c (Refused (Ir s)) is = lacks_none db J x c (verdict_says db J x c (Refused (Ir s)) is).0
lacking_says db J x c (Refused (Outdoor s)) is = lacks_none db J x c (verdict_says db J x c (Refused (Outdoor s)) is).0
lacking_says db J x c (Refused (AboveLimit limit)) is = lacks_none db J x c (verdict_says db J x c (Refused (AboveLimit limit)) is).0
lacking_says db J x c (Fits power ms) is = lacks_none db J x c (verdict_says db J x c (Fits power ms) is).0

pub lacks_where : (db : List Domain) (J : Journal) (x : Iface) (c : ChanDef) (v : Verdict) → IsVerdict (applies db J x.radio) (asked_by J x c) v → is_lacking v ≡ true
    → SomeComes (RadioForbids db J x c)
lacks_where db J x c v is lacking =
    subst (λ b. MatchBool b (SomeComes (RadioForbids db J x c)) (IsFree (RadioForbids db J x c))) lacking (lacking_says db J x c v is)

pub has_where : (db : List Domain) (J : Journal) (x : Iface) (c : ChanDef) (v : Verdict) → IsVerdict (applies db J x.radio) (asked_by J x c) v → is_lacking v ≡ false
    → IsFree (RadioForbids db J x c)
has_where db J x c v is has =
    subst (λ b. MatchBool b (SomeComes (RadioForbids db J x c)) (IsFree (RadioForbids db J x c))) has (lacking_says db J x c v is)

-- ---- what fits, and radar

-- the radio has each subchannel, with its rules
pub rules_of_fitting : (db : List Domain) (J : Journal) (x : Iface) (radio : Radio) (c : ChanDef) (power ms : ℕ) → EachMayFollow db J → KeepsRadio db J x.radio radio
    → IsVerdict (applies db J x.radio) (asked_by J x c) (Fits power ms) → HasRules db J x.radio radio c
rules_of_fitting db J x radio c power ms due keeps is = record {
  due = due;
  radio_is = keeps;
  there = subst (λ (p : Abilities). BarsNone (IsMissing p.bands) c) (sym (abilities_kept db J x.radio radio keeps)) is.none_bars.0;
  ruled = is.none_bars.1.0;
}

-- what comes after a verdict that the channel fits
ends_after : (db : List Domain) (J : Journal) (x : Iface) (c : ChanDef) (power ms : ℕ) (e : Refusal) → IsVerdict (applies db J x.radio) (asked_by J x c) (Fits power ms)
    → (RadarForbids db J x c before LacksCheck db J x c) e → EndsOperation db J x c e
ends_after db J x c power ms e is cause =
    let says = verdict_says db J x c (Fits power ms) is in
    inr (lacks_none db J x c says.0, inr (says.1, inr (says.2, cause)))

pub ends_by_radar : (db : List Domain) (J : Journal) (x : Iface) (c : ChanDef) (power ms : ℕ) (e : Refusal) → IsVerdict (applies db J x.radio) (asked_by J x c) (Fits power ms)
    → RadarForbids db J x c e → EndsOperation db J x c e
ends_by_radar db J x c power ms e is cause = ends_after db J x c power ms e is (inl cause)

pub ends_unchecked : (db : List Domain) (J : Journal) (x : Iface) (c : ChanDef) (power ms : ℕ) (e : Refusal) → IsVerdict (applies db J x.radio) (asked_by J x c) (Fits power ms)
    → HasRadarWidth db J x c → AllMeetFor db J x Quiet c → LacksCheck db J x c e → EndsOperation db J x c e
ends_unchecked db J x c power ms e is wide quiet lacks = ends_after db J x c power ms e is (inr (free-before _ _ (free_of_width db J x c wide) (free_of_radar db J x c quiet), lacks))

pub permitted : (db : List Domain) (J : Journal) (x : Iface) (c : ChanDef) (power ms : ℕ) → IsVerdict (applies db J x.radio) (asked_by J x c) (Fits power ms)
    → HasRadarWidth db J x c → AllMeetFor db J x Clear c → IsPermitted db J x c power
permitted db J x c power ms is wide clear = permitted_of_granting db J x c power ms (granting_from_verdict (applies db J x.radio) (asked_by J x c) power ms is) wide clear

-- ---- contexts, which are asked after what the radio lacks

pub bars_by_contexts : (db : List Domain) (J : Journal) (x : Iface) (radio : Radio) (c : ChanDef) (v : Verdict) (contexts : ℕ) → KeepsRadio db J x.radio radio
    → IsVerdict (applies db J x.radio) (asked_by J x c) v → is_lacking v ≡ false → contexts ≡ radio.chans.profile.contexts
    → radio.chans.profile.contexts < length (distinct (c ∷ channels_beside J x)) → BarsOperation db J x c (RadioLacksContext contexts)
bars_by_contexts db J x radio c v contexts keeps is has same more =
    let free = has_where db J x c v is has in
    let abilities = ap (λ (p : Abilities). p.contexts) (abilities_kept db J x.radio radio keeps) in
    inr (free, inl (subst (λ n. n < length (distinct (c ∷ channels_beside J x))) abilities more, ap RadioLacksContext (same ∙ abilities)))

-- what ends it bars it, where no context is lacking
bars_with_contexts : (db : List Domain) (J : Journal) (x : Iface) (c : ChanDef) (e : Refusal) → IsFree (LacksContext J x c) → EndsOperation db J x c e → BarsOperation db J x c e
bars_with_contexts db J x c e free (inl lacks) = inl lacks
bars_with_contexts db J x c e free (inr (has, rest)) = inr (has, inr (free, rest))

-- or where the radio lacks the channel or its width
bars_lacking : (db : List Domain) (J : Journal) (x : Iface) (c : ChanDef) (e : Refusal) → SomeComes (RadioForbids db J x c) → EndsOperation db J x c e → BarsOperation db J x c e
bars_lacking db J x c e lacks (inl lacking) = inl lacking
bars_lacking db J x c e lacks (inr (has, rest)) = absurd (has lacks.0 lacks.1)

-- which a permitted one doesn't
lacks_nothing : (db : List Domain) (J : Journal) (x : Iface) (c : ChanDef) (power : ℕ) → IsPermitted db J x c power → SomeComes (RadioForbids db J x c) → ⊥
lacks_nothing db J x c power is lacks = free_of_radio db J x c is.carried lacks.0 lacks.1

-- ---- starts

pub few_contexts : (db : List Domain) (J : Journal) (x : Iface) (radio : Radio) (c : ChanDef) → KeepsRadio db J x.radio radio
    → (radio.chans.profile.contexts < length (distinct (c ∷ channels_beside J x)) → ⊥) → length (distinct (c ∷ channels_beside J x)) ≤ (abilities_of J x.radio).contexts
few_contexts db J x radio c keeps few = subst (λ (p : Abilities). length (distinct (c ∷ channels_beside J x)) ≤ p.contexts) (abilities_kept db J x.radio radio keeps)
    (elim (cases_lt radio.chans.profile.contexts (length (distinct (c ∷ channels_beside J x)))) [ inl more ↦ absurd (few more) | inr fewer ↦ fewer ])

-- what is permitted is granted where no context is lacking
pub judged_within : (db : List Domain) (J : Journal) (x : Iface) (radio : Radio) (c : ChanDef) (r : Result ℕ Refusal) → KeepsRadio db J x.radio radio → IsValidDef c
    → (radio.chans.profile.contexts < length (distinct (c ∷ channels_beside J x)) → ⊥)
    → MatchResult r (IsPermitted db J x c) (EndsOperation db J x c) → MatchResult r (IsGranted db J x c) (BarsOperation db J x c)
judged_within db J x radio c (Ok power) keeps valid few is = record {
  valid = valid;
  supported = record { carried = is.carried; contexts = few_contexts db J x radio c keeps few };
  fits = is.fits;
  given = is.given;
  clear = is.clear;
}
judged_within db J x radio c (Err e) keeps valid few ends = bars_with_contexts db J x c e free ends
  where
    free : IsFree (LacksContext J x c)
    free = free-where _ _ (λ more. let fewer = few_contexts db J x radio c keeps few in omega (arith, fewer, more))

-- where the radio lacks the channel or its width, nothing is
pub judged_lacking : (db : List Domain) (J : Journal) (x : Iface) (c : ChanDef) (v : Verdict) (r : Result ℕ Refusal) → IsVerdict (applies db J x.radio) (asked_by J x c) v → is_lacking v ≡ true
    → MatchResult r (IsPermitted db J x c) (EndsOperation db J x c) → MatchResult r (IsGranted db J x c) (BarsOperation db J x c)
judged_lacking db J x c v (Ok power) verdict lacking is = absurd (lacks_nothing db J x c power is (lacks_where db J x c v verdict lacking))
judged_lacking db J x c v (Err e) verdict lacking ends = bars_lacking db J x c e (lacks_where db J x c v verdict lacking) ends
