-- What becomes of one interface, by what is kept of it.
use Rattle.std.proofs.Common.{◌≡◌, ◌⊎◌, ℕ, ◌<◌, Bool, true, false, List, ◌∷◌, length, Result, Ok, Err, MatchResult, sym, ap, subst, ◌∙◌, inl, inr}
use Rattle.rule_tables.specs.declared.domain.Domain.{Domain}
use Rattle.chan_def.specs.declared.definition.ChanDef.{ChanDef}
use Rattle.chan_flags.specs.Profiles.{Abilities}
use Rattle.chan_flags.specs.Verdicts.{BarsFirst, IsVerdict, asked}
use Rattle.chan_def.specs.declared.kind.Kind.{Kind}
use Rattle.reg_journal.specs.declared.refusal.Refusal.TheVariants.{NothingToCheck, RadioLacksContext}
use Rattle.chan_flags.specs.declared.verdict.ChanRefusal.{ChanRefusal}
use Rattle.chan_flags.specs.declared.verdict.ChanRefusal.TheVariants.{LacksChannel as Lacking, LacksWidth as Narrower, NoRule as Ruleless, TooNarrow as Tight, NoOfdm as Ofdm, NoIr as Ir, NoOutdoor as Outdoor, AboveLimit}
use Rattle.chan_flags.specs.declared.verdict.PowerSetting.{PowerSetting}
use Rattle.chan_flags.specs.declared.verdict.PowerSetting.TheVariants.{Auto}
use Rattle.chan_flags.specs.declared.verdict.Verdict.TheVariants.{Fits, Refused}
use Rattle.chan_flags.specs.declared.verdict.Verdict.{Verdict}
use Rattle.reg_journal.specs.Applicable.{applies}
use Rattle.reg_journal.specs.Causes.{◌before◌, IsFree, SomeComes}
use Rattle.reg_journal.specs.Facts.{Journal}
use Rattle.reg_journal.specs.Permits.{BarsCheck, EndsCheck, HasNothingToCheck, IsLengthOf, LacksContext, LacksRadarWidth, MetRadar, RadioForbids, asked_by, channels_beside, distinct, refusal_of_channel}
use Rattle.reg_journal.specs.Present.{Iface, abilities_of, is_indoor}
use Rattle.reg_journal.specs.declared.refusal.Refusal.{Refusal}
use Rattle.reg_journal.proofs.Granting.{free-before, free-where}
use Rattle.reg_journal.proofs.Verdicts.{verdict_says}
use Rattle.core_parts.specs.Kept.{KeepsRadio}
use Rattle.core_parts.specs.Demands.{AllMeet, AllMeetFor, FailsDemand, HasRadarWidth, HasRules}
use Rattle.core_parts.specs.Judging.{BarsBeginning, CheckFits, HasVerdict, IsSwept, as_auto, is_lacking}
use Rattle.core_parts.specs.declared.interface.Interface.{Interface}
use Rattle.core_parts.specs.declared.radar.Demand.TheVariants.{Clear, Quiet}
use Rattle.core_parts.specs.declared.radio.Radio.{Radio}
use Rattle.reg_journal.proofs.Permitting.{free-first, free-next}
use Rattle.core_parts.proofs.Judged.{has_where, lacks_none, lacks_where, rules_of_fitting}
use Rattle.core_parts.proofs.RadarRefusals.{abilities_kept, free_of_radar, free_of_width}

-- the verdict on the channel with another setting
pub verdict_set : (db : List Domain) (J : Journal) (x : Iface) (p : Interface) (radio : Radio) (indoor : Bool) (setting : PowerSetting) (c : ChanDef) (v : Verdict)
    → IsSwept db J x p radio indoor → IsVerdict (applies db J x.radio) (asked radio.chans.profile c p.kind indoor setting) v
    → HasVerdict db J (record x { setting = setting }) p.kind radio c v
verdict_set db J x p radio indoor setting c v is verdict = record {
  due = is.due;
  kind_is = ap (λ (q : Interface). q.kind) is.interface_is;
  radio_is = is.radio_is;
  verdict_is =
      subst (λ (q : Interface). IsVerdict (applies db J x.radio) (asked (abilities_of J x.radio) c q.kind (is_indoor J) setting) v) is.interface_is
      (subst (λ b. IsVerdict (applies db J x.radio) (asked (abilities_of J x.radio) c p.kind b setting) v) is.indoor_is
      (subst (λ a. IsVerdict (applies db J x.radio) (asked a c p.kind indoor setting) v) (abilities_kept db J x.radio radio is.radio_is) verdict));
}

pub verdict_auto : (db : List Domain) (J : Journal) (x : Iface) (p : Interface) (radio : Radio) (indoor : Bool) (c : ChanDef) (v : Verdict) → IsSwept db J x p radio indoor
    → IsVerdict (applies db J x.radio) (asked radio.chans.profile c p.kind indoor Auto) v → HasVerdict db J (as_auto x) p.kind radio c v
verdict_auto db J x p radio indoor c v is verdict = verdict_set db J x p radio indoor Auto c v is verdict

pub ends_check_by : (db : List Domain) (J : Journal) (x : Iface) (c : ChanDef) (r : ChanRefusal) → IsVerdict (applies db J x.radio) (asked_by J (as_auto x) c) (Refused r)
    → EndsCheck db J x c (refusal_of_channel r)
ends_check_by db J x c (Lacking s) is = inl (inl (verdict_says db J (as_auto x) c (Refused (Lacking s)) is))
ends_check_by db J x c (Narrower mhz) is = inl (inr (verdict_says db J (as_auto x) c (Refused (Narrower mhz)) is))
ends_check_by db J x c (Ruleless s) is = let says = verdict_says db J (as_auto x) c (Refused (Ruleless s)) is in inr (lacks_none db J (as_auto x) c says.0, inl says.1)
ends_check_by db J x c (Tight s) is = let says = verdict_says db J (as_auto x) c (Refused (Tight s)) is in inr (lacks_none db J (as_auto x) c says.0, inl says.1)
ends_check_by db J x c (Ofdm s) is = let says = verdict_says db J (as_auto x) c (Refused (Ofdm s)) is in inr (lacks_none db J (as_auto x) c says.0, inl says.1)
ends_check_by db J x c (Ir s) is = let says = verdict_says db J (as_auto x) c (Refused (Ir s)) is in inr (lacks_none db J (as_auto x) c says.0, inl says.1)
ends_check_by db J x c (Outdoor s) is = let says = verdict_says db J (as_auto x) c (Refused (Outdoor s)) is in inr (lacks_none db J (as_auto x) c says.0, inl says.1)
ends_check_by db J x c (AboveLimit limit) is = absurd is.3

-- what radar demands of what fits
pub rules_of_check : (db : List Domain) (J : Journal) (x : Iface) (kind : Kind) (radio : Radio) (c : ChanDef) (power ms : ℕ) (v : Verdict) → HasVerdict db J (as_auto x) kind radio c v
    → IsVerdict (applies db J x.radio) (asked_by J (as_auto x) c) (Fits power ms) → HasRules db J x.radio radio c
rules_of_check db J x kind radio c power ms v is fits = rules_of_fitting db J (as_auto x) radio c power ms is.due is.radio_is fits

pub ends_check_radar : (db : List Domain) (J : Journal) (x : Iface) (c : ChanDef) (power ms : ℕ) (e : Refusal) → IsVerdict (applies db J x.radio) (asked_by J (as_auto x) c) (Fits power ms)
    → (LacksRadarWidth db J x c before MetRadar db J x c) e → EndsCheck db J x c e
ends_check_radar db J x c power ms e fits radar =
    let says = verdict_says db J (as_auto x) c (Fits power ms) fits in
    inr (lacks_none db J (as_auto x) c says.0, inr (says.1, radar))

pub check_fits : (db : List Domain) (J : Journal) (x : Iface) (radio : Radio) (c : ChanDef) (power ms : ℕ) → HasRules db J x.radio radio c
    → IsVerdict (applies db J x.radio) (asked_by J (as_auto x) c) (Fits power ms) → HasRadarWidth db J x c × AllMeetFor db J x Quiet c → CheckFits db J x radio c ms
check_fits db J x radio c power ms rules fits (wide, quiet) =
    let says = verdict_says db J (as_auto x) c (Fits power ms) fits in
    record {
      free = free-before _ _ (lacks_none db J (as_auto x) c says.0) (free-before _ _ says.1 (free-before _ _ (free_of_width db J x c wide) (free_of_radar db J x c quiet)));
      length_is = record { rules = fits.length_is.rules; greatest = fits.length_is.greatest };
      rules = rules;
      quiet = quiet;
    }

pub nothing_to_check : (db : List Domain) (J : Journal) (x : Iface) (c : ChanDef) → AllMeet db J x.radio Clear c → HasNothingToCheck db J x c
nothing_to_check db J x c clear s covered bound = let is = clear s covered bound in (is.end, is.stands)

pub something_to_check : (db : List Domain) (J : Journal) (x : Iface) (c : ChanDef) (s : ℕ) → AllMeet db J x.radio Quiet c → BarsFirst (FailsDemand db J x.radio Clear) c s
    → HasNothingToCheck db J x c → ⊥
something_to_check db J x c s quiet first nothing =
    let failing = first.here in
    let stands = nothing s first.covered failing.0 in
    failing.1 (record { quiet = quiet s first.covered failing.0; end = stands.0; stands = stands.1 })

lacks_where_auto : (db : List Domain) (J : Journal) (x : Iface) (c : ChanDef) (v : Verdict) → IsVerdict (applies db J x.radio) (asked_by J (as_auto x) c) v → is_lacking v ≡ true
    → SomeComes (RadioForbids db J x c)
lacks_where_auto db J x c v is lacking = lacks_where db J (as_auto x) c v is lacking

pub begins_by_contexts : (db : List Domain) (J : Journal) (x : Iface) (radio : Radio) (c : ChanDef) (v : Verdict) (contexts : ℕ) → KeepsRadio db J x.radio radio
    → IsVerdict (applies db J x.radio) (asked_by J (as_auto x) c) v → is_lacking v ≡ false → contexts ≡ radio.chans.profile.contexts
    → radio.chans.profile.contexts < length (distinct (c ∷ channels_beside J x)) → BarsBeginning db J x c (RadioLacksContext contexts)
begins_by_contexts db J x radio c v contexts keeps is has same more =
    let free = has_where db J (as_auto x) c v is has in
    let abilities = ap (λ (p : Abilities). p.contexts) (abilities_kept db J x.radio radio keeps) in
    inl (inr (free, inl (subst (λ n. n < length (distinct (c ∷ channels_beside J x))) abilities more, ap RadioLacksContext (same ∙ abilities))))

check_with_contexts : (db : List Domain) (J : Journal) (x : Iface) (c : ChanDef) (e : Refusal) → IsFree (LacksContext J x c) → EndsCheck db J x c e → BarsCheck db J x c e
check_with_contexts db J x c e free (inl radio) = inl radio
check_with_contexts db J x c e free (inr (has, rest)) = inr (has, inr (free, rest))

check_lacking : (db : List Domain) (J : Journal) (x : Iface) (c : ChanDef) (e : Refusal) → SomeComes (RadioForbids db J x c) → EndsCheck db J x c e → BarsCheck db J x c e
check_lacking db J x c e lacks (inl radio) = inl radio
check_lacking db J x c e lacks (inr (has, rest)) = absurd (has lacks.0 lacks.1)

free_of_contexts : (db : List Domain) (J : Journal) (x : Iface) (radio : Radio) (c : ChanDef) → KeepsRadio db J x.radio radio
    → (radio.chans.profile.contexts < length (distinct (c ∷ channels_beside J x)) → ⊥) → IsFree (LacksContext J x c)
free_of_contexts db J x radio c keeps few =
    free-where _ _ (λ more. few (subst (λ (p : Abilities). p.contexts < length (distinct (c ∷ channels_beside J x))) (sym (abilities_kept db J x.radio radio keeps)) more))

-- where no context is lacking, or the radio lacks more
abbrev pub HasContexts : List Domain → Journal → Iface → ChanDef → Type 0
HasContexts db J x c = IsFree (LacksContext J x c) ⊎ SomeComes (RadioForbids db J x c)

pub within_contexts : (db : List Domain) (J : Journal) (x : Iface) (radio : Radio) (c : ChanDef) → KeepsRadio db J x.radio radio
    → (radio.chans.profile.contexts < length (distinct (c ∷ channels_beside J x)) → ⊥) → HasContexts db J x c
within_contexts db J x radio c keeps few = inl (free_of_contexts db J x radio c keeps few)

pub lacks_more : (db : List Domain) (J : Journal) (x : Iface) (c : ChanDef) (v : Verdict) → IsVerdict (applies db J x.radio) (asked_by J (as_auto x) c) v → is_lacking v ≡ true → HasContexts db J x c
lacks_more db J x c v is lacking = inr (lacks_where_auto db J x c v is lacking)

bars_of_ends : (db : List Domain) (J : Journal) (x : Iface) (c : ChanDef) (e : Refusal) → HasContexts db J x c → EndsCheck db J x c e → BarsCheck db J x c e
bars_of_ends db J x c e (inl free) ends = check_with_contexts db J x c e free ends
bars_of_ends db J x c e (inr lacks) ends = check_lacking db J x c e lacks ends

pub begins_where_ends : (db : List Domain) (J : Journal) (x : Iface) (c : ChanDef) (e : Refusal) → HasContexts db J x c → EndsCheck db J x c e → BarsBeginning db J x c e
begins_where_ends db J x c e contexts ends = inl (bars_of_ends db J x c e contexts ends)

free_of_bars : (db : List Domain) (J : Journal) (x : Iface) (c : ChanDef) → HasContexts db J x c → IsFree (EndsCheck db J x c) → IsFree (BarsCheck db J x c)
free_of_bars db J x c (inl contexts) free =
    free-before _ _ (free-first (RadioForbids db J x c) _ free) (free-before _ _ contexts (free-next (RadioForbids db J x c) _ free))
free_of_bars db J x c (inr (e, lacks)) free = absurd (free e (inl lacks))

pub begins : (db : List Domain) (J : Journal) (x : Iface) (radio : Radio) (c : ChanDef) (length : ℕ) (r : Result ℕ Refusal) → HasContexts db J x c → CheckFits db J x radio c length
    → MatchResult r (λ ms. (HasNothingToCheck db J x c → ⊥) × (ms ≡ length)) (λ e. HasNothingToCheck db J x c × (e ≡ NothingToCheck))
    → MatchResult r (λ ms. IsFree (BarsBeginning db J x c) × IsLengthOf db J x c ms) (BarsBeginning db J x c)
begins db J x radio c length (Ok ms) contexts fits (some, same) =
    (free-before _ _ (free_of_bars db J x c contexts fits.free) (free-where _ _ some), subst (IsLengthOf db J x c) (sym same) fits.length_is)
begins db J x radio c length (Err e) contexts fits (nothing, same) = inr (free_of_bars db J x c contexts fits.free, (nothing, same))
