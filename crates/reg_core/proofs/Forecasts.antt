-- What a start or a check would come to, by what is asked first and by the judge.
use Rattle.std.proofs.Common.{◌≡◌, ◌↔◌, ℕ, Bool, true, false, List, Option, Some, None, IsSome, IsTrue, Result, Ok, Err, MatchResult, is_some, ◌&&◌, not, map, arith, refl, sym, subst, ap, ◌∙◌, inl, inr}
use Rattle.std.proofs.lemmas.Bool.{false≢true}
use Rattle.std.proofs.lemmas.Option.{none-some}
use Rattle.std.specs.Option.{option_map}
use Rattle.rule_tables.specs.declared.domain.Domain.{Domain}
use Rattle.chan_def.specs.Kinds.{initiates}
use Rattle.chan_def.specs.declared.definition.ChanDef.{ChanDef}
use Rattle.chan_def.specs.declared.kind.Kind.{Kind}
use Rattle.chan_def.specs.declared.kind.Kind.TheVariants.{Monitor}
use Rattle.chan_flags.specs.Lists.{AreChannels, IsRadioChannel}
use Rattle.chan_flags.specs.Profiles.{Abilities}
use Rattle.chan_flags.specs.Verdicts.{IsVerdict}
use Rattle.chan_flags.specs.declared.verdict.Verdict.TheVariants.{Fits}
use Rattle.dfs_states.specs.Meaning.{IsBookAnswer}
use Rattle.dfs_states.specs.declared.dfs.Dfs.{Dfs}
use Rattle.std.proofs.lemmas.List.Elements.{All-contains}
use Rattle.reg_journal.specs.Applicable.{applies}
use Rattle.reg_journal.specs.Asking.{WouldCheck, WouldStart}
use Rattle.reg_journal.specs.Causes.{◌before◌, IsFree, Where}
use Rattle.reg_journal.specs.Due.{EachMayFollow}
use Rattle.reg_journal.specs.Facts.{Journal}
use Rattle.reg_journal.specs.Granted.{IsGranted}
use Rattle.reg_journal.specs.Permits.{BarsOperation, EndsCheck, IsLengthOf, IsLimitOf, asked_by}
use Rattle.reg_journal.specs.Present.{Check, Iface, Operation, check_of, named, operation_of}
use Rattle.reg_journal.specs.Radar.{IsChannelState}
use Rattle.reg_journal.specs.Refusals.{CheckCauses, FailsDriver, InUseFor, InvalidChannel, IsInUse, StartCauses}
use Rattle.reg_journal.specs.declared.refusal.Refusal.{Refusal}
use Rattle.reg_journal.specs.declared.refusal.Refusal.TheVariants.{Busy, NothingToCheck, WrongType}
use Rattle.reg_journal.proofs.EachRegular.{CheckCausesOn}
use Rattle.reg_journal.proofs.Granting.{free-before, free-where, free_of_granted, power_of_granted}
use Rattle.reg_books.specs.Calls.{calls_of, opening_of}
use Rattle.core_parts.specs.Kept.{KeepsRadio, kept}
use Rattle.core_parts.specs.Judging.{BarsBeginning, as_auto}
use Rattle.core_parts.specs.Reading.{BarsCheckAtFirst, BarsStartAtFirst, MayBeChecked, MayBeStarted}
use Rattle.core_parts.specs.declared.interface.Interface.{Interface}
use Rattle.core_parts.specs.declared.radio.Radio.{Radio}
use Rattle.reg_core.proofs.CheckReasons.{check_barred, check_free, check_where_barred}
use Rattle.core_parts.proofs.RadarRefusals.{abilities_kept}
use Rattle.reg_core.proofs.StartReasons.{BarsStart, start_barred}
use Rattle.reg_books.proofs.States.{state_alike}

-- ---- a start

start_at_first : (db : List Domain) (J : Journal) (kind : Kind) (c : ChanDef) (failed : Bool) (x : Iface) (e : Refusal) → BarsStartAtFirst J kind c x e → BarsStart db J kind c failed x e
start_at_first db J kind c failed x e (inl kinds) = inl kinds
start_at_first db J kind c failed x e (inr (same, inl used)) = inr (same, inl used)
start_at_first db J kind c failed x e (inr (same, inr (free, invalid))) = inr (same, inr (free, inl invalid))

pub would_bar_start : (db : List Domain) (J : Journal) (name : List ℕ) (kind : Kind) (c : ChanDef) (x : Iface) (e : Refusal) → named J name ≡ Some x → BarsStartAtFirst J kind c x e
    → WouldStart db J name kind c (Err e)
would_bar_start db J name kind c x e is bars = start_barred db J name kind c false x e is (start_at_first db J kind c false x e bars)

pub would_judge_start : (db : List Domain) (J : Journal) (name : List ℕ) (kind : Kind) (c : ChanDef) (x : Iface) (r : Result ℕ Refusal) → named J name ≡ Some x → MayBeStarted J kind c x
    → MatchResult r (IsGranted db J x c) (BarsOperation db J x c) → WouldStart db J name kind c r
would_judge_start db J name kind c x (Ok power) is may granted = (free, rw is (power_of_granted db J x c power granted))
  where
    free : IsFree (StartCauses db J name kind c false)
    free =
        free-before _ _ (free-where _ _ (λ none. absurd (cc (is, none))))
        (λ e cause. free-before _ _ (free-where _ _ (λ other. other may.of_kind))
        (free-before _ _ (free-where _ _ may.free)
        (free-before _ _ (free-where _ _ (λ invalid. invalid may.valid))
        (free-before _ _ (free_of_granted db J x c power granted)
        (free-where _ _ (λ failed. absurd (false≢true failed)))))) e (rw is at cause))
would_judge_start db J name kind c x (Err e) is may bars =
    start_barred db J name kind c false x e is
    (inr (free-where _ _ (λ other. other may.of_kind), inr (free-where _ _ may.free, inr (free-where _ _ (λ invalid. invalid may.valid), inl bars))))

-- ---- a check

check_at_first : (db : List Domain) (J : Journal) (c : ChanDef) (failed : Bool) (x : Iface) (e : Refusal) → BarsCheckAtFirst J c x e → CheckCausesOn db J c failed x e
check_at_first db J c failed x e (inl kinds) = inl kinds
check_at_first db J c failed x e (inr (sends, inl used)) = inr (sends, inl used)
check_at_first db J c failed x e (inr (sends, inr (free, invalid))) = inr (sends, inr (free, inl invalid))

pub would_bar_check : (db : List Domain) (J : Journal) (name : List ℕ) (c : ChanDef) (x : Iface) (e : Refusal) → named J name ≡ Some x → BarsCheckAtFirst J c x e
    → WouldCheck db J name c (Err e)
would_bar_check db J name c x e is bars = check_barred db J name c false x e is (check_at_first db J c false x e bars)

pub would_bar_judged : (db : List Domain) (J : Journal) (name : List ℕ) (c : ChanDef) (x : Iface) (e : Refusal) → named J name ≡ Some x → MayBeChecked J c x → BarsBeginning db J x c e
    → WouldCheck db J name c (Err e)
would_bar_judged db J name c x e is may bars = check_barred db J name c false x e is (check_where_barred db J c false x e may.sends_first may.free may.valid bars)

pub would_check : (db : List Domain) (J : Journal) (name : List ℕ) (c : ChanDef) (x : Iface) (interface : Interface) (length_ms limit : ℕ) → named J name ≡ Some x → interface ≡ kept J x
    → MayBeChecked J c x → IsFree (BarsBeginning db J x c) → IsLengthOf db J x c length_ms → IsLimitOf db J x c limit → WouldCheck db J name c (Ok (length_ms, limit))
would_check db J name c x interface length_ms limit is kept_is may free length_is limit_is = (
  check_free db J name c interface length_ms (record {
    iface = x;
    is_named = is;
    interface_is = kept_is;
    sends = may.sends_first;
    rests = may.free;
    valid = may.valid;
    free = free;
    length_is = length_is;
  }),
  rw is (length_is, limit_is),
)

-- what may begin isn't ended
pub begins_unended : (db : List Domain) (J : Journal) (x : Iface) (c : ChanDef) (e : Refusal) → IsFree (BarsBeginning db J x c) → EndsCheck db J x c e → ⊥
begins_unended db J x c e free (inl lacks) = free e (inl (inl lacks))
begins_unended db J x c e free (inr (has, rest)) = free e (inl (inr (has, inr (λ e context. free e (inl (inr (has, inl context))), rest))))

-- the limit is what a verdict at any power gives
pub limit_of_verdict : (db : List Domain) (J : Journal) (x : Iface) (c : ChanDef) (power ms : ℕ) → IsVerdict (applies db J x.radio) (asked_by J (as_auto x) c) (Fits power ms) → IsLimitOf db J x c power
limit_of_verdict db J x c power ms is =
    let limit_is = is.is_limit in
    subst (IsLimitOf db J x c) (sym is.power_is) (record { radio = limit_is.radio; rules = limit_is.rules; least = limit_is.least })

-- ---- the state of a channel

pub state_of_centre : (db : List Domain) (J : Journal) (r : ℕ) (radio : Radio) (s : ℕ) (dfs : Dfs) → EachMayFollow db J → KeepsRadio db J r radio
    → AreChannels radio.chans.profile.bands (map (λ c. c.khz) radio.chans.chans)
    → IsBookAnswer (map (λ c. c.khz) radio.chans.chans) (opening_of db r) (calls_of db J r) s dfs → IsChannelState db J r s dfs
state_of_centre db J r radio s dfs due keeps are answer = record {
  of_channel = λ is. (state_alike db J r s dfs due).1 (answer.of_channel (are.all s (subst (λ (p : Abilities). IsRadioChannel p.bands s) (sym (abilities_kept db J r radio keeps)) is)));
  of_other = λ never. answer.of_other (λ has. never (subst (λ (p : Abilities). IsRadioChannel p.bands s) (abilities_kept db J r radio keeps) (All-contains (IsRadioChannel radio.chans.profile.bands) (map (λ c. c.khz) radio.chans.chans) s are.only has)));
}
