-- Each reply to a request that a line can say can be shown.
use Rattle.std.proofs.Common.{◌≡◌, ◌≢◌, ℕ, ◌+◌, ◌≤◌, ◌⊎◌, Bool, true, false, cond, List, [], ◌∷◌, All, Option, Some, None, MatchOption, refl, sym, subst, ◌∙◌, inl, inr}
use Rattle.std.proofs.lemmas.List.Elements.{All-nil, All-weaker}
use Rattle.freq_range.specs.Valid.{IsValidRule}
use Rattle.rule_tables.specs.Code.{IsCapital}
use Rattle.rule_tables.specs.Databases.{IsDb}
use Rattle.rule_tables.specs.declared.code.Alpha2.{Alpha2}
use Rattle.rule_tables.specs.declared.domain.Domain.{Domain}
use Rattle.chan_def.specs.declared.kind.Kind.{Kind}
use Rattle.chan_flags.specs.declared.verdict.PowerSetting.{PowerSetting}
use Rattle.radio_drv.specs.Names.{IsName}
use Rattle.reg_hints.specs.Element.{IsElement}
use Rattle.reg_hints.specs.Table.{Hinted, Own, Treated}
use Rattle.reg_hints.specs.declared.element.Element.{Element}
use Rattle.reg_hints.specs.declared.hint.Hint.TheVariants.{Driver, User}
use Rattle.reg_journal.specs.Applicable.{code_of_hint, is_self_managed}
use Rattle.reg_journal.specs.Causes.{◌before◌}
use Rattle.reg_journal.specs.Dumps.{IsIfaceReport, IsRadioReport}
use Rattle.reg_journal.specs.Effects.{HasFewEffects, effects_of}
use Rattle.reg_journal.specs.Facts.{Fact, Journal, moment_is, radio_added, rules_are, hinted, indoor_is, radar_met, made, typed, set_to, started, stopped, powered, check_begun}
use Rattle.reg_journal.specs.Forms.{IsLineRequest, IsShownAnswer, IsShownCode, IsShownEffect, IsShownReply, IsShownState}
use Rattle.reg_journal.specs.Permits.{IsLengthOf, IsPowerOf}
use Rattle.reg_journal.specs.Present.{Iface, Operation, ifaces_of, ifaces_on, made_of, operation_of, with_setting}
use Rattle.reg_journal.specs.Refusals.{CheckCauses, ElementCauses, HintCauses, IfaceAddCauses, LacksIface, LacksRadio, MomentCauses, RadarCauses, RadioAddCauses, RulesCauses, SetPowerCauses, SetTypeCauses, StartCauses, StopCauses}
use Rattle.reg_journal.specs.Replies.{Gives, GivesEffects, Hints, IsRegular, OnNamed, Replies, SetsPower, Shows as ShowsReply, Sweeps, answer_of, driver_hint, element_hint, facts_of_end, facts_of_removal}
use Rattle.reg_journal.specs.Requests.{IsAskable, IsTyped}
use Rattle.reg_journal.specs.declared.refusal.Refusal.{Refusal}
use Rattle.reg_journal.specs.declared.reply.Answer.{Answer}
use Rattle.reg_journal.specs.declared.reply.Answer.TheVariants.{Ok, Hint as HintTaken, Started, Checking, Refused}
use Rattle.reg_journal.specs.declared.reply.Reply.{Reply}
use Rattle.reg_journal.specs.declared.reply.Reply.TheVariants.{Plain, Radio as OfRadio, Iface as OfIface}
use Rattle.reg_journal.specs.declared.report.IfaceReport.{IfaceReport}
use Rattle.reg_journal.specs.declared.report.RadioReport.{RadioReport}
use Rattle.reg_journal.specs.declared.request.Request.{Request}
use Rattle.reg_journal.specs.declared.request.Request.TheVariants.{At, RadioAdd, RadioDel, RadioRules, Element as HeardElement, DriverHint, UserHint, Radar, Indoor, IfaceAdd, IfaceDel, SetType, SetPower, Start, Stop, Check, GetReg, Channels, RadioInfo, IfaceInfo}
use Rattle.reg_journal.proofs.EachRegular.{regular_goes, there}
use Rattle.reg_journal.proofs.Formed.{decided_as, gives_as, named_as, sweeps_as}
use Rattle.reg_journal.proofs.Keeping.{Goes}
use Rattle.reg_journal.proofs.Naming.{named_name}
use Rattle.reg_journal.proofs.Ranges.{ArePlain}
use Rattle.reg_journal.proofs.FewRows.{AreShort}
use Rattle.reg_journal.proofs.RowsKept.{regular_short}
use Rattle.reg_journal.proofs.ShownRefusals.{Shows, shows-check, shows-element, shows-hint, shows-iface_add, shows-moment, shows-radar, shows-rules, shows-set_power, shows-set_type, shows-start, shows-stop, shows-where}
use Rattle.reg_journal.proofs.ShownReplies.{channels_shown, effects_shown, radio_ifaces_named, sections_shown, shown_code, state_shown}
use Rattle.reg_journal.proofs.Telling.{few_effects}

-- the reply can be shown, where it tells of few effects
abbrev pub CanShow : Reply → Type 0
CanShow reply = HasFewEffects reply → IsShownReply reply

refusal : (causes : Refusal → Type 0) → Shows causes → (e : Refusal) → causes e → CanShow (Plain (Refused e) [])
refusal causes shows e cause few = (shows e cause, few, All-nil IsShownEffect)

alone : (answer : Answer) → IsShownAnswer answer → CanShow (Plain answer [])
alone answer is few = (is, few, All-nil IsShownEffect)

with_effects : (J : Journal) (answer : Answer) (facts : List Fact) → ArePlain J → IsShownAnswer answer → CanShow (Plain answer (effects_of J facts))
with_effects J answer facts plain is few = (is, few, effects_shown J facts plain)

-- ---- hints and powers

hint_shown : (db : List Domain) (J : Journal) (hint : Hinted) (reply : Reply) (facts : List Fact) → ArePlain J → IsShownCode (code_of_hint hint) → Hints db J hint reply facts → CanShow reply
hint_shown db J hint reply facts plain code hints =
    decided_as CanShow (HintCauses db J hint) (Sweeps db J (HintTaken (answer_of J hint)) (hinted hint) (ifaces_of J)) reply facts hints (refusal (HintCauses db J hint) (shows-hint db J hint code))
    (λ sweeps. sweeps_as CanShow db J (HintTaken (answer_of J hint)) (hinted hint) (ifaces_of J) reply facts sweeps (λ swept. with_effects J (HintTaken (answer_of J hint)) swept plain tt))

driver_code : (J : Journal) (r : ℕ) (a : Alpha2) → code_of_hint (driver_hint J r a) ≡ a
driver_code J r a = elim (is_self_managed J r) as (λ b. code_of_hint (cond b (Own r a) (Treated (Driver r a))) ≡ a) [ true ↦ refl | false ↦ refl ]

element_code : (body : List ℕ) (e : Element) → IsElement body e → IsShownCode e.alpha2
element_code body e is = (inl (subst IsCapital (sym is.first) is.letters.0), inl (subst IsCapital (sym is.second) is.letters.1))

power_shown : (db : List Domain) (J : Journal) (setting : PowerSetting) (x : Iface) (reply : Reply) (facts : List Fact) → ArePlain J → SetsPower db J setting x reply facts → CanShow reply
power_shown db J setting x reply facts plain sets = by (operation_of J x.index) sets
  where
    by : (o : Option Operation) → MatchOption o
        (Gives Ok (set_to x.index setting ∷ []) reply facts)
        (λ o. (power : ℕ) × IsPowerOf db J (with_setting x.index setting x) o.chan power
        × (((power ≡ o.power) × Gives Ok (set_to x.index setting ∷ []) reply facts)
        ⊎ ((power ≢ o.power) × GivesEffects J Ok (set_to x.index setting ∷ powered x.index power ∷ []) reply facts)))
        → CanShow reply
    by None (same, all) = subst CanShow (sym same) (alone Ok tt)
    by (Some o) (power, is, inl (same, (answer, all))) = subst CanShow (sym answer) (alone Ok tt)
    by (Some o) (power, is, inr (other, (answer, all))) = subst CanShow (sym answer) (with_effects J Ok (set_to x.index setting ∷ powered x.index power ∷ []) plain tt)

-- ---- all requests

can_show : (db : List Domain) (J : Journal) (q : Request) (failed : Bool) (reply : Reply) (facts : List Fact) → IsDb db → Goes db J → AreShort db J → IsTyped q → IsLineRequest q
    → Replies db J q failed reply facts → CanShow reply
can_show db J (At moment) failed reply facts is_db goes short its_types said is = decided_as CanShow (MomentCauses J moment) (Gives Ok (moment_is moment ∷ [])) reply facts is (refusal (MomentCauses J moment) (shows-moment J moment))
    (λ gives. gives_as CanShow Ok (moment_is moment ∷ []) reply facts gives (alone Ok tt))
can_show db J (RadioAdd r profile) failed reply facts is_db goes short its_types said is = decided_as CanShow (RadioAddCauses J r) (Gives Ok (radio_added r profile ∷ [])) reply facts is (refusal (RadioAddCauses J r) (shows-where _ _ tt))
    (λ gives. gives_as CanShow Ok (radio_added r profile ∷ []) reply facts gives (alone Ok tt))
can_show db J (RadioDel r) failed reply facts is_db goes short its_types said is = decided_as CanShow (LacksRadio J r) (GivesEffects J Ok (facts_of_removal J r)) reply facts is (refusal (LacksRadio J r) (shows-where _ _ tt))
    (λ gives. subst CanShow (sym gives.0) (with_effects J Ok (facts_of_removal J r) goes.plain tt))
can_show db J (RadioRules r rules) failed reply facts is_db goes short its_types said is = decided_as CanShow (RulesCauses db J r rules) (Sweeps db J Ok (rules_are r rules) (ifaces_on J r)) reply facts is (refusal (RulesCauses db J r rules) (shows-rules db J r rules))
    (λ sweeps. sweeps_as CanShow db J Ok (rules_are r rules) (ifaces_on J r) reply facts sweeps (λ swept. with_effects J Ok swept goes.plain tt))
can_show db J (HeardElement r body) failed reply facts is_db goes short its_types said is =
    decided_as CanShow (LacksRadio J r before ElementCauses body) (λ reply facts. (e : Element) × IsElement body e × Hints db J (element_hint J r e.alpha2) reply facts) reply facts is
    (refusal (LacksRadio J r before ElementCauses body) (shows-element J r body))
    (λ heard. hint_shown db J (element_hint J r (heard.0).alpha2) reply facts goes.plain (element_code body heard.0 heard.1) heard.2)
can_show db J (DriverHint r a) failed reply facts is_db goes short its_types said is = decided_as CanShow (LacksRadio J r) (Hints db J (driver_hint J r a)) reply facts is (refusal (LacksRadio J r) (shows-where _ _ tt))
    (λ hints. hint_shown db J (driver_hint J r a) reply facts goes.plain (subst IsShownCode (sym (driver_code J r a)) (shown_code a said)) hints)
can_show db J (UserHint a) failed reply facts is_db goes short its_types said is = hint_shown db J (Treated (User a)) reply facts goes.plain (shown_code a said) is
can_show db J (Radar r c) failed reply facts is_db goes short its_types said is = decided_as CanShow (RadarCauses J r c) (Sweeps db J Ok (radar_met r c) (ifaces_on J r)) reply facts is (refusal (RadarCauses J r c) (shows-radar J r c))
    (λ sweeps. sweeps_as CanShow db J Ok (radar_met r c) (ifaces_on J r) reply facts sweeps (λ swept. with_effects J Ok swept goes.plain tt))
can_show db J (Indoor on) failed reply facts is_db goes short its_types said is = sweeps_as CanShow db J Ok (indoor_is on) (ifaces_of J) reply facts is (λ swept. with_effects J Ok swept goes.plain tt)
can_show db J (IfaceAdd r name kind) failed reply facts is_db goes short its_types said is =
    decided_as CanShow (IfaceAddCauses J r name) (Gives Ok (made (made_of J + 1) name r kind ∷ [])) reply facts is (refusal (IfaceAddCauses J r name) (shows-iface_add J r name its_types.1))
    (λ gives. gives_as CanShow Ok (made (made_of J + 1) name r kind ∷ []) reply facts gives (alone Ok tt))
can_show db J (IfaceDel name) failed reply facts is_db goes short its_types said is = decided_as CanShow (LacksIface J name) (OnNamed J name (λ x. GivesEffects J Ok (facts_of_end J x))) reply facts is (refusal (LacksIface J name) (shows-where _ _ its_types))
    (λ on. named_as CanShow J name (λ x. GivesEffects J Ok (facts_of_end J x)) reply facts on (λ x at gives. subst CanShow (sym gives.0) (with_effects J Ok (facts_of_end J x) goes.plain tt)))
can_show db J (SetType name kind) failed reply facts is_db goes short its_types said is = decided_as CanShow (SetTypeCauses J name) (OnNamed J name (λ x. Gives Ok (typed x.index kind ∷ []))) reply facts is (refusal (SetTypeCauses J name) (shows-set_type J name its_types))
    (λ on. named_as CanShow J name (λ x. Gives Ok (typed x.index kind ∷ [])) reply facts on (λ x at gives. gives_as CanShow Ok (typed x.index kind ∷ []) reply facts gives (alone Ok tt)))
can_show db J (SetPower name setting) failed reply facts is_db goes short its_types said is =
    decided_as CanShow (SetPowerCauses db J name setting) (OnNamed J name (SetsPower db J setting)) reply facts is (refusal (SetPowerCauses db J name setting) (shows-set_power db J name setting its_types.0))
    (λ on. named_as CanShow J name (SetsPower db J setting) reply facts on (λ x at sets. power_shown db J setting x reply facts goes.plain sets))
can_show db J (Start name kind c) failed reply facts is_db goes short its_types said is =
    decided_as CanShow (StartCauses db J name kind c failed) (OnNamed J name (λ x reply facts. (power : ℕ) × IsPowerOf db J x c power × Gives (Started power) (started x.index c power ∷ []) reply facts)) reply facts is
    (refusal (StartCauses db J name kind c failed) (shows-start db J name kind c failed its_types.0))
    (λ on. named_as CanShow J name (λ x reply facts. (power : ℕ) × IsPowerOf db J x c power × Gives (Started power) (started x.index c power ∷ []) reply facts) reply facts on
    (λ x at granted. subst CanShow (sym granted.2.0) (alone (Started granted.0) tt)))
can_show db J (Stop name kind) failed reply facts is_db goes short its_types said is = decided_as CanShow (StopCauses J name kind) (OnNamed J name (λ x. Gives Ok (stopped x.index ∷ []))) reply facts is (refusal (StopCauses J name kind) (shows-stop J name kind its_types))
    (λ on. named_as CanShow J name (λ x. Gives Ok (stopped x.index ∷ [])) reply facts on (λ x at gives. gives_as CanShow Ok (stopped x.index ∷ []) reply facts gives (alone Ok tt)))
can_show db J (Check name c) failed reply facts is_db goes short its_types said is =
    decided_as CanShow (CheckCauses db J name c failed) (OnNamed J name (λ x reply facts. (length : ℕ) × IsLengthOf db J x c length × Gives (Checking length) (check_begun x.index c length ∷ []) reply facts)) reply facts is
    (refusal (CheckCauses db J name c failed) (shows-check db J name c failed its_types.0))
    (λ on. named_as CanShow J name (λ x reply facts. (length : ℕ) × IsLengthOf db J x c length × Gives (Checking length) (check_begun x.index c length ∷ []) reply facts) reply facts on
    (λ x at granted. subst CanShow (sym granted.2.0) (alone (Checking granted.0) tt)))
can_show db J GetReg failed reply facts is_db goes short its_types said ((list, are, same), none) = subst CanShow (sym same) (λ few. sections_shown db J list is_db goes.due short are)
can_show db J (Channels r) failed reply facts is_db goes short its_types said (inl (e, cause, same, none)) = subst CanShow (sym same) (refusal (LacksRadio J r) (shows-where _ _ tt) e cause)
can_show db J (Channels r) failed reply facts is_db goes short its_types said (inr (free, ((list, are, same), none))) = subst CanShow (sym same) (λ few. channels_shown db J r list goes.due (there J r free) are)
can_show db J (RadioInfo r) failed reply facts is_db goes short its_types said is =
    decided_as CanShow (LacksRadio J r) (ShowsReply (λ reply. (report : RadioReport) × IsRadioReport J r report × (reply ≡ OfRadio report))) reply facts is (refusal (LacksRadio J r) (shows-where _ _ tt))
    (λ ((report, are, same), none). subst CanShow (sym same) (λ few. (
      subst (λ n. n ≤ 7) (sym are.radio) its_types,
      subst (All (λ (x : List ℕ × ℕ × Kind). IsName x.0)) (sym are.ifaces) (radio_ifaces_named J r goes.plain),
    )))
can_show db J (IfaceInfo name) failed reply facts is_db goes short its_types said is =
    decided_as CanShow (LacksIface J name) (OnNamed J name (λ x. ShowsReply (λ reply. (report : IfaceReport) × IsIfaceReport J x report × (reply ≡ OfIface report)))) reply facts is (refusal (LacksIface J name) (shows-where _ _ its_types))
    (λ on. named_as CanShow J name (λ x. ShowsReply (λ reply. (report : IfaceReport) × IsIfaceReport J x report × (reply ≡ OfIface report))) reply facts on
    (λ x at ((report, are, same), none). subst CanShow (sym same) (λ few. (
      subst IsName (sym (are.name ∙ named_name J name x at)) its_types,
      subst IsShownState (sym are.state) (state_shown db J x.index goes.due),
    ))))

pub shown : (db : List Domain) (J : Journal) (q : Request) (failed : Bool) (reply : Reply) (facts : List Fact) → IsRegular db J → IsTyped q → IsLineRequest q
    → Replies db J q failed reply facts → IsShownReply reply
shown db J q failed reply facts regular its_types said is =
    let was = regular_goes db J regular in
    can_show db J q failed reply facts was.0 was.1 (regular_short db J regular) its_types said is (few_effects db J q failed reply facts was.1.due is)

-- ---- what a line says may be asked

pub askable : (q : Request) → IsLineRequest q → IsAskable q
askable (RadioRules r rules) said =
    All-weaker (λ rule. IsValidRule rule × (rule.cac_s ≡ 0) × (rule.wmm ≡ None)) (λ rule. (rule.cac_s ≡ 0) × (rule.wmm ≡ None)) (λ rule each. (each.1, each.2)) rules said.2
askable q said = tt
