-- There is a reply to each request, over each journal each fact of which came where it might.
use Rattle.std.proofs.Common.{◌≡◌, ℕ, ◌+◌, Bool, List, [], ◌∷◌, refl}
use Rattle.rule_tables.specs.Databases.{IsDb}
use Rattle.rule_tables.specs.declared.domain.Domain.{Domain}
use Rattle.chan_flags.specs.declared.record.Chan.{Chan}
use Rattle.dfs_states.specs.declared.dfs.Dfs.{Dfs}
use Rattle.reg_hints.specs.Element.{IsElement}
use Rattle.reg_hints.specs.Table.{Hinted, Treated}
use Rattle.reg_hints.specs.declared.element.Element.{Element}
use Rattle.reg_hints.specs.declared.hint.Hint.TheVariants.{User}
use Rattle.reg_journal.specs.Causes.{IsFree, ◌before◌}
use Rattle.reg_journal.specs.Due.{EachMayFollow}
use Rattle.reg_journal.specs.Dumps.{AreShownChannels, IsIfaceReport, IsRadioReport}
use Rattle.reg_journal.specs.Facts.{Fact, Journal, check_begun, hinted, indoor_is, made, moment_is, radar_met, radio_added, rules_are, started, stopped, typed}
use Rattle.reg_journal.specs.Permits.{IsLengthOf, IsPowerOf}
use Rattle.reg_journal.specs.Present.{Iface, ifaces_of, ifaces_on, made_of}
use Rattle.reg_journal.specs.Refusals.{CheckCauses, ElementCauses, HintCauses, IfaceAddCauses, LacksIface, LacksRadio, MomentCauses, OnIface, RadarCauses, RadioAddCauses, RulesCauses, SetPowerCauses, SetTypeCauses, StartCauses, StopCauses}
use Rattle.reg_journal.specs.Replies.{Gives, GivesEffects, Hints, OnNamed, Replies, SetsPower, Shows, Sweeps, answer_of, driver_hint, element_hint, facts_of_end, facts_of_removal}
use Rattle.reg_journal.specs.declared.refusal.Refusal.{Refusal}
use Rattle.reg_journal.specs.declared.reply.Answer.TheVariants.{Ok, Hint as HintTaken, Started, Checking}
use Rattle.reg_journal.specs.declared.reply.Reply.{Reply}
use Rattle.reg_journal.specs.declared.reply.Reply.TheVariants.{Plain, Regs, Channels as ShownChannels, Radio as OfRadio, Iface as OfIface}
use Rattle.reg_journal.specs.declared.report.IfaceReport.{IfaceReport}
use Rattle.reg_journal.specs.declared.report.RadioReport.{RadioReport}
use Rattle.reg_journal.specs.declared.request.Request.{Request}
use Rattle.reg_journal.specs.declared.request.Request.TheVariants.{At, RadioAdd, RadioDel, RadioRules, Element as HeardElement, DriverHint, UserHint, Radar, Indoor, IfaceAdd, IfaceDel, SetType, SetPower, Start, Stop, Check, GetReg, Channels, RadioInfo, IfaceInfo}
use Rattle.reg_journal.proofs.Answering.{SomeReply, answered, cause-check, cause-element, cause-hint, cause-iface, cause-iface_add, cause-moment, cause-radar, cause-radio, cause-radio_add, cause-rules, cause-set_power, cause-set_type, cause-start, cause-stop, gives, gives_effects, on_named, sets_power, some_element, sweeps}
use Rattle.reg_journal.proofs.Deciding.{cause-before, length_for, power_for}
use Rattle.reg_journal.proofs.Permitting.{free-first, free-next}
use Rattle.reg_journal.proofs.Showing.{iface_report, radio_report, some_sections, some_shown_channels}

some_hint : (db : List Domain) (J : Journal) (hint : Hinted) → IsDb db → EachMayFollow db J → SomeReply (Hints db J hint)
some_hint db J hint is due =
    answered (HintCauses db J hint) (Sweeps db J (HintTaken (answer_of J hint)) (hinted hint) (ifaces_of J)) (cause-hint db J hint is due)
    (λ free. sweeps db J (HintTaken (answer_of J hint)) (hinted hint) (ifaces_of J))

-- the interface of the name is there where the request is free of its causes
on_iface : (J : Journal) (name : List ℕ) (causes : Iface → Refusal → Type 0) (granted : Iface → Reply → List Fact → Type 0) → IsFree (OnIface J name causes)
    → ((x : Iface) → SomeReply (granted x)) → SomeReply (OnNamed J name granted)
on_iface J name causes granted free each = on_named J name granted (free-first (LacksIface J name) _ free) each

pub some_reply : (db : List Domain) (J : Journal) (q : Request) (failed : Bool) → IsDb db → EachMayFollow db J → SomeReply (Replies db J q failed)
some_reply db J (At moment) failed is due = answered (MomentCauses J moment) (Gives Ok (moment_is moment ∷ [])) (cause-moment J moment) (λ free. gives Ok (moment_is moment ∷ []))
some_reply db J (RadioAdd r profile) failed is due = answered (RadioAddCauses J r) (Gives Ok (radio_added r profile ∷ [])) (cause-radio_add J r) (λ free. gives Ok (radio_added r profile ∷ []))
some_reply db J (RadioDel r) failed is due = answered (LacksRadio J r) (GivesEffects J Ok (facts_of_removal J r)) (cause-radio J r) (λ free. gives_effects J Ok (facts_of_removal J r))
some_reply db J (RadioRules r rules) failed is due =
    answered (RulesCauses db J r rules) (Sweeps db J Ok (rules_are r rules) (ifaces_on J r)) (cause-rules db J r rules is) (λ free. sweeps db J Ok (rules_are r rules) (ifaces_on J r))
some_reply db J (HeardElement r body) failed is due =
    answered (LacksRadio J r before ElementCauses body) (λ reply facts. (e : Element) × IsElement body e × Hints db J (element_hint J r e.alpha2) reply facts)
    (cause-before (LacksRadio J r) (ElementCauses body) (cause-radio J r) (λ there. cause-element body))
    (λ free.
    let e = some_element body (free-next (LacksRadio J r) (ElementCauses body) free) in
    let reply = some_hint db J (element_hint J r (e.0).alpha2) is due in
    (reply.0, reply.1, (e.0, e.1, reply.2)))
some_reply db J (DriverHint r a) failed is due = answered (LacksRadio J r) (Hints db J (driver_hint J r a)) (cause-radio J r) (λ free. some_hint db J (driver_hint J r a) is due)
some_reply db J (UserHint a) failed is due = some_hint db J (Treated (User a)) is due
some_reply db J (Radar r c) failed is due = answered (RadarCauses J r c) (Sweeps db J Ok (radar_met r c) (ifaces_on J r)) (cause-radar J r c) (λ free. sweeps db J Ok (radar_met r c) (ifaces_on J r))
some_reply db J (Indoor on) failed is due = sweeps db J Ok (indoor_is on) (ifaces_of J)
some_reply db J (IfaceAdd r name kind) failed is due =
    answered (IfaceAddCauses J r name) (Gives Ok (made (made_of J + 1) name r kind ∷ [])) (cause-iface_add J r name) (λ free. gives Ok (made (made_of J + 1) name r kind ∷ []))
some_reply db J (IfaceDel name) failed is due =
    answered (LacksIface J name) (OnNamed J name (λ x. GivesEffects J Ok (facts_of_end J x))) (cause-iface J name)
    (λ free. on_named J name (λ x. GivesEffects J Ok (facts_of_end J x)) free (λ x. gives_effects J Ok (facts_of_end J x)))
some_reply db J (SetType name kind) failed is due =
    answered (SetTypeCauses J name) (OnNamed J name (λ x. Gives Ok (typed x.index kind ∷ []))) (cause-set_type J name)
    (λ free. on_iface J name _ (λ x. Gives Ok (typed x.index kind ∷ [])) free (λ x. gives Ok (typed x.index kind ∷ [])))
some_reply db J (SetPower name setting) failed is due =
    answered (SetPowerCauses db J name setting) (OnNamed J name (SetsPower db J setting)) (cause-set_power db J name setting)
    (λ free. on_iface J name _ (SetsPower db J setting) free (sets_power db J setting))
some_reply db J (Start name kind c) failed is due =
    answered (StartCauses db J name kind c failed) (OnNamed J name (λ x reply facts. (power : ℕ) × IsPowerOf db J x c power × Gives (Started power) (started x.index c power ∷ []) reply facts))
    (cause-start db J name kind c failed)
    (λ free. on_iface J name _ (λ x reply facts. (power : ℕ) × IsPowerOf db J x c power × Gives (Started power) (started x.index c power ∷ []) reply facts) free
    (λ x. let power = power_for db J x c in (Plain (Started power.0) [], started x.index c power.0 ∷ [], (power.0, power.1, (refl, refl)))))
some_reply db J (Stop name kind) failed is due =
    answered (StopCauses J name kind) (OnNamed J name (λ x. Gives Ok (stopped x.index ∷ []))) (cause-stop J name kind)
    (λ free. on_iface J name _ (λ x. Gives Ok (stopped x.index ∷ [])) free (λ x. gives Ok (stopped x.index ∷ [])))
some_reply db J (Check name c) failed is due =
    answered (CheckCauses db J name c failed) (OnNamed J name (λ x reply facts. (length : ℕ) × IsLengthOf db J x c length × Gives (Checking length) (check_begun x.index c length ∷ []) reply facts))
    (cause-check db J name c failed)
    (λ free. on_iface J name _ (λ x reply facts. (length : ℕ) × IsLengthOf db J x c length × Gives (Checking length) (check_begun x.index c length ∷ []) reply facts) free
    (λ x. let length = length_for db J x c in (Plain (Checking length.0) [], check_begun x.index c length.0 ∷ [], (length.0, length.1, (refl, refl)))))
some_reply db J GetReg failed is due = let list = some_sections db J is due in (Regs list.0, [], ((list.0, list.1, refl), refl))
some_reply db J (Channels r) failed is due =
    answered (LacksRadio J r) (Shows (λ reply. (list : List (Chan × Dfs)) × AreShownChannels db J r list × (reply ≡ ShownChannels r list))) (cause-radio J r)
    (λ free. let list = some_shown_channels db J r in (ShownChannels r list.0, [], ((list.0, list.1, refl), refl)))
some_reply db J (RadioInfo r) failed is due =
    answered (LacksRadio J r) (Shows (λ reply. (report : RadioReport) × IsRadioReport J r report × (reply ≡ OfRadio report))) (cause-radio J r)
    (λ free. let report = radio_report J r in (OfRadio report.0, [], ((report.0, report.1, refl), refl)))
some_reply db J (IfaceInfo name) failed is due =
    answered (LacksIface J name) (OnNamed J name (λ x. Shows (λ reply. (report : IfaceReport) × IsIfaceReport J x report × (reply ≡ OfIface report)))) (cause-iface J name)
    (λ free. on_named J name (λ x. Shows (λ reply. (report : IfaceReport) × IsIfaceReport J x report × (reply ≡ OfIface report))) free
    (λ x. let report = iface_report J x in (OfIface report.0, [], ((report.0, report.1, refl), refl))))
