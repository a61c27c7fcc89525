-- Each reply has a form that its request can come to.
use Rattle.std.proofs.Common.{◌≡◌, ◌≢◌, ℕ, ◌+◌, ◌⊎◌, Bool, List, [], ◌∷◌, Option, Some, None, MatchOption, refl, sym, subst, ◌∙◌, inl, inr}
use Rattle.rule_tables.specs.declared.domain.Domain.{Domain}
use Rattle.chan_flags.specs.declared.record.Chan.{Chan}
use Rattle.chan_flags.specs.declared.verdict.PowerSetting.{PowerSetting}
use Rattle.dfs_states.specs.declared.dfs.Dfs.{Dfs}
use Rattle.reg_hints.specs.Element.{IsElement}
use Rattle.reg_hints.specs.Table.{Hinted, Treated}
use Rattle.reg_hints.specs.declared.element.Element.{Element}
use Rattle.reg_hints.specs.declared.hint.Hint.TheVariants.{User}
use Rattle.reg_journal.specs.Causes.{◌before◌}
use Rattle.reg_journal.specs.Dumps.{AreShownChannels, IsIfaceReport, IsRadioReport}
use Rattle.reg_journal.specs.Effects.{effects_of}
use Rattle.reg_journal.specs.Facts.{Fact, Journal, moment_is, radio_added, rules_are, hinted, indoor_is, radar_met, made, typed, set_to, started, stopped, powered, check_begun}
use Rattle.reg_journal.specs.Forms.{IsReplyTo}
use Rattle.reg_journal.specs.Permits.{IsLengthOf, IsPowerOf}
use Rattle.reg_journal.specs.Present.{Iface, Operation, ifaces_of, ifaces_on, made_of, named, operation_of, with_setting}
use Rattle.reg_journal.specs.Refusals.{ElementCauses, HintCauses, LacksRadio}
use Rattle.reg_journal.specs.Replies.{Decides, Gives, GivesEffects, Hints, OnNamed, Replies, SetsPower, Shows, Sweeps, answer_of, driver_hint, element_hint, facts_of_end, facts_of_removal}
use Rattle.reg_journal.specs.declared.refusal.Refusal.{Refusal}
use Rattle.reg_journal.specs.declared.reply.Answer.{Answer}
use Rattle.reg_journal.specs.declared.reply.Answer.TheVariants.{Ok, Hint as HintTaken, Started, Checking, Refused}
use Rattle.reg_journal.specs.declared.reply.Reply.{Reply}
use Rattle.reg_journal.specs.declared.reply.Reply.TheVariants.{Plain, Channels as ShownChannels, Radio as OfRadio, Iface as OfIface}
use Rattle.reg_journal.specs.declared.report.IfaceReport.{IfaceReport}
use Rattle.reg_journal.specs.declared.report.RadioReport.{RadioReport}
use Rattle.reg_journal.specs.declared.request.Request.{Request}
use Rattle.reg_journal.specs.declared.request.Request.TheVariants.{At, RadioAdd, RadioDel, RadioRules, Element as HeardElement, DriverHint, UserHint, Radar, Indoor, IfaceAdd, IfaceDel, SetType, SetPower, Start, Stop, Check, GetReg, Channels, RadioInfo, IfaceInfo}
use Rattle.reg_journal.proofs.EachRegular.{at_named}
use Rattle.reg_journal.proofs.Naming.{named_name}

-- ---- frames: P holds of the reply where it holds of each refusal and of what is granted

pub decided_as : (P : Reply → Type 0) (causes : Refusal → Type 0) (granted : Reply → List Fact → Type 0) (reply : Reply) (facts : List Fact)
    → Decides causes granted reply facts → ((e : Refusal) → causes e → P (Plain (Refused e) [])) → (granted reply facts → P reply) → P reply
decided_as P causes granted reply facts (inl (e, cause, same, none)) refused rest = subst P (sym same) (refused e cause)
decided_as P causes granted reply facts (inr (free, is)) refused rest = rest is

pub gives_as : (P : Reply → Type 0) (answer : Answer) (own : List Fact) (reply : Reply) (facts : List Fact) → Gives answer own reply facts → P (Plain answer []) → P reply
gives_as P answer own reply facts (same, all) is = subst P (sym same) is

pub sweeps_as : (P : Reply → Type 0) (db : List Domain) (J : Journal) (answer : Answer) (f : Fact) (xs : List Iface) (reply : Reply) (facts : List Fact)
    → Sweeps db J answer f xs reply facts → ((swept : List Fact) → P (Plain answer (effects_of J swept))) → P reply
sweeps_as P db J answer f xs reply facts (swept, are, same, all) each = subst P (sym same) (each swept)

pub named_as : (P : Reply → Type 0) (J : Journal) (name : List ℕ) (granted : Iface → Reply → List Fact → Type 0) (reply : Reply) (facts : List Fact)
    → OnNamed J name granted reply facts → ((x : Iface) → named J name ≡ Some x → granted x reply facts → P reply) → P reply
named_as P J name granted reply facts on each = let found = at_named J name (λ x. granted x reply facts) on in each found.0 found.1 found.2

-- ---- hints and powers

hint_form : (db : List Domain) (J : Journal) (q : Request) (hint : Hinted) (reply : Reply) (facts : List Fact) → Hints db J hint reply facts
    → ((e : Refusal) → IsReplyTo q (Plain (Refused e) [])) → ((swept : List Fact) → IsReplyTo q (Plain (HintTaken (answer_of J hint)) (effects_of J swept))) → IsReplyTo q reply
hint_form db J q hint reply facts hints refused taken =
    decided_as (IsReplyTo q) (HintCauses db J hint) (Sweeps db J (HintTaken (answer_of J hint)) (hinted hint) (ifaces_of J)) reply facts hints (λ e cause. refused e)
    (λ sweeps. sweeps_as (IsReplyTo q) db J (HintTaken (answer_of J hint)) (hinted hint) (ifaces_of J) reply facts sweeps taken)

power_form : (db : List Domain) (J : Journal) (name : List ℕ) (setting : PowerSetting) (x : Iface) (reply : Reply) (facts : List Fact) → SetsPower db J setting x reply facts
    → IsReplyTo (SetPower name setting) reply
power_form db J name setting x reply facts sets = by (operation_of J x.index) sets
  where
    P : Reply → Type 0
    P = IsReplyTo (SetPower name setting)

    by : (o : Option Operation) → MatchOption o
        (Gives Ok (set_to x.index setting ∷ []) reply facts)
        (λ o. (power : ℕ) × IsPowerOf db J (with_setting x.index setting x) o.chan power
        × (((power ≡ o.power) × Gives Ok (set_to x.index setting ∷ []) reply facts)
        ⊎ ((power ≢ o.power) × GivesEffects J Ok (set_to x.index setting ∷ powered x.index power ∷ []) reply facts)))
        → P reply
    by None (same, all) = subst P (sym same) tt
    by (Some o) (power, is, inl (same, (answer, all))) = subst P (sym answer) tt
    by (Some o) (power, is, inr (other, (answer, all))) = subst P (sym answer) tt

-- ---- all requests

pub formed : (db : List Domain) (J : Journal) (q : Request) (failed : Bool) (reply : Reply) (facts : List Fact) → Replies db J q failed reply facts → IsReplyTo q reply
formed db J (At moment) failed reply facts is = decided_as (IsReplyTo (At moment)) _ (Gives Ok (moment_is moment ∷ [])) reply facts is (λ e cause. refl)
    (λ gives. gives_as (IsReplyTo (At moment)) Ok (moment_is moment ∷ []) reply facts gives refl)
formed db J (RadioAdd r profile) failed reply facts is = decided_as (IsReplyTo (RadioAdd r profile)) _ (Gives Ok (radio_added r profile ∷ [])) reply facts is (λ e cause. refl)
    (λ gives. gives_as (IsReplyTo (RadioAdd r profile)) Ok (radio_added r profile ∷ []) reply facts gives refl)
formed db J (RadioDel r) failed reply facts is = decided_as (IsReplyTo (RadioDel r)) _ (GivesEffects J Ok (facts_of_removal J r)) reply facts is (λ e cause. refl)
    (λ gives. subst (IsReplyTo (RadioDel r)) (sym gives.0) tt)
formed db J (RadioRules r rules) failed reply facts is = decided_as (IsReplyTo (RadioRules r rules)) _ (Sweeps db J Ok (rules_are r rules) (ifaces_on J r)) reply facts is (λ e cause. refl)
    (λ sweeps. sweeps_as (IsReplyTo (RadioRules r rules)) db J Ok (rules_are r rules) (ifaces_on J r) reply facts sweeps (λ swept. tt))
formed db J (HeardElement r body) failed reply facts is =
    decided_as (IsReplyTo (HeardElement r body)) (LacksRadio J r before ElementCauses body) (λ reply facts. (e : Element) × IsElement body e × Hints db J (element_hint J r e.alpha2) reply facts) reply facts is
    (λ e cause. refl)
    (λ heard. hint_form db J (HeardElement r body) (element_hint J r (heard.0).alpha2) reply facts heard.2 (λ e. refl) (λ swept. tt))
formed db J (DriverHint r a) failed reply facts is = decided_as (IsReplyTo (DriverHint r a)) (LacksRadio J r) (Hints db J (driver_hint J r a)) reply facts is (λ e cause. refl)
    (λ hints. hint_form db J (DriverHint r a) (driver_hint J r a) reply facts hints (λ e. refl) (λ swept. tt))
formed db J (UserHint a) failed reply facts is = hint_form db J (UserHint a) (Treated (User a)) reply facts is (λ e. refl) (λ swept. tt)
formed db J (Radar r c) failed reply facts is = decided_as (IsReplyTo (Radar r c)) _ (Sweeps db J Ok (radar_met r c) (ifaces_on J r)) reply facts is (λ e cause. refl)
    (λ sweeps. sweeps_as (IsReplyTo (Radar r c)) db J Ok (radar_met r c) (ifaces_on J r) reply facts sweeps (λ swept. tt))
formed db J (Indoor on) failed reply facts is = sweeps_as (IsReplyTo (Indoor on)) db J Ok (indoor_is on) (ifaces_of J) reply facts is (λ swept. tt)
formed db J (IfaceAdd r name kind) failed reply facts is = decided_as (IsReplyTo (IfaceAdd r name kind)) _ (Gives Ok (made (made_of J + 1) name r kind ∷ [])) reply facts is (λ e cause. refl)
    (λ gives. gives_as (IsReplyTo (IfaceAdd r name kind)) Ok (made (made_of J + 1) name r kind ∷ []) reply facts gives refl)
formed db J (IfaceDel name) failed reply facts is = decided_as (IsReplyTo (IfaceDel name)) _ (OnNamed J name (λ x. GivesEffects J Ok (facts_of_end J x))) reply facts is (λ e cause. refl)
    (λ on. named_as (IsReplyTo (IfaceDel name)) J name (λ x. GivesEffects J Ok (facts_of_end J x)) reply facts on (λ x at gives. subst (IsReplyTo (IfaceDel name)) (sym gives.0) tt))
formed db J (SetType name kind) failed reply facts is = decided_as (IsReplyTo (SetType name kind)) _ (OnNamed J name (λ x. Gives Ok (typed x.index kind ∷ []))) reply facts is (λ e cause. refl)
    (λ on. named_as (IsReplyTo (SetType name kind)) J name (λ x. Gives Ok (typed x.index kind ∷ [])) reply facts on
    (λ x at gives. gives_as (IsReplyTo (SetType name kind)) Ok (typed x.index kind ∷ []) reply facts gives refl))
formed db J (SetPower name setting) failed reply facts is = decided_as (IsReplyTo (SetPower name setting)) _ (OnNamed J name (SetsPower db J setting)) reply facts is (λ e cause. refl)
    (λ on. named_as (IsReplyTo (SetPower name setting)) J name (SetsPower db J setting) reply facts on (λ x at sets. power_form db J name setting x reply facts sets))
formed db J (Start name kind c) failed reply facts is =
    decided_as (IsReplyTo (Start name kind c)) _ (OnNamed J name (λ x reply facts. (power : ℕ) × IsPowerOf db J x c power × Gives (Started power) (started x.index c power ∷ []) reply facts)) reply facts is
    (λ e cause. refl)
    (λ on. named_as (IsReplyTo (Start name kind c)) J name (λ x reply facts. (power : ℕ) × IsPowerOf db J x c power × Gives (Started power) (started x.index c power ∷ []) reply facts) reply facts on
    (λ x at granted. subst (IsReplyTo (Start name kind c)) (sym granted.2.0) refl))
formed db J (Stop name kind) failed reply facts is = decided_as (IsReplyTo (Stop name kind)) _ (OnNamed J name (λ x. Gives Ok (stopped x.index ∷ []))) reply facts is (λ e cause. refl)
    (λ on. named_as (IsReplyTo (Stop name kind)) J name (λ x. Gives Ok (stopped x.index ∷ [])) reply facts on
    (λ x at gives. gives_as (IsReplyTo (Stop name kind)) Ok (stopped x.index ∷ []) reply facts gives refl))
formed db J (Check name c) failed reply facts is =
    decided_as (IsReplyTo (Check name c)) _ (OnNamed J name (λ x reply facts. (length : ℕ) × IsLengthOf db J x c length × Gives (Checking length) (check_begun x.index c length ∷ []) reply facts)) reply facts is
    (λ e cause. refl)
    (λ on. named_as (IsReplyTo (Check name c)) J name (λ x reply facts. (length : ℕ) × IsLengthOf db J x c length × Gives (Checking length) (check_begun x.index c length ∷ []) reply facts) reply facts on
    (λ x at granted. subst (IsReplyTo (Check name c)) (sym granted.2.0) refl))
formed db J GetReg failed reply facts ((list, are, same), none) = subst (IsReplyTo GetReg) (sym same) tt
formed db J (Channels r) failed reply facts is =
    decided_as (IsReplyTo (Channels r)) _ (Shows (λ reply. (list : List (Chan × Dfs)) × AreShownChannels db J r list × (reply ≡ ShownChannels r list))) reply facts is (λ e cause. refl)
    (λ shows. subst (IsReplyTo (Channels r)) (sym shows.0.2) refl)
formed db J (RadioInfo r) failed reply facts is =
    decided_as (IsReplyTo (RadioInfo r)) _ (Shows (λ reply. (report : RadioReport) × IsRadioReport J r report × (reply ≡ OfRadio report))) reply facts is (λ e cause. refl)
    (λ shows. subst (IsReplyTo (RadioInfo r)) (sym shows.0.2) shows.0.1.radio)
formed db J (IfaceInfo name) failed reply facts is =
    decided_as (IsReplyTo (IfaceInfo name)) _ (OnNamed J name (λ x. Shows (λ reply. (report : IfaceReport) × IsIfaceReport J x report × (reply ≡ OfIface report)))) reply facts is (λ e cause. refl)
    (λ on. named_as (IsReplyTo (IfaceInfo name)) J name (λ x. Shows (λ reply. (report : IfaceReport) × IsIfaceReport J x report × (reply ≡ OfIface report))) reply facts on
    (λ x at shows. subst (IsReplyTo (IfaceInfo name)) (sym shows.0.2) (shows.0.1.name ∙ named_name J name x at)))
