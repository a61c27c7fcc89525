-- The check last told changes where a check begins, and nowhere else.
use Rattle.std.proofs.Common.{◌≡◌, ◌≢◌, ℕ, ◌+◌, ◌==◌, ◌⊎◌, Bool, true, false, List, [], ◌∷◌, ◌++◌, Option, Some, None, IsSomeAnd, MatchOption, refl, sym, ap, subst, ◌∙◌, inl, inr, eq-eqb, ne_eqb}
use Rattle.std.specs.List.{flat_map}
use Rattle.std.specs.Option.{option_map_or}
use Rattle.rule_tables.specs.declared.domain.Domain.{Domain}
use Rattle.chan_def.specs.declared.definition.ChanDef.{ChanDef}
use Rattle.chan_flags.specs.declared.record.Chan.{Chan}
use Rattle.chan_flags.specs.declared.verdict.PowerSetting.{PowerSetting}
use Rattle.dfs_states.specs.declared.dfs.Dfs.{Dfs}
use Rattle.reg_hints.specs.Element.{IsElement}
use Rattle.reg_hints.specs.Table.{Hinted, Treated}
use Rattle.reg_hints.specs.declared.element.Element.{Element}
use Rattle.reg_hints.specs.declared.hint.Hint.TheVariants.{User}
use Rattle.reg_journal.specs.Causes.{◌before◌}
use Rattle.reg_journal.specs.Due.{EachMayFollow}
use Rattle.reg_journal.specs.Dumps.{AreShownChannels, IsIfaceReport, IsRadioReport}
use Rattle.reg_journal.specs.Facts.{Fact, Journal, after, moment_is, radio_added, radio_removed, rules_are, hinted, indoor_is, radar_met, made, typed, set_to, started, stopped, powered, check_begun}
use Rattle.reg_journal.specs.OnAir.{TellsCheck, is_on, told_of}
use Rattle.reg_journal.specs.Permits.{IsLengthOf, IsPowerOf}
use Rattle.reg_journal.specs.Present.{Check as RunningCheck, Iface, Operation, check_of, ifaces_of, ifaces_on, made_of, named, operation_of, with_setting}
use Rattle.reg_journal.specs.Refusals.{ElementCauses, HintCauses, LacksRadio}
use Rattle.reg_journal.specs.Replies.{Decides, Gives, GivesEffects, Hints, OnNamed, Replies, SetsPower, Shows, Sweeps, answer_of, driver_hint, element_hint, facts_of_end, facts_of_removal}
use Rattle.reg_journal.specs.declared.refusal.Refusal.{Refusal}
use Rattle.reg_journal.specs.declared.effects.Effect.{Effect}
use Rattle.reg_journal.specs.declared.reply.Answer.{Answer}
use Rattle.reg_journal.specs.declared.reply.Answer.TheVariants.{Ok, Hint as HintTaken, Started, Checking, Refused}
use Rattle.reg_journal.specs.declared.reply.Reply.{Reply}
use Rattle.reg_journal.specs.declared.reply.Reply.TheVariants.{Plain, Channels as ShownChannels, Radio as OfRadio, Iface as OfIface}
use Rattle.reg_journal.specs.declared.report.IfaceReport.{IfaceReport}
use Rattle.reg_journal.specs.declared.report.RadioReport.{RadioReport}
use Rattle.reg_journal.specs.declared.request.Request.{Request}
use Rattle.reg_journal.specs.declared.request.Request.TheVariants.{At, RadioAdd, RadioDel, RadioRules, Element as HeardElement, DriverHint, UserHint, Radar, Indoor, IfaceAdd, IfaceDel, SetType, SetPower, Start, Stop, Check, GetReg, Channels, RadioInfo, IfaceInfo}
use Rattle.reg_journal.proofs.Listed.{named_listed}
use Rattle.reg_journal.proofs.Radios.{radio_listed}
use Rattle.reg_journal.proofs.Telling.{EachTellsNothing, TellsNothing, swept_untold}

-- ---- facts

told_step : (f : Fact) (J : Journal) (r : ℕ) → TellsNothing f → told_of (f ∷ J) r ≡ told_of J r
told_step (check_begun i chan length) J r untold = absurd untold
told_step f J r untold = refl

told_after : (facts : List Fact) (J : Journal) (r : ℕ) → EachTellsNothing facts → told_of (after facts J) r ≡ told_of J r
told_after [] J r each = refl
told_after (f ∷ facts) J r (first, each) = told_after facts (f ∷ J) r each ∙ told_step f J r first

untold-append : (facts more : List Fact) → EachTellsNothing facts → EachTellsNothing more → EachTellsNothing (facts ++ more)
untold-append [] more each rest = rest
untold-append (f ∷ facts) more (first, each) rest = (first, untold-append facts more each rest)

end_untold : (J : Journal) (x : Iface) → EachTellsNothing (facts_of_end J x)
end_untold J x = by (operation_of J x.index) (check_of J x.index) refl refl
  where
    by : (o : Option Operation) (k : Option RunningCheck) → operation_of J x.index ≡ o → check_of J x.index ≡ k → EachTellsNothing (facts_of_end J x)
    by None None is_o is_k = rw (is_o, is_k) (tt, tt)
    by None (Some k) is_o is_k = rw (is_o, is_k) (tt, (tt, tt))
    by (Some o) k is_o is_k = rw is_o (tt, (tt, tt))

ends_untold : (J : Journal) (xs : List Iface) → EachTellsNothing (flat_map (facts_of_end J) xs)
ends_untold J [] = tt
ends_untold J (x ∷ xs) = untold-append (facts_of_end J x) (flat_map (facts_of_end J) xs) (end_untold J x) (ends_untold J xs)

-- ---- frames

decided_untold : (causes : Refusal → Type 0) (granted : Reply → List Fact → Type 0) (reply : Reply) (facts : List Fact) → Decides causes granted reply facts
    → (granted reply facts → EachTellsNothing facts) → EachTellsNothing facts
decided_untold causes granted reply facts (inl (e, cause, refused, none)) rest = subst EachTellsNothing (sym none) tt
decided_untold causes granted reply facts (inr (free, is)) rest = rest is

gives_untold : (answer : Answer) (own : List Fact) (reply : Reply) (facts : List Fact) → EachTellsNothing own → Gives answer own reply facts → EachTellsNothing facts
gives_untold answer own reply facts each (same, all) = subst EachTellsNothing (sym all) each

sweeps_untold : (db : List Domain) (J : Journal) (answer : Answer) (f : Fact) (xs : List Iface) (reply : Reply) (facts : List Fact) → TellsNothing f
    → Sweeps db J answer f xs reply facts → EachTellsNothing facts
sweeps_untold db J answer f xs reply facts first (swept, are, same, all) = subst EachTellsNothing (sym all) (first, swept_untold db (f ∷ J) xs swept are)

on_named_untold : (J : Journal) (name : List ℕ) (granted : Iface → Reply → List Fact → Type 0) (reply : Reply) (facts : List Fact) → OnNamed J name granted reply facts
    → ((x : Iface) → granted x reply facts → EachTellsNothing facts) → EachTellsNothing facts
on_named_untold J name granted reply facts on rest = by (named J name) on
  where
    by : (o : Option Iface) → IsSomeAnd o (λ x. granted x reply facts) → EachTellsNothing facts
    by None is = absurd is
    by (Some x) is = rest x is

power_untold : (db : List Domain) (J : Journal) (setting : PowerSetting) (x : Iface) (reply : Reply) (facts : List Fact) → SetsPower db J setting x reply facts → EachTellsNothing facts
power_untold db J setting x reply facts sets = by (operation_of J x.index) sets
  where
    by : (o : Option Operation) → MatchOption o
        (Gives Ok (set_to x.index setting ∷ []) reply facts)
        (λ o. (power : ℕ) × IsPowerOf db J (with_setting x.index setting x) o.chan power
        × (((power ≡ o.power) × Gives Ok (set_to x.index setting ∷ []) reply facts)
        ⊎ ((power ≢ o.power) × GivesEffects J Ok (set_to x.index setting ∷ powered x.index power ∷ []) reply facts)))
        → EachTellsNothing facts
    by None (same, all) = subst EachTellsNothing (sym all) (tt, tt)
    by (Some o) (power, is, inl (same, (answer, all))) = subst EachTellsNothing (sym all) (tt, tt)
    by (Some o) (power, is, inr (other, (answer, all))) = subst EachTellsNothing (sym all) (tt, (tt, tt))

hints_untold : (db : List Domain) (J : Journal) (hint : Hinted) (reply : Reply) (facts : List Fact) → Hints db J hint reply facts → EachTellsNothing facts
hints_untold db J hint reply facts hints =
    decided_untold (HintCauses db J hint) (Sweeps db J (HintTaken (answer_of J hint)) (hinted hint) (ifaces_of J)) reply facts hints
    (sweeps_untold db J (HintTaken (answer_of J hint)) (hinted hint) (ifaces_of J) reply facts tt)

-- ---- requests

untold : (db : List Domain) (J : Journal) (q : Request) (failed : Bool) (reply : Reply) (facts : List Fact) → Replies db J q failed reply facts → (TellsCheck reply → ⊥)
    → EachTellsNothing facts
untold db J (At moment) failed reply facts is none = decided_untold _ (Gives Ok (moment_is moment ∷ [])) reply facts is (gives_untold Ok (moment_is moment ∷ []) reply facts (tt, tt))
untold db J (RadioAdd r profile) failed reply facts is none =
    decided_untold _ (Gives Ok (radio_added r profile ∷ [])) reply facts is (gives_untold Ok (radio_added r profile ∷ []) reply facts (tt, tt))
untold db J (RadioDel r) failed reply facts is none = decided_untold _ (GivesEffects J Ok (facts_of_removal J r)) reply facts is
    (λ gives. subst EachTellsNothing (sym gives.1) (untold-append (flat_map (facts_of_end J) (ifaces_on J r)) (radio_removed r ∷ []) (ends_untold J (ifaces_on J r)) (tt, tt)))
untold db J (RadioRules r rules) failed reply facts is none = decided_untold _ (Sweeps db J Ok (rules_are r rules) (ifaces_on J r)) reply facts is
    (sweeps_untold db J Ok (rules_are r rules) (ifaces_on J r) reply facts tt)
untold db J (HeardElement r body) failed reply facts is none =
    decided_untold (LacksRadio J r before ElementCauses body) (λ reply facts. (e : Element) × IsElement body e × Hints db J (element_hint J r e.alpha2) reply facts) reply facts is
    (λ heard. hints_untold db J (element_hint J r (heard.0).alpha2) reply facts heard.2)
untold db J (DriverHint r a) failed reply facts is none = decided_untold (LacksRadio J r) (Hints db J (driver_hint J r a)) reply facts is (hints_untold db J (driver_hint J r a) reply facts)
untold db J (UserHint a) failed reply facts is none = hints_untold db J (Treated (User a)) reply facts is
untold db J (Radar r c) failed reply facts is none = decided_untold _ (Sweeps db J Ok (radar_met r c) (ifaces_on J r)) reply facts is
    (sweeps_untold db J Ok (radar_met r c) (ifaces_on J r) reply facts tt)
untold db J (Indoor on) failed reply facts is none = sweeps_untold db J Ok (indoor_is on) (ifaces_of J) reply facts tt is
untold db J (IfaceAdd r name kind) failed reply facts is none = decided_untold _ (Gives Ok (made (made_of J + 1) name r kind ∷ [])) reply facts is
    (gives_untold Ok (made (made_of J + 1) name r kind ∷ []) reply facts (tt, tt))
untold db J (IfaceDel name) failed reply facts is none = decided_untold _ (OnNamed J name (λ x. GivesEffects J Ok (facts_of_end J x))) reply facts is
    (λ on. on_named_untold J name (λ x. GivesEffects J Ok (facts_of_end J x)) reply facts on (λ x gives. subst EachTellsNothing (sym gives.1) (end_untold J x)))
untold db J (SetType name kind) failed reply facts is none = decided_untold _ (OnNamed J name (λ x. Gives Ok (typed x.index kind ∷ []))) reply facts is
    (λ on. on_named_untold J name (λ x. Gives Ok (typed x.index kind ∷ [])) reply facts on (λ x. gives_untold Ok (typed x.index kind ∷ []) reply facts (tt, tt)))
untold db J (SetPower name setting) failed reply facts is none = decided_untold _ (OnNamed J name (SetsPower db J setting)) reply facts is
    (λ on. on_named_untold J name (SetsPower db J setting) reply facts on (λ x. power_untold db J setting x reply facts))
untold db J (Start name kind c) failed reply facts is none =
    decided_untold _ (OnNamed J name (λ x reply facts. (power : ℕ) × IsPowerOf db J x c power × Gives (Started power) (started x.index c power ∷ []) reply facts)) reply facts is
    (λ on. on_named_untold J name (λ x reply facts. (power : ℕ) × IsPowerOf db J x c power × Gives (Started power) (started x.index c power ∷ []) reply facts) reply facts on
    (λ x (power, is_power, gives). gives_untold (Started power) (started x.index c power ∷ []) reply facts (tt, tt) gives))
untold db J (Stop name kind) failed reply facts is none = decided_untold _ (OnNamed J name (λ x. Gives Ok (stopped x.index ∷ []))) reply facts is
    (λ on. on_named_untold J name (λ x. Gives Ok (stopped x.index ∷ [])) reply facts on (λ x. gives_untold Ok (stopped x.index ∷ []) reply facts (tt, tt)))
untold db J (Check name c) failed reply facts is none =
    decided_untold _ (OnNamed J name (λ x reply facts. (length : ℕ) × IsLengthOf db J x c length × Gives (Checking length) (check_begun x.index c length ∷ []) reply facts)) reply facts is
    (λ on. on_named_untold J name (λ x reply facts. (length : ℕ) × IsLengthOf db J x c length × Gives (Checking length) (check_begun x.index c length ∷ []) reply facts) reply facts on
    (λ x (length, is_length, (same, all)). absurd (none (subst TellsCheck (sym same) tt))))
untold db J GetReg failed reply facts (shown, no_facts) none = subst EachTellsNothing (sym no_facts) tt
untold db J (Channels r) failed reply facts is none = decided_untold (LacksRadio J r) (Shows (λ reply. (list : List (Chan × Dfs)) × AreShownChannels db J r list × (reply ≡ ShownChannels r list))) reply facts is
    (λ shown. subst EachTellsNothing (sym shown.1) tt)
untold db J (RadioInfo r) failed reply facts is none = decided_untold (LacksRadio J r) (Shows (λ reply. (report : RadioReport) × IsRadioReport J r report × (reply ≡ OfRadio report))) reply facts is
    (λ shown. subst EachTellsNothing (sym shown.1) tt)
untold db J (IfaceInfo name) failed reply facts is none = decided_untold _ (OnNamed J name (λ x. Shows (λ reply. (report : IfaceReport) × IsIfaceReport J x report × (reply ≡ OfIface report)))) reply facts is
    (λ on. on_named_untold J name (λ x. Shows (λ reply. (report : IfaceReport) × IsIfaceReport J x report × (reply ≡ OfIface report))) reply facts on (λ x shown. subst EachTellsNothing (sym shown.1) tt))

-- a reply that tells of no check's beginning leaves the check last told
pub told_left : (db : List Domain) (J : Journal) (q : Request) (failed : Bool) (reply : Reply) (facts : List Fact) → Replies db J q failed reply facts → (TellsCheck reply → ⊥)
    → (r : ℕ) → told_of (after facts J) r ≡ told_of J r
told_left db J q failed reply facts is none r = told_after facts J r (untold db J q failed reply facts is none)

-- one that does is of the check last told on its radio, and leaves those of the others
pub told_begun : (db : List Domain) (J : Journal) (name : List ℕ) (c : ChanDef) (failed : Bool) (length : ℕ) (effects : List Effect) (facts : List Fact) → EachMayFollow db J
    → Replies db J (Check name c) failed (Plain (Checking length) effects) facts
    → IsSomeAnd (named J name) (λ x. (told_of (after facts J) x.radio ≡ Some (record { iface = x.index; chan = c; length_ms = length }))
    × ((r : ℕ) → r ≢ x.radio → told_of (after facts J) r ≡ told_of J r))
told_begun db J name c failed length effects facts due (inl (e, cause, refused, none)) = absurd (no_refusal e refused)
  where
    no_refusal : (e : Refusal) → Plain (Checking length) effects ≡ Plain (Refused e) [] → ⊥
    no_refusal e same = cc
told_begun db J name c failed length effects facts due (inr (free, on)) = by (named J name) refl on
  where
    same_length : (other : ℕ) → Plain (Checking length) effects ≡ Plain (Checking other) [] → length ≡ other
    same_length other same = cc

    by : (o : Option Iface) → named J name ≡ o
        → IsSomeAnd o (λ x. (other : ℕ) × IsLengthOf db J x c other × Gives (Checking other) (check_begun x.index c other ∷ []) (Plain (Checking length) effects) facts)
        → IsSomeAnd o (λ x. (told_of (after facts J) x.radio ≡ Some (record { iface = x.index; chan = c; length_ms = length }))
        × ((r : ℕ) → r ≢ x.radio → told_of (after facts J) r ≡ told_of J r))
    by None at is = absurd is
    by (Some x) at (other, is_length, (same, all)) =
        let radio = radio_listed db J x due (named_listed J name x at) in
        let on_own : is_on J x.index x.radio ≡ true = ap (λ o. option_map_or (λ q. q == x.radio) o false) radio ∙ eq-eqb x.radio x.radio refl in
        let off : (r : ℕ) → r ≢ x.radio → is_on J x.index r ≡ false =
        λ r apart. ap (λ o. option_map_or (λ q. q == r) o false) radio ∙ ne_eqb x.radio r (λ e. apart (sym e)) in (
          ap (λ fs. told_of (after fs J) x.radio) all ∙ rw on_own (ap (λ n. Some (record { iface = x.index; chan = c; length_ms = n })) (sym (same_length other same))),
          λ r apart. ap (λ fs. told_of (after fs J) r) all ∙ rw (off r apart) refl,
        )
