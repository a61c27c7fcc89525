-- What a reply's facts tell: at most 64 effects, and a check's beginning alone changes the check last told.
use Rattle.std.proofs.Common.{◌≡◌, ◌≢◌, ℕ, suc, ◌+◌, ◌≤◌, ◌⊎◌, Bool, List, [], ◌∷◌, ◌++◌, length, Option, Some, None, IfSome, IsSomeAnd, MatchOption, arith, refl, sym, ap, subst, inl, inr}
use Rattle.std.specs.List.{cons_option, filter_map, flat_map}
use Rattle.std.proofs.lemmas.List.{length-append}
use Rattle.rule_tables.specs.declared.domain.Domain.{Domain}
use Rattle.chan_flags.specs.declared.record.Chan.{Chan}
use Rattle.chan_flags.specs.declared.verdict.PowerSetting.{PowerSetting}
use Rattle.dfs_states.specs.declared.dfs.Dfs.{Dfs}
use Rattle.reg_hints.specs.Element.{IsElement}
use Rattle.reg_hints.specs.Table.{Hinted, Treated}
use Rattle.reg_hints.specs.declared.element.Element.{Element}
use Rattle.reg_hints.specs.declared.hint.Hint.TheVariants.{User}
use Rattle.reg_journal.specs.Causes.{◌before◌}
use Rattle.reg_journal.specs.Dumps.{AreShownChannels, IsIfaceReport, IsRadioReport}
use Rattle.reg_journal.specs.declared.report.IfaceReport.{IfaceReport}
use Rattle.reg_journal.specs.declared.report.RadioReport.{RadioReport}
use Rattle.reg_journal.specs.Due.{EachMayFollow}
use Rattle.reg_journal.specs.Effects.{HasFewEffects, effect_of, effects_of}
use Rattle.reg_journal.specs.Facts.{Fact, Journal, moment_is, radio_added, radio_removed, rules_are, hinted, indoor_is, radar_met, made, typed, set_to, started, stopped, powered, check_begun, check_dropped}
use Rattle.reg_journal.specs.Permits.{IsLengthOf, IsPowerOf}
use Rattle.reg_journal.specs.Present.{Check as RunningCheck, Iface, Operation, check_of, ifaces_of, ifaces_on, made_of, named, operation_of, with_setting}
use Rattle.reg_journal.specs.Refusals.{ElementCauses, HintCauses, LacksRadio}
use Rattle.reg_journal.specs.Replies.{Decides, Gives, GivesEffects, Hints, OnNamed, Replies, SetsPower, Shows, Sweeps, answer_of, driver_hint, element_hint, facts_of_end, facts_of_removal}
use Rattle.reg_journal.specs.Sweep.{AreSwept, Becomes, CheckBecomes, OperationBecomes}
use Rattle.reg_journal.specs.declared.effects.Effect.{Effect}
use Rattle.reg_journal.specs.declared.effects.TheConstants.{MOST_EFFECTS}
use Rattle.reg_journal.specs.declared.refusal.Refusal.{Refusal}
use Rattle.reg_journal.specs.declared.reply.Answer.{Answer}
use Rattle.reg_journal.specs.declared.reply.Answer.TheVariants.{Ok, Hint as HintTaken, Started, Checking, Refused}
use Rattle.reg_journal.specs.declared.reply.Reply.{Reply}
use Rattle.reg_journal.specs.declared.reply.Reply.TheVariants.{Plain, Channels as ShownChannels, Radio as OfRadio, Iface as OfIface}
use Rattle.reg_journal.specs.declared.request.Request.{Request}
use Rattle.reg_journal.specs.declared.request.Request.TheVariants.{At, RadioAdd, RadioDel, RadioRules, Element as HeardElement, DriverHint, UserHint, Radar, Indoor, IfaceAdd, IfaceDel, SetType, SetPower, Start, Stop, Check, GetReg, Channels, RadioInfo, IfaceInfo}
use Rattle.reg_journal.proofs.Few.{few_ifaces, few_on}

-- ---- what one interface gives

-- the fact isn't the beginning of a check
abbrev pub TellsNothing : Fact → Type 0
TellsNothing (check_begun i chan length) = ⊥
TellsNothing f = Unit {0}

abbrev pub EachTellsNothing : List Fact → Type 0
EachTellsNothing [] = Unit {0}
EachTellsNothing (f ∷ facts) = TellsNothing f × EachTellsNothing facts

becomes_untold : (db : List Domain) (J : Journal) (x : Iface) (fact : Option Fact) → Becomes db J x fact → IfSome fact TellsNothing
becomes_untold db J x fact becomes = by (operation_of J x.index) (check_of J x.index) fact becomes
  where
    by : (o : Option Operation) (k : Option RunningCheck) (fact : Option Fact)
        → MatchOption o (MatchOption k (fact ≡ None) (λ k. CheckBecomes db J x k fact)) (λ o. OperationBecomes db J x o fact) → IfSome fact TellsNothing
    by None None fact none = subst (λ o. IfSome o TellsNothing) (sym none) tt
    by None (Some k) None becomes = tt
    by None (Some k) (Some (check_begun i chan length)) becomes = becomes
    by None (Some k) (Some f) becomes = tt
    by (Some o) k None becomes = tt
    by (Some o) k (Some (check_begun i chan length)) becomes = becomes
    by (Some o) k (Some f) becomes = tt

pub swept_untold : (db : List Domain) (J : Journal) (xs : List Iface) (facts : List Fact) → AreSwept db J xs facts → EachTellsNothing facts
swept_untold db J [] facts none = subst EachTellsNothing (sym none) tt
swept_untold db J (x ∷ xs) facts (None, rest, becomes, swept, are) = subst EachTellsNothing (sym are) (swept_untold db J xs rest swept)
swept_untold db J (x ∷ xs) facts (Some f, rest, becomes, swept, are) =
    subst EachTellsNothing (sym are) (becomes_untold db J x (Some f) becomes, swept_untold db J xs rest swept)

-- ---- how many effects

cons_length : {X : Type 0} (o : Option X) (xs : List X) → length (cons_option o xs) ≤ suc (length xs)
cons_length None xs = omega arith
cons_length (Some x) xs = omega arith

fewer_mapped : {X Y : Type 0} (g : X → Option Y) (xs : List X) → length (filter_map g xs) ≤ length xs
fewer_mapped g [] = omega arith
fewer_mapped g (x ∷ xs) =
    let rest = fewer_mapped g xs in
    let one = cons_length (g x) (filter_map g xs) in
    omega (arith, rest, one)

swept_few : (db : List Domain) (J : Journal) (xs : List Iface) (facts : List Fact) → AreSwept db J xs facts → length facts ≤ length xs
swept_few db J [] facts none = let same = ap (λ (fs : List Fact). length fs) none in omega (arith, same)
swept_few db J (x ∷ xs) facts (None, rest, becomes, swept, are) =
    let few = swept_few db J xs rest swept in
    let same = ap (λ (fs : List Fact). length fs) are in
    omega (arith, few, same)
swept_few db J (x ∷ xs) facts (Some f, rest, becomes, swept, are) =
    let few = swept_few db J xs rest swept in
    let same = ap (λ (fs : List Fact). length fs) are in
    omega (arith, few, same)

effects-append : (J : Journal) (facts more : List Fact) → effects_of J (facts ++ more) ≡ effects_of J facts ++ effects_of J more
effects-append J [] more = refl
effects-append J (f ∷ facts) more = by (effect_of J f) (effects-append J facts more)
  where
    by : (o : Option Effect) → effects_of J (facts ++ more) ≡ effects_of J facts ++ effects_of J more
        → cons_option o (effects_of J (facts ++ more)) ≡ cons_option o (effects_of J facts) ++ effects_of J more
    by None same = same
    by (Some e) same = ap (λ es. e ∷ es) same

-- an interface that ends gives one at most
end_few : (J : Journal) (x : Iface) → length (effects_of J (facts_of_end J x)) ≤ 1
end_few J x = by (operation_of J x.index) (check_of J x.index) refl refl
  where
    by : (o : Option Operation) (k : Option RunningCheck) → operation_of J x.index ≡ o → check_of J x.index ≡ k → length (effects_of J (facts_of_end J x)) ≤ 1
    by None None is_o is_k = rw (is_o, is_k) (omega arith)
    by None (Some k) is_o is_k = rw (is_o, is_k) (cons_length (effect_of J (check_dropped x.index)) [])
    by (Some o) k is_o is_k = rw is_o (cons_length (effect_of J (stopped x.index)) [])

ends_few : (J : Journal) (xs : List Iface) → length (effects_of J (flat_map (facts_of_end J) xs)) ≤ length xs
ends_few J [] = omega arith
ends_few J (x ∷ xs) =
    let first = end_few J x in
    let rest = ends_few J xs in
    let both = length-append (effects_of J (facts_of_end J x)) (effects_of J (flat_map (facts_of_end J) xs)) in
    let split = ap (λ (es : List Effect). length es) (effects-append J (facts_of_end J x) (flat_map (facts_of_end J) xs)) in
    omega (arith, first, rest, both, split)

removal_few : (db : List Domain) (J : Journal) (r : ℕ) → EachMayFollow db J → length (effects_of J (facts_of_removal J r)) ≤ MOST_EFFECTS
removal_few db J r due =
    let ends = ends_few J (ifaces_on J r) in
    let few = few_on db J r due in
    let both = length-append (effects_of J (flat_map (facts_of_end J) (ifaces_on J r))) (effects_of J (radio_removed r ∷ [])) in
    let split = ap (λ (es : List Effect). length es) (effects-append J (flat_map (facts_of_end J) (ifaces_on J r)) (radio_removed r ∷ [])) in
    omega (arith, ends, few, both, split)

-- ---- the effects of replies

few_plain : (answer : Answer) (effects : List Effect) (reply : Reply) → reply ≡ Plain answer effects → length effects ≤ MOST_EFFECTS → HasFewEffects reply
few_plain answer effects reply same few = subst HasFewEffects (sym same) few

decided_few : (causes : Refusal → Type 0) (granted : Reply → List Fact → Type 0) (reply : Reply) (facts : List Fact) → Decides causes granted reply facts
    → (granted reply facts → HasFewEffects reply) → HasFewEffects reply
decided_few causes granted reply facts (inl (e, cause, refused, none)) rest = few_plain (Refused e) [] reply refused (omega arith)
decided_few causes granted reply facts (inr (free, is)) rest = rest is

gives_few : (answer : Answer) (own : List Fact) (reply : Reply) (facts : List Fact) → Gives answer own reply facts → HasFewEffects reply
gives_few answer own reply facts (same, all) = few_plain answer [] reply same (omega arith)

sweeps_few : (db : List Domain) (J : Journal) (answer : Answer) (f : Fact) (xs : List Iface) (reply : Reply) (facts : List Fact) → length xs ≤ MOST_EFFECTS
    → Sweeps db J answer f xs reply facts → HasFewEffects reply
sweeps_few db J answer f xs reply facts few (swept, are, same, all) =
    let some = swept_few db (f ∷ J) xs swept are in
    let mapped = fewer_mapped (effect_of J) swept in
    few_plain answer (effects_of J swept) reply same (omega (arith, few, some, mapped))

on_named_few : (J : Journal) (name : List ℕ) (granted : Iface → Reply → List Fact → Type 0) (reply : Reply) (facts : List Fact) → OnNamed J name granted reply facts
    → ((x : Iface) → granted x reply facts → HasFewEffects reply) → HasFewEffects reply
on_named_few J name granted reply facts on rest = by (named J name) on
  where
    by : (o : Option Iface) → IsSomeAnd o (λ x. granted x reply facts) → HasFewEffects reply
    by None is = absurd is
    by (Some x) is = rest x is

power_few : (db : List Domain) (J : Journal) (setting : PowerSetting) (x : Iface) (reply : Reply) (facts : List Fact) → SetsPower db J setting x reply facts → HasFewEffects reply
power_few db J setting x reply facts sets = by (operation_of J x.index) sets
  where
    by : (o : Option Operation) → MatchOption o
        (Gives Ok (set_to x.index setting ∷ []) reply facts)
        (λ o. (power : ℕ) × IsPowerOf db J (with_setting x.index setting x) o.chan power
        × (((power ≡ o.power) × Gives Ok (set_to x.index setting ∷ []) reply facts)
        ⊎ ((power ≢ o.power) × GivesEffects J Ok (set_to x.index setting ∷ powered x.index power ∷ []) reply facts)))
        → HasFewEffects reply
    by None gives = gives_few Ok (set_to x.index setting ∷ []) reply facts gives
    by (Some o) (power, is, inl (same, gives)) = gives_few Ok (set_to x.index setting ∷ []) reply facts gives
    by (Some o) (power, is, inr (other, (same, all))) =
        let few = cons_length (effect_of J (powered x.index power)) [] in
        few_plain Ok (effects_of J (set_to x.index setting ∷ powered x.index power ∷ [])) reply same (omega (arith, few))

shows_few : (shown : Reply → Type 0) (reply : Reply) (facts : List Fact) → Shows shown reply facts → (shown reply → HasFewEffects reply) → HasFewEffects reply
shows_few shown reply facts (is, none) rest = rest is

hints_few : (db : List Domain) (J : Journal) (hint : Hinted) (reply : Reply) (facts : List Fact) → EachMayFollow db J → Hints db J hint reply facts → HasFewEffects reply
hints_few db J hint reply facts due hints =
    decided_few (HintCauses db J hint) (Sweeps db J (HintTaken (answer_of J hint)) (hinted hint) (ifaces_of J)) reply facts hints
    (sweeps_few db J (HintTaken (answer_of J hint)) (hinted hint) (ifaces_of J) reply facts (few_ifaces db J due))

few_on_radio : (db : List Domain) (J : Journal) (r : ℕ) → EachMayFollow db J → length (ifaces_on J r) ≤ MOST_EFFECTS
few_on_radio db J r due = let few = few_on db J r due in omega (arith, few)

pub few_effects : (db : List Domain) (J : Journal) (q : Request) (failed : Bool) (reply : Reply) (facts : List Fact) → EachMayFollow db J → Replies db J q failed reply facts → HasFewEffects reply
few_effects db J (At moment) failed reply facts due is = decided_few _ (Gives Ok (moment_is moment ∷ [])) reply facts is (gives_few Ok (moment_is moment ∷ []) reply facts)
few_effects db J (RadioAdd r profile) failed reply facts due is = decided_few _ (Gives Ok (radio_added r profile ∷ [])) reply facts is (gives_few Ok (radio_added r profile ∷ []) reply facts)
few_effects db J (RadioDel r) failed reply facts due is = decided_few _ (GivesEffects J Ok (facts_of_removal J r)) reply facts is
    (λ gives. few_plain Ok (effects_of J (facts_of_removal J r)) reply gives.0 (removal_few db J r due))
few_effects db J (RadioRules r rules) failed reply facts due is = decided_few _ (Sweeps db J Ok (rules_are r rules) (ifaces_on J r)) reply facts is
    (sweeps_few db J Ok (rules_are r rules) (ifaces_on J r) reply facts (few_on_radio db J r due))
few_effects db J (HeardElement r body) failed reply facts due is =
    decided_few (LacksRadio J r before ElementCauses body) (λ reply facts. (e : Element) × IsElement body e × Hints db J (element_hint J r e.alpha2) reply facts) reply facts is
    (λ heard. hints_few db J (element_hint J r (heard.0).alpha2) reply facts due heard.2)
few_effects db J (DriverHint r a) failed reply facts due is = decided_few (LacksRadio J r) (Hints db J (driver_hint J r a)) reply facts is (hints_few db J (driver_hint J r a) reply facts due)
few_effects db J (UserHint a) failed reply facts due is = hints_few db J (Treated (User a)) reply facts due is
few_effects db J (Radar r c) failed reply facts due is = decided_few _ (Sweeps db J Ok (radar_met r c) (ifaces_on J r)) reply facts is
    (sweeps_few db J Ok (radar_met r c) (ifaces_on J r) reply facts (few_on_radio db J r due))
few_effects db J (Indoor on) failed reply facts due is = sweeps_few db J Ok (indoor_is on) (ifaces_of J) reply facts (few_ifaces db J due) is
few_effects db J (IfaceAdd r name kind) failed reply facts due is = decided_few _ (Gives Ok (made (made_of J + 1) name r kind ∷ [])) reply facts is
    (gives_few Ok (made (made_of J + 1) name r kind ∷ []) reply facts)
few_effects db J (IfaceDel name) failed reply facts due is = decided_few _ (OnNamed J name (λ x. GivesEffects J Ok (facts_of_end J x))) reply facts is
    (λ on. on_named_few J name (λ x. GivesEffects J Ok (facts_of_end J x)) reply facts on (λ x gives. let few = end_few J x in few_plain Ok (effects_of J (facts_of_end J x)) reply gives.0 (omega (arith, few))))
few_effects db J (SetType name kind) failed reply facts due is = decided_few _ (OnNamed J name (λ x. Gives Ok (typed x.index kind ∷ []))) reply facts is
    (λ on. on_named_few J name (λ x. Gives Ok (typed x.index kind ∷ [])) reply facts on (λ x. gives_few Ok (typed x.index kind ∷ []) reply facts))
few_effects db J (SetPower name setting) failed reply facts due is = decided_few _ (OnNamed J name (SetsPower db J setting)) reply facts is
    (λ on. on_named_few J name (SetsPower db J setting) reply facts on (λ x. power_few db J setting x reply facts))
few_effects db J (Start name kind c) failed reply facts due is =
    decided_few _ (OnNamed J name (λ x reply facts. (power : ℕ) × IsPowerOf db J x c power × Gives (Started power) (started x.index c power ∷ []) reply facts)) reply facts is
    (λ on. on_named_few J name (λ x reply facts. (power : ℕ) × IsPowerOf db J x c power × Gives (Started power) (started x.index c power ∷ []) reply facts) reply facts on
    (λ x (power, is_power, gives). gives_few (Started power) (started x.index c power ∷ []) reply facts gives))
few_effects db J (Stop name kind) failed reply facts due is = decided_few _ (OnNamed J name (λ x. Gives Ok (stopped x.index ∷ []))) reply facts is
    (λ on. on_named_few J name (λ x. Gives Ok (stopped x.index ∷ [])) reply facts on (λ x. gives_few Ok (stopped x.index ∷ []) reply facts))
few_effects db J (Check name c) failed reply facts due is =
    decided_few _ (OnNamed J name (λ x reply facts. (length : ℕ) × IsLengthOf db J x c length × Gives (Checking length) (check_begun x.index c length ∷ []) reply facts)) reply facts is
    (λ on. on_named_few J name (λ x reply facts. (length : ℕ) × IsLengthOf db J x c length × Gives (Checking length) (check_begun x.index c length ∷ []) reply facts) reply facts on
    (λ x (length, is_length, gives). gives_few (Checking length) (check_begun x.index c length ∷ []) reply facts gives))
few_effects db J GetReg failed reply facts due ((list, are, same), none) = subst HasFewEffects (sym same) tt
few_effects db J (Channels r) failed reply facts due is = decided_few (LacksRadio J r) (Shows (λ reply. (list : List (Chan × Dfs)) × AreShownChannels db J r list × (reply ≡ ShownChannels r list))) reply facts is
    (λ shown. subst HasFewEffects (sym shown.0.2) tt)
few_effects db J (RadioInfo r) failed reply facts due is = decided_few (LacksRadio J r) (Shows (λ reply. (report : RadioReport) × IsRadioReport J r report × (reply ≡ OfRadio report))) reply facts is
    (λ shown. subst HasFewEffects (sym shown.0.2) tt)
few_effects db J (IfaceInfo name) failed reply facts due is = decided_few _ (OnNamed J name (λ x. Shows (λ reply. (report : IfaceReport) × IsIfaceReport J x report × (reply ≡ OfIface report)))) reply facts is
    (λ on. on_named_few J name (λ x. Shows (λ reply. (report : IfaceReport) × IsIfaceReport J x report × (reply ≡ OfIface report))) reply facts on (λ x shown. subst HasFewEffects (sym shown.0.2) tt))
