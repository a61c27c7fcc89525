-- What rules the radios after a request hangs on what ruled them before alone.
use Rattle.std.proofs.Common.{◌≡◌, ◌≢◌, ℕ, ◌+◌, ◌⊎◌, Bool, cond, ◌||◌, List, [], ◌∷◌, ◌++◌, Option, Some, None, IfSome, MatchOption, refl, sym, ap, subst, ◌∙◌, inl, inr}
use Rattle.std.specs.List.{flat_map}
use Rattle.rule_tables.specs.declared.code.Alpha2.{Alpha2}
use Rattle.rule_tables.specs.declared.domain.Domain.{Domain}
use Rattle.chan_flags.specs.declared.verdict.PowerSetting.{PowerSetting}
use Rattle.reg_hints.specs.Element.{IsElement}
use Rattle.reg_hints.specs.Table.{Hinted, Own, Treated}
use Rattle.reg_hints.specs.declared.element.Element.{Element}
use Rattle.reg_hints.specs.declared.hint.Hint.TheVariants.{Driver, User, Element as ElementHint}
use Rattle.reg_journal.specs.Causes.{IsFree, SomeComes, ◌before◌}
use Rattle.reg_journal.specs.Facts.{Fact, Journal, after, moment_is, radio_added, radio_removed, rules_are, hinted, indoor_is, radar_met, made, typed, set_to, started, stopped, powered, check_begun, check_dropped}
use Rattle.reg_journal.specs.Permits.{IsLengthOf, IsPowerOf}
use Rattle.reg_journal.specs.Present.{Check as RunningCheck, Iface, Operation, check_of, ifaces_of, ifaces_on, made_of, operation_of, with_setting}
use Rattle.reg_journal.specs.Refusals.{ElementCauses, HintCauses, LacksRadio, RadioAddCauses, RulesCauses}
use Rattle.reg_journal.specs.Replies.{Decides, Gives, GivesEffects, Hints, OnNamed, Replies, SetsPower, Sweeps, answer_of, driver_hint, element_hint, facts_of_end, facts_of_removal}
use Rattle.reg_journal.specs.Rulings.{GainsFact, RulesThen, HintRules, Unless, rulings}
use Rattle.reg_journal.specs.Sweep.{AreSwept, Becomes, CheckBecomes, OperationBecomes}
use Rattle.reg_journal.specs.declared.refusal.Refusal.{Refusal}
use Rattle.reg_journal.specs.declared.reply.Answer.{Answer}
use Rattle.reg_journal.specs.declared.reply.Answer.TheVariants.{Ok, Hint as HintTaken, Started, Checking}
use Rattle.reg_journal.specs.declared.reply.Reply.{Reply}
use Rattle.reg_journal.specs.declared.request.Request.{Request}
use Rattle.reg_journal.specs.declared.request.Request.TheVariants.{At, RadioAdd, RadioDel, RadioRules, Element as HeardElement, DriverHint, UserHint, Radar, Indoor, IfaceAdd, IfaceDel, SetType, SetPower, Start, Stop, Check, GetReg, Channels, RadioInfo, IfaceInfo}
use Rattle.reg_journal.proofs.EachRegular.{at_named}
use Rattle.reg_journal.proofs.Ruled.{abilities-rulings, add_causes, hint_causes, managed-rulings, radio_causes, rules_causes}

-- ---- facts that aren't among them

abbrev LeavesRulings : Fact → Type 0
LeavesRulings (radio_added r profile) = ⊥
LeavesRulings (radio_removed r) = ⊥
LeavesRulings (rules_are r rules) = ⊥
LeavesRulings (hinted hint) = ⊥
LeavesRulings f = Unit {0}

abbrev EachLeaves : List Fact → Type 0
EachLeaves [] = Unit {0}
EachLeaves (f ∷ facts) = LeavesRulings f × EachLeaves facts

one_left : (f : Fact) (J : Journal) → LeavesRulings f → rulings (f ∷ J) ≡ rulings J
one_left (radio_added r profile) J leaves = absurd leaves
one_left (radio_removed r) J leaves = absurd leaves
one_left (rules_are r rules) J leaves = absurd leaves
one_left (hinted hint) J leaves = absurd leaves
one_left f J leaves = refl

all_left : (facts : List Fact) (J : Journal) → EachLeaves facts → rulings (after facts J) ≡ rulings J
all_left [] J each = refl
all_left (f ∷ facts) J (first, each) = all_left facts (f ∷ J) each ∙ one_left f J first

leaving : (J : Journal) (facts own : List Fact) → facts ≡ own → EachLeaves own → rulings (after facts J) ≡ rulings J
leaving J facts own same each = ap (λ fs. rulings (after fs J)) same ∙ all_left own J each

each-append : (facts more : List Fact) → EachLeaves facts → EachLeaves more → EachLeaves (facts ++ more)
each-append [] more each rest = rest
each-append (f ∷ facts) more (first, each) rest = (first, each-append facts more each rest)

-- ---- sweeps

becomes_leaves : (db : List Domain) (J : Journal) (x : Iface) (fact : Option Fact) → Becomes db J x fact → IfSome fact LeavesRulings
becomes_leaves db J x fact becomes = by (operation_of J x.index) (check_of J x.index) fact becomes
  where
    by : (o : Option Operation) (k : Option RunningCheck) (fact : Option Fact)
        → MatchOption o (MatchOption k (fact ≡ None) (λ k. CheckBecomes db J x k fact)) (λ o. OperationBecomes db J x o fact) → IfSome fact LeavesRulings
    by None None fact none = subst (λ o. IfSome o LeavesRulings) (sym none) tt
    by None (Some k) None becomes = tt
    by None (Some k) (Some (check_dropped i)) becomes = tt
    by None (Some k) (Some f) becomes = absurd becomes
    by (Some o) k None becomes = tt
    by (Some o) k (Some (stopped i)) becomes = tt
    by (Some o) k (Some (powered i power)) becomes = tt
    by (Some o) k (Some f) becomes = absurd becomes

swept_leave : (db : List Domain) (J : Journal) (xs : List Iface) (facts : List Fact) → AreSwept db J xs facts → EachLeaves facts
swept_leave db J [] facts none = subst EachLeaves (sym none) tt
swept_leave db J (x ∷ xs) facts (None, rest, becomes, swept, are) = subst EachLeaves (sym are) (swept_leave db J xs rest swept)
swept_leave db J (x ∷ xs) facts (Some f, rest, becomes, swept, are) = subst EachLeaves (sym are) (becomes_leaves db J x (Some f) becomes, swept_leave db J xs rest swept)

sweeping : (db : List Domain) (J : Journal) (answer : Answer) (f : Fact) (xs : List Iface) (reply : Reply) (facts : List Fact) → Sweeps db J answer f xs reply facts
    → rulings (after facts J) ≡ rulings (f ∷ J)
sweeping db J answer f xs reply facts (swept, are, same, all) = ap (λ fs. rulings (after fs J)) all ∙ all_left swept (f ∷ J) (swept_leave db (f ∷ J) xs swept are)

-- ---- interfaces that end

end_leaves : (J : Journal) (x : Iface) → EachLeaves (facts_of_end J x)
end_leaves J x = by (operation_of J x.index) (check_of J x.index) refl refl
  where
    by : (o : Option Operation) (k : Option RunningCheck) → operation_of J x.index ≡ o → check_of J x.index ≡ k → EachLeaves (facts_of_end J x)
    by None None is_o is_k = rw (is_o, is_k) (tt, tt)
    by None (Some k) is_o is_k = rw (is_o, is_k) (tt, (tt, tt))
    by (Some o) k is_o is_k = rw is_o (tt, (tt, tt))

ends_leave : (J : Journal) (xs : List Iface) → EachLeaves (flat_map (facts_of_end J) xs)
ends_leave J [] = tt
ends_leave J (x ∷ xs) = each-append (facts_of_end J x) (flat_map (facts_of_end J) xs) (end_leaves J x) (ends_leave J xs)

-- a fact behind those that leave the others
after_left : (facts : List Fact) (f : Fact) (J : Journal) → EachLeaves facts → rulings (after (facts ++ f ∷ []) J) ≡ rulings (f ∷ after facts J)
after_left [] f J each = refl
after_left (g ∷ facts) f J (first, each) = after_left facts f (g ∷ J) each

removing : (J : Journal) (r : ℕ) (facts : List Fact) → facts ≡ facts_of_removal J r → rulings (after facts J) ≡ radio_removed r ∷ rulings J
removing J r facts same =
    let ends = flat_map (facts_of_end J) (ifaces_on J r) in
    ap (λ fs. rulings (after fs J)) same ∙ after_left ends (radio_removed r) J (ends_leave J (ifaces_on J r))
    ∙ ap (λ xs. radio_removed r ∷ xs) (all_left ends J (ends_leave J (ifaces_on J r)))

-- ---- frames

decided : (J : Journal) (causes causes' : Refusal → Type 0) (granted : Reply → List Fact → Type 0) (given : Journal → Type 0) (reply : Reply) (facts : List Fact)
    → ((P : (Refusal → Type 0) → Type 0) → P causes → P causes') → (granted reply facts → given (rulings (after facts J)))
    → Decides causes granted reply facts → Unless causes' given (rulings J) (rulings (after facts J))
decided J causes causes' granted given reply facts to gives (inl (e, cause, same, none)) = inl (to (λ c. SomeComes c) (e, cause), ap (λ fs. rulings (after fs J)) none)
decided J causes causes' granted given reply facts to gives (inr (free, is)) = inr (to (λ c. IsFree c) free, gives is)

spared : (J : Journal) (causes : Refusal → Type 0) (granted : Reply → List Fact → Type 0) (reply : Reply) (facts : List Fact)
    → (granted reply facts → rulings (after facts J) ≡ rulings J) → Decides causes granted reply facts → rulings (after facts J) ≡ rulings J
spared J causes granted reply facts gives (inl (e, cause, same, none)) = ap (λ fs. rulings (after fs J)) none
spared J causes granted reply facts gives (inr (free, is)) = gives is

hinting : (db : List Domain) (J : Journal) (hint : Hinted) (reply : Reply) (facts : List Fact) → Hints db J hint reply facts → HintRules db (rulings J) hint (rulings (after facts J))
hinting db J hint reply facts hints =
    decided J (HintCauses db J hint) (HintCauses db (rulings J) hint) (Sweeps db J (HintTaken (answer_of J hint)) (hinted hint) (ifaces_of J)) (GainsFact (hinted hint) (rulings J)) reply facts
    (hint_causes db J hint) (λ sweeps. sweeping db J (HintTaken (answer_of J hint)) (hinted hint) (ifaces_of J) reply facts sweeps) hints

element_same : (J : Journal) (r : ℕ) (a : Alpha2) → element_hint J r a ≡ element_hint (rulings J) r a
element_same J r a = sym (λ i. Treated (ElementHint r a ((abilities-rulings J r i).deaf || managed-rulings J r i)))

driver_same : (J : Journal) (r : ℕ) (a : Alpha2) → driver_hint J r a ≡ driver_hint (rulings J) r a
driver_same J r a = sym (ap (λ b. cond b (Own r a) (Treated (Driver r a))) (managed-rulings J r))

powering : (db : List Domain) (J : Journal) (setting : PowerSetting) (x : Iface) (reply : Reply) (facts : List Fact) → SetsPower db J setting x reply facts → rulings (after facts J) ≡ rulings J
powering db J setting x reply facts sets = by (operation_of J x.index) sets
  where
    by : (o : Option Operation) → MatchOption o
        (Gives Ok (set_to x.index setting ∷ []) reply facts)
        (λ o. (power : ℕ) × IsPowerOf db J (with_setting x.index setting x) o.chan power
        × (((power ≡ o.power) × Gives Ok (set_to x.index setting ∷ []) reply facts)
        ⊎ ((power ≢ o.power) × GivesEffects J Ok (set_to x.index setting ∷ powered x.index power ∷ []) reply facts)))
        → rulings (after facts J) ≡ rulings J
    by None (same, all) = leaving J facts (set_to x.index setting ∷ []) all (tt, tt)
    by (Some o) (power, is, inl (same, (answer, all))) = leaving J facts (set_to x.index setting ∷ []) all (tt, tt)
    by (Some o) (power, is, inr (other, (answer, all))) = leaving J facts (set_to x.index setting ∷ powered x.index power ∷ []) all (tt, (tt, tt))

-- ---- all requests

pub rules_then : (db : List Domain) (J : Journal) (q : Request) (failed : Bool) (reply : Reply) (facts : List Fact) → Replies db J q failed reply facts
    → RulesThen db (rulings J) q (rulings (after facts J))
rules_then db J (At moment) failed reply facts is = spared J _ (Gives Ok (moment_is moment ∷ [])) reply facts (λ gives. leaving J facts (moment_is moment ∷ []) gives.1 (tt, tt)) is
rules_then db J (RadioAdd r profile) failed reply facts is =
    decided J (RadioAddCauses J r) (RadioAddCauses (rulings J) r) (Gives Ok (radio_added r profile ∷ [])) (GainsFact (radio_added r profile) (rulings J)) reply facts
    (add_causes J r) (λ gives. ap (λ fs. rulings (after fs J)) gives.1) is
rules_then db J (RadioDel r) failed reply facts is =
    decided J (LacksRadio J r) (LacksRadio (rulings J) r) (GivesEffects J Ok (facts_of_removal J r)) (GainsFact (radio_removed r) (rulings J)) reply facts
    (radio_causes J r) (λ gives. removing J r facts gives.1) is
rules_then db J (RadioRules r rules) failed reply facts is =
    decided J (RulesCauses db J r rules) (RulesCauses db (rulings J) r rules) (Sweeps db J Ok (rules_are r rules) (ifaces_on J r)) (GainsFact (rules_are r rules) (rulings J)) reply facts
    (rules_causes db J r rules) (λ sweeps. sweeping db J Ok (rules_are r rules) (ifaces_on J r) reply facts sweeps) is
rules_then db J (HeardElement r body) failed reply facts is =
    decided J (LacksRadio J r before ElementCauses body) (LacksRadio (rulings J) r before ElementCauses body)
    (λ reply facts. (e : Element) × IsElement body e × Hints db J (element_hint J r e.alpha2) reply facts)
    (λ next. (e : Element) × IsElement body e × HintRules db (rulings J) (element_hint (rulings J) r e.alpha2) next) reply facts
    (λ P given. radio_causes J r (λ lacks. P (lacks before ElementCauses body)) given)
    (λ heard. (
      heard.0,
      heard.1,
      subst (λ hint. HintRules db (rulings J) hint (rulings (after facts J))) (element_same J r (heard.0).alpha2)
          (hinting db J (element_hint J r (heard.0).alpha2) reply facts heard.2),
    )) is
rules_then db J (DriverHint r a) failed reply facts is =
    decided J (LacksRadio J r) (LacksRadio (rulings J) r) (Hints db J (driver_hint J r a)) (HintRules db (rulings J) (driver_hint (rulings J) r a)) reply facts
    (radio_causes J r)
    (λ hints. subst (λ hint. HintRules db (rulings J) hint (rulings (after facts J))) (driver_same J r a) (hinting db J (driver_hint J r a) reply facts hints)) is
rules_then db J (UserHint a) failed reply facts is = hinting db J (Treated (User a)) reply facts is
rules_then db J (Radar r c) failed reply facts is =
    spared J _ (Sweeps db J Ok (radar_met r c) (ifaces_on J r)) reply facts (λ sweeps. sweeping db J Ok (radar_met r c) (ifaces_on J r) reply facts sweeps) is
rules_then db J (Indoor on) failed reply facts is = sweeping db J Ok (indoor_is on) (ifaces_of J) reply facts is
rules_then db J (IfaceAdd r name kind) failed reply facts is =
    spared J _ (Gives Ok (made (made_of J + 1) name r kind ∷ [])) reply facts (λ gives. leaving J facts (made (made_of J + 1) name r kind ∷ []) gives.1 (tt, tt)) is
rules_then db J (IfaceDel name) failed reply facts is = spared J _ (OnNamed J name (λ x. GivesEffects J Ok (facts_of_end J x))) reply facts
    (λ on. let found = at_named J name (λ x. GivesEffects J Ok (facts_of_end J x) reply facts) on in leaving J facts (facts_of_end J found.0) found.2.1 (end_leaves J found.0)) is
rules_then db J (SetType name kind) failed reply facts is = spared J _ (OnNamed J name (λ x. Gives Ok (typed x.index kind ∷ []))) reply facts
    (λ on. let found = at_named J name (λ x. Gives Ok (typed x.index kind ∷ []) reply facts) on in leaving J facts (typed (found.0).index kind ∷ []) found.2.1 (tt, tt)) is
rules_then db J (SetPower name setting) failed reply facts is = spared J _ (OnNamed J name (SetsPower db J setting)) reply facts
    (λ on. let found = at_named J name (λ x. SetsPower db J setting x reply facts) on in powering db J setting found.0 reply facts found.2) is
rules_then db J (Start name kind c) failed reply facts is =
    spared J _ (OnNamed J name (λ x reply facts. (power : ℕ) × IsPowerOf db J x c power × Gives (Started power) (started x.index c power ∷ []) reply facts)) reply facts
    (λ on.
    let found = at_named J name (λ x. (power : ℕ) × IsPowerOf db J x c power × Gives (Started power) (started x.index c power ∷ []) reply facts) on in
    leaving J facts (started (found.0).index c found.2.0 ∷ []) found.2.2.1 (tt, tt)) is
rules_then db J (Stop name kind) failed reply facts is = spared J _ (OnNamed J name (λ x. Gives Ok (stopped x.index ∷ []))) reply facts
    (λ on. let found = at_named J name (λ x. Gives Ok (stopped x.index ∷ []) reply facts) on in leaving J facts (stopped (found.0).index ∷ []) found.2.1 (tt, tt)) is
rules_then db J (Check name c) failed reply facts is =
    spared J _ (OnNamed J name (λ x reply facts. (length : ℕ) × IsLengthOf db J x c length × Gives (Checking length) (check_begun x.index c length ∷ []) reply facts)) reply facts
    (λ on.
    let found = at_named J name (λ x. (length : ℕ) × IsLengthOf db J x c length × Gives (Checking length) (check_begun x.index c length ∷ []) reply facts) on in
    leaving J facts (check_begun (found.0).index c found.2.0 ∷ []) found.2.2.1 (tt, tt)) is
rules_then db J GetReg failed reply facts (shown, none) = leaving J facts [] none tt
rules_then db J (Channels r) failed reply facts (inl (e, cause, same, none)) = leaving J facts [] none tt
rules_then db J (Channels r) failed reply facts (inr (free, (shown, none))) = leaving J facts [] none tt
rules_then db J (RadioInfo r) failed reply facts (inl (e, cause, same, none)) = leaving J facts [] none tt
rules_then db J (RadioInfo r) failed reply facts (inr (free, (shown, none))) = leaving J facts [] none tt
rules_then db J (IfaceInfo name) failed reply facts (inl (e, cause, same, none)) = leaving J facts [] none tt
rules_then db J (IfaceInfo name) failed reply facts (inr (free, on)) = let found = at_named J name _ on in leaving J facts [] found.2.1 tt
