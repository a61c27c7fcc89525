-- Each request leaves lists of domains that don't have too many rows.
use Rattle.std.proofs.Common.{◌≡◌, ◌≢◌, ℕ, ◌+◌, ◌<◌, ◌⊎◌, Bool, List, [], ◌∷◌, ◌++◌, length, Option, Some, None, MatchOption, refl, sym, subst, inl, inr}
use Rattle.std.specs.List.{flat_map}
use Rattle.freq_range.specs.First.{IsFirst}
use Rattle.rule_tables.specs.Databases.{IsDb}
use Rattle.rule_tables.specs.Domains.{IsInvalidAt}
use Rattle.rule_tables.specs.declared.domain.Domain.{Domain}
use Rattle.chan_flags.specs.declared.verdict.PowerSetting.{PowerSetting}
use Rattle.reg_hints.specs.Element.{IsElement}
use Rattle.reg_hints.specs.Table.{Hinted, Treated}
use Rattle.reg_hints.specs.declared.element.Element.{Element}
use Rattle.reg_hints.specs.declared.hint.Hint.TheVariants.{User}
use Rattle.reg_journal.specs.Applicable.{AddsFifthCode, applies, code_of_hint, find_domain}
use Rattle.reg_journal.specs.Causes.{IsFree, ◌before◌, Where}
use Rattle.reg_journal.specs.Due.{EachMayFollow}
use Rattle.reg_journal.specs.Facts.{Fact, Journal, after, moment_is, radio_added, radio_removed, rules_are, hinted, indoor_is, radar_met, made, typed, set_to, started, stopped, powered, check_begun}
use Rattle.reg_journal.specs.Permits.{IsLengthOf, IsPowerOf}
use Rattle.reg_journal.specs.Present.{Check as RunningCheck, Iface, Operation, check_of, ifaces_of, ifaces_on, is_used, made_of, operation_of, with_setting}
use Rattle.reg_journal.specs.Refusals.{ElementCauses, HintCauses, LacksRadio, RadioAddCauses, RowCauses, RulesCauses}
use Rattle.reg_journal.specs.Replies.{Decides, Gives, GivesEffects, Hints, IsRegular, at_first, one_more, OnNamed, Replies, SetsPower, Sweeps, answer_of, driver_hint, element_hint, facts_of_end, facts_of_removal}
use Rattle.reg_journal.specs.declared.refusal.Refusal.{Refusal}
use Rattle.reg_journal.specs.declared.refusal.Refusal.TheVariants.{BadRule, NoCountry, NoRules, TooManyDomains, TooManyRules}
use Rattle.reg_journal.specs.declared.reply.Answer.{Answer}
use Rattle.reg_journal.specs.declared.reply.Answer.TheVariants.{Ok, Hint as HintTaken, Started, Checking}
use Rattle.reg_journal.specs.declared.reply.Reply.{Reply}
use Rattle.reg_journal.specs.declared.request.Request.{Request}
use Rattle.reg_journal.specs.declared.request.Request.TheVariants.{At, RadioAdd, RadioDel, RadioRules, Element as HeardElement, DriverHint, UserHint, Radar, Indoor, IfaceAdd, IfaceDel, SetType, SetPower, Start, Stop, Check, GetReg, Channels, RadioInfo, IfaceInfo}
use Rattle.reg_journal.proofs.EachRegular.{at_named, regular_goes}
use Rattle.reg_journal.proofs.FewRows.{AreShort, EachLeavesLists, added_short, all_left_short, hinted_short, rules_short, short_at_first, swept_leave}
use Rattle.reg_journal.proofs.Permitting.{free-next, never_where}
use Rattle.reg_journal.proofs.Regular.{is_false}

-- ---- frames

due_front : (db : List Domain) (facts : List Fact) (J : Journal) → EachMayFollow db (after facts J) → EachMayFollow db J
due_front db [] J due = due
due_front db (f ∷ facts) J due = (due_front db facts (f ∷ J) due).1

decided_short : (db : List Domain) (J : Journal) (causes : Refusal → Type 0) (granted : Reply → List Fact → Type 0) (reply : Reply) (facts : List Fact) → AreShort db J
    → Decides causes granted reply facts → (IsFree causes → granted reply facts → AreShort db (after facts J)) → AreShort db (after facts J)
decided_short db J causes granted reply facts short (inl (e, cause, same, none)) rest = subst (λ fs. AreShort db (after fs J)) (sym none) short
decided_short db J causes granted reply facts short (inr (free, is)) rest = rest free is

leaving : (db : List Domain) (J : Journal) (facts own : List Fact) → AreShort db J → facts ≡ own → EachLeavesLists own → AreShort db (after facts J)
leaving db J facts own short same each = subst (λ fs. AreShort db (after fs J)) (sym same) (all_left_short db own J each short)

sweeping : (db : List Domain) (J : Journal) (answer : Answer) (f : Fact) (xs : List Iface) (reply : Reply) (facts : List Fact) → EachMayFollow db (after facts J)
    → (EachMayFollow db (f ∷ J) → AreShort db (f ∷ J)) → Sweeps db J answer f xs reply facts → AreShort db (after facts J)
sweeping db J answer f xs reply facts due first (swept, are, same, all) =
    let next = subst (λ fs. EachMayFollow db (after fs J)) all due in
    subst (λ fs. AreShort db (after fs J)) (sym all) (all_left_short db swept (f ∷ J) (swept_leave db (f ∷ J) xs swept are) (first (due_front db swept (f ∷ J) next)))

each-append : (facts more : List Fact) → EachLeavesLists facts → EachLeavesLists more → EachLeavesLists (facts ++ more)
each-append [] more each rest = rest
each-append (f ∷ facts) more (first, each) rest = (first, each-append facts more each rest)

end_leaves : (J : Journal) (x : Iface) → EachLeavesLists (facts_of_end J x)
end_leaves J x = by (operation_of J x.index) (check_of J x.index) refl refl
  where
    by : (o : Option Operation) (k : Option RunningCheck) → operation_of J x.index ≡ o → check_of J x.index ≡ k → EachLeavesLists (facts_of_end J x)
    by None None is_o is_k = rw (is_o, is_k) (tt, tt)
    by None (Some k) is_o is_k = rw (is_o, is_k) (tt, (tt, tt))
    by (Some o) k is_o is_k = rw is_o (tt, (tt, tt))

ends_leave : (J : Journal) (xs : List Iface) → EachLeavesLists (flat_map (facts_of_end J) xs)
ends_leave J [] = tt
ends_leave J (x ∷ xs) = each-append (facts_of_end J x) (flat_map (facts_of_end J) xs) (end_leaves J x) (ends_leave J xs)

power_leaves : (db : List Domain) (J : Journal) (setting : PowerSetting) (x : Iface) (reply : Reply) (facts : List Fact) → AreShort db J → SetsPower db J setting x reply facts → AreShort db (after facts J)
power_leaves db J setting x reply facts short sets = by (operation_of J x.index) sets
  where
    by : (o : Option Operation) → MatchOption o
        (Gives Ok (set_to x.index setting ∷ []) reply facts)
        (λ o. (power : ℕ) × IsPowerOf db J (with_setting x.index setting x) o.chan power
        × (((power ≡ o.power) × Gives Ok (set_to x.index setting ∷ []) reply facts)
        ⊎ ((power ≢ o.power) × GivesEffects J Ok (set_to x.index setting ∷ powered x.index power ∷ []) reply facts)))
        → AreShort db (after facts J)
    by None (same, all) = leaving db J facts (set_to x.index setting ∷ []) short all (tt, tt)
    by (Some o) (power, is, inl (same, (answer, all))) = leaving db J facts (set_to x.index setting ∷ []) short all (tt, tt)
    by (Some o) (power, is, inr (other, (answer, all))) = leaving db J facts (set_to x.index setting ∷ powered x.index power ∷ []) short all (tt, (tt, tt))

hints_short : (db : List Domain) (J : Journal) (hint : Hinted) (reply : Reply) (facts : List Fact) → IsDb db → EachMayFollow db (after facts J) → AreShort db J → Hints db J hint reply facts
    → AreShort db (after facts J)
hints_short db J hint reply facts is_db due short hints =
    decided_short db J (HintCauses db J hint) (Sweeps db J (HintTaken (answer_of J hint)) (hinted hint) (ifaces_of J)) reply facts short hints
    (λ free sweeps. sweeping db J (HintTaken (answer_of J hint)) (hinted hint) (ifaces_of J) reply facts due
    (λ next. hinted_short db J hint is_db next
    (free-next (Where (AddsFifthCode J hint) TooManyDomains) _ (free-next (Where (find_domain db (code_of_hint hint) ≡ None) (NoCountry (code_of_hint hint))) _ free))) sweeps)

-- ---- all requests

short_after : (db : List Domain) (J : Journal) (q : Request) (failed : Bool) (reply : Reply) (facts : List Fact) → IsDb db → EachMayFollow db J → EachMayFollow db (after facts J) → AreShort db J
    → Replies db J q failed reply facts → AreShort db (after facts J)
short_after db J (At moment) failed reply facts is_db due next short is = decided_short db J _ (Gives Ok (moment_is moment ∷ [])) reply facts short is (λ free gives. leaving db J facts (moment_is moment ∷ []) short gives.1 (tt, tt))
short_after db J (RadioAdd r profile) failed reply facts is_db due next short is = decided_short db J (RadioAddCauses J r) (Gives Ok (radio_added r profile ∷ [])) reply facts short is
    (λ free gives. subst (λ fs. AreShort db (after fs J)) (sym gives.1) (added_short db J r profile due (is_false (is_used J r) (never_where _ _ free)) short))
short_after db J (RadioDel r) failed reply facts is_db due next short is = decided_short db J _ (GivesEffects J Ok (facts_of_removal J r)) reply facts short is
    (λ free gives. leaving db J facts (facts_of_removal J r) short gives.1 (each-append (flat_map (facts_of_end J) (ifaces_on J r)) (radio_removed r ∷ []) (ends_leave J (ifaces_on J r)) (tt, tt)))
short_after db J (RadioRules r rules) failed reply facts is_db due next short is = decided_short db J (RulesCauses db J r rules) (Sweeps db J Ok (rules_are r rules) (ifaces_on J r)) reply facts short is
    (λ free sweeps.
    let many = free-next (LacksRadio J r) _ free in
    let none = free-next (Where (32 < length rules) (TooManyRules (length rules))) _ many in
    let bad = free-next (Where (rules ≡ []) NoRules) _ none in
    let rows = free-next (λ e. (k : ℕ) × IsFirst (IsInvalidAt rules) k × (e ≡ BadRule k)) (RowCauses (applies db (rules_are r rules ∷ J) r ∷ [])) bad in
    sweeping db J Ok (rules_are r rules) (ifaces_on J r) reply facts next (λ after_rules. rules_short db J r rules is_db after_rules rows short) sweeps)
short_after db J (HeardElement r body) failed reply facts is_db due next short is =
    decided_short db J (LacksRadio J r before ElementCauses body) (λ reply facts. (e : Element) × IsElement body e × Hints db J (element_hint J r e.alpha2) reply facts) reply facts short is
    (λ free heard. hints_short db J (element_hint J r (heard.0).alpha2) reply facts is_db next short heard.2)
short_after db J (DriverHint r a) failed reply facts is_db due next short is = decided_short db J (LacksRadio J r) (Hints db J (driver_hint J r a)) reply facts short is
    (λ free hints. hints_short db J (driver_hint J r a) reply facts is_db next short hints)
short_after db J (UserHint a) failed reply facts is_db due next short is = hints_short db J (Treated (User a)) reply facts is_db next short is
short_after db J (Radar r c) failed reply facts is_db due next short is = decided_short db J _ (Sweeps db J Ok (radar_met r c) (ifaces_on J r)) reply facts short is
    (λ free sweeps. sweeping db J Ok (radar_met r c) (ifaces_on J r) reply facts next (λ later. all_left_short db (radar_met r c ∷ []) J (tt, tt) short) sweeps)
short_after db J (Indoor on) failed reply facts is_db due next short is = sweeping db J Ok (indoor_is on) (ifaces_of J) reply facts next (λ later. all_left_short db (indoor_is on ∷ []) J (tt, tt) short) is
short_after db J (IfaceAdd r name kind) failed reply facts is_db due next short is = decided_short db J _ (Gives Ok (made (made_of J + 1) name r kind ∷ [])) reply facts short is
    (λ free gives. leaving db J facts (made (made_of J + 1) name r kind ∷ []) short gives.1 (tt, tt))
short_after db J (IfaceDel name) failed reply facts is_db due next short is = decided_short db J _ (OnNamed J name (λ x. GivesEffects J Ok (facts_of_end J x))) reply facts short is
    (λ free on. let found = at_named J name (λ x. GivesEffects J Ok (facts_of_end J x) reply facts) on in leaving db J facts (facts_of_end J found.0) short found.2.1 (end_leaves J found.0))
short_after db J (SetType name kind) failed reply facts is_db due next short is = decided_short db J _ (OnNamed J name (λ x. Gives Ok (typed x.index kind ∷ []))) reply facts short is
    (λ free on. let found = at_named J name (λ x. Gives Ok (typed x.index kind ∷ []) reply facts) on in leaving db J facts (typed (found.0).index kind ∷ []) short found.2.1 (tt, tt))
short_after db J (SetPower name setting) failed reply facts is_db due next short is = decided_short db J _ (OnNamed J name (SetsPower db J setting)) reply facts short is
    (λ free on. let found = at_named J name (λ x. SetsPower db J setting x reply facts) on in power_leaves db J setting found.0 reply facts short found.2)
short_after db J (Start name kind c) failed reply facts is_db due next short is =
    decided_short db J _ (OnNamed J name (λ x reply facts. (power : ℕ) × IsPowerOf db J x c power × Gives (Started power) (started x.index c power ∷ []) reply facts)) reply facts short is
    (λ free on.
    let found = at_named J name (λ x. (power : ℕ) × IsPowerOf db J x c power × Gives (Started power) (started x.index c power ∷ []) reply facts) on in
    leaving db J facts (started (found.0).index c found.2.0 ∷ []) short found.2.2.1 (tt, tt))
short_after db J (Stop name kind) failed reply facts is_db due next short is = decided_short db J _ (OnNamed J name (λ x. Gives Ok (stopped x.index ∷ []))) reply facts short is
    (λ free on. let found = at_named J name (λ x. Gives Ok (stopped x.index ∷ []) reply facts) on in leaving db J facts (stopped (found.0).index ∷ []) short found.2.1 (tt, tt))
short_after db J (Check name c) failed reply facts is_db due next short is =
    decided_short db J _ (OnNamed J name (λ x reply facts. (length : ℕ) × IsLengthOf db J x c length × Gives (Checking length) (check_begun x.index c length ∷ []) reply facts)) reply facts short is
    (λ free on.
    let found = at_named J name (λ x. (length : ℕ) × IsLengthOf db J x c length × Gives (Checking length) (check_begun x.index c length ∷ []) reply facts) on in
    leaving db J facts (check_begun (found.0).index c found.2.0 ∷ []) short found.2.2.1 (tt, tt))
short_after db J GetReg failed reply facts is_db due next short (shown, none) = leaving db J facts [] short none tt
short_after db J (Channels r) failed reply facts is_db due next short (inl (e, cause, same, none)) = leaving db J facts [] short none tt
short_after db J (Channels r) failed reply facts is_db due next short (inr (free, (shown, none))) = leaving db J facts [] short none tt
short_after db J (RadioInfo r) failed reply facts is_db due next short (inl (e, cause, same, none)) = leaving db J facts [] short none tt
short_after db J (RadioInfo r) failed reply facts is_db due next short (inr (free, (shown, none))) = leaving db J facts [] short none tt
short_after db J (IfaceInfo name) failed reply facts is_db due next short (inl (e, cause, same, none)) = leaving db J facts [] short none tt
short_after db J (IfaceInfo name) failed reply facts is_db due next short (inr (free, on)) = let found = at_named J name _ on in leaving db J facts [] short found.2.1 tt

-- ---- regular journals

pub regular_short : (db : List Domain) (J : Journal) → IsRegular db J → AreShort db J
regular_short db J (at_first is) = short_at_first db is
regular_short db J (one_more older next q failed reply regular its_types askable (facts, replies, same)) =
    let was = regular_goes db older regular in
    let now = regular_goes db J (one_more older next q failed reply regular its_types askable (facts, replies, same)) in
    subst (AreShort db) (sym same) (short_after db older q failed reply facts was.0 was.1.due (subst (EachMayFollow db) same now.1.due) (regular_short db older regular) replies)
