-- Each request is refused for one reason at most.
use Rattle.std.proofs.Common.{◌≡◌, ℕ, List, [], ◌∷◌, slice_get, sym, subst, ap, ◌∙◌, Bool, Option, Some, None, IsSomeAnd}
use Rattle.freq_range.specs.First.{IsFirst}
use Rattle.freq_range.proofs.Firsts.{IsFirst-unique}
use Rattle.freq_range.specs.declared.rule.Rule.{Rule}
use Rattle.rule_tables.specs.Domains.{IsInvalidAt}
use Rattle.rule_tables.specs.declared.domain.Domain.{Domain}
use Rattle.rule_intersect.proofs.OneTable.{IsTooMany-unique}
use Rattle.chan_def.specs.declared.definition.ChanDef.{ChanDef}
use Rattle.chan_def.specs.declared.kind.Kind.{Kind}
use Rattle.chan_flags.proofs.OneAnswer.{IsLimit-unique}
use Rattle.chan_flags.specs.declared.verdict.PowerSetting.{PowerSetting}
use Rattle.reg_hints.specs.Element.{IsElementFault}
use Rattle.reg_hints.specs.Table.{Hinted}
use Rattle.reg_hints.specs.declared.element.ElementFault.TheVariants.{Short, Odd}
use Rattle.reg_journal.specs.Facts.{Journal, hinted, rules_are}
use Rattle.reg_journal.specs.Present.{Iface, Operation, named, operation_of}
use Rattle.reg_journal.specs.Applicable.{applies}
use Rattle.reg_journal.specs.Causes.{◌before◌}
use Rattle.reg_journal.specs.Permits.{asked_by, LacksCheck, PassesLimit, RadarForbids, RadioForbids, RulesForbid, EndsOperation, BarsOperation, BarsCheck}
use Rattle.reg_journal.specs.Refusals.{MomentCauses, LacksRadio, RadioAddCauses, HasTooManyRows, IsTooLongAt, RowCauses, RulesCauses, all_lists, ElementCauses, HintCauses, IfaceAddCauses, LacksIface, OnIface, SetTypeCauses, SetPowerCauses, StopCauses, StartCauses, CheckCauses, RadarCauses}
use Rattle.reg_journal.specs.declared.refusal.Refusal.{Refusal}
use Rattle.reg_journal.specs.declared.refusal.Refusal.TheVariants.{Power, TooManyRows, BadRule, ElementShort, ElementOdd}
use Rattle.reg_journal.proofs.OneCause.{NamesOne, one-where, one-before, one-at_lowest}

-- ---- single causes

one-passes_limit : (db : List Domain) (J : Journal) (x : Iface) (setting : PowerSetting) (c : ChanDef) → NamesOne (PassesLimit db J x setting c)
one-passes_limit db J x setting c e other (a, is, above, here) (b, is', above', there) =
    here ∙ ap Power (IsLimit-unique (applies db J x.radio) (asked_by J x c) a b is is') ∙ sym there

one-rows : (lists : List (List Domain)) → NamesOne (RowCauses lists)
one-rows lists e other (k, first, ds, at, m, many, here) (l, first', ds', at', n, many', there) =
    let same_place = IsFirst-unique (IsTooLongAt lists) k l first first' in
    let same_list : ds ≡ ds' = some_same (sym at ∙ ap (λ p. slice_get lists p) same_place ∙ at') in
    let same_rows = (IsTooMany-unique ds' (subst (λ l. HasTooManyRows l m) same_list many).0 m many'.0 n (subst (λ l. HasTooManyRows l m) same_list many).1 many'.1).1 in
    here ∙ ap TooManyRows same_rows ∙ sym there
  where
    some_same : {X : Type 0} {x y : X} → Some x ≡ Some y → x ≡ y
    some_same p = cc

one-rules_forbid : (db : List Domain) (J : Journal) (x : Iface) (c : ChanDef) → NamesOne (RulesForbid db J x c)
one-rules_forbid db J x c =
    one-before _ _ (one-at_lowest _ c _)
    (one-before _ _ (one-at_lowest _ c _)
    (one-before _ _ (one-at_lowest _ c _)
    (one-before _ _ (one-at_lowest _ c _)
    (one-at_lowest _ c _))))

one-bad_rule : (rules : List Rule) → NamesOne (λ e. (k : ℕ) × IsFirst (IsInvalidAt rules) k × (e ≡ BadRule k))
one-bad_rule rules e other (k, first, here) (l, first', there) = here ∙ ap BadRule (IsFirst-unique (IsInvalidAt rules) k l first first') ∙ sym there

-- ---- channels

one-radio_forbids : (db : List Domain) (J : Journal) (x : Iface) (c : ChanDef) → NamesOne (RadioForbids db J x c)
one-radio_forbids db J x c = one-before _ _ (one-at_lowest _ c _) (one-where _ _)

one-radar_forbids : (db : List Domain) (J : Journal) (x : Iface) (c : ChanDef) → NamesOne (RadarForbids db J x c)
one-radar_forbids db J x c = one-before _ _ (one-where _ _) (one-at_lowest _ c _)

-- the rules, power, radar and checks
one-behind : (db : List Domain) (J : Journal) (x : Iface) (c : ChanDef)
    → NamesOne (RulesForbid db J x c before PassesLimit db J x x.setting c before RadarForbids db J x c before LacksCheck db J x c)
one-behind db J x c =
    one-before _ _ (one-rules_forbid db J x c)
    (one-before _ _ (one-passes_limit db J x x.setting c)
    (one-before _ _ (one-radar_forbids db J x c)
    (one-at_lowest _ c _)))

pub one-ends_operation : (db : List Domain) (J : Journal) (x : Iface) (c : ChanDef) → NamesOne (EndsOperation db J x c)
one-ends_operation db J x c = one-before _ _ (one-radio_forbids db J x c) (one-behind db J x c)

one-bars_operation : (db : List Domain) (J : Journal) (x : Iface) (c : ChanDef) → NamesOne (BarsOperation db J x c)
one-bars_operation db J x c = one-before _ _ (one-radio_forbids db J x c) (one-before _ _ (one-where _ _) (one-behind db J x c))

one-bars_check : (db : List Domain) (J : Journal) (x : Iface) (c : ChanDef) → NamesOne (BarsCheck db J x c)
one-bars_check db J x c =
    one-before _ _ (one-radio_forbids db J x c)
    (one-before _ _ (one-where _ _)
    (one-before _ _ (one-rules_forbid db J x c)
    (one-radar_forbids db J x c)))

-- ---- requests

one-on_iface : (J : Journal) (name : List ℕ) (causes : Iface → Refusal → Type 0) → ((x : Iface) → NamesOne (causes x)) → NamesOne (OnIface J name causes)
one-on_iface J name causes each = one-before (LacksIface J name) _ (one-where _ _) (at (named J name))
  where
    at : (o : Option Iface) → NamesOne (λ e. IsSomeAnd o (λ x. causes x e))
    at None e other here there = absurd here
    at (Some x) e other here there = each x e other here there

pub one-moment : (J : Journal) (m : ℕ) → NamesOne (MomentCauses J m)
one-moment J m = one-before _ _ (one-where _ _) (one-where _ _)

pub one-radio_add : (J : Journal) (r : ℕ) → NamesOne (RadioAddCauses J r)
one-radio_add J r = one-where _ _

pub one-radio : (J : Journal) (r : ℕ) → NamesOne (LacksRadio J r)
one-radio J r = one-where _ _

pub one-rules : (db : List Domain) (J : Journal) (r : ℕ) (rules : List Rule) → NamesOne (RulesCauses db J r rules)
one-rules db J r rules =
    one-before _ _ (one-where _ _)
    (one-before _ _ (one-where _ _)
    (one-before _ _ (one-where _ _)
    (one-before _ _ (one-bad_rule rules)
    (one-rows (applies db (rules_are r rules ∷ J) r ∷ [])))))

pub one-element : (J : Journal) (r : ℕ) (body : List ℕ) → NamesOne (LacksRadio J r before ElementCauses body)
one-element J r body = one-before _ _ (one-where _ _) (one-before _ _ short (one-before _ _ odd (one-where _ _)))
  where
    short : NamesOne (λ e. (n : ℕ) × IsElementFault body (Short n) × (e ≡ ElementShort n))
    short e other (n, is, here) (m, is', there) = here ∙ ap ElementShort (is.0 ∙ sym is'.0) ∙ sym there

    odd : NamesOne (λ e. (n : ℕ) × IsElementFault body (Odd n) × (e ≡ ElementOdd n))
    odd e other (n, is, here) (m, is', there) = here ∙ ap ElementOdd (is.0 ∙ sym is'.0) ∙ sym there

pub one-hint : (db : List Domain) (J : Journal) (hint : Hinted) → NamesOne (HintCauses db J hint)
one-hint db J hint = one-before _ _ (one-where _ _) (one-before _ _ (one-where _ _) (one-rows (all_lists db (hinted hint ∷ J))))

pub one-radar : (J : Journal) (r : ℕ) (c : ChanDef) → NamesOne (RadarCauses J r c)
one-radar J r c = one-before _ _ (one-where _ _) (one-where _ _)

pub one-iface_add : (J : Journal) (r : ℕ) (name : List ℕ) → NamesOne (IfaceAddCauses J r name)
one-iface_add J r name = one-before _ _ (one-where _ _) (one-before _ _ (one-where _ _) (one-where _ _))

pub one-iface : (J : Journal) (name : List ℕ) → NamesOne (LacksIface J name)
one-iface J name = one-where _ _

pub one-set_type : (J : Journal) (name : List ℕ) → NamesOne (SetTypeCauses J name)
one-set_type J name = one-on_iface J name _ (λ x. one-where _ _)

pub one-set_power : (db : List Domain) (J : Journal) (name : List ℕ) (setting : PowerSetting) → NamesOne (SetPowerCauses db J name setting)
one-set_power db J name setting = one-on_iface J name _ (λ x. above x (operation_of J x.index))
  where
    above : (x : Iface) (o : Option Operation) → NamesOne (λ e. IsSomeAnd o (λ o. PassesLimit db J x setting o.chan e))
    above x None e other here there = absurd here
    above x (Some o) e other here there = one-passes_limit db J x setting o.chan e other here there

pub one-stop : (J : Journal) (name : List ℕ) (kind : Kind) → NamesOne (StopCauses J name kind)
one-stop J name kind = one-on_iface J name _ (λ x. one-before _ _ (one-where _ _) (one-where _ _))

pub one-start : (db : List Domain) (J : Journal) (name : List ℕ) (kind : Kind) (c : ChanDef) (failed : Bool) → NamesOne (StartCauses db J name kind c failed)
one-start db J name kind c failed = one-on_iface J name _ (λ x.
    one-before _ _ (one-where _ _)
    (one-before _ _ (one-where _ _)
    (one-before _ _ (one-where _ _)
    (one-before _ _ (one-bars_operation db J x c)
    (one-where _ _)))))

pub one-check : (db : List Domain) (J : Journal) (name : List ℕ) (c : ChanDef) (failed : Bool) → NamesOne (CheckCauses db J name c failed)
one-check db J name c failed = one-on_iface J name _ (λ x.
    one-before _ _ (one-where _ _)
    (one-before _ _ (one-where _ _)
    (one-before _ _ (one-where _ _)
    (one-before _ _ (one-bars_check db J x c)
    (one-before _ _ (one-where _ _)
    (one-where _ _))))))
