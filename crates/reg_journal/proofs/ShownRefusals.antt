-- What a refusal carries can be shown.
use Rattle.std.proofs.Common.{ℕ, Bool, List, [], ◌∷◌, Option, Some, None, IsSomeAnd, sym, subst, inl, inr}
use Rattle.freq_range.specs.declared.rule.Rule.{Rule}
use Rattle.rule_tables.specs.declared.domain.Domain.{Domain}
use Rattle.chan_def.specs.Covered.{IsCovered, IsValidDef}
use Rattle.chan_def.specs.declared.definition.ChanDef.{ChanDef}
use Rattle.chan_def.specs.declared.kind.Kind.{Kind}
use Rattle.chan_flags.specs.declared.verdict.PowerSetting.{PowerSetting}
use Rattle.reg_hints.specs.Table.{Hinted}
use Rattle.reg_journal.specs.Applicable.{applies, code_of_hint}
use Rattle.reg_journal.specs.Causes.{IsFree, ◌before◌, Where, AtLowest}
use Rattle.reg_journal.specs.Facts.{Journal, hinted, rules_are}
use Rattle.reg_journal.specs.Forms.{IsShownCode, IsShownRefusal}
use Rattle.reg_journal.specs.Permits.{LacksCheck, LacksContext, PassesLimit, RadarForbids, RadioForbids, RulesForbid, BarsCheck, BarsOperation}
use Rattle.reg_journal.specs.Present.{Iface, Operation, named, operation_of}
use Rattle.reg_journal.specs.Refusals.{CheckCauses, ElementCauses, FailsDriver, HintCauses, IfaceAddCauses, InvalidChannel, LacksIface, LacksRadio, MomentCauses, OnIface, RadarCauses, RowCauses, RulesCauses, SetPowerCauses, SetTypeCauses, StartCauses, StopCauses, all_lists}
use Rattle.reg_journal.specs.declared.refusal.Refusal.{Refusal}
use Rattle.radio_drv.specs.Names.{IsName}
use Rattle.reg_journal.proofs.Permitting.{never_where, told_valid}
use Rattle.reg_journal.proofs.Wholes.{whole_subchannel}

-- whatever comes by the cause can be shown
abbrev pub Shows : (Refusal → Type 0) → Type 0
Shows cause = (e : Refusal) → cause e → IsShownRefusal e

pub shows-where : (P : Type 0) (x : Refusal) → IsShownRefusal x → Shows (Where P x)
shows-where P x is e (holds, same) = subst IsShownRefusal (sym same) is

pub shows-before : (one next : Refusal → Type 0) → Shows one → (IsFree one → Shows next) → Shows (one before next)
shows-before one next first rest e (inl cause) = first e cause
shows-before one next first rest e (inr (free, cause)) = rest free e cause

shows-lowest : (bars : ℕ → Type 0) (c : ChanDef) (refusal : ℕ → Refusal) → ((s : ℕ) → IsCovered c s → IsShownRefusal (refusal s)) → Shows (AtLowest bars c refusal)
shows-lowest bars c refusal each e (s, first, same) = subst IsShownRefusal (sym same) (each s first.covered)

-- ---- channels

shows-radio_forbids : (db : List Domain) (J : Journal) (x : Iface) (c : ChanDef) → IsValidDef c → Shows (RadioForbids db J x c)
shows-radio_forbids db J x c valid = shows-before _ _ (shows-lowest _ c _ (λ s covered. whole_subchannel c s valid covered)) (λ free. shows-where _ _ tt)

shows-rules_forbid : (db : List Domain) (J : Journal) (x : Iface) (c : ChanDef) → IsValidDef c → Shows (RulesForbid db J x c)
shows-rules_forbid db J x c valid =
    shows-before _ _ (shows-lowest _ c _ (λ s covered. whole_subchannel c s valid covered)) (λ free.
    shows-before _ _ (shows-lowest _ c _ (λ s covered. whole_subchannel c s valid covered)) (λ free.
    shows-before _ _ (shows-lowest _ c _ (λ s covered. whole_subchannel c s valid covered)) (λ free.
    shows-before _ _ (shows-lowest _ c _ (λ s covered. whole_subchannel c s valid covered)) (λ free.
    shows-lowest _ c _ (λ s covered. whole_subchannel c s valid covered)))))

shows-radar_forbids : (db : List Domain) (J : Journal) (x : Iface) (c : ChanDef) → IsValidDef c → Shows (RadarForbids db J x c)
shows-radar_forbids db J x c valid = shows-before _ _ (shows-where _ _ tt) (λ free. shows-lowest _ c _ (λ s covered. whole_subchannel c s valid covered))

shows-passes_limit : (db : List Domain) (J : Journal) (x : Iface) (setting : PowerSetting) (c : ChanDef) → Shows (PassesLimit db J x setting c)
shows-passes_limit db J x setting c e (limit, is, above, same) = subst IsShownRefusal (sym same) tt

shows-bars_operation : (db : List Domain) (J : Journal) (x : Iface) (c : ChanDef) → IsValidDef c → Shows (BarsOperation db J x c)
shows-bars_operation db J x c valid =
    shows-before (RadioForbids db J x c) _ (shows-radio_forbids db J x c valid) (λ free.
    shows-before (LacksContext J x c) _ (shows-where _ _ tt) (λ free.
    shows-before (RulesForbid db J x c) _ (shows-rules_forbid db J x c valid) (λ free.
    shows-before (PassesLimit db J x x.setting c) _ (shows-passes_limit db J x x.setting c) (λ free.
    shows-before (RadarForbids db J x c) (LacksCheck db J x c) (shows-radar_forbids db J x c valid) (λ free.
    shows-lowest _ c _ (λ s covered. whole_subchannel c s valid covered))))))

shows-bars_check : (db : List Domain) (J : Journal) (x : Iface) (c : ChanDef) → IsValidDef c → Shows (BarsCheck db J x c)
shows-bars_check db J x c valid =
    shows-before (RadioForbids db J x c) _ (shows-radio_forbids db J x c valid) (λ free.
    shows-before (LacksContext J x c) _ (shows-where _ _ tt) (λ free.
    shows-before (RulesForbid db J x c) (RadarForbids db J x c) (shows-rules_forbid db J x c valid) (λ free. shows-radar_forbids db J x c valid)))

valid_of : (c : ChanDef) → IsFree (InvalidChannel c) → IsValidDef c
valid_of c free = elim (told_valid c) [ inl valid ↦ valid | inr never ↦ absurd (never_where _ _ free never) ]

-- ---- requests

shows-rows : (lists : List (List Domain)) → Shows (RowCauses lists)
shows-rows lists e (k, first, ds, at, rows, many, same) = subst IsShownRefusal (sym same) tt

pub shows-moment : (J : Journal) (m : ℕ) → Shows (MomentCauses J m)
shows-moment J m = shows-before _ _ (shows-where _ _ tt) (λ free. shows-where _ _ tt)

pub shows-rules : (db : List Domain) (J : Journal) (r : ℕ) (rules : List Rule) → Shows (RulesCauses db J r rules)
shows-rules db J r rules =
    shows-before _ _ (shows-where _ _ tt) (λ free.
    shows-before _ _ (shows-where _ _ tt) (λ free.
    shows-before _ _ (shows-where _ _ tt) (λ free.
    shows-before _ _ (λ e cause. subst IsShownRefusal (sym cause.2) tt) (λ free. shows-rows (applies db (rules_are r rules ∷ J) r ∷ [])))))

pub shows-element : (J : Journal) (r : ℕ) (body : List ℕ) → Shows (LacksRadio J r before ElementCauses body)
shows-element J r body =
    shows-before _ _ (shows-where _ _ tt) (λ free.
    shows-before _ _ (λ e (n, is, same). subst IsShownRefusal (sym same) tt) (λ free.
    shows-before _ _ (λ e (n, is, same). subst IsShownRefusal (sym same) tt) (λ free. shows-where _ _ tt)))

pub shows-hint : (db : List Domain) (J : Journal) (hint : Hinted) → IsShownCode (code_of_hint hint) → Shows (HintCauses db J hint)
shows-hint db J hint code = shows-before _ _ (shows-where _ _ code) (λ free. shows-before _ _ (shows-where _ _ tt) (λ free. shows-rows (all_lists db (hinted hint ∷ J))))

pub shows-iface_add : (J : Journal) (r : ℕ) (name : List ℕ) → IsName name → Shows (IfaceAddCauses J r name)
shows-iface_add J r name is = shows-before _ _ (shows-where _ _ tt) (λ free. shows-before _ _ (shows-where _ _ is) (λ free. shows-where _ _ tt))

shows-on_iface : (J : Journal) (name : List ℕ) (causes : Iface → Refusal → Type 0) → IsName name → ((x : Iface) → Shows (causes x)) → Shows (OnIface J name causes)
shows-on_iface J name causes is each = shows-before (LacksIface J name) _ (shows-where _ _ is) (λ free. by (named J name))
  where
    by : (o : Option Iface) → Shows (λ e. IsSomeAnd o (λ x. causes x e))
    by None e cause = absurd cause
    by (Some x) e cause = each x e cause

pub shows-set_type : (J : Journal) (name : List ℕ) → IsName name → Shows (SetTypeCauses J name)
shows-set_type J name is = shows-on_iface J name _ is (λ x. shows-where _ _ tt)

pub shows-set_power : (db : List Domain) (J : Journal) (name : List ℕ) (setting : PowerSetting) → IsName name → Shows (SetPowerCauses db J name setting)
shows-set_power db J name setting is = shows-on_iface J name _ is (λ x. by x (operation_of J x.index))
  where
    by : (x : Iface) (o : Option Operation) → Shows (λ e. IsSomeAnd o (λ o. PassesLimit db J x setting o.chan e))
    by x None e cause = absurd cause
    by x (Some o) e cause = shows-passes_limit db J x setting o.chan e cause

pub shows-stop : (J : Journal) (name : List ℕ) (kind : Kind) → IsName name → Shows (StopCauses J name kind)
shows-stop J name kind is = shows-on_iface J name _ is (λ x. shows-before _ _ (shows-where _ _ tt) (λ free. shows-where _ _ tt))

pub shows-start : (db : List Domain) (J : Journal) (name : List ℕ) (kind : Kind) (c : ChanDef) (failed : Bool) → IsName name → Shows (StartCauses db J name kind c failed)
shows-start db J name kind c failed is = shows-on_iface J name _ is (λ x.
    shows-before _ _ (shows-where _ _ tt) (λ free.
    shows-before _ _ (shows-where _ _ tt) (λ free.
    shows-before (InvalidChannel c) _ (shows-where _ _ tt) (λ valid.
    shows-before (BarsOperation db J x c) (FailsDriver failed) (shows-bars_operation db J x c (valid_of c valid)) (λ free. shows-where _ _ tt)))))

pub shows-check : (db : List Domain) (J : Journal) (name : List ℕ) (c : ChanDef) (failed : Bool) → IsName name → Shows (CheckCauses db J name c failed)
shows-check db J name c failed is = shows-on_iface J name _ is (λ x.
    shows-before _ _ (shows-where _ _ tt) (λ free.
    shows-before _ _ (shows-where _ _ tt) (λ free.
    shows-before (InvalidChannel c) _ (shows-where _ _ tt) (λ valid.
    shows-before (BarsCheck db J x c) _ (shows-bars_check db J x c (valid_of c valid)) (λ free.
    shows-before _ (FailsDriver failed) (shows-where _ _ tt) (λ free. shows-where _ _ tt))))))

pub shows-radar : (J : Journal) (r : ℕ) (c : ChanDef) → Shows (RadarCauses J r c)
shows-radar J r c = shows-before _ _ (shows-where _ _ tt) (λ free. shows-where _ _ tt)
