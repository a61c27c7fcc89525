-- There is a reply to each request.
use Rattle.std.proofs.Common.{◌≡◌, ◌≢◌, ℕ, ◌%◌, ◌<◌, ◌≤◌, ◌⊎◌, Bool, false, List, [], ◌∷◌, length, map, Option, Some, None, IsSome, IsSomeAnd, IsTrue, MatchOption, slice_index, arith, refl, sym, ap, subst, ◌∙◌, inl, inr, eq-eqb}
use Rattle.std.proofs.lemmas.Bool.{cases_eq, cases_lt, false≢true}
use Rattle.std.proofs.lemmas.Option.{none-some, same_Some}
use Rattle.freq_range.specs.First.{IsFirst}
use Rattle.freq_range.specs.declared.rule.Rule.{Rule}
use Rattle.freq_range.proofs.Deciding.{Told, told_as, told_both, told_le, told_lt}
use Rattle.freq_range.proofs.Members.{Contains-cases}
use Rattle.rule_tables.specs.Code.{IsCapital}
use Rattle.rule_tables.specs.Databases.{IsDb}
use Rattle.rule_tables.specs.Domains.{AreRules, IsInvalidAt}
use Rattle.rule_tables.specs.declared.domain.Domain.{Domain}
use Rattle.rule_tables.proofs.Governed.{first_or_none}
use Rattle.chan_def.specs.Covered.{IsValidDef}
use Rattle.chan_def.specs.Kinds.{initiates}
use Rattle.chan_def.specs.declared.definition.ChanDef.{ChanDef}
use Rattle.chan_def.specs.declared.kind.Kind.{Kind}
use Rattle.chan_def.specs.declared.kind.Kind.TheVariants.{Monitor}
use Rattle.chan_def.specs.declared.kind.TheConstants.{MOST_IFACES}
use Rattle.chan_flags.specs.declared.verdict.PowerSetting.{PowerSetting}
use Rattle.chan_flags.proofs.Existing.{told_not, told_true}
use Rattle.chan_flags.proofs.Told.{told_either}
use Rattle.reg_hints.specs.Element.{HasLetters, IsElement, IsElementFault}
use Rattle.reg_hints.specs.Table.{Hinted, Own, Treated, treatment}
use Rattle.reg_hints.specs.declared.codes.TheConstants.{MOST_CODES}
use Rattle.reg_hints.specs.declared.element.Element.{Element}
use Rattle.reg_hints.specs.declared.element.ElementFault.TheVariants.{Short, Odd}
use Rattle.reg_hints.specs.declared.hint.Treatment.{Treatment}
use Rattle.reg_hints.specs.declared.hint.Treatment.TheVariants.{Replace, Intersect, Already, Ignore}
use Rattle.dfs_states.specs.declared.moments.TheConstants.{LAST_MOMENT_MS}
use Rattle.reg_journal.specs.Applicable.{AddsFifthCode, applies, code_of_hint, find_domain, global_domains, hints_of}
use Rattle.reg_journal.specs.Causes.{IsFree, ◌before◌, Where}
use Rattle.reg_journal.specs.Due.{EachMayFollow}
use Rattle.reg_journal.specs.Effects.{effects_of}
use Rattle.reg_journal.specs.Facts.{Fact, Journal, hinted, powered, rules_are, set_to}
use Rattle.reg_journal.specs.Permits.{BarsCheck, BarsOperation, HasNothingToCheck, IsPowerOf, PassesLimit}
use Rattle.reg_journal.specs.Present.{Iface, Operation, check_of, ifaces_on, is_used, made_of, most_made, named, now_of, operation_of, profile_of, radios_of, with_setting}
use Rattle.reg_journal.specs.Refusals.{ElementCauses, FailsDriver, HintCauses, IfaceAddCauses, InUseFor, InvalidChannel, IsInUse, LacksIface, LacksRadio, MomentCauses, OnIface, RadarCauses, RadioAddCauses, RulesCauses, SetPowerCauses, SetTypeCauses, StartCauses, StopCauses, CheckCauses, all_lists}
use Rattle.reg_journal.specs.Replies.{Decides, Gives, GivesEffects, OnNamed, SetsPower, Sweeps}
use Rattle.reg_journal.specs.declared.refusal.Refusal.{Refusal}
use Rattle.reg_journal.specs.declared.refusal.Refusal.TheVariants.{BadRule, Busy, ElementNotLetters, ElementOdd, ElementShort, MomentTooLarge, NameTaken, NoCountry, NoRules, NotRunning, NothingToCheck, TooManyDomains, TooManyRules, WrongType}
use Rattle.reg_journal.specs.declared.reply.Answer.{Answer}
use Rattle.reg_journal.specs.declared.reply.Answer.TheVariants.{Ok, Refused}
use Rattle.reg_journal.specs.declared.reply.Reply.{Reply}
use Rattle.reg_journal.specs.declared.reply.Reply.TheVariants.{Plain}
use Rattle.reg_journal.proofs.Deciding.{TellsCause, cause-bars_check, cause-bars_operation, cause-before, cause-power, cause-where, power_for, some_swept, told_nothing}
use Rattle.reg_journal.proofs.EachRegular.{CheckCausesOn}
use Rattle.reg_journal.proofs.Listed.{Contains-map}
use Rattle.reg_journal.proofs.Operations.{some_value}
use Rattle.reg_journal.proofs.Permitting.{never_where, told_valid}
use Rattle.reg_journal.proofs.Regular.{is_there}
use Rattle.reg_journal.proofs.Resolving.{HasCustomRules, IsSound, applies_sound, custom_are, global_rules, some_rows_or_none}
use Rattle.reg_journal.proofs.RulesGo.{all_valid, told_rule}
use Rattle.reg_journal.proofs.Starting.{StartCausesOn, tells_kind}
use Rattle.freq_range.specs.Valid.{IsValidRule}

-- ---- frames

-- some reply and facts are these
abbrev pub SomeReply : (Reply → List Fact → Type 0) → Type 0
SomeReply is = (reply : Reply) × (facts : List Fact) × is reply facts

pub answered : (causes : Refusal → Type 0) (granted : Reply → List Fact → Type 0) → TellsCause causes → (IsFree causes → SomeReply granted) → SomeReply (Decides causes granted)
answered causes granted (inl (e, cause)) rest = (Plain (Refused e) [], [], inl (e, cause, refl, refl))
answered causes granted (inr free) rest = let found = rest free in (found.0, found.1, inr (free, found.2))

pub gives : (answer : Answer) (own : List Fact) → SomeReply (Gives answer own)
gives answer own = (Plain answer [], own, (refl, refl))

pub gives_effects : (J : Journal) (answer : Answer) (own : List Fact) → SomeReply (GivesEffects J answer own)
gives_effects J answer own = (Plain answer (effects_of J own), own, (refl, refl))

pub sweeps : (db : List Domain) (J : Journal) (answer : Answer) (f : Fact) (xs : List Iface) → SomeReply (Sweeps db J answer f xs)
sweeps db J answer f xs = let swept = some_swept db (f ∷ J) xs in (Plain answer (effects_of J swept.0), f ∷ swept.0, (swept.0, swept.1, refl, refl))

pub on_named : (J : Journal) (name : List ℕ) (granted : Iface → Reply → List Fact → Type 0) → IsFree (LacksIface J name) → ((x : Iface) → SomeReply (granted x))
    → SomeReply (OnNamed J name granted)
on_named J name granted free each =
    let found = some_value (named J name) (is_there (named J name) (never_where _ _ free)) in
    let reply = each found.0 in
    (reply.0, reply.1, subst (λ o. IsSomeAnd o (λ x. granted x reply.0 reply.1)) (sym found.1) reply.2)

-- ---- causes

told_none : {X : Type 0} (o : Option X) → Told (o ≡ None)
told_none None = inl refl
told_none (Some x) = inr (λ none. none-some x (sym none))

told_some : {X : Type 0} (o : Option X) → Told (IsSome o)
told_some None = inr false≢true
told_some (Some x) = inl refl

pub cause-radio : (J : Journal) (r : ℕ) → TellsCause (LacksRadio J r)
cause-radio J r = cause-where _ _ (told_none (profile_of J r))

pub cause-iface : (J : Journal) (name : List ℕ) → TellsCause (LacksIface J name)
cause-iface J name = cause-where _ _ (told_none (named J name))

cause-on_iface : (J : Journal) (name : List ℕ) (causes : Iface → Refusal → Type 0) → ((x : Iface) → TellsCause (causes x)) → TellsCause (OnIface J name causes)
cause-on_iface J name causes each = cause-before (LacksIface J name) _ (cause-iface J name) (λ free. by (named J name))
  where
    by : (o : Option Iface) → TellsCause (λ e. IsSomeAnd o (λ x. causes x e))
    by None = inr (λ e is. is)
    by (Some x) = each x

pub cause-moment : (J : Journal) (m : ℕ) → TellsCause (MomentCauses J m)
cause-moment J m = cause-before (Where (LAST_MOMENT_MS < m) (MomentTooLarge m)) _ (cause-where _ _ (told_lt LAST_MOMENT_MS m)) (λ free. cause-where _ _ (told_lt m (now_of J)))

pub cause-radio_add : (J : Journal) (r : ℕ) → TellsCause (RadioAddCauses J r)
cause-radio_add J r = cause-where _ _ (told_true (is_used J r))

told_empty : (rules : List Rule) → Told (rules ≡ [])
told_empty [] = inl refl
told_empty (rule ∷ rules) = inr (λ e. cc)

pub cause-rules : (db : List Domain) (J : Journal) (r : ℕ) (rules : List Rule) → IsDb db → TellsCause (RulesCauses db J r rules)
cause-rules db J r rules is_db =
    cause-before (LacksRadio J r) _ (cause-radio J r) (λ there.
    cause-before (Where (32 < length rules) (TooManyRules (length rules))) _ (cause-where _ _ (told_lt 32 (length rules))) (λ few.
    cause-before (Where (rules ≡ []) NoRules) _ (cause-where _ _ (told_empty rules)) (λ some.
    cause-before (λ e. (k : ℕ) × IsFirst (IsInvalidAt rules) k × (e ≡ BadRule k)) _ bad (λ valid.
    some_rows_or_none (applies db (rules_are r rules ∷ J) r ∷ []) (λ ds has. elim (Contains-cases (applies db (rules_are r rules ∷ J) r) [] ds has) [
      | inl same ↦ subst IsSound same (applies_sound db (rules_are r rules ∷ J) r is_db (customs few some valid))
      | inr none ↦ absurd (let within = none.1 in omega (arith, within))
    ])))))
  where
    bad : TellsCause (λ e. (k : ℕ) × IsFirst (IsInvalidAt rules) k × (e ≡ BadRule k))
    bad = elim (first_or_none (λ rule. IsValidRule rule → ⊥) (λ rule. told_not (IsValidRule rule) (told_rule rule)) rules) [
      | inl (k, first) ↦ inl (BadRule k, (k, first, refl))
      | inr each ↦ inr (λ e (k, first, same). let here = first.here in each k rule_of here.0 (here.1 rule_of))
    ]
      where
        rule_of : Rule
        rule_of = record { start_khz = 0; end_khz = 0; max_bw_khz = 0; flags = record { no_ofdm = false; no_outdoor = false; dfs = false; no_ir = false; auto_bw = false }; eirp_mbm = 0; cac_s = 0; wmm = None }

    filled : (rules : List Rule) → (rules ≡ [] → ⊥) → 0 < length rules
    filled [] not = absurd (not refl)
    filled (rule ∷ rules) not = omega arith

    customs : IsFree (Where (32 < length rules) (TooManyRules (length rules))) → IsFree (Where (rules ≡ []) NoRules)
        → IsFree (λ e. (k : ℕ) × IsFirst (IsInvalidAt rules) k × (e ≡ BadRule k)) → HasCustomRules (rules_are r rules ∷ J) r
    customs few some valid own is = subst AreRules (same_Some rules own (rw (eq-eqb r r refl) at is)) (record {
      some = filled rules (never_where _ _ some);
      few = elim (cases_lt 32 (length rules)) [ inl more ↦ absurd (never_where _ _ few more) | inr less ↦ omega (arith, less) ];
      each = all_valid rules (λ k first. valid (BadRule k) (k, first, refl));
    })

told_intersect : (t : Treatment) → Told (t ≡ Intersect)
told_intersect Replace = inr (λ e. cc)
told_intersect Intersect = inl refl
told_intersect Already = inr (λ e. cc)
told_intersect Ignore = inr (λ e. cc)

told_fifth : (J : Journal) (hint : Hinted) → Told (AddsFifthCode J hint)
told_fifth J (Treated h) = told_both (told_intersect (treatment (hints_of J) h)) (cases_eq (length (hints_of J).global) MOST_CODES)
told_fifth J (Own r a) = inr (λ is. is)

pub cause-hint : (db : List Domain) (J : Journal) (hint : Hinted) → IsDb db → EachMayFollow db J → TellsCause (HintCauses db J hint)
cause-hint db J hint is_db due =
    cause-before (Where (find_domain db (code_of_hint hint) ≡ None) (NoCountry (code_of_hint hint))) _ (cause-where _ _ (told_none (find_domain db (code_of_hint hint)))) (λ known.
    cause-before (Where (AddsFifthCode J hint) TooManyDomains) _ (cause-where _ _ (told_fifth J hint)) (λ few.
    some_rows_or_none (all_lists db (hinted hint ∷ J)) (λ ds has. elim (Contains-cases (global_domains db (hinted hint ∷ J)) (map (applies db (hinted hint ∷ J)) (radios_of (hinted hint ∷ J))) ds has) [
      | inl same ↦ subst IsSound same (inl (λ d there. global_rules db (hinted hint ∷ J) d is_db there))
      | inr later ↦
          let from = Contains-map (applies db (hinted hint ∷ J)) (radios_of (hinted hint ∷ J)) ds later in
          subst IsSound from.2 (applies_sound db (hinted hint ∷ J) from.0 is_db (custom_are db J from.0 due))
    ])))

told_capital : (n : ℕ) → Told (IsCapital n)
told_capital n = told_both (told_le 65 n) (told_le n 90)

told_letters : (body : List ℕ) → Told (HasLetters body)
told_letters body = told_both (told_capital (slice_index body 0)) (told_capital (slice_index body 1))

cause-short : (body : List ℕ) → TellsCause (λ e. (n : ℕ) × IsElementFault body (Short n) × (e ≡ ElementShort n))
cause-short body = elim (cases_lt (length body) 6) [
  | inl less ↦ inl (ElementShort (length body), (length body, (refl, less), refl))
  | inr long ↦ inr (λ e (n, (same, less), at). omega (arith, same, less, long))
]

cause-odd : (body : List ℕ) → TellsCause (λ e. (n : ℕ) × IsElementFault body (Odd n) × (e ≡ ElementOdd n))
cause-odd body = elim (told_both (told_le 6 (length body)) (cases_eq (length body % 2) 1)) [
  | inl (long, odd) ↦ inl (ElementOdd (length body), (length body, (refl, long, odd), refl))
  | inr never ↦ inr (λ e (n, (same, long, odd), at). never (omega (arith, same, long), ap (λ m. m % 2) (sym same) ∙ odd))
]

pub cause-element : (body : List ℕ) → TellsCause (ElementCauses body)
cause-element body =
    cause-before (λ e. (n : ℕ) × IsElementFault body (Short n) × (e ≡ ElementShort n)) _ (cause-short body) (λ long.
    cause-before (λ e. (n : ℕ) × IsElementFault body (Odd n) × (e ≡ ElementOdd n)) _ (cause-odd body) (λ even.
    cause-where _ _ (told_as (λ is. (is.0, is.1.0, is.1.1)) (λ is. (is.0, (is.1, is.2)))
    (told_both (told_le 6 (length body)) (told_both (cases_eq (length body % 2) 0) (told_not (HasLetters body) (told_letters body)))))))

-- a body without a fault is an element's
pub some_element : (body : List ℕ) → IsFree (ElementCauses body) → (e : Element) × IsElement body e
some_element body free = (
  record { alpha2 = record { a = slice_index body 0; b = slice_index body 1 }; environment = slice_index body 2 },
  record {
    long = long;
    even = even (length body % 2) refl (omega arith);
    letters = elim (told_letters body) [
      | inl letters ↦ letters
      | inr never ↦ absurd (free ElementNotLetters (inr (λ e cause. short e cause, inr (λ e cause. odd e cause, ((long, even (length body % 2) refl (omega arith), never), refl)))))
    ];
    first = refl;
    second = refl;
    environment = refl;
  },
)
  where
    short : IsFree (λ e. (n : ℕ) × IsElementFault body (Short n) × (e ≡ ElementShort n))
    short e cause = free e (inl cause)

    odd : IsFree (λ e. (n : ℕ) × IsElementFault body (Odd n) × (e ≡ ElementOdd n))
    odd e cause = free e (inr (short, inl cause))

    long : 6 ≤ length body
    long = elim (cases_lt (length body) 6) [ inl less ↦ absurd (short (ElementShort (length body)) (length body, (refl, less), refl)) | inr more ↦ more ]

    even : (m : ℕ) → length body % 2 ≡ m → m < 2 → length body % 2 ≡ 0
    even m is small = elim (cases_eq m 0) [
      | inl zero_is ↦ is ∙ zero_is
      | inr other ↦ absurd (odd (ElementOdd (length body)) (length body, (refl, long, omega (arith, is, small, other)), refl))
    ]

pub cause-iface_add : (J : Journal) (r : ℕ) (name : List ℕ) → TellsCause (IfaceAddCauses J r name)
cause-iface_add J r name =
    cause-before (LacksRadio J r) _ (cause-radio J r) (λ there.
    cause-before (Where (IsSome (named J name)) (NameTaken name)) _ (cause-where _ _ (told_some (named J name))) (λ new.
    cause-where _ _ (told_either (told_le MOST_IFACES (length (ifaces_on J r))) (told_le most_made (made_of J)))))

told_in_use : (J : Journal) (x : Iface) → Told (IsInUse J x)
told_in_use J x = told_either (told_some (operation_of J x.index)) (told_some (check_of J x.index))

pub cause-set_type : (J : Journal) (name : List ℕ) → TellsCause (SetTypeCauses J name)
cause-set_type J name = cause-on_iface J name (λ x. Where (IsInUse J x) Busy) (λ x. cause-where _ _ (told_in_use J x))

pub cause-set_power : (db : List Domain) (J : Journal) (name : List ℕ) (setting : PowerSetting) → TellsCause (SetPowerCauses db J name setting)
cause-set_power db J name setting = cause-on_iface J name _ (λ x. by x (operation_of J x.index))
  where
    by : (x : Iface) (o : Option Operation) → TellsCause (λ e. IsSomeAnd o (λ o. PassesLimit db J x setting o.chan e))
    by x None = inr (λ e is. is)
    by x (Some o) = cause-power db J x o.chan setting

pub cause-stop : (J : Journal) (name : List ℕ) (kind : Kind) → TellsCause (StopCauses J name kind)
cause-stop J name kind = cause-on_iface J name (λ x. Where (x.kind ≢ kind) WrongType before Where (operation_of J x.index ≡ None) NotRunning)
    (λ x. cause-before (Where (x.kind ≢ kind) WrongType) _ (cause-where _ _ (told_not (x.kind ≡ kind) (tells_kind x.kind kind))) (λ of_kind. cause-where _ _ (told_none (operation_of J x.index))))

cause-invalid : (c : ChanDef) → TellsCause (InvalidChannel c)
cause-invalid c = cause-where _ _ (told_not (IsValidDef c) (told_valid c))

cause-fails : (failed : Bool) → TellsCause (FailsDriver failed)
cause-fails failed = cause-where _ _ (told_true failed)

pub cause-start : (db : List Domain) (J : Journal) (name : List ℕ) (kind : Kind) (c : ChanDef) (failed : Bool) → TellsCause (StartCauses db J name kind c failed)
cause-start db J name kind c failed = cause-on_iface J name (StartCausesOn db J kind c failed) (λ x.
    cause-before (Where (x.kind ≢ kind) WrongType) _ (cause-where _ _ (told_not (x.kind ≡ kind) (tells_kind x.kind kind))) (λ of_kind.
    cause-before (Where (InUseFor J x kind) Busy) _ (cause-where _ _ (told_either (told_some (check_of J x.index))
    (told_both (told_some (operation_of J x.index)) (told_not (kind ≡ Monitor) (tells_kind kind Monitor))))) (λ unused.
    cause-before (InvalidChannel c) _ (cause-invalid c) (λ valid.
    cause-before (BarsOperation db J x c) _ (cause-bars_operation db J x c) (λ may. cause-fails failed)))))

pub cause-check : (db : List Domain) (J : Journal) (name : List ℕ) (c : ChanDef) (failed : Bool) → TellsCause (CheckCauses db J name c failed)
cause-check db J name c failed = cause-on_iface J name (CheckCausesOn db J c failed) (λ x.
    cause-before (Where (IsTrue (initiates x.kind) → ⊥) WrongType) _ (cause-where _ _ (told_not (IsTrue (initiates x.kind)) (told_true (initiates x.kind)))) (λ sends.
    cause-before (Where (IsInUse J x) Busy) _ (cause-where _ _ (told_in_use J x)) (λ unused.
    cause-before (InvalidChannel c) _ (cause-invalid c) (λ valid.
    cause-before (BarsCheck db J x c) _ (cause-bars_check db J x c) (λ may.
    cause-before (Where (HasNothingToCheck db J x c) NothingToCheck) _ (cause-where _ _ (told_nothing db J x c)) (λ some. cause-fails failed))))))

pub cause-radar : (J : Journal) (r : ℕ) (c : ChanDef) → TellsCause (RadarCauses J r c)
cause-radar J r c = cause-before (LacksRadio J r) (InvalidChannel c) (cause-radio J r) (λ there. cause-invalid c)

-- ---- powers

pub sets_power : (db : List Domain) (J : Journal) (setting : PowerSetting) (x : Iface) → SomeReply (SetsPower db J setting x)
sets_power db J setting x = by (operation_of J x.index)
  where
    by : (o : Option Operation) → SomeReply (λ reply facts. MatchOption o
        (Gives Ok (set_to x.index setting ∷ []) reply facts)
        (λ o. (power : ℕ) × IsPowerOf db J (with_setting x.index setting x) o.chan power
        × (((power ≡ o.power) × Gives Ok (set_to x.index setting ∷ []) reply facts)
        ⊎ ((power ≢ o.power) × GivesEffects J Ok (set_to x.index setting ∷ powered x.index power ∷ []) reply facts))))
    by None = gives Ok (set_to x.index setting ∷ [])
    by (Some o) =
        let power = power_for db J (with_setting x.index setting x) o.chan in
        elim (cases_eq power.0 o.power) [
          | inl same ↦ (Plain Ok [], set_to x.index setting ∷ [], (power.0, power.1, inl (same, (refl, refl))))
          | inr other ↦ (Plain Ok (effects_of J (set_to x.index setting ∷ powered x.index power.0 ∷ [])), set_to x.index setting ∷ powered x.index power.0 ∷ [], (power.0, power.1, inr (other, (refl, refl))))
        ]
