-- Requests that change rules, radar or the radios' place, and sweep.
use Rattle.std.proofs.Common.{◌≡◌, ℕ, ◌<◌, Bool, true, false, cond, List, [], ◌∷◌, length, All, Contains, Option, Some, None, IfSome, IsSome, arith, refl, sym, inl, inr, ne_eqb}
use Rattle.std.proofs.lemmas.Bool.{cases_lt}
use Rattle.std.proofs.lemmas.List.Elements.{All-weaker}
use Rattle.freq_range.specs.First.{IsFirst}
use Rattle.freq_range.specs.Valid.{IsValidRule, IsValidWmm}
use Rattle.freq_range.specs.declared.rule.Rule.{Rule}
use Rattle.freq_range.specs.declared.wmm.Wmm.{Wmm}
use Rattle.freq_range.proofs.Deciding.{Told, told_as, told_both, told_le, told_lt}
use Rattle.freq_range.proofs.ToldRules.{told_wmm}
use Rattle.rule_tables.specs.Domains.{IsInvalidAt}
use Rattle.rule_tables.specs.declared.code.Alpha2.{Alpha2}
use Rattle.rule_tables.specs.declared.domain.Domain.{Domain}
use Rattle.rule_tables.proofs.Governed.{first_or_none}
use Rattle.chan_def.specs.declared.definition.ChanDef.{ChanDef}
use Rattle.chan_flags.proofs.Existing.{told_not}
use Rattle.reg_hints.specs.Table.{Hinted, Own, Treated}
use Rattle.reg_hints.specs.declared.hint.Hint.TheVariants.{Driver}
use Rattle.reg_journal.specs.Applicable.{AddsFifthCode, applies, code_of_hint, find_domain, is_self_managed}
use Rattle.reg_journal.specs.Causes.{IsFree, ◌before◌, Where}
use Rattle.reg_journal.specs.Due.{FitsItsRadio, IsHintDue, MayFollow}
use Rattle.reg_journal.specs.Facts.{Fact, Journal, after, rules_are, hinted, indoor_is, radar_met}
use Rattle.reg_journal.specs.Present.{Iface, ifaces_of, ifaces_on, profile_of}
use Rattle.reg_journal.specs.Refusals.{HintCauses, InvalidChannel, LacksRadio, RadarCauses, RowCauses, RulesCauses}
use Rattle.reg_journal.specs.Replies.{driver_hint}
use Rattle.reg_journal.specs.Settled.{IsSettled}
use Rattle.reg_journal.specs.Sweep.{AreSwept}
use Rattle.reg_journal.specs.declared.refusal.Refusal.TheVariants.{BadRule, NoCountry, NoRules, TooManyDomains, TooManyRules}
use Rattle.reg_journal.proofs.Judged.{settled_stays}
use Rattle.reg_journal.proofs.Keeping.{Goes, each_swept_plain, goes_swept_all, plain_after}
use Rattle.reg_journal.proofs.Lasting.{LeavesRadio}
use Rattle.reg_journal.proofs.Operations.{BeginsCheck}
use Rattle.reg_journal.proofs.Permitting.{free-first, free-next, never_where, told_valid}
use Rattle.reg_journal.proofs.Ranges.{IsPlain}
use Rattle.reg_journal.proofs.Regular.{is_there}
use Rattle.reg_journal.proofs.Swept.{each_awaits_of, one_swept}

-- ---- valid rules

told_maybe_wmm : (w : Option Wmm) → Told (IfSome w IsValidWmm)
told_maybe_wmm None = inl tt
told_maybe_wmm (Some w) = told_wmm w

pub told_rule : (r : Rule) → Told (IsValidRule r)
told_rule r = told_as
    (λ t. record { above_zero = t.0; in_order = t.1.0; wide_enough = t.1.1.0; wmm = t.1.1.1.0; end_fits = t.1.1.1.1.0; power_fits = t.1.1.1.1.1.0; check_fits = t.1.1.1.1.1.1 })
    (λ v. (v.above_zero, (v.in_order, (v.wide_enough, (v.wmm, (v.end_fits, (v.power_fits, v.check_fits)))))))
    (told_both (told_lt 0 r.start_khz) (told_both (told_lt r.start_khz r.end_khz) (told_both (told_le r.max_bw_khz _) (told_both (told_maybe_wmm r.wmm)
    (told_both (told_lt r.end_khz _) (told_both (told_lt r.eirp_mbm _) (told_lt r.cac_s _)))))))

pub all_valid : (rules : List Rule) → ((k : ℕ) → IsFirst (IsInvalidAt rules) k → ⊥) → All IsValidRule rules
all_valid rules none = elim (first_or_none (λ rule. IsValidRule rule → ⊥) (λ rule. told_not (IsValidRule rule) (told_rule rule)) rules) [
  | inl (k, first) ↦ absurd (none k first)
  | inr each ↦ All-weaker (λ rule. (IsValidRule rule → ⊥) → ⊥) IsValidRule (λ rule twice. elim (told_rule rule) [ inl valid ↦ valid | inr never ↦ absurd (twice never) ]) rules each
]

-- ---- facts that leave the other radios

pub leaves-rules : (db : List Domain) (J : Journal) (q r : ℕ) (rules : List Rule) → (r ≡ q → ⊥) → LeavesRadio db (rules_are q rules) J r
leaves-rules db J q r rules other = record { domains = rw (ne_eqb r q other); profile = refl; region = refl; indoor = refl; unmet = λ chan met. cc }

leaves-radar : (db : List Domain) (J : Journal) (q r : ℕ) (c : ChanDef) → (r ≡ q → ⊥) → LeavesRadio db (radar_met q c) J r
leaves-radar db J q r c other = record { domains = refl; profile = refl; region = refl; indoor = refl; unmet = λ chan met. other (sym (same chan met)) }
  where
    same : (chan : ChanDef) → radar_met q c ≡ radar_met r chan → q ≡ r
    same chan met = cc

-- a fact on one radio, and a sweep of its interfaces
goes_swept_one : (db : List Domain) (J : Journal) (f : Fact) (r : ℕ) (facts : List Fact) → Goes db J → MayFollow db J f → IsPlain f → ifaces_of (f ∷ J) ≡ ifaces_of J
    → ((i : ℕ) → BeginsCheck f i → ⊥) → ((q : ℕ) → (q ≡ r → ⊥) → LeavesRadio db f J q) → AreSwept db (f ∷ J) (ifaces_on (f ∷ J) r) facts
    → ((y : Iface) → Contains (ifaces_of (f ∷ J)) y → (y.radio ≡ r → ⊥) → IsSettled db (f ∷ J) y) → Goes db (after facts (f ∷ J))
goes_swept_one db J f r facts goes due plain same none leaves swept others =
    let all = one_swept db (f ∷ J) r facts (due, goes.due) swept others in
    record {
      due = all.0;
      settled = all.1;
      plain = plain_after facts (f ∷ J) (each_swept_plain db (f ∷ J) (ifaces_on (f ∷ J) r) facts (each_awaits_of db (f ∷ J) (ifaces_on (f ∷ J) r) facts (due, goes.due) swept)) (plain, goes.plain);
    }

-- ---- custom rules

pub goes_rules : (db : List Domain) (J : Journal) (r : ℕ) (rules : List Rule) (facts : List Fact) → Goes db J → All (λ rule. (rule.cac_s ≡ 0) × (rule.wmm ≡ None)) rules
    → IsFree (RulesCauses db J r rules) → AreSwept db (rules_are r rules ∷ J) (ifaces_on J r) facts → Goes db (after facts (rules_are r rules ∷ J))
goes_rules db J r rules facts goes askable free swept =
    goes_swept_one db J (rules_are r rules) r facts goes due plain refl (λ i begins. let at = begins.2 in cc) (λ q other. leaves-rules db J r q rules other) swept
    (λ y has other. settled_stays db (rules_are r rules) J y (due, goes.due) (leaves-rules db J r y.radio rules other) has refl (λ begins. let at = begins.2 in cc) (goes.settled y has))
  where
    many : IsFree (Where (32 < length rules) (TooManyRules (length rules)) before Where (rules ≡ []) NoRules before (λ e. (k : ℕ) × IsFirst (IsInvalidAt rules) k × (e ≡ BadRule k)) before RowCauses (applies db (rules_are r rules ∷ J) r ∷ []))
    many = free-next (LacksRadio J r) _ free

    none : IsFree (Where (rules ≡ []) NoRules before (λ e. (k : ℕ) × IsFirst (IsInvalidAt rules) k × (e ≡ BadRule k)) before RowCauses (applies db (rules_are r rules ∷ J) r ∷ []))
    none = free-next (Where (32 < length rules) (TooManyRules (length rules))) _ many

    bad : IsFree (λ e. (k : ℕ) × IsFirst (IsInvalidAt rules) k × (e ≡ BadRule k))
    bad = free-first (λ e. (k : ℕ) × IsFirst (IsInvalidAt rules) k × (e ≡ BadRule k)) _ (free-next (Where (rules ≡ []) NoRules) _ none)

    some : (rules : List Rule) → (rules ≡ [] → ⊥) → 0 < length rules
    some [] not = absurd (not refl)
    some (rule ∷ rules) not = omega arith

    plain : IsPlain (rules_are r rules)
    plain = All-weaker (λ rule. (rule.cac_s ≡ 0) × (rule.wmm ≡ None)) (λ rule. rule.cac_s ≡ 0) (λ rule both. both.0) rules askable

    due : MayFollow db J (rules_are r rules)
    due = (
      is_there (profile_of J r) (never_where _ _ (free-first (LacksRadio J r) _ free)),
      some rules (never_where _ _ (free-first (Where (rules ≡ []) NoRules) _ none)),
      elim (cases_lt 32 (length rules)) [ inl more ↦ absurd (never_where _ _ (free-first (Where (32 < length rules) (TooManyRules (length rules))) _ many) more) | inr few ↦ few ],
      all_valid rules (λ k first. bad (BadRule k) (k, first, refl)),
      plain,
    )

-- ---- hints

hint_due : (db : List Domain) (J : Journal) (hint : Hinted) → IsFree (HintCauses db J hint) → IsHintDue db J hint
hint_due db J hint free =
    let known = Where (find_domain db (code_of_hint hint) ≡ None) (NoCountry (code_of_hint hint)) in (
      is_there (find_domain db (code_of_hint hint)) (never_where _ _ (free-first known _ free)),
      never_where _ _ (free-first (Where (AddsFifthCode J hint) TooManyDomains) _ (free-next known _ free)),
    )

pub goes_hinted : (db : List Domain) (J : Journal) (hint : Hinted) (facts : List Fact) → Goes db J → FitsItsRadio J hint → IsFree (HintCauses db J hint)
    → AreSwept db (hinted hint ∷ J) (ifaces_of J) facts → Goes db (after facts (hinted hint ∷ J))
goes_hinted db J hint facts goes fits free swept = goes_swept_all db J (hinted hint) facts goes (hint_due db J hint free, fits) tt swept

-- a driver's hint is taken as its radio's profile says
pub driver_fits : (J : Journal) (r : ℕ) (a : Alpha2) → IsSome (profile_of J r) → FitsItsRadio J (driver_hint J r a)
driver_fits J r a there = by (is_self_managed J r) refl
  where
    by : (b : Bool) → is_self_managed J r ≡ b → FitsItsRadio J (cond b (Own r a) (Treated (Driver r a)))
    by true own = (there, own)
    by false other = (there, other)

-- ---- radar and place

pub goes_radar : (db : List Domain) (J : Journal) (r : ℕ) (c : ChanDef) (facts : List Fact) → Goes db J → IsFree (RadarCauses J r c)
    → AreSwept db (radar_met r c ∷ J) (ifaces_on J r) facts → Goes db (after facts (radar_met r c ∷ J))
goes_radar db J r c facts goes free swept =
    goes_swept_one db J (radar_met r c) r facts goes due tt refl (λ i begins. let at = begins.2 in cc) (λ q other. leaves-radar db J r q c other) swept
    (λ y has other. settled_stays db (radar_met r c) J y (due, goes.due) (leaves-radar db J r y.radio c other) has refl (λ begins. let at = begins.2 in cc) (goes.settled y has))
  where
    due : MayFollow db J (radar_met r c)
    due = (
      is_there (profile_of J r) (never_where _ _ (free-first (LacksRadio J r) _ free)),
      elim (told_valid c) [ inl valid ↦ valid | inr never ↦ absurd (never_where _ _ (free-next (LacksRadio J r) (InvalidChannel c) free) never) ],
    )

pub goes_indoor : (db : List Domain) (J : Journal) (on : Bool) (facts : List Fact) → Goes db J → AreSwept db (indoor_is on ∷ J) (ifaces_of J) facts
    → Goes db (after facts (indoor_is on ∷ J))
goes_indoor db J on facts goes swept = goes_swept_all db J (indoor_is on) facts goes tt tt swept
