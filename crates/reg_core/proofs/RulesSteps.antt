-- Custom rules of a radio, to one step.
use Rattle.std.proofs.Common.{◌≡◌, ℕ, ◌<◌, ◌≤◌, false, List, [], ◌∷◌, length, All, Option, None, IsSome, arith, refl, ap, inl, inr}
use Rattle.std.proofs.lemmas.List.Elements.{All-get_or, All-weaker}
use Rattle.freq_range.specs.First.{IsFirst}
use Rattle.freq_range.specs.Valid.{IsValidRule}
use Rattle.freq_range.specs.declared.rule.Rule.{Rule}
use Rattle.rule_tables.specs.Domains.{IsInvalidAt}
use Rattle.rule_tables.specs.declared.domain.Domain.{Domain}
use Rattle.rule_intersect.specs.Tables.{IsTableOf, Joined}
use Rattle.radio_drv.specs.Seen.{Seen}
use Rattle.reg_journal.specs.Applicable.{applies}
use Rattle.reg_journal.specs.Causes.{IsFree, Where}
use Rattle.reg_journal.specs.Due.{EachMayFollow}
use Rattle.reg_journal.specs.Facts.{Journal, rules_are}
use Rattle.reg_journal.specs.Present.{ifaces_on, profile_of}
use Rattle.reg_journal.specs.Refusals.{RowCauses, RulesCauses}
use Rattle.reg_journal.specs.Requests.{IsAskable}
use Rattle.reg_journal.specs.declared.effects.Effect.{Effect}
use Rattle.reg_journal.specs.declared.refusal.Refusal.{Refusal}
use Rattle.reg_journal.specs.declared.refusal.Refusal.TheVariants.{BadRule, NoRules, TooManyRules}
use Rattle.reg_journal.specs.declared.reply.Answer.TheVariants.{Ok, Refused}
use Rattle.reg_journal.specs.declared.reply.Reply.TheVariants.{Plain}
use Rattle.reg_journal.specs.declared.request.Request.TheVariants.{RadioRules}
use Rattle.reg_journal.proofs.Granting.{free-before, free-where}
use Rattle.reg_core.specs.Kept.{Keeps, StandsFor}
use Rattle.core_parts.specs.Kept.{KeepsRadios}
use Rattle.reg_core.specs.Stepping.{OneStep, is_failure}
use Rattle.reg_core.specs.inner.Deciding.{IsReason}
use Rattle.reg_core.specs.inner.RulesSet.{AreCustomRules, RuleListCauses, SetsRules}
use Rattle.reg_core.specs.declared.core_state.Core.{Core}
use Rattle.reg_core.specs.declared.declined.Declined.{Declined}
use Rattle.reg_core.specs.declared.declined.Declined.TheVariants.{Refused as ByRefusal, OutOfMemory}
use Rattle.core_parts.specs.declared.radio.RadioPlace.{RadioPlace}
use Rattle.reg_core.proofs.OneSteps.{step_of_refusal}
use Rattle.core_parts.proofs.RowRefusals.{also_not_too_long, free_of_rows, none_too_long}
use Rattle.reg_core.proofs.SweptSteps.{swept_step}

-- ---- rules by themselves

pub free_of_many : (rules : List Rule) → length rules ≤ 32 → IsFree (Where (32 < length rules) (TooManyRules (length rules)))
free_of_many rules few = free-where _ _ (λ more. absurd (omega (arith, few, more)))

pub free_of_none : (rules : List Rule) → 0 < length rules → IsFree (Where (rules ≡ []) NoRules)
free_of_none rules some = free-where _ _ (λ none. let empty = ap (λ (rs : List Rule). length rs) none in absurd (omega (arith, some, empty)))

pub free_of_bad : (rules : List Rule) → All IsValidRule rules → IsFree (λ e. (k : ℕ) × IsFirst (IsInvalidAt rules) k × (e ≡ BadRule k))
free_of_bad rules valid e (k, first, same) = by rules valid k first.here
  where
    by : (rules : List Rule) → All IsValidRule rules → (k : ℕ) → IsInvalidAt rules k → ⊥
    by [] valid k invalid = let within = invalid.0 in absurd (omega (arith, within))
    by (rule ∷ rules) valid k invalid = invalid.1 rule (All-get_or IsValidRule (rule ∷ rules) k rule invalid.0 valid)

-- which refusal comes for rules whose number is small
pub none_refused : (rules : List Rule) → length rules ≤ 32 → rules ≡ [] → RuleListCauses rules NoRules
none_refused rules few none = inr (free_of_many rules few, inl (none, refl))

pub bad_refused : (rules : List Rule) (k : ℕ) → length rules ≤ 32 → IsFirst (IsInvalidAt rules) k → RuleListCauses rules (BadRule k)
bad_refused rules k few first = inr (free_of_many rules few, inr (free_of_none rules (some rules first.here), (k, first, refl)))
  where
    some : (rules : List Rule) → IsInvalidAt rules k → 0 < length rules
    some rules invalid = let within = invalid.0 in omega (arith, within)

-- ---- rules of a radio that is there

pub rules_barred : (db : List Domain) (J : Journal) (r : ℕ) (rules : List Rule) (d : Declined) → (profile_of J r ≡ None → ⊥) → IsReason (RuleListCauses rules) d
    → IsReason (RulesCauses db J r rules) d
rules_barred db J r rules (ByRefusal e) there (inl many) = inr (free-where _ _ there, inl many)
rules_barred db J r rules (ByRefusal e) there (inr (f1, inl none)) = inr (free-where _ _ there, inr (f1, inl none))
rules_barred db J r rules (ByRefusal e) there (inr (f1, inr (f2, bad))) = inr (free-where _ _ there, inr (f1, inr (f2, inl bad)))
rules_barred db J r rules OutOfMemory there none = tt

pub rows_barred : (db : List Domain) (J : Journal) (r : ℕ) (rules : List Rule) (d : Declined) → (profile_of J r ≡ None → ⊥) → AreCustomRules rules
    → IsReason (RowCauses (applies db (rules_are r rules ∷ J) r ∷ [])) d → IsReason (RulesCauses db J r rules) d
rows_barred db J r rules (ByRefusal e) there are rows =
    inr (free-where _ _ there, inr (free_of_many rules are.few, inr (free_of_none rules are.some, inr (free_of_bad rules are.valid, rows))))
rows_barred db J r rules OutOfMemory there are none = tt

pub free_of_rules : (db : List Domain) (J : Journal) (r : ℕ) (rules : List Rule) (table : Joined) → (profile_of J r ≡ None → ⊥) → AreCustomRules rules
    → IsTableOf (applies db (rules_are r rules ∷ J) r) table → IsFree (RulesCauses db J r rules)
free_of_rules db J r rules table there are is =
    free-before _ _ (free-where _ _ there)
    (free-before _ _ (free_of_many rules are.few)
    (free-before _ _ (free_of_none rules are.some)
    (free-before _ _ (free_of_bad rules are.valid)
    (free_of_rows (applies db (rules_are r rules ∷ J) r ∷ []) (also_not_too_long (applies db (rules_are r rules ∷ J) r) table [] is none_too_long)))))

-- ---- what is kept

pub rules_due : (db : List Domain) (J : Journal) (r : ℕ) (rules : List Rule) → EachMayFollow db J → IsSome (profile_of J r) → AreCustomRules rules
    → IsAskable (RadioRules r rules) → EachMayFollow db (rules_are r rules ∷ J)
rules_due db J r rules due there are askable =
    ((there, are.some, are.few, are.valid, All-weaker (λ (rule : Rule). (rule.cac_s ≡ 0) × (rule.wmm ≡ None)) (λ (rule : Rule). rule.cac_s ≡ 0) (λ rule both. both.0) rules askable), due)

pub keeps_after_rules : (db : List Domain) (J : Journal) (r : ℕ) (rules : List Rule) (core : Core) (radios : List RadioPlace) → Keeps db core J
    → EachMayFollow db (rules_are r rules ∷ J) → KeepsRadios db (rules_are r rules ∷ J) radios → Keeps db (record core { radios = radios }) (rules_are r rules ∷ J)
keeps_after_rules db J r rules core radios s due kept = record {
  due = due;
  domains = s.domains;
  clock = s.clock;
  indoor = s.indoor;
  hints = s.hints;
  made = s.made;
  global = s.global;
  radios = kept;
  interfaces = s.interfaces;
}

-- ---- steps

pub rules_taken : (db : List Domain) (J : Journal) (r : ℕ) (rules : List Rule) (effects : List Effect) (old new : Core) (row row' : List (Option Seen)) → StandsFor db old J
    → IsAskable (RadioRules r rules) → SetsRules db J r rules new row row' effects → OneStep db J (RadioRules r rules) old new row row' (Plain Ok effects)
rules_taken db J r rules effects old new row row' s askable sets =
    swept_step db J (RadioRules r rules) (rules_are r rules) (ifaces_on J r) Ok effects old new row row' s askable refl refl tt refl (λ q was. refl) (λ i. refl)
    (λ swept are. inr (sets.free, (swept, are, refl, refl))) sets.sweep

pub rules_refused : (db : List Domain) (J : Journal) (r : ℕ) (rules : List Rule) (e : Refusal) (old new : Core) (row row' : List (Option Seen)) → StandsFor db old J
    → RulesCauses db J r rules e → new ≡ old → row' ≡ row → OneStep db J (RadioRules r rules) old new row row' (Plain (Refused e) [])
rules_refused db J r rules e old new row row' s cause same same' =
    step_of_refusal db J (RadioRules r rules) e old new row row' (none cause) tt ([], inl (e, cause, refl, refl), refl) s same same' (λ q was. refl)
  where
    none : RulesCauses db J r rules e → is_failure e ≡ false
    none (inl gone) = ap is_failure gone.1
    none (inr (f1, inl many)) = ap is_failure many.1
    none (inr (f1, inr (f2, inl empty))) = ap is_failure empty.1
    none (inr (f1, inr (f2, inr (f3, inl bad)))) = ap is_failure bad.2
    none (inr (f1, inr (f2, inr (f3, inr (f4, rows))))) = ap is_failure rows.6
