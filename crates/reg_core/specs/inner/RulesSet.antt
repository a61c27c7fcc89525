-- What comes of a radio's custom rules.
use Rattle.std.specs.Prelude.{◌≡◌, ℕ, ◌<◌, ◌≤◌, List, [], ◌∷◌, length, All, Option, IsSome}
use Rattle.freq_range.specs.First.{IsFirst}
use Rattle.freq_range.specs.Valid.{IsValidRule}
use Rattle.freq_range.specs.declared.rule.Rule.{Rule}
use Rattle.rule_tables.specs.Domains.{IsInvalidAt}
use Rattle.rule_tables.specs.World.{custom_domain}
use Rattle.rule_tables.specs.declared.domain.Domain.{Domain}
use Rattle.rule_intersect.specs.Tables.{IsTableOf}
use Rattle.radio_drv.specs.Seen.{Seen}
use Rattle.reg_journal.specs.Applicable.{applies}
use Rattle.reg_journal.specs.Causes.{IsFree, Where, ◌before◌}
use Rattle.reg_journal.specs.Facts.{Journal, rules_are}
use Rattle.reg_journal.specs.Present.{ifaces_on, profile_of}
use Rattle.reg_journal.specs.Refusals.{RulesCauses}
use Rattle.reg_journal.specs.declared.effects.Effect.{Effect}
use Rattle.reg_journal.specs.declared.refusal.Refusal.{Refusal}
use Rattle.reg_journal.specs.declared.refusal.Refusal.TheVariants.{BadRule, NoRules, TooManyRules}
use Rattle.reg_core.specs.inner.Sweeping.{IsSweepOf}
use Rattle.reg_core.specs.declared.core_state.Core.{Core}
use Rattle.reg_core.specs.declared.rules_set.Ruling.{Ruling}

-- there are 1 to 32 rules, each valid
pub record AreCustomRules (rules : List Rule) : Type 0 where
  pub some : 0 < length rules
  pub few : length rules ≤ 32
  pub valid : All IsValidRule rules

-- what speaks against the rules by themselves: their number, and the first that isn't valid
abbrev pub RuleListCauses : List Rule → Refusal → Type 0
RuleListCauses rules =
    Where (32 < length rules) (TooManyRules (length rules))
    before Where (rules ≡ []) NoRules
    before (λ e. (k : ℕ) × IsFirst (IsInvalidAt rules) k × (e ≡ BadRule k))

-- the radio is there, nothing speaks against the rules, and they lead to this
pub record IsRuling (db : List Domain) (J : Journal) (r : ℕ) (rules : List Rule) (ruling : Ruling) : Type 0 where
  pub there : IsSome (profile_of J r)
  pub are : AreCustomRules rules
  pub free : IsFree (RulesCauses db J r rules)
  pub custom_is : ruling.custom ≡ custom_domain rules
  pub table_is : IsTableOf (applies db (rules_are r rules ∷ J) r) ruling.table

-- nothing speaks against the rules; the radio has them, and its interfaces are swept
pub record SetsRules (db : List Domain) (J : Journal) (r : ℕ) (rules : List Rule) (new : Core) (row row' : List (Option Seen)) (effects : List Effect) : Type 0 where
  pub free : IsFree (RulesCauses db J r rules)
  pub sweep : IsSweepOf db (rules_are r rules ∷ J) (ifaces_on J r) new row row' effects
