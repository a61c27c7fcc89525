-- What the private functions that read rules say.
use Rattle.std.specs.Prelude.{ℕ, ◌≤◌, List, length, Option}
use Rattle.freq_range.specs.declared.rule.Rule.{Rule}
use Rattle.nl_attrs.specs.Walks.{HasWalked, Walking}
use Rattle.nl_attrs.specs.declared.attr.Attr.{Attr}
use Rattle.nl80211_cmds.specs.Rules.{EachTells, TellsNested, TellsRules}
use Rattle.nl80211_cmds.specs.declared.fault.FieldFault.{FieldFault}
use Rattle.nl80211_cmds.specs.declared.fault.FieldFault.TheVariants as field_faults

-- why a rule can't be taken: none is told; memory may be asked first
abbrev pub IsNestedRuleFault : List ℕ → FieldFault → Type 0
IsNestedRuleFault payload field_faults.Malformed = (rule : Rule) → TellsNested payload rule → ⊥
IsNestedRuleFault payload field_faults.OutOfMemory = Unit {0}

-- the same of a list
abbrev pub IsRuleListFault : Option (List ℕ) → FieldFault → Type 0
IsRuleListFault payload field_faults.Malformed = (rules : List Rule) → TellsRules payload rules → ⊥
IsRuleListFault payload field_faults.OutOfMemory = Unit {0}

-- the attributes given so far hold the rules
pub record HoldsSoFar (w : Walking) (payload : List ℕ) (rules : List Rule) : Type 0 where
  pub given : List Attr
  pub walked : HasWalked w payload given
  pub told : EachTells given rules
  pub few : length rules ≤ 32
