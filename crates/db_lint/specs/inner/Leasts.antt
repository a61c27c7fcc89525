-- The least channels that the rules of a domain govern, rule by rule.
use Rattle.std.specs.Prelude.{◌≡◌, ℕ, ◌<◌, List, length, Option, None, get_or}
use Rattle.freq_range.specs.declared.rule.Rule.{Rule}
use Rattle.rule_tables.specs.Governing.{Governs}
use Rattle.db_lint.specs.Notes.{IsLeastChannel}

-- for each rule the least channel that it governs, or none
pub record AreLeasts (rules : List Rule) (leasts : List (Option ℕ)) : Type 0 where
  pub count : length leasts ≡ length rules
  pub each : (k : ℕ) → k < length rules → IsLeastChannel (λ khz. Governs rules khz k) (get_or leasts k None)
