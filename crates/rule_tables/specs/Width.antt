-- How wide a channel may be under a rule of a domain.
use Rattle.std.specs.Prelude.{◌≡◌, ℕ, ◌+◌, ◌-◌, ◌<◌, ◌≤◌, List, length, slice_get, Some, MatchBool, get_or}
use Rattle.freq_range.specs.declared.rule.Rule.{Rule}

-- the rule at place i reaches the next one of the list: it ends at or above that one's start
abbrev pub TouchesNext : List Rule → ℕ → Type 0
TouchesNext rules i = (r next : Rule) → slice_get rules i ≡ Some r → slice_get rules (i + 1) ≡ Some next → next.start_khz ≤ r.end_khz

-- each rule from place j on, up to the one at place k, touches the next
abbrev pub IsTouchingRun : List Rule → ℕ → ℕ → Type 0
IsTouchingRun rules j k = (i : ℕ) → j ≤ i → i < k → TouchesNext rules i

-- j is the first rule of the run of touching rules that has rule k
pub record IsRunStart (rules : List Rule) (k j : ℕ) : Type 0 where
  pub within : j ≤ k
  pub run : IsTouchingRun rules j k
  pub least : (i : ℕ) → i < j → IsTouchingRun rules i k → ⊥

-- m is the last rule of the run of touching rules that has rule k
pub record IsRunEnd (rules : List Rule) (k m : ℕ) : Type 0 where
  pub within : k ≤ m
  pub in_range : m < length rules
  pub run : IsTouchingRun rules k m
  pub greatest : (i : ℕ) → m < i → i < length rules → IsTouchingRun rules k i → ⊥

-- The width in kHz of the whole run that has rule k: from the start of its first rule to the end of its last one, or 0
-- where that end is below that start. It is neither the least start nor the greatest end of the run.
pub record IsRunWidth (rules : List Rule) (k width : ℕ) : Type 0 where
  pub first : ℕ
  pub last : ℕ
  pub starts : IsRunStart rules k first
  pub ends : IsRunEnd rules k last
  pub span : (f l : Rule) → slice_get rules first ≡ Some f → slice_get rules last ≡ Some l → width ≡ l.end_khz - f.start_khz

-- The width in kHz that rule k allows: its own, and with AUTO-BW on rule k itself that of its run.
abbrev pub IsAllowedWidth : List Rule → ℕ → ℕ → Type 0
IsAllowedWidth rules k width = (r : Rule) → slice_get rules k ≡ Some r → MatchBool r.flags.auto_bw (IsRunWidth rules k width) (width ≡ r.max_bw_khz)

-- for each rule, in order, the width in kHz that it allows
pub record AreAllowedWidths (rules : List Rule) (widths : List ℕ) : Type 0 where
  pub count : length widths ≡ length rules
  pub each : (k : ℕ) → k < length rules → IsAllowedWidth rules k (get_or widths k 0)
