-- Which rule of a domain governs a channel of 20 MHz.
use Rattle.std.specs.Prelude.{ℕ, ◌<◌, List, length, All, slice_index_or}
use Rattle.freq_range.specs.Channels.{Holds}
use Rattle.freq_range.specs.First.{IsFirst}
use Rattle.freq_range.specs.declared.rule.Rule.{Rule}

-- the rule's range holds the channel round the centre, in kHz
abbrev pub RuleHolds : ℕ → Rule → Type 0
RuleHolds centre r = Holds r.start_khz r.end_khz centre

-- there is a rule at place k, and its range holds the channel
abbrev pub HoldsAt : List Rule → ℕ → ℕ → Type 0
HoldsAt rules centre k = (k < length rules) × ((d : Rule) → RuleHolds centre (slice_index_or rules k d))

-- the rule at place k is the first whose range holds the channel
abbrev pub Governs : List Rule → ℕ → ℕ → Type 0
Governs rules centre k = IsFirst (HoldsAt rules centre) k

-- no rule's range holds the channel
abbrev pub NoneGoverns : List Rule → ℕ → Type 0
NoneGoverns rules centre = All (λ r. RuleHolds centre r → ⊥) rules
