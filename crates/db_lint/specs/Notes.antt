-- What is noted on a rule, and the notes on a database.
use Rattle.std.specs.Prelude.{◌≡◌, ◌↔◌, ℕ, ◌<◌, ◌≤◌, List, [], ◌∷◌, ◌++◌, length, IsTrue, Option, None, Some, slice_get, slice_index_or}
use Rattle.freq_range.specs.Channels.{IsCentre}
use Rattle.freq_range.specs.declared.rule.Rule.{Rule}
use Rattle.rule_tables.specs.Governing.{Governs, RuleHolds}
use Rattle.rule_tables.specs.Width.{IsAllowedWidth}
use Rattle.rule_tables.specs.declared.domain.Domain.{Domain}
use Rattle.db_lint.specs.declared.notes.RuleNote.{RuleNote}

-- a channel of the table, by its centre in kHz, and the least of which P holds
pub record IsLeastCentre (P : ℕ → Type 0) (khz : ℕ) : Type 0 where
  pub centre : IsCentre khz
  pub here : P khz
  pub none_below : (other : ℕ) → other < khz → IsCentre other → P other → ⊥

-- the least channel of which P holds, or none where it holds of none
abbrev pub IsLeastChannel : (ℕ → Type 0) → Option ℕ → Type 0
IsLeastChannel P None = (khz : ℕ) → IsCentre khz → P khz → ⊥
IsLeastChannel P (Some khz) = IsLeastCentre P khz

-- for a rule that governs no channel and holds one: the rule that governs the least one that it holds; else none
abbrev pub IsHiddenBy : List Rule → Option ℕ → Option ℕ → Option ℕ → Type 0
IsHiddenBy rules None (Some khz) (Some j) = Governs rules khz j
IsHiddenBy rules None (Some khz) None = ⊥
IsHiddenBy rules None None by = by ≡ None
IsHiddenBy rules (Some khz) held by = by ≡ None

-- the note on rule k of the domain, with the rule itself and the width in kHz that it allows
pub record IsNote (d : Domain) (k : ℕ) (note : RuleNote) : Type 0 where
  pub rule : Rule
  pub width : ℕ
  pub rule_is : slice_get d.rules k ≡ Some rule
  pub width_is : IsAllowedWidth d.rules k width
  pub code : note.alpha2 ≡ d.alpha2
  pub number : note.rule ≡ k
  pub least : IsLeastChannel (λ khz. Governs d.rules khz k) note.least
  pub held : IsLeastChannel (λ khz. RuleHolds khz rule) note.held
  pub by : IsHiddenBy d.rules note.least note.held note.by
  pub narrow : IsTrue note.narrow ↔ (width < 20000)
  pub idle_auto : IsTrue note.idle_auto ↔ (IsTrue rule.flags.auto_bw × (width ≤ rule.max_bw_khz))

-- the notes on the first n rules of a domain, in their order
pub record AreFirstNotes (d : Domain) (n : ℕ) (notes : List RuleNote) : Type 0 where
  pub count : length notes ≡ n
  pub each : (k : ℕ) (other : RuleNote) → k < n → IsNote d k (slice_index_or notes k other)

-- a note on each rule of each domain, the domains and their rules in order
abbrev pub AreNotes : List Domain → List RuleNote → Type 0
AreNotes [] notes = notes ≡ []
AreNotes (d ∷ ds) notes =
    (own : List RuleNote) × (rest : List RuleNote) × (notes ≡ own ++ rest) × AreFirstNotes d (length d.rules) own × AreNotes ds rest
