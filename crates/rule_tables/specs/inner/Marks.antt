-- The marks that tell of most rules, without a search, that they aren't in a list.
use Rattle.std.specs.Prelude.{◌≡◌, ℕ, ◌+◌, ◌*◌, ◌%◌, Bool, true, false, List, All, slice_index_or}
use Rattle.freq_range.specs.declared.rule.Rule.{Rule}

-- the place of a rule's mark
abbrev pub mark_of : Rule → ℕ
mark_of r = (r.start_khz + 3 * r.end_khz + 7 * r.eirp_mbm) % 1021

-- each of the rules has its mark
abbrev pub AreMarked : List Bool → List Rule → Type 0
AreMarked marks rules = All (λ r. slice_index_or marks (mark_of r) false ≡ true) rules
