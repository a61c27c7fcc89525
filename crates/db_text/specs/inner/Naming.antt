-- How the printer gathers the WMM rules in use. Only private functions' clauses cite it; the laws of proofs/ tie it to
-- what Printed says.
use Rattle.std.specs.Prelude.{◌≡◌, ℕ, nat_eq, List, [], ◌∷◌, ◌++◌, fold, if◌then◌else◌}
use Rattle.std.specs.BTreeMap.{BTreeMap, get}
use Rattle.std.specs.Cmp.Lexicographic.{pointwise, slice_cmp}
use Rattle.std.specs.List.{list_any, position}
use Rattle.std.specs.Ordering.{nat_cmp}
use Rattle.freq_range.specs.declared.wmm.Wmm.{Wmm}
use Rattle.db_text.specs.declared.wmm_names.WmmNames.{WmmNames}
use Rattle.db_text.specs.Printed.{same_wmm, wmm_numbers}

-- the WMM rules with one more, unless it is there
abbrev pub noted : List Wmm → Wmm → List Wmm
noted ws w = if list_any (same_wmm w) ws then ws else ws ++ w ∷ []

-- with all of these
abbrev pub all_noted : List Wmm → List Wmm → List Wmm
all_noted ws more = fold noted ws more

-- the map has the place of each, by its numbers
abbrev pub AreNumbered : List Wmm → BTreeMap (List ℕ) ℕ → Type 0
AreNumbered ws numbers = (q : List ℕ) → get (slice_cmp nat_cmp) numbers q ≡ position (λ w. pointwise nat_eq q (wmm_numbers w)) ws

abbrev pub IsNumbered : WmmNames → Type 0
IsNumbered names = AreNumbered names.rules.items names.numbers
