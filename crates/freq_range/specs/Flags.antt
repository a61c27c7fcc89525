-- The flags of several rules together.
use Rattle.std.specs.Prelude.{List, [], ◌∷◌, false}
use Rattle.std.specs.List.{list_any}
use Rattle.freq_range.specs.declared.flags.RuleFlags.{RuleFlags}

-- The joined flags of things that each have flags: those that any of them has, but AUTO-BW, which the allowed width has in
-- it.
abbrev pub joined_flags_by : {X : Type 0} → (X → RuleFlags) → List X → RuleFlags
joined_flags_by flags xs = record {
  no_ofdm = list_any (λ x. (flags x).no_ofdm) xs;
  no_outdoor = list_any (λ x. (flags x).no_outdoor) xs;
  dfs = list_any (λ x. (flags x).dfs) xs;
  no_ir = list_any (λ x. (flags x).no_ir) xs;
  auto_bw = false;
}

-- those of two
abbrev pub joined_flags : RuleFlags → RuleFlags → RuleFlags
joined_flags one other = joined_flags_by (λ flags. flags) (one ∷ other ∷ [])
