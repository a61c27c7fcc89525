-- The joined flags of a list with one more at its end.
use Rattle.std.proofs.Common.{◌≡◌, ◌||◌, Bool, true, false, List, [], ◌∷◌, ◌++◌, refl, sym, ap, ◌∙◌}
use Rattle.std.specs.List.{list_any}
use Rattle.std.proofs.lemmas.List.Folds.{list_any-append}
use Rattle.freq_range.specs.Flags.{joined_flags_by, joined_flags}
use Rattle.freq_range.specs.declared.flags.RuleFlags.{RuleFlags}

pub or_false : (b : Bool) → b || false ≡ b
or_false true = refl
or_false false = refl

-- something has it, or the last one has it
any-push : {X : Type 0} (p : X → Bool) (xs : List X) (x : X) → list_any p (xs ++ x ∷ []) ≡ list_any p xs || (list_any p (x ∷ []) || false)
any-push p xs x = list_any-append p xs (x ∷ []) ∙ ap (λ b. list_any p xs || b) (sym (or_false (list_any p (x ∷ []))))

pub joined_flags_by-push : {X : Type 0} (f : X → RuleFlags) (xs : List X) (x : X)
    → joined_flags_by f (xs ++ x ∷ []) ≡ joined_flags (joined_flags_by f xs) (joined_flags_by f (x ∷ []))
joined_flags_by-push f xs x = λ i. record {
  no_ofdm = any-push (λ y. (f y).no_ofdm) xs x i;
  no_outdoor = any-push (λ y. (f y).no_outdoor) xs x i;
  dfs = any-push (λ y. (f y).dfs) xs x i;
  no_ir = any-push (λ y. (f y).no_ir) xs x i;
  auto_bw = false;
}
