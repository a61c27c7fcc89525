-- The rows of the first rules of a domain, each alone, become those of one rule more.
use Rattle.std.proofs.Common.{◌≡◌, ℕ, ◌+◌, ◌<◌, ◌≤◌, List, [], ◌∷◌, ◌++◌, Some, zero, suc, length, take, get_or, map, slice_get, Contains, arith, refl, sym, ap, ◌∙◌, subst, inl, inr}
use Rattle.std.proofs.lemmas.List.{map-append, take_more, take_all, length-map}
use Rattle.std.proofs.lemmas.Bool.{cases_lt}
use Rattle.std.proofs.lemmas.List.Elements.{All-push, All-weaker, All-nil, Contains-append_left, Contains-push}
use Rattle.std.proofs.lemmas.List.Quantifiers.{all_pairs_push}
use Rattle.std.proofs.lemmas.Option.{slice_get-get_or, slice_get_within, get_or_from_slice_get}
use Rattle.freq_range.specs.declared.rule.Rule.{Rule}
use Rattle.rule_tables.specs.Width.{IsAllowedWidth}
use Rattle.rule_tables.proofs.Widths.{IsAllowedWidth-unique, some_width}
use Rattle.rule_intersect.specs.declared.row.Row.{Row}
use Rattle.rule_intersect.specs.inner.Own.{AreChoices, AreOwnRows, row_alone}
use Rattle.rule_intersect.specs.Tuples.{Choice, IsChoice}

same_parts : (m n : ℕ) (r s : Rule) (v w : ℕ) → m ≡ n → r ≡ s → v ≡ w
    → ◌≡◌ {A = Choice} (record { number = m; rule = r; width_khz = v }) (record { number = n; rule = s; width_khz = w })
same_parts m n r s v w p q e = cc

-- a choice is known by its number
pub IsChoice-unique : (rules : List Rule) (c e : Choice) → IsChoice rules c → IsChoice rules e → c.number ≡ e.number → c ≡ e
IsChoice-unique rules c e is_c is_e same =
    let at_e : slice_get rules c.number ≡ Some e.rule = ap (λ n. slice_get rules n) same ∙ is_e.rule in
    let same_rule : c.rule ≡ e.rule = same_some (sym is_c.rule ∙ at_e) in
    let width_e = subst (λ n. IsAllowedWidth rules n e.width_khz) (sym same) is_e.width in
    let same_width = IsAllowedWidth-unique rules c.number c.rule c.width_khz e.width_khz is_c.rule is_c.width width_e in
    same_parts c.number e.number c.rule e.rule c.width_khz e.width_khz same same_rule same_width
  where
    same_some : {r s : Rule} → Some r ≡ Some s → r ≡ s
    same_some {r} {s} p = cc

pub AreChoices-none : (rules : List Rule) → AreChoices rules 0 []
AreChoices-none rules = record {
  all = λ c is below. absurd (omega arith);
  rules_in_order = refl;
  only = All-nil (λ c. IsChoice rules c × (c.number < 0));
  in_order = λ i j d below in_range. absurd (omega arith);
}

pub AreChoices-more : (rules : List Rule) (n : ℕ) (cs : List Choice) (c : Choice) → IsChoice rules c → c.number ≡ n
    → AreChoices rules n cs → AreChoices rules (n + 1) (cs ++ c ∷ [])
AreChoices-more rules n cs c is here so_far = record {
  all = λ e is_e below. elim (cases_lt e.number n) [
    | inl less ↦ Contains-append_left cs (c ∷ []) e (so_far.all e is_e less)
    | inr last ↦
        let same : c.number ≡ e.number = omega arith in
        subst (λ x. Contains (cs ++ c ∷ []) x) (IsChoice-unique rules c e is is_e same) (Contains-push cs c)
  ];
  rules_in_order = map-append (λ e. e.rule) cs (c ∷ []) ∙ pushed ∙ sym (take_more rules n c.rule in_range);
  only = All-push (λ e. IsChoice rules e × (e.number < n + 1)) cs c
      (All-weaker (λ e. IsChoice rules e × (e.number < n)) (λ e. IsChoice rules e × (e.number < n + 1)) (λ e h. (h.0, let less = h.1 in omega arith)) cs so_far.only)
      (is, omega arith);
  in_order = all_pairs_push (λ a b. a.number < b.number) cs c so_far.in_order
      (λ k d in_range. let less = (so_far.only k d in_range).1 in omega (arith, less));
}
  where
    in_range : n < length rules
    in_range = subst (λ m. m < length rules) here (slice_get_within rules c.number c.rule is.rule)

    at : get_or rules n c.rule ≡ c.rule
    at = subst (λ m. get_or rules m c.rule ≡ c.rule) here (get_or_from_slice_get rules c.number c.rule c.rule is.rule)

    pushed : map (λ e. e.rule) cs ++ c.rule ∷ [] ≡ take n rules ++ get_or rules n c.rule ∷ []
    pushed = let so = so_far.rules_in_order in let here_at = at in cc

pub AreOwnRows-more : (rules : List Rule) (n : ℕ) (rows : List Row) (c : Choice) (row : Row) → IsChoice rules c → c.number ≡ n → row ≡ row_alone c
    → AreOwnRows rules n rows → AreOwnRows rules (n + 1) (rows ++ row ∷ [])
AreOwnRows-more rules n rows c row is here alone (cs, choices, same) =
    (cs ++ c ∷ [], AreChoices-more rules n cs c is here choices, appended rows row (map row_alone cs) (row_alone c) same alone ∙ sym (map-append row_alone cs (c ∷ [])))
  where
    appended : (xs : List Row) (x : Row) (ys : List Row) (y : Row) → xs ≡ ys → x ≡ y → xs ++ x ∷ [] ≡ ys ++ y ∷ []
    appended xs x ys y p q = cc

-- the row of the rule at the next place
pub AreOwnRows-next : (rules : List Rule) (n : ℕ) (rows : List Row) (d : Rule) (w : ℕ) (row : Row) → n < length rules → IsAllowedWidth rules n w
    → row ≡ row_alone (record { number = n; rule = get_or rules n d; width_khz = w }) → AreOwnRows rules n rows → AreOwnRows rules (n + 1) (rows ++ row ∷ [])
AreOwnRows-next rules n rows d w row in_range width same so_far =
    AreOwnRows-more rules n rows (record { number = n; rule = get_or rules n d; width_khz = w }) row
    (record { rule = slice_get-get_or rules n d in_range; width = width }) refl same so_far

pub element_at : {X : Type 0} (xs : List X) (k : ℕ) → k < length xs → (x : X) × (slice_get xs k ≡ Some x)
element_at [] k in_range = absurd (omega arith)
element_at (x ∷ xs) zero in_range = (x, refl)
element_at (x ∷ xs) (suc k) in_range = element_at xs k (omega arith)

some_choices : (rules : List Rule) (n : ℕ) → n ≤ length rules → (cs : List Choice) × AreChoices rules n cs
some_choices rules zero within = ([], AreChoices-none rules)
some_choices rules (suc n) within =
    let rest = some_choices rules n (omega arith) in
    let rule = element_at rules n (omega arith) in
    let width = some_width rules n rule.0 rule.1 in
    let c : Choice = record { number = n; rule = rule.0; width_khz = width.0 } in
    (rest.0 ++ c ∷ [], subst (λ m. AreChoices rules m (rest.0 ++ c ∷ [])) next_number (AreChoices-more rules n rest.0 c (record { rule = rule.1; width = width.1 }) refl rest.1))
  where
    next_number : n + 1 ≡ suc n
    next_number = omega arith

-- each domain has its own rows
pub some_own_rows : (rules : List Rule) → (rows : List Row) × AreOwnRows rules (length rules) rows
some_own_rows rules =
    let choices = some_choices rules (length rules) (omega arith) in
    (map row_alone choices.0, (choices.0, choices.1, refl))

pub rules_of_choices : (rules : List Rule) (cs : List Choice) → AreChoices rules (length rules) cs → map (λ c. c.rule) cs ≡ rules
rules_of_choices rules cs choices = choices.rules_in_order ∙ take_all (length rules) rules (omega arith)

pub length-own : (rules : List Rule) (rows : List Row) → AreOwnRows rules (length rules) rows → length rows ≡ length rules
length-own rules rows (cs, choices, same) =
    ap length same ∙ length-map cs row_alone ∙ sym (length-map cs (λ c. c.rule)) ∙ ap length (rules_of_choices rules cs choices)
