-- Writes to the places of a list, one after the other, up to its end.
use Rattle.std.proofs.Common.{◌≡◌, ◌+◌, ◌≤◌, ◌<◌, ℕ, List, length, get_or, arith, refl, sym, subst, ◌∙◌, inl, inr}
use Rattle.std.proofs.Math.ListN.{set}
use Rattle.std.proofs.lemmas.Bool.{cases_eq, cases_lt}
use Rattle.std.proofs.lemmas.List.{get_or-set_other, get_or-set_same, get_or_default, get_or_past}

-- the places below k are done, and the others are as they were
pub record AreDone {X : Type 0} (P : ℕ → X → X → Type 0) (d : X) (old now : List X) (k : ℕ) : Type 0 where
  pub done : (r : ℕ) → r < k → P r (get_or old r d) (get_or now r d)
  pub rest : (r : ℕ) → k ≤ r → get_or now r d ≡ get_or old r d

pub none_done : {X : Type 0} (P : ℕ → X → X → Type 0) (d : X) (old : List X) → AreDone P d old old 0
none_done P d old = record {
  done = λ r below. absurd (omega (arith, below));
  rest = λ r above. refl;
}

pub one_more_done : {X : Type 0} (P : ℕ → X → X → Type 0) (d : X) (old now : List X) (k : ℕ) (x y : X) → AreDone P d old now k → k < length now
    → P k (get_or now k x) y → AreDone P d old (set now k y) (k + 1)
one_more_done P d old now k x y are within step = record {
  done = λ r below. elim (cases_eq r k) [
    | inl same ↦
        subst (λ n. P n (get_or old n d) (get_or (set now k y) n d)) (sym same)
        (subst (λ z. P k z (get_or (set now k y) k d)) (get_or_default now k x d within ∙ are.rest k (omega arith))
        (subst (λ z. P k (get_or now k x) z) (sym (get_or-set_same now k y d within)) step))
    | inr other ↦
        subst (λ z. P r (get_or old r d) z) (sym (get_or-set_other now k r y d other)) (are.done r (omega (arith, below, other)))
  ];
  rest = λ r above. get_or-set_other now k r y d (λ same. omega (arith, above, same)) ∙ are.rest r (omega (arith, above));
}

pub all_done : {X : Type 0} (P : ℕ → X → X → Type 0) (d : X) (old now : List X) (k : ℕ) → AreDone P d old now k → length now ≤ k → ((r : ℕ) → P r d d)
    → (r : ℕ) → P r (get_or old r d) (get_or now r d)
all_done P d old now k are end past r = elim (cases_lt r k) [
  | inl below ↦ are.done r below
  | inr above ↦
      let at_end : get_or now r d ≡ d = get_or_past now r d (omega (arith, above, end)) in
      subst (λ z. P r z (get_or now r d)) (are.rest r above) (subst (λ z. P r z z) (sym at_end) (past r))
]

-- ---- from the end on

-- the places from k on are done, and the others are as they were
pub record AreDoneFrom {X : Type 0} (P : ℕ → X → X → Type 0) (d : X) (old now : List X) (k : ℕ) : Type 0 where
  pub done : (r : ℕ) → k ≤ r → P r (get_or old r d) (get_or now r d)
  pub rest : (r : ℕ) → r < k → get_or now r d ≡ get_or old r d

pub end_done : {X : Type 0} (P : ℕ → X → X → Type 0) (d : X) (old : List X) (k : ℕ) → length old ≡ k → ((r : ℕ) → P r d d) → AreDoneFrom P d old old k
end_done P d old k same past = record {
  done = λ r above. let at_end : get_or old r d ≡ d = get_or_past old r d (omega (arith, same, above)) in subst (λ z. P r z z) (sym at_end) (past r);
  rest = λ r below. refl;
}

pub one_before_done : {X : Type 0} (P : ℕ → X → X → Type 0) (d : X) (old now : List X) (k : ℕ) (x y : X) → AreDoneFrom P d old now (k + 1) → k < length now
    → P k (get_or now k x) y → AreDoneFrom P d old (set now k y) k
one_before_done P d old now k x y are within step = record {
  done = λ r above. elim (cases_eq r k) [
    | inl same ↦
        subst (λ n. P n (get_or old n d) (get_or (set now k y) n d)) (sym same)
        (subst (λ z. P k z (get_or (set now k y) k d)) (get_or_default now k x d within ∙ are.rest k (omega arith))
        (subst (λ z. P k (get_or now k x) z) (sym (get_or-set_same now k y d within)) step))
    | inr other ↦
        subst (λ z. P r (get_or old r d) z) (sym (get_or-set_other now k r y d other)) (are.done r (omega (arith, above, other)))
  ];
  rest = λ r below. get_or-set_other now k r y d (λ same. omega (arith, below, same)) ∙ are.rest r (omega (arith, below));
}
