-- The steps at a board keep its rule, as facts on numbers, names and views.
use Rattle.std.proofs.Common.{◌≡◌, ℕ, ◌≤◌, List, [], ◌∷◌, ◌++◌, set, Option, None, Some, refl, sym, ◌∙◌, subst, ⊎_elim, le_refl, le_trans, zero-le, arith}
use mathlib.Core.Option.{some}
use lib.ListN.{get_elem?}
use Rattle.atomic_table.proofs.Lists.{at_set, at_snoc}
use Rattle.std.proofs.lemmas.Option.{none-some, same_Some}
use Rattle.rule_publish.specs.declared.rule.View.{View}
use Rattle.rule_publish.specs.inner.Views.{known, fresh, Suits, EachSuits, Sees, later, later_name}

module _ {N : Type 0} where
  pub fresh_suits : (n : ℕ) (name : N) → Suits n name fresh
  fresh_suits n name = (zero-le, λ m e. absurd (none-some m e))

  pub known_suits : (n : ℕ) (name : N) → Suits n name (known n name)
  known_suits n name = (le_refl n, λ m e. sym (same_Some name m e))

  -- a change of one view
  set_keeps : (n : ℕ) (name : N) (views : List (View N)) (seat : ℕ) (v : View N) → EachSuits n name views → Suits n name v → EachSuits n name (set views seat v)
  set_keeps n name views seat v all good j u e = ⊎_elim (λ t. subst (Suits n name) t.1 good) (λ t. all j u t.1) (at_set views seat j v u e)

  -- a new seat
  more_keeps : (n : ℕ) (name : N) (views : List (View N)) (v : View N) → EachSuits n name views → Suits n name v → EachSuits n name (views ++ v ∷ [])
  more_keeps n name views v all good j u e = ⊎_elim (all j u) (λ t. subst (Suits n name) t good) (at_snoc views v u j e)

  -- a later number
  up_keeps : (n m : ℕ) (name name' : N) (views : List (View N)) → n ≤ m → name' ≡ name → EachSuits n name views → EachSuits m name' views
  up_keeps n m name name' views up same all seat v at = let s = all seat v at in (le_trans s.0 up, λ k e. s.1 k e ∙ sym same)

  pub admits : (n : ℕ) (name : N) (views : List (View N)) → EachSuits n name views → EachSuits n name (views ++ fresh ∷ [])
  admits n name views all = more_keeps n name views fresh all (fresh_suits n name)

  -- a look, and a publish
  pub sees : (n m : ℕ) (name name' : N) (views : List (View N)) (seat : ℕ) (v : View N) → n ≤ m → name' ≡ name → EachSuits n name views → get_elem? views seat ≡ some v →
      (w : View N) × EachSuits m name' (set views seat w) × Sees n name m name' v w
  sees n m name name' views seat v up same all at = (
    known m name',
    set_keeps m name' views seat (known m name') (up_keeps n m name name' views up same all) (known_suits m name'),
    (all seat v at, refl),
  )

  -- a tell
  pub forks : (n : ℕ) (name : N) (views : List (View N)) (seat : ℕ) (v : View N) → EachSuits n name views → get_elem? views seat ≡ some v → EachSuits n name (set views seat v ++ v ∷ [])
  forks n name views seat v all at = more_keeps n name (set views seat v) v (set_keeps n name views seat v all (all seat v at)) (all seat v at)

  later_name_suits : (n : ℕ) (name : N) (own told : Option N) → ((k : N) → own ≡ Some k → k ≡ name) → ((k : N) → told ≡ Some k → k ≡ name) → (k : N) → later_name own told ≡ Some k → k ≡ name
  later_name_suits n name own None s t = s
  later_name_suits n name own (Some y) s t = t

  later_suits : (n : ℕ) (name : N) (v w : View N) → Suits n name v → Suits n name w → Suits n name (later v w)
  later_suits n name v w s t = (omega (s.0, t.0, arith), later_name_suits n name v.name w.name s.1 t.1)

  -- a learn
  pub merges : (n : ℕ) (name : N) (views : List (View N)) (seat : ℕ) (v : View N) (other : ℕ) (w : View N) → EachSuits n name views → get_elem? views seat ≡ some v → ¬ (other ≡ seat) →
      get_elem? (set views seat (later v w)) other ≡ some w → EachSuits n name (set (set views seat (later v w)) other fresh)
  merges n name views seat v other w all at apart there =
      let there' : Suits n name w = ⊎_elim (λ t. absurd (apart t.0)) (λ t. all other w t.1) (at_set views seat other (later v w) w there) in
      set_keeps n name (set views seat (later v w)) other fresh (set_keeps n name views seat (later v w) all (later_suits n name v w (all seat v at) there')) (fresh_suits n name)
