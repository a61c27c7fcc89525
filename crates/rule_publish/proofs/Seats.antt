-- What a seat knows of the value that its reader keeps.
use Rattle.std.proofs.Common.{◌≡◌, ℕ, ◌≤◌, max, List, set, Some, sym, ◌∙◌, subst, ap, le_trans, arith}
use mathlib.Core.Option.{some}
use Rattle.std.proofs.Math.Logic.{∥∥₁_elim, ∥∥₁_map}
use Rattle.std.proofs.Math.Logic.{∥∥₁_elim, ∥∥₁_map}
use lib.ListN.{get_elem?}
use Rattle.std.specs.Coded.{Coded, Coded-set, le_prop}
use Rattle.rule_publish.specs.declared.rule.View.{View}
use Rattle.rule_publish.specs.inner.Views.{known, Suits, EachSuits, Sees, later, ViewRose}
use Rattle.rule_publish.proofs.Steps.{sees}

module _ {N : Type 0} where
  -- what is shown to a seat that knows a name has that name
  pub same_name : (code : Coded N) (name name' : N) (m : ℕ) (v : View N) → ∥ v.name ≡ Some name ∥₁ → Suits m name' v → name' ≡ name
  same_name code name name' m v named suits = ∥∥₁_elim named (Coded-set code name' name) (λ e. sym (suits.1 name e))

  -- a seat whose number rose and whose name stayed knows the kept value still
  pub risen : (n : ℕ) (name : N) (v w : View N) → n ≤ v.number → ∥ v.name ≡ Some name ∥₁ → ViewRose v w → (n ≤ w.number) × ∥ w.name ≡ Some name ∥₁
  risen n name v w low named rose = (le_trans low rose.0, ∥∥₁_map named (λ e. rose.1 name e))

module _ {V N : Type 0} (number : V → ℕ) (name : V → N) where
  -- a publish of the last value
  pub turns : (shown last next : V) (views : List (View N)) (seat : ℕ) (v : View N) → number shown ≤ number last → name last ≡ name shown → next ≡ last → EachSuits (number shown) (name shown) views →
      get_elem? views seat ≡ some v → (w : View N) × EachSuits (number next) (name next) (set views seat w) × Sees (number shown) (name shown) (number next) (name next) v w
  turns shown last next views seat v up same is keeps at =
      sees (number shown) (number next) (name shown) (name next) views seat v (subst (λ x. number shown ≤ number x) (sym is) up) (ap name is ∙ same) keeps at

  -- a seat that learns from a note knows the note's value
  pub learnt : (kept shown : V) (own note view after : View N) → kept ≡ shown → note ≡ view → ∥ view ≡ known (number shown) (name shown) ∥₁ → after ≡ later own note →
      (number kept ≤ after.number) × ∥ after.name ≡ Some (name kept) ∥₁
  learnt kept shown own note view after same told knows is =
      let after_is : view ≡ known (number shown) (name shown) → after ≡ later own (known (number shown) (name shown)) = λ e. is ∙ ap (later own) (told ∙ e) in
      let low : number shown ≤ max own.number (number shown) = omega arith in (
        ∥∥₁_elim knows le_prop (λ e. subst (λ u. number kept ≤ u.number) (sym (after_is e)) (subst (λ x. number x ≤ max own.number (number shown)) (sym same) low)),
        ∥∥₁_map knows (λ e. subst (λ u. u.name ≡ Some (name kept)) (sym (after_is e)) (ap (λ x. Some (name x)) (sym same))),
      )
