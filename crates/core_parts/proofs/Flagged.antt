-- A hint that changes the regions of radios.
use Rattle.std.proofs.Common.{◌≡◌, ℕ, ◌<◌, ◌+◌, Bool, false, List, length, get_or, arith, sym, subst, ◌∙◌, inl, inr}
use Rattle.std.proofs.Math.ListN.{set}
use Rattle.std.proofs.lemmas.Bool.{cases_eq}
use Rattle.std.proofs.lemmas.List.{get_or-set_other, get_or-set_same}

pub flags_more : (flags : List Bool) (at : ℕ → Bool) (n : ℕ) (b : Bool) → n < length flags → ((r : ℕ) → r < n → get_or flags r false ≡ at r) → b ≡ at n
    → (r : ℕ) → r < n + 1 → get_or (set flags n b) r false ≡ at r
flags_more flags at n b within so_far is r below = elim (cases_eq r n) [
  | inl same ↦ subst (λ k. get_or (set flags n b) k false ≡ at k) (sym same) (get_or-set_same flags n b false within ∙ is)
  | inr other ↦ get_or-set_other flags n r b false other ∙ so_far r (omega (arith, below, other))
]
