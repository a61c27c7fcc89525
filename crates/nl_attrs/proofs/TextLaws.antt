-- The text of a payload is one.
use Rattle.std.proofs.Common.{◌≡◌, ℕ, List, [], ◌∷◌, ◌++◌, length, get_or, refl, sym, ap, ◌∙◌, inl, inr, arith}
use Rattle.std.proofs.lemmas.List.{append_cancel_right, length-append}
use Rattle.nl_attrs.specs.Payloads.{IsZeroFree, Tells}
use Rattle.nl_attrs.specs.inner.Texts.{DropsZero}

-- a text ends in no zero byte
no_zero_end : (text front : List ℕ) → IsZeroFree text → text ≡ front ++ 0 ∷ [] → ⊥
no_zero_end text front is e =
    is (length front) 1 (omega (arith, ap length e, length-append front (0 ∷ []))) (ap (λ (x : List ℕ). get_or x (length front) 1) e ∙ last_of front)
  where
    last_of : (front : List ℕ) → get_or (front ++ 0 ∷ []) (length front) 1 ≡ 0
    last_of [] = refl
    last_of (x ∷ front) = last_of front

-- what is left without a zero byte at the end is the text
pub one_text : (payload rest text : List ℕ) → DropsZero payload rest → Tells payload text → rest ≡ text
one_text payload rest text drops tells =
    elim drops [
      | inl zero ↦
          elim tells.1 [
            | inl other ↦ append_cancel_right rest text (0 ∷ []) (sym zero ∙ other)
            | inr bare ↦ absurd (no_zero_end text rest tells.0 (sym bare ∙ zero))
          ]
      | inr none ↦
          elim tells.1 [
            | inl other ↦ absurd (none.0 text other)
            | inr bare ↦ none.1 ∙ bare
          ]
    ]

-- what is left tells the payload's text, where it is one
pub tells : (payload rest : List ℕ) → DropsZero payload rest → IsZeroFree rest → Tells payload rest
tells payload rest drops is =
    elim drops [
      | inl zero ↦ (is, inl zero)
      | inr none ↦ (is, inr (sym none.1))
    ]
