-- The bytes that aren't blanks, from a place on.
use Rattle.std.proofs.Common.{◌≡◌, ℕ, ◌+◌, ◌<◌, ◌≤◌, List, [], ◌∷◌, ◌++◌, true, false, length, get_or, drop, refl, ◌∙◌, append_assoc, append-nil}
use Rattle.std.proofs.lemmas.List.{at_drop_more, at_drop_all}
use Rattle.text_lines.specs.Lines.{is_text_blank, solid}

pub solid-blank : (kept bytes : List ℕ) (i : ℕ) → i < length bytes → is_text_blank (get_or bytes i 0) ≡ true → kept ++ solid (drop (i + 1) bytes) ≡ kept ++ solid (drop i bytes)
solid-blank kept bytes i lt blank = let here : solid (drop i bytes) ≡ solid (drop (i + 1) bytes) = at_drop_more solid bytes i 0 lt ∙ rw blank refl in rw here refl

pub solid-byte : (kept bytes : List ℕ) (i : ℕ) → i < length bytes → is_text_blank (get_or bytes i 0) ≡ false → kept ++ (get_or bytes i 0 ∷ []) ++ solid (drop (i + 1) bytes) ≡ kept ++ solid (drop i bytes)
solid-byte kept bytes i lt byte =
    let here : solid (drop i bytes) ≡ get_or bytes i 0 ∷ solid (drop (i + 1) bytes) = at_drop_more solid bytes i 0 lt ∙ rw byte refl in
    rw here (append_assoc kept (get_or bytes i 0 ∷ []) (solid (drop (i + 1) bytes)))

pub solid-end : (kept bytes : List ℕ) (i : ℕ) → length bytes ≤ i → kept ++ solid (drop i bytes) ≡ kept
solid-end kept bytes i le = let none : solid (drop i bytes) ≡ [] = at_drop_all solid bytes i le in rw none (append-nil kept)

pub ruleset steps = (solid-blank, solid-byte, solid-end)
