-- The first line of a text is readable where it was taken.
use Rattle.std.proofs.Common.{◌≡◌, ℕ, List, [], ◌∷◌, ◌++◌, length, get_or, reverse, All, arith, rules, inl, inr}
use Rattle.std.proofs.lemmas.Bool.{cases_lt}
use Rattle.std.proofs.lemmas.List.Elements.{All-cons, All-contains, All-nil}
use Rattle.freq_range.proofs.Members.{Contains-head, Contains-reverse}
use Rattle.text_lines.specs.declared.fault.TextKind.TheVariants.{LineTooLong, NotUtf8}
use Rattle.text_lines.specs.Lines.{IsReadableLine, text_lines}
use Rattle.text_lines.proofs.KindPlaces.{told_utf8}
use Rattle.rule_text.specs.Faults.{AreAccepted, IsGoodLine}
use Rattle.rule_text.specs.Forms.{Form}
use Rattle.rule_text.specs.TextOf.{BeginsReadable}

good_readable : (above : List Form) (line : List ℕ) (form : Form) → IsGoodLine above line form → IsReadableLine line
good_readable above line form good = record {
  short = elim (cases_lt 4096 (length line)) [
    | inl long ↦ absurd (good.good LineTooLong long)
    | inr short ↦ short
  ];
  utf8 = elim (told_utf8 line) [
    | inl is ↦ is
    | inr broken ↦ absurd (good.good NotUtf8 broken)
  ];
}

accepted_readable : (lines : List (List ℕ)) (forms : List Form) → AreAccepted lines forms → All IsReadableLine lines
accepted_readable [] forms are = All-nil IsReadableLine
accepted_readable (line ∷ lines) [] are = absurd are
accepted_readable (line ∷ lines) (form ∷ above) are = All-cons IsReadableLine line lines (good_readable above line form are.1) (accepted_readable lines above are.0)

-- where the lines seen were accepted and the next is readable, the first of all is
pub begins_readable : (text : List ℕ) (seen : List (List ℕ)) (line : List ℕ) (rest : List (List ℕ)) (forms : List Form) → text_lines text ≡ seen ++ line ∷ rest
    → AreAccepted (reverse seen) forms → IsReadableLine line → BeginsReadable text
begins_readable text [] line rest forms lines are readable = rw lines readable
begins_readable text (first ∷ seen) line rest forms lines are readable =
    rw lines (All-contains IsReadableLine (reverse (first ∷ seen)) first (accepted_readable (reverse (first ∷ seen)) forms are) (Contains-reverse (first ∷ seen) first (Contains-head first seen)))

-- where all lines were accepted
pub all_readable : (text : List ℕ) (forms : List Form) → AreAccepted (reverse (text_lines text)) forms → BeginsReadable text
all_readable text forms are = by_lines (text_lines text) are
  where
    by_lines : (lines : List (List ℕ)) → AreAccepted (reverse lines) forms → IsReadableLine (get_or lines 0 [])
    by_lines [] are = record { short = omega arith; utf8 = search rules }
    by_lines (first ∷ rest) are =
        All-contains IsReadableLine (reverse (first ∷ rest)) first (accepted_readable (reverse (first ∷ rest)) forms are) (Contains-reverse (first ∷ rest) first (Contains-head first rest))
