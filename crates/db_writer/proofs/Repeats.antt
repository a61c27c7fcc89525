-- Of rules without repeats nothing is dropped.
use Rattle.std.proofs.Common.{List, [], ◌∷◌, ◌++◌, length, Contains, reverse, sym, ◌∙◌, refl, subst, inr, arith}
use Rattle.std.proofs.lemmas.List.{reverse-append, reverse-reverse, get_or_append_left, get_or_push, length-append, length_push}
use Rattle.freq_range.proofs.Members.{Contains-reverse}
use Rattle.freq_range.specs.declared.rule.Rule.{Rule}
use Rattle.rule_tables.specs.Domains.{AreDistinct}
use Rattle.rule_tables.specs.FileFormat.{DropsRepeats}

-- what stands in front of a list without repeats has none
front_distinct : (rs ss : List Rule) → AreDistinct (rs ++ ss) → AreDistinct rs
front_distinct rs ss distinct i j d lt within =
    let len = length-append rs ss in
    rw (get_or_append_left rs ss d i (omega arith), get_or_append_left rs ss d j within) at (distinct i j d lt (omega (arith, len)))

-- the last rule of a list without repeats isn't among those before it
last_fresh : (rs : List Rule) (r : Rule) → AreDistinct (rs ++ r ∷ []) → Contains rs r → ⊥
last_fresh rs r distinct (k, within, is) =
    let len = length_push rs r in
    distinct k (length rs) r within (omega (arith, len)) (get_or_append_left rs (r ∷ []) r k within ∙ is ∙ sym (get_or_push rs r r (length rs) refl))

-- nothing is dropped of rules without repeats, which stand with the last one first
keeps_back : (earlier : List Rule) → AreDistinct (reverse earlier) → DropsRepeats earlier (reverse earlier)
keeps_back [] distinct = refl
keeps_back (r ∷ earlier) distinct =
    let turned = reverse-append (r ∷ []) earlier in
    let apart : AreDistinct (reverse earlier ++ r ∷ []) = rw turned at distinct in (
      reverse earlier,
      keeps_back earlier (front_distinct (reverse earlier) (r ∷ []) apart),
      inr (λ h. last_fresh (reverse earlier) r apart (Contains-reverse earlier r h), turned),
    )

-- nothing is dropped of rules without repeats
pub keeps_all : (rs : List Rule) → AreDistinct rs → DropsRepeats (reverse rs) rs
keeps_all rs distinct =
    let turned = reverse-reverse rs in
    subst (λ kept. DropsRepeats (reverse rs) kept) turned (keeps_back (reverse rs) (subst AreDistinct (sym turned) distinct))
