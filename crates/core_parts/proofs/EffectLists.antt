-- Lists of what comes to interfaces, each at most once.
use Rattle.std.proofs.Common.{◌≡◌, ℕ, ◌+◌, ◌<◌, ◌≤◌, List, [], ◌∷◌, ◌++◌, length, take, get_or, Option, Some, None, arith, refl, sym, ap, ◌∙◌}
use Rattle.std.specs.List.{cons_option, filter_map}
use Rattle.std.specs.Option.{option_to_list}
use Rattle.std.proofs.lemmas.List.{length-append, take_more}
use Rattle.std.proofs.lemmas.List.Elements.{filter_map-append}
use Rattle.reg_journal.specs.declared.effects.Effect.{Effect}
use Rattle.core_parts.specs.Changes.{effect_in}
use Rattle.core_parts.specs.declared.change.Change.{Change}

option_short : (o : Option Effect) → length (option_to_list o) ≤ 1
option_short None = omega arith
option_short (Some e) = omega arith

option_alone : (o : Option Effect) → cons_option o [] ≡ option_to_list o
option_alone None = refl
option_alone (Some e) = refl

pub effects_more : (changes : List Change) (i : ℕ) (c : Change) (effects new : List Effect) → i < length changes → c ≡ get_or changes i c → effects ≡ filter_map effect_in (take i changes)
    → length effects ≤ i → new ≡ effects ++ option_to_list (effect_in c) → (length new ≤ i + 1) × (new ≡ filter_map effect_in (take (i + 1) changes))
effects_more changes i c effects new within at are few more =
    let len = ap (λ (es : List Effect). length es) more ∙ length-append effects (option_to_list (effect_in c)) in
    let short = option_short (effect_in c) in (
      omega (arith, len, short, few),
      more ∙ ap (λ es. es ++ option_to_list (effect_in c)) are ∙ ap (λ es. filter_map effect_in (take i changes) ++ es) (sym (option_alone (effect_in c)))
          ∙ sym (filter_map-append effect_in (take i changes) (c ∷ [])) ∙ ap (filter_map effect_in) (ap (λ d. take i changes ++ d ∷ []) at ∙ sym (take_more changes i c within)),
    )
