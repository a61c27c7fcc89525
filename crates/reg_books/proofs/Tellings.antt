-- A driver that is told something, among the others.
use Rattle.std.proofs.Common.{◌≡◌, ◌<◌, ℕ, List, Option, None, length, get_or, map, set, sym, ap, subst, ◌∙◌}
use Rattle.std.proofs.lemmas.List.{get_or-map, get_or-set_same, length-map, map-set}
use Rattle.radio_drv.specs.Seen.{Seen}
use Rattle.reg_books.specs.DriverRows.{driver_at}
use Rattle.reg_books.specs.Told.{OneGoes}

-- where the radio's element changes and its driver goes so, no other driver hears of it
pub one_went : {X : Type 0} (f : X → Option Seen) (how : Option Seen → Option Seen → Type 0) (xs : List X) (r i : ℕ) (x x' : X) → i ≡ r → i < length xs → x ≡ get_or xs i x
    → how (f x) (f x') → OneGoes r how (map f xs) (map f (set xs i x'))
one_went f how xs r i x x' number within at went =
    let before : driver_at (map f xs) i ≡ f x = get_or-map f xs i x None within ∙ ap f (sym at) in
    let after : driver_at (map f (set xs i x')) i ≡ f x' = ap (λ ys. driver_at ys i) (map-set f xs i x') ∙ get_or-set_same (map f xs) i (f x') None (rw length-map within) in
    subst (λ n. OneGoes n how (map f xs) (map f (set xs i x'))) number (record {
      went = subst (λ o. how o (driver_at (map f (set xs i x')) i)) (sym before) (subst (λ o. how (f x) o) (sym after) went);
      rest = map-set f xs i x' ∙ ap (λ o. set (map f xs) i o) (sym after);
    })

-- where the radio's element becomes one that stands for no driver, its place is empty
pub one_dropped : {X : Type 0} (f : X → Option Seen) (xs : List X) (r i : ℕ) (x : X) → i ≡ r → f x ≡ None → map f (set xs i x) ≡ set (map f xs) r None
one_dropped f xs r i x number none = map-set f xs i x ∙ ap (λ o. set (map f xs) i o) none ∙ ap (λ n. set (map f xs) n None) number
