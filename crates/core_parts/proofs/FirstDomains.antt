-- The first domain of a list that applies, and what its table shows.
use Rattle.std.proofs.Common.{◌≡◌, ◌≢◌, ◌+◌, ℕ, List, [], ◌∷◌, ◌++◌, map, take, drop, slice_get, Option, Some, None, arith, refl, sym, ap, ◌∙◌}
use Rattle.std.proofs.lemmas.List.{take-append-drop}
use Rattle.std.proofs.lemmas.List.Elements.{filter_map-append}
use Rattle.std.proofs.lemmas.Option.{none-some}
use Rattle.std.specs.List.{filter_map}
use Rattle.std.specs.Option.{option_to_list}
use Rattle.rule_tables.specs.World.{custom_domain}
use Rattle.rule_tables.specs.declared.domain.Domain.{Domain}
use Rattle.rule_intersect.specs.Tables.{IsTableOf, Joined}
use Rattle.rule_intersect.specs.declared.row.Row.{Row}
use Rattle.reg_journal.specs.Applicable.{or_nothing}
use Rattle.reg_journal.specs.Dumps.{AreShown, code_of_list, row_as_is, row_shown}
use Rattle.rule_tables.specs.World.{joined_code}
use Rattle.core_parts.proofs.Fronts.{codes_more}

-- ---- the first that is found

no_more : {X Y : Type 0} (f : X → Option Y) (xs : List X) (k : ℕ) (x : X) (o : Option Y) → filter_map f (take k xs) ≡ [] → slice_get xs k ≡ Some x → f x ≡ o
    → filter_map f (take (k + 1) xs) ≡ option_to_list o
no_more f xs k x o none here is = sym (codes_more f xs k x here) ∙ ap (λ ys. ys ++ option_to_list (f x)) none ∙ ap option_to_list is

-- none so far
pub none_more : {X Y : Type 0} (f : X → Option Y) (xs : List X) (k : ℕ) (x : X) → filter_map f (take k xs) ≡ [] → slice_get xs k ≡ Some x → f x ≡ None
    → filter_map f (take (k + 1) xs) ≡ []
none_more f xs k x none here is = no_more f xs k x None none here is

pub first_found : {X Y : Type 0} (f : X → Option Y) (xs : List X) (k : ℕ) (x : X) (y : Y) → filter_map f (take k xs) ≡ [] → slice_get xs k ≡ Some x → f x ≡ Some y
    → slice_get (filter_map f xs) 0 ≡ Some y
first_found f xs k x y none here is = ap (λ ys. slice_get ys 0) all
  where
    all : filter_map f xs ≡ y ∷ filter_map f (drop (k + 1) xs)
    all = sym (ap (filter_map f) (take-append-drop (k + 1) xs)) ∙ filter_map-append f (take (k + 1) xs) (drop (k + 1) xs)
        ∙ ap (λ ys. ys ++ filter_map f (drop (k + 1) xs)) (no_more f xs k x (Some y) none here is)

-- ---- the first of several lists

pub first_of_front : (xs ys : List Domain) (d : Domain) → Some d ≡ slice_get xs 0 → slice_get (or_nothing (xs ++ ys)) 0 ≡ Some d
first_of_front [] ys d is = absurd (none-some d (sym is))
first_of_front (x ∷ xs) ys d is = sym is

pub first_of_custom : (shared : List Domain) (custom : Option Domain) (ys : List Domain) (d : Domain) → None ≡ slice_get shared 0 → Some d ≡ custom
    → slice_get (or_nothing (shared ++ option_to_list custom ++ ys)) 0 ≡ Some d
first_of_custom (x ∷ shared) custom ys d none is = absurd (none-some x none)
first_of_custom [] None ys d none is = absurd (none-some d (sym is))
first_of_custom [] (Some e) ys d none is = sym is

pub first_of_driver : (shared : List Domain) (custom driver : Option Domain) (d : Domain) → None ≡ slice_get shared 0 → None ≡ custom → Some d ≡ driver
    → slice_get (or_nothing (shared ++ option_to_list custom ++ option_to_list driver)) 0 ≡ Some d
first_of_driver (x ∷ shared) custom driver d none no_custom is = absurd (none-some x none)
first_of_driver [] (Some e) driver d none no_custom is = absurd (none-some e no_custom)
first_of_driver [] None None d none no_custom is = absurd (none-some d (sym is))
first_of_driver [] None (Some e) d none no_custom is = sym is

pub first_of_nothing : (shared : List Domain) (custom driver : Option Domain) (d : Domain) → None ≡ slice_get shared 0 → None ≡ custom → None ≡ driver → d ≡ custom_domain []
    → slice_get (or_nothing (shared ++ option_to_list custom ++ option_to_list driver)) 0 ≡ Some d
first_of_nothing (x ∷ shared) custom driver d none no_custom no_driver is = absurd (none-some x none)
first_of_nothing [] (Some e) driver d none no_custom no_driver is = absurd (none-some e no_custom)
first_of_nothing [] None (Some e) d none no_custom no_driver is = absurd (none-some e no_driver)
first_of_nothing [] None None d none no_custom no_driver is = ap Some (sym is)

-- ---- what the table of a list shows

same_first : (d e : Domain) → Some d ≡ Some e → d ≡ e
same_first d e is = cc

pub shown_alone : (ds : List Domain) (table : Joined) (first : Domain) (rows : List Row) → IsTableOf ds table → slice_get ds 0 ≡ Some first → table.domains ≡ 1
    → rows ≡ map row_as_is first.rules → AreShown ds rows
shown_alone [] table first rows is here one rows_are = absurd (let some = is.some in omega (arith, some))
shown_alone (d ∷ []) table first rows is here one rows_are = rows_are ∙ ap (λ (d : Domain). map row_as_is d.rules) (sym (same_first d first here))
shown_alone (d ∷ e ∷ ds) table first rows is here one rows_are = absurd (let all = is.domains in omega (arith, all, one))

pub shown_joined : (ds : List Domain) (table : Joined) (rows : List Row) → IsTableOf ds table → table.domains ≢ 1 → rows ≡ map row_shown table.rows → AreShown ds rows
shown_joined [] table rows is several rows_are = absurd (let some = is.some in omega (arith, some))
shown_joined (d ∷ []) table rows is several rows_are = absurd (several is.domains)
shown_joined (d ∷ e ∷ ds) table rows is several rows_are = (table.rows, is.rows, rows_are)

pub code_alone : (ds : List Domain) (table : Joined) (first : Domain) → IsTableOf ds table → slice_get ds 0 ≡ Some first → table.domains ≡ 1 → first.alpha2 ≡ code_of_list ds
code_alone [] table first is here one = absurd (let some = is.some in omega (arith, some))
code_alone (d ∷ []) table first is here one = ap (λ (d : Domain). d.alpha2) (sym (same_first d first here))
code_alone (d ∷ e ∷ ds) table first is here one = absurd (let all = is.domains in omega (arith, all, one))

pub code_joined : (ds : List Domain) (table : Joined) → IsTableOf ds table → table.domains ≢ 1 → joined_code ≡ code_of_list ds
code_joined [] table is several = absurd (let some = is.some in omega (arith, some))
code_joined (d ∷ []) table is several = absurd (several is.domains)
code_joined (d ∷ e ∷ ds) table is several = refl
