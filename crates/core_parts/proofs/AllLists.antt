-- The lists that a hint may change, by what is kept and by the journal.
use Rattle.std.proofs.Common.{◌≡◌, ℕ, suc, ◌+◌, ◌<◌, Bool, true, false, List, [], ◌∷◌, length, get_or, map, filter, Option, Some, None, IsSome, is_some, if◌then◌else◌, arith, refl, sym, subst, ap, ◌∙◌, add-zero, zero-add}
use Rattle.std.proofs.lemmas.List.{length-append}
use Rattle.std.proofs.lemmas.List.Elements.{filter_map-append}
use Rattle.std.specs.List.{cons_option, filter_map, find}
use Rattle.rule_tables.specs.declared.code.Alpha2.{Alpha2}
use Rattle.rule_tables.specs.declared.domain.Domain.{Domain}
use Rattle.rule_tables.specs.World.{world}
use Rattle.rule_tables.specs.Code.{is_same_code}
use Rattle.reg_hints.specs.Table.{State, Treated, after_hint, as_last, hinted_code, is_drivers, left_by, no_hints, treatment}
use Rattle.reg_hints.specs.declared.hint.Hint.{Hint}
use Rattle.reg_hints.specs.declared.hint.Treatment.{Treatment}
use Rattle.reg_hints.specs.declared.hint.Treatment.TheVariants.{Replace, Intersect, Already, Ignore}
use Rattle.reg_journal.specs.Applicable.{applies, find_domain, hints_of, or_world}
use Rattle.reg_journal.specs.Facts.{Journal, hinted}
use Rattle.reg_journal.specs.Present.{profile_of, radios_of}
use Rattle.core_parts.specs.Hinting.{lists_after}
use Rattle.core_parts.specs.Kept.{KeepsRadios, KeepsPlace}
use Rattle.reg_books.specs.Lists.{global_by}
use Rattle.reg_books.specs.Slots.{numbers}
use Rattle.core_parts.specs.declared.radio.RadioPlace.{RadioPlace}
use Rattle.core_parts.specs.declared.radio.RadioPlace.TheVariants.{Free, Removed, There}
use Rattle.core_parts.proofs.KeptOn.{applies-after}
use Rattle.reg_books.proofs.Newcomers.{profile_of-unused}

-- ---- the lists of the radios

there_from : (db : List Domain) (J : Journal) (hint : Hint) (led : State) → hints_of (hinted (Treated hint) ∷ J) ≡ led → (places : List RadioPlace) (r : ℕ)
    → ((k : ℕ) → k < length places → KeepsPlace db J (r + k) (get_or places k Free))
    → lists_after db led hint r places ≡ map (applies db (hinted (Treated hint) ∷ J)) (filter (λ q. is_some (profile_of J q)) (numbers r (length places)))
there_from db J hint led is [] r kept = refl
there_from db J hint led is (place ∷ places) r kept =
    at_place place (subst (λ n. KeepsPlace db J n place) (add-zero r) (kept 0 (omega arith)))
    (there_from db J hint led is places (r + 1) (λ k below. subst (λ n. KeepsPlace db J n (get_or places k Free)) (moved k) (kept (suc k) (omega (arith, below)))))
  where
    moved : (k : ℕ) → r + suc k ≡ r + 1 + k
    moved k = omega arith

    at_place : (place : RadioPlace) → KeepsPlace db J r place
        → lists_after db led hint (r + 1) places ≡ map (applies db (hinted (Treated hint) ∷ J)) (filter (λ q. is_some (profile_of J q)) (numbers (r + 1) (length places)))
        → lists_after db led hint r (place ∷ places)
        ≡ map (applies db (hinted (Treated hint) ∷ J)) (filter (λ q. is_some (profile_of J q)) (r ∷ numbers (r + 1) (length places)))
    at_place Free keeps rest = rw (profile_of-unused J r keeps) rest
    at_place Removed keeps rest = rw keeps.1 rest
    at_place (There radio) keeps rest = rw keeps.1.profile (both (sym (applies-after db J r radio hint led keeps.1 is)) rest)
      where
        both : {x y : List Domain} {xs ys : List (List Domain)} → x ≡ y → xs ≡ ys → x ∷ xs ≡ y ∷ ys
        both {x} {y} {xs} {ys} p q = cc

pub lists_of_radios : (db : List Domain) (J : Journal) (hint : Hint) (led : State) (places : List RadioPlace) → length places ≡ 8 → KeepsRadios db J places
    → hints_of (hinted (Treated hint) ∷ J) ≡ led
    → lists_after db led hint 0 places ≡ map (applies db (hinted (Treated hint) ∷ J)) (radios_of J)
lists_of_radios db J hint led places eight kept is =
    there_from db J hint led is places 0 (λ k below. subst (λ n. KeepsPlace db J n (get_or places k Free)) (sym (zero-add k)) (kept k (omega (arith, below, eight))))
    ∙ ap (λ n. map (applies db (hinted (Treated hint) ∷ J)) (filter (λ q. is_some (profile_of J q)) (numbers 0 n))) eight

-- ---- the global list

some_found : (db : List Domain) (a : Alpha2) (codes : List Alpha2) → IsSome (find_domain db a) → 0 < length (filter_map (find_domain db) (a ∷ codes))
some_found db a codes known = by_found (find_domain db a) known
  where
    by_found : (found : Option Domain) → IsSome found → 0 < length (cons_option found (filter_map (find_domain db) codes))
    by_found None known = absurd cc
    by_found (Some d) known = omega arith

-- a global list that has a domain has one after a hint for a code that has one
pub global_by-after : (db : List Domain) (s : State) (h : Hint) → IsSome (find_domain db (hinted_code h)) → 0 < length (global_by db s) → 0 < length (global_by db (after_hint h s))
global_by-after db s h known some = by_treatment (treatment s h)
  where
    by_driver : (drivers : Bool) → 0 < length (global_by db (if drivers then (record { last = as_last h false; global = s.global }) else s))
    by_driver true = some
    by_driver false = some

    by_treatment : (t : Treatment) → 0 < length (global_by db (left_by t h s))
    by_treatment Replace = some_found db (hinted_code h) [] known
    by_treatment Intersect =
        let same = ap length (filter_map-append (find_domain db) s.global (hinted_code h ∷ [])) ∙ length-append (global_by db s) (filter_map (find_domain db) (hinted_code h ∷ [])) in
        omega (arith, same, some)
    by_treatment Already = by_driver (is_drivers h)
    by_treatment Ignore = some

pub global_by-initial : (db : List Domain) → 0 < length (global_by db no_hints)
global_by-initial db = by_world (find (λ d. is_same_code d.alpha2 world) db)
  where
    by_world : (found : Option Domain) → 0 < length (cons_option (or_world world found) [])
    by_world None = omega arith
    by_world (Some d) = omega arith
