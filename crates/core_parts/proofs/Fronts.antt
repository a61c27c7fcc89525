-- Lists of domains that go on.
use Rattle.std.proofs.Common.{◌≡◌, ◌+◌, ◌<◌, ℕ, slice_get, List, [], ◌∷◌, ◌++◌, length, take, drop, Option, Some, None, Result, Ok, Err, arith, refl, sym, subst, ap, ◌∙◌}
use Rattle.std.proofs.lemmas.List.{length-append, take-append-drop, take-append-le}
use Rattle.std.proofs.lemmas.List.Elements.{filter_map-append}
use Rattle.std.specs.List.{cons_option, filter_map}
use Rattle.std.specs.Option.{option_to_list}
use Rattle.std.specs.Result.{IsErrAnd}
use Rattle.rule_tables.specs.declared.code.Alpha2.{Alpha2}
use Rattle.rule_tables.specs.declared.domain.Domain.{Domain}
use Rattle.rule_intersect.specs.Tables.{HasRows, HasFewRows, Joined, IsTooMany}
use Rattle.rule_intersect.specs.declared.fault.ResolveFault.{ResolveFault}
use Rattle.rule_intersect.specs.declared.fault.ResolveFault.TheVariants.{TooManyRows, OutOfMemory}
use Rattle.core_parts.proofs.Taken.{take_got, take_to_end}
use Rattle.core_parts.specs.Making.{IsMade, IsMadeFault, IsMadeSoFar}
use Rattle.reg_journal.specs.Applicable.{or_nothing}

-- a front with too many rows is the whole list's too
pub IsTooMany-front : (xs ys : List Domain) (after n : ℕ) → IsTooMany xs after n → IsTooMany (xs ++ ys) after n
IsTooMany-front xs ys after n fault =
    let len = length-append xs ys in
    let within = fault.within in
    record {
      some = fault.some;
      within = omega (arith, len, within);
      has = subst (λ ds. HasRows ds n) (sym (take-append-le after xs ys within)) fault.has;
      too_many = fault.too_many;
      few_before = λ m above below. subst HasFewRows (sym (take-append-le m xs ys (omega (arith, within)))) (fault.few_before m above below);
    }

pub IsMadeFault-front : (xs ys : List Domain) (fault : ResolveFault) → IsMadeFault xs fault → IsMadeFault (xs ++ ys) fault
IsMadeFault-front xs ys (TooManyRows after n) is = IsTooMany-front xs ys after n is
IsMadeFault-front xs ys OutOfMemory is = tt

pub IsMadeFault-or_nothing : (ds : List Domain) (fault : ResolveFault) → IsMadeFault ds fault → IsMadeFault (or_nothing ds) fault
IsMadeFault-or_nothing [] (TooManyRows after n) is = let some = is.some in let within = is.within in absurd (omega (arith, some, within))
IsMadeFault-or_nothing [] OutOfMemory is = tt
IsMadeFault-or_nothing (d ∷ ds) fault is = is

-- ---- faults that are handed on

pub handed_on : (ds : List Domain) (r : Result Joined ResolveFault) (fault : ResolveFault) → IsErrAnd r (λ e. e ≡ fault) → IsMadeFault ds fault → IsMade ds r
handed_on ds (Ok table) fault is made = absurd is
handed_on ds (Err e) fault is made = subst (IsMadeFault ds) (sym is) made

pub handed_on_so_far : (ds : List Domain) (r : Result (Option Joined) ResolveFault) (fault : ResolveFault) → IsErrAnd r (λ e. e ≡ fault) → IsMadeFault ds fault
    → IsMadeSoFar ds r
handed_on_so_far ds (Ok table) fault is made = absurd is
handed_on_so_far ds (Err e) fault is made = subst (IsMadeFault ds) (sym is) made

pub handed_on_or_nothing : (ds : List Domain) (r : Result Joined ResolveFault) (fault : ResolveFault) → IsErrAnd r (λ e. e ≡ fault) → IsMadeFault ds fault
    → IsMade (or_nothing ds) r
handed_on_or_nothing ds r fault is made = handed_on (or_nothing ds) r fault is (IsMadeFault-or_nothing ds fault made)

pub made_of_some : (ds : List Domain) (r : Result Joined ResolveFault) → 0 < length ds → IsMade (or_nothing ds) r → IsMade ds r
made_of_some [] r some made = absurd (omega (arith, some))
made_of_some (d ∷ ds) r some made = made

-- ---- codes, one after the other

one_more : {X Y : Type 0} (f : X → Option Y) (x : X) → filter_map f (x ∷ []) ≡ option_to_list (f x)
one_more f x = elim (f x) as (λ o. cons_option o [] ≡ option_to_list o) [ None ↦ refl | Some y ↦ refl ]

pub codes_more : {X Y : Type 0} (f : X → Option Y) (xs : List X) (k : ℕ) (x : X) → slice_get xs k ≡ Some x
    → filter_map f (take k xs) ++ option_to_list (f x) ≡ filter_map f (take (k + 1) xs)
codes_more f xs k x here =
    ap (λ ys. filter_map f (take k xs) ++ ys) (sym (one_more f x)) ∙ sym (filter_map-append f (take k xs) (x ∷ [])) ∙ ap (filter_map f) (sym (take_got xs k x here))

pub codes_all : {X Y : Type 0} (f : X → Option Y) (xs : List X) (k : ℕ) → slice_get xs k ≡ None → filter_map f (take k xs) ≡ filter_map f xs
codes_all f xs k past = ap (filter_map f) (take_to_end xs k past)

pub codes_fault : (f : Alpha2 → Option Domain) (codes : List Alpha2) (k : ℕ) (code : Alpha2) (fault : ResolveFault) → slice_get codes k ≡ Some code
    → IsMadeFault (filter_map f (take k codes) ++ option_to_list (f code)) fault → IsMadeFault (filter_map f codes) fault
codes_fault f codes k code fault here is =
    let front = subst (λ ds. IsMadeFault ds fault) (codes_more f codes k code here) is in
    subst (λ ds. IsMadeFault ds fault) (sym (filter_map-append f (take (k + 1) codes) (drop (k + 1) codes)) ∙ ap (filter_map f) (take-append-drop (k + 1) codes))
    (IsMadeFault-front (filter_map f (take (k + 1) codes)) (filter_map f (drop (k + 1) codes)) fault front)
