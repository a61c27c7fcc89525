-- The first rule with a check time is one, and there is none where no rule has one.
use Rattle.std.proofs.Common.{◌≡◌, ℕ, ◌<◌, List, [], ◌∷◌, length, get_or, inl, inr, sym, ◌∙◌, ap, subst, arith}
use Rattle.std.proofs.lemmas.Bool.{cases_order}
use Rattle.freq_range.specs.First.{IsFirst}
use Rattle.freq_range.specs.declared.rule.Rule.{Rule}
use Rattle.rule_tables.specs.declared.code.Alpha2.{Alpha2}
use Rattle.rule_tables.specs.declared.domain.Domain.{Domain}
use Rattle.freq_range.proofs.Firsts.{IsFirst-unique}
use Rattle.db_text.specs.Printed.{HasTimeAt, IsFirstTime, LacksTimes, LackTimes}
use Rattle.db_commands.specs.declared.status.InputFault.TheVariants.{CacTime}

-- rules without check times have none at a place
lacks_none : (rules : List Rule) (k : ℕ) → LacksTimes rules → HasTimeAt rules k → ⊥
lacks_none [] k lacks (within, above) = absurd (omega (arith, within))
lacks_none (r ∷ rs) k lacks (within, above) =
    let zero = lacks k r within in
    let some = above r in
    omega (arith, zero, some)

-- some domain of a list, to stand for the places past its end
first_of_list : (ds : List Domain) (n : ℕ) → n < length ds → Domain
first_of_list [] n within = absurd (omega (arith, within))
first_of_list (d ∷ ds) n within = d

pub LackTimes-none : (ds : List Domain) (country : Alpha2) (k : ℕ) → LackTimes ds → IsFirstTime ds country k → ⊥
LackTimes-none ds country k lack first =
    let d = first_of_list ds first.place first.in_range in
    lacks_none (get_or ds first.place d).rules k (lack first.place d first.in_range) (first.rule d).here

-- no country before that of the one is that of the other
not_before : (ds : List Domain) (c e : Alpha2) (j k : ℕ) (one : IsFirstTime ds c j) (other : IsFirstTime ds e k) → one.place < other.place → ⊥
not_before ds c e j k one other before =
    let d = first_of_list ds one.place one.in_range in
    lacks_none (get_or ds one.place d).rules j (other.none_before one.place d before) (one.rule d).here

same_place : (ds : List Domain) (c e : Alpha2) (j k : ℕ) (one : IsFirstTime ds c j) (other : IsFirstTime ds e k) → one.place ≡ other.place
same_place ds c e j k one other =
    let low = not_before ds c e j k one other in
    let high = not_before ds e c k j other one in
    elim (cases_order one.place other.place) [ inl same ↦ same | inr rest ↦ elim rest [ inl less ↦ absurd (low less) | inr more ↦ absurd (high more) ] ]

pub IsFirstTime-unique : (ds : List Domain) (c e : Alpha2) (j k : ℕ) → IsFirstTime ds c j → IsFirstTime ds e k → CacTime c j ≡ CacTime e k
IsFirstTime-unique ds c e j k one other =
    let d = first_of_list ds one.place one.in_range in
    let same = same_place ds c e j k one other in
    let code : c ≡ e = sym (one.code d) ∙ ap (λ n. (get_or ds n d).alpha2) same ∙ other.code d in
    let there : IsFirst (HasTimeAt (get_or ds one.place d).rules) k = subst (λ n. IsFirst (HasTimeAt (get_or ds n d).rules) k) (sym same) (other.rule d) in
    let rule : j ≡ k = IsFirst-unique _ j k (one.rule d) there in
    λ n. CacTime (code n) (rule n)
