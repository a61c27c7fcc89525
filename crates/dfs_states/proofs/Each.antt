-- A loop that changes each element of a list.
use Rattle.std.proofs.Common.{◌≡◌, ℕ, ◌+◌, ◌≤◌, ◌<◌, List, ◌++◌, length, take, drop, set, get_or, arith, refl, sym, subst, ◌∙◌, inl, inr}
use Rattle.std.proofs.lemmas.Bool.{cases_eq}
use Rattle.std.proofs.lemmas.List.{length-set, take_at, get_or-set_same, get_or-set_other, get_or_default}
use Rattle.dfs_states.specs.inner.Steps.{EachFollows}

-- the elements below i were changed, and the others weren't
pub record FollowsBelow {X : Type 0} (Follows : X → X → Type 0) (i : ℕ) (old new : List X) : Type 0 where
  pub as_long : length new ≡ length old
  pub done : (k : ℕ) (d : X) → k < i → k < length old → Follows (get_or old k d) (get_or new k d)
  pub rest : (k : ℕ) (d : X) → i ≤ k → get_or new k d ≡ get_or old k d

pub follows_none : {X : Type 0} (Follows : X → X → Type 0) (xs : List X) → FollowsBelow Follows 0 xs xs
follows_none Follows xs = record { as_long = refl; done = λ k d below within. absurd (omega arith); rest = λ k d above. refl }

pub follows_more : {X : Type 0} (Follows : X → X → Type 0) (i : ℕ) (old new : List X) (e y : X) → i < length old → Follows (get_or new i e) y
    → FollowsBelow Follows i old new → FollowsBelow Follows (i + 1) old (set new i y)
follows_more {X} Follows i old new e y within follows below =
    let as_long = below.as_long in
    let within' : i < length new = omega arith in
    record {
      as_long = length-set new i y ∙ as_long;
      done = λ k d less in_old. elim (cases_eq k i) [
        | inl same ↦
            let here : get_or (set new i y) k d ≡ y = subst (λ j. get_or (set new i y) j d ≡ y) (sym same) (get_or-set_same new i y d within') in
            let was : get_or old k d ≡ get_or new i e =
            subst (λ j. get_or old j d ≡ get_or new i e) (sym same)
            (sym (below.rest i d (omega arith)) ∙ get_or_default new i d e within') in
            rw (here, was) follows
        | inr other ↦
            let same : get_or (set new i y) k d ≡ get_or new k d = get_or-set_other new i k y d other in
            rw same (below.done k d (omega arith) in_old)
      ];
      rest = λ k d above. get_or-set_other new i k y d (λ same. absurd (omega arith)) ∙ below.rest k d (omega arith);
    }

pub follows_all : {X : Type 0} (Follows : X → X → Type 0) (i : ℕ) (old new : List X) → length new ≤ i → FollowsBelow Follows i old new → EachFollows Follows old new
follows_all Follows i old new all below =
    let as_long = below.as_long in
    record { as_long = as_long; each = λ k d within. below.done k d (omega arith) within }

-- what a list of this length has where all of it was written again
pub follows_written : {X : Type 0} (Follows : X → X → Type 0) (len : ℕ) (old new : List X) → length old ≡ len → EachFollows Follows old new
    → EachFollows Follows old (take len (new ++ drop (length new) old))
follows_written Follows len old new whole follows =
    subst (EachFollows Follows old) (sym (take_at new (drop (length new) old) len (follows.as_long ∙ whole))) follows
