-- How drivers go on from step to step.
use Rattle.std.proofs.Common.{◌≡◌, ℕ, zero, suc, cond, ◌+◌, ◌-◌, ◌^◌, ◌<◌, ◌≤◌, ◌==◌, min, Bool, true, false, List, [], ◌∷◌, ◌++◌, length-append, map, All, Option, Some, None, IsSomeAnd, IsTrue, refl, sym, ap, subst, ◌∙◌, arith}
use Rattle.std.proofs.lemmas.List.{map-append}
use Rattle.std.proofs.lemmas.Bool.{eqb-true}
use Rattle.std.proofs.lemmas.Bool.Decides.{nat_tests}
use Rattle.std.proofs.lemmas.List.Elements.{All-append}
use Rattle.std.proofs.lemmas.List.Sums.{sum_by-append}
use Rattle.std.proofs.lemmas.Option.{same_Some}
use Rattle.std.specs.Option.{option_map}
use Rattle.rule_tables.specs.declared.domain.Domain.{Domain}
use Rattle.radio_drv.specs.Seen.{Seen}
use Rattle.reg_books.specs.DriverRows.{AllGoOn, HasFailed, HasOnAir, HasRisen, IsDriven, driven_radio, driver_at}
use Rattle.reg_core.specs.Kept.{StandsFor}
use Rattle.reg_core.specs.declared.core_state.Core.{Core}
use Rattle.reg_journal.specs.Facts.{Journal}
use Rattle.reg_journal.specs.declared.reply.Reply.{Reply}
use Rattle.reg_journal.specs.declared.request.Request.{Request}
use Rattle.core_runs.specs.Driven.{AreIdle, AreSteady, Follow, IsIdle, HaveGoneOn, IsAt, IsAfterFailures, IsUnsteady, times}
use Rattle.core_runs.specs.Given.{HaveFailed}

-- what holds of a value that is there
of_some : {A : Type 0} (o : Option A) (x : A) (P : A → Type 0) → o ≡ Some x → IsSomeAnd o P → P x
of_some o x P here h = subst (λ o. IsSomeAnd o P) here h

to_some : {A : Type 0} (o : Option A) (x : A) (P : A → Type 0) → o ≡ Some x → P x → IsSomeAnd o P
to_some o x P here h = subst (λ o. IsSomeAnd o P) (sym here) h

-- a value that is there, by name
pub taken : {A : Type 0} (o : Option A) (P : A → Type 0) → IsSomeAnd o P → (x : A) × (o ≡ Some x) × P x
taken None P h = absurd h
taken (Some x) P h = (x, refl, h)

times-append : (r : ℕ) (xs ys : List ℕ) → times r (xs ++ ys) ≡ times r xs + times r ys
times-append r xs ys = sum_by-append (λ q. cond (q == r) 1 0) xs ys

-- ---- nothing yet

pub HaveGoneOn-none : (heard : List (Option Seen)) → HaveGoneOn [] heard heard
HaveGoneOn-none heard = record {
  unsteady = λ k d within. absurd (omega (arith, within));
  each = λ r s here. to_some (driver_at heard r) s _ here (record { steady = refl; counted = omega arith; never = λ steady. refl });
}

-- ---- one behind the other

counted_twice : (a n b m c : ℕ) → min (a + n) (2 ^ 64 - 1) ≤ b → min (b + m) (2 ^ 64 - 1) ≤ c → min (a + (n + m)) (2 ^ 64 - 1) ≤ c
counted_twice a n b m c one other = omega (arith, one, other)

after_both : (n m : ℕ) (a b c : Seen) → IsAfterFailures n a b → IsAfterFailures m b c → IsAfterFailures (n + m) a c
after_both n m a b c one other = record {
  steady = other.steady ∙ one.steady;
  counted = counted_twice a.count n b.count m c.count one.counted other.counted;
  never = λ steady. other.never (subst IsTrue (sym one.steady) steady) ∙ one.never steady;
}

steady_before : (failed : List ℕ) (a b : List (Option Seen)) → HaveGoneOn failed a b → (r : ℕ) → IsUnsteady b r → IsUnsteady a r
steady_before failed a b on r unsteady =
    let (s, here, isnt) = taken (driver_at b r) _ unsteady in
    let (t, there, was) = taken (driver_at a r) _ (on.each r s here) in
    to_some (driver_at a r) t _ there (sym was.steady ∙ isnt)

pub HaveGoneOn-more : (failed more : List ℕ) (a b c : List (Option Seen)) → HaveGoneOn failed a b → HaveGoneOn more b c → HaveGoneOn (failed ++ more) a c
HaveGoneOn-more failed more a b c one other = record {
  unsteady = All-append (IsUnsteady a) failed more one.unsteady (λ k d within. steady_before failed a b one _ (other.unsteady k d within));
  each = λ r s last.
      let (t, mid, next) = taken (driver_at b r) _ (other.each r s last) in
      let (u, first, was) = taken (driver_at a r) _ (one.each r t mid) in
      to_some (driver_at a r) u _ first (subst (λ n. IsAfterFailures n u s) (sym (times-append r failed more)) (after_both (times r failed) (times r more) u t s was next));
}

-- ---- one step

-- the radio whose driver failed
abbrev pub failed_of : Bool → Option ℕ → List ℕ
failed_of false radio = []
failed_of true None = []
failed_of true (Some r) = r ∷ []

pub HaveFailed-of : (failing : Bool) (radio : Option ℕ) (P : ℕ → Type 0) → (IsTrue failing → IsSomeAnd radio P) → HaveFailed failing radio (failed_of failing radio)
HaveFailed-of false radio P cause = refl
HaveFailed-of true None P cause = absurd (cause refl)
HaveFailed-of true (Some r) P cause = refl

-- a step in which no driver failed
well : (J : Journal) (q : Request) (reply : Reply) (a b : List (Option Seen)) → AllGoOn J q reply a b → HaveGoneOn [] a b
well J q reply a b on = record {
  unsteady = λ k d within. absurd (omega (arith, within));
  each = λ r s here.
      let (t, there, goes) = taken (driver_at a r) _ (on r s here) in
      to_some (driver_at a r) t _ there (record { steady = goes.steady; counted = omega (arith, goes.later); never = goes.never });
}

risen : (o o' : Option Seen) (s s' : Seen) → o ≡ Some s → o' ≡ Some s' → HasRisen o o' → min (s.count + 1) (2 ^ 64 - 1) ≤ s'.count
risen (Some a) (Some b) s s' here there rose =
    subst (λ x. min (x.count + 1) (2 ^ 64 - 1) ≤ s'.count) (same_Some a s here) (subst (λ y. min (a.count + 1) (2 ^ 64 - 1) ≤ y.count) (same_Some b s' there) rose.1)
risen None o' s s' here there rose = absurd rose
risen (Some a) None s s' here there rose = absurd rose

unsteady_of : (o o' : Option Seen) → HasRisen o o' → IsSomeAnd o (λ s. s.steady ≡ false)
unsteady_of (Some a) (Some b) rose = rose.0
unsteady_of None o' rose = absurd rose
unsteady_of (Some a) None rose = absurd rose

-- a step in which the driver of radio r failed
failing : (J : Journal) (q : Request) (reply : Reply) (a b : List (Option Seen)) (r : ℕ) → AllGoOn J q reply a b → HasRisen (driver_at a r) (driver_at b r) → HaveGoneOn (r ∷ []) a b
failing J q reply a b r on rose = record {
  unsteady = one;
  each = λ k s here.
      let (t, there, goes) = taken (driver_at a k) _ (on k s here) in
      to_some (driver_at a k) t _ there (record { steady = goes.steady; counted = often k t s here there goes.later; never = goes.never });
}
  where
    one : All (IsUnsteady a) (r ∷ [])
    one zero d within = unsteady_of _ _ rose
    one (suc k) d within = absurd (omega (arith, within))

    often : (k : ℕ) (t s : Seen) → driver_at b k ≡ Some s → driver_at a k ≡ Some t → t.count ≤ s.count → min (t.count + times k (r ∷ [])) (2 ^ 64 - 1) ≤ s.count
    often k t s here there later = at_same (k == r) refl
      where
        at_same : (same : Bool) → (k == r) ≡ same → min (t.count + times k (r ∷ [])) (2 ^ 64 - 1) ≤ s.count
        at_same true e =
            let is : k ≡ r = eqb-true k r e in
            let rises = risen _ _ t s (ap (λ n. driver_at a n) (sym is) ∙ there) (ap (λ n. driver_at b n) (sym is) ∙ here) rose in
            grind (arith, nat_tests, rises, is)
        at_same false e = grind (arith, nat_tests, later, e)

pub HaveGoneOn-step : (J : Journal) (q : Request) (reply : Reply) (failing : Bool) (a b : List (Option Seen)) → AllGoOn J q reply a b → (IsTrue failing → HasFailed J q a b)
    → HaveGoneOn (failed_of failing (driven_radio J q)) a b
HaveGoneOn-step J q reply false a b on cause = well J q reply a b on
HaveGoneOn-step J q reply true a b on cause =
    let (r, here, rose) = taken (driven_radio J q) _ (cause refl) in
    subst (λ o. HaveGoneOn (failed_of true o) a b) (sym here) (failing J q reply a b r on rose)

-- ---- before the first step

idle_driven : (r : ℕ) (o : Option Seen) → IsSomeAnd o IsIdle → IsDriven [] r o
idle_driven r None idle = absurd idle
idle_driven r (Some s) idle = (
  refl,
  subst (HasOnAir [] r) (sym idle.0) (record {
    is_air = record { few = omega arith; once = λ i j d first within. absurd (omega (arith, within)) };
    each = λ i. refl;
  }),
)

idle_air : (o : Option Seen) → IsSomeAnd o IsIdle → option_map (λ s. s.air) o ≡ Some []
idle_air None idle = absurd idle
idle_air (Some s) idle = ap Some idle.0

pub AreIdle-at : (db : List Domain) (core : Core) (heard : List (Option Seen)) → StandsFor db core [] → AreIdle 8 heard → IsAt db [] core heard
AreIdle-at db core heard stands idle = record {
  stands = stands;
  driven = record { eight = idle.all; each = λ r within. idle_driven r (driver_at heard r) (here r within) };
  follows = record { eight = idle.all; each = λ r within. idle_air (driver_at heard r) (here r within) };
  told = λ r s within there. (of_some (driver_at heard r) s IsIdle there (here r within)).1;
}
  where
    here : (r : ℕ) → r < 8 → IsSomeAnd (driver_at heard r) IsIdle
    here r within = idle.each r None (subst (λ n. r < n) (sym idle.all) within)

pub AreIdle-none : {A : Type 0} (f : A → Option Seen) (items : List A) → items ≡ [] → AreIdle 0 (map f items)
AreIdle-none f items none = subst (λ xs. AreIdle 0 (map f xs)) (sym none) (record { all = refl; each = λ k d within. absurd (omega (arith, within)) })

pub AreIdle-more : (n : ℕ) (heard : List (Option Seen)) (s : Seen) → AreIdle n heard → IsIdle s → AreIdle (n + 1) (heard ++ Some s ∷ [])
AreIdle-more n heard s idle is = record {
  all = length-append heard (Some s ∷ []) ∙ ap (λ m. m + 1) idle.all;
  each = All-append (λ o. IsSomeAnd o IsIdle) heard (Some s ∷ []) idle.each one;
}
  where
    one : All (λ o. IsSomeAnd o IsIdle) (Some s ∷ [])
    one zero d within = is
    one (suc k) d within = absurd (omega (arith, within))

pub AreIdle-added : {B : Type 0} (f : B → Seen) (items : List (Option B)) (b : B) (n : ℕ) → IsIdle (f b) → AreIdle n (map (λ o. option_map f o) items)
    → AreIdle (n + 1) (map (λ o. option_map f o) (items ++ Some b ∷ []))
AreIdle-added f items b n is idle = subst (AreIdle (n + 1)) (sym (map-append (λ o. option_map f o) items (Some b ∷ []))) (AreIdle-more n _ (f b) idle is)

-- drivers that were told nothing follow the empty journal
pub idle_follow : (heard : List (Option Seen)) → AreIdle 8 heard → Follow [] [] heard heard
idle_follow heard idle = record {
  on_air = record { eight = idle.all; each = λ r within. idle_air (driver_at heard r) (here r within) };
  told = λ r s within there. (of_some (driver_at heard r) s IsIdle there (here r within)).1;
  gone_on = HaveGoneOn-none heard;
}
  where
    here : (r : ℕ) → r < 8 → IsSomeAnd (driver_at heard r) IsIdle
    here r within = idle.each r None (subst (λ n. r < n) (sym idle.all) within)

-- ---- steady drivers

steady_or_not : (o : Option Seen) → ((s : Seen) → o ≡ Some s → IsTrue s.steady) → IsSomeAnd o (λ s. s.steady ≡ false) → ⊥
steady_or_not None steady unsteady = unsteady
steady_or_not (Some s) steady unsteady = let is = steady s refl in cc

-- steady drivers don't fail
pub none_fails : (heard : List (Option Seen)) (failed : List ℕ) → AreSteady heard → All (IsUnsteady heard) failed → failed ≡ []
none_fails heard [] steady unsteady = refl
none_fails heard (r ∷ failed) steady unsteady = absurd (steady_or_not (driver_at heard r) (steady r) (unsteady zero r (omega arith)))
