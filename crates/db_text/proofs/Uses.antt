-- The WMM rules in use are those of the rules, and valid.
use Rattle.std.proofs.Common.{◌≡◌, ℕ, ◌<◌, ◌≤◌, ◌*◌, Bool, true, false, not, List, [], ◌∷◌, length, get_or, filter, flat_map, All, Contains, Option, Some, None, IfSome, option_to_list, arith, refl, sym, subst, ap, ◌∙◌, inl, inr}
use Rattle.std.proofs.lemmas.List.{length-append}
use Rattle.std.proofs.lemmas.List.Elements.{All-append, All-cons, All-filter, All-head, All-nil, All-tail, Contains-append_left, Contains-append_right}
use Rattle.std.proofs.lemmas.List.Sums.{count_by-le-length, length-filter, passes_at_first}
use Rattle.std.specs.List.{position_or_len}
use Rattle.freq_range.proofs.Members.{Contains-cases, Contains-head, Contains-later, Contains-nothing}
use Rattle.freq_range.specs.Valid.{IsValidWmm}
use Rattle.freq_range.specs.declared.rule.Rule.{Rule}
use Rattle.freq_range.specs.declared.wmm.Wmm.{Wmm}
use Rattle.rule_tables.specs.Databases.{IsDb, IsDomain}
use Rattle.rule_tables.specs.declared.domain.Domain.{Domain}
use Rattle.db_text.specs.Printed.{first_uses, same_wmm, wmm_in, wmm_in_rule, wmm_in_rules}
use Rattle.db_text.proofs.SameWmm.{cases_wmm, same_wmm-itself, same_wmm-true}

-- ---- each is valid

all_flat : {X Y : Type 0} (P : Y → Type 0) (f : X → List Y) (xs : List X) → All (λ x. All P (f x)) xs → All P (flat_map f xs)
all_flat P f [] each = All-nil P
all_flat P f (x ∷ xs) each =
    All-append P (f x) (flat_map f xs) (All-head (λ x. All P (f x)) x xs each) (all_flat P f xs (All-tail (λ x. All P (f x)) x xs each))

all_option : (P : Wmm → Type 0) (o : Option Wmm) → IfSome o P → All P (option_to_list o)
all_option P None is = All-nil P
all_option P (Some w) is = All-cons P w [] is (All-nil P)

all_first : (P : Wmm → Type 0) (ws : List Wmm) → All P ws → All P (first_uses ws)
all_first P [] each = All-nil P
all_first P (w ∷ ws) each =
    All-cons P w (filter (λ v. not (same_wmm w v)) (first_uses ws)) (All-head P w ws each)
    (All-filter (λ v. not (same_wmm w v)) P (first_uses ws) (all_first P ws (All-tail P w ws each)))

pub valid_uses : (ds : List Domain) → IsDb ds → All IsValidWmm (first_uses (wmm_in ds))
valid_uses ds db =
    all_first IsValidWmm (wmm_in ds)
    (all_flat IsValidWmm (λ (d : Domain). wmm_in_rules d.rules) ds (λ j d less.
    let one = db.each j d less in
    all_flat IsValidWmm wmm_in_rule (get_or ds j d).rules (λ k r below. all_option IsValidWmm (get_or (get_or ds j d).rules k r).wmm (one.rules.each k r below).wmm)))

-- ---- each that is used is there

in_flat : {X Y : Type 0} (f : X → List Y) (xs : List X) (x : X) (y : Y) → Contains xs x → Contains (f x) y → Contains (flat_map f xs) y
in_flat f [] x y has here = absurd (Contains-nothing x has)
in_flat f (first ∷ xs) x y has here = elim (Contains-cases first xs x has) [
  | inl same ↦ Contains-append_left (f first) (flat_map f xs) y (subst (λ z. Contains (f z) y) (sym same) here)
  | inr later ↦ Contains-append_right (f first) (flat_map f xs) y (in_flat f xs x y later here)
]

in_filter : (p : Wmm → Bool) (ws : List Wmm) (w : Wmm) → Contains ws w → p w ≡ true → Contains (filter p ws) w
in_filter p [] w has is = absurd (Contains-nothing w has)
in_filter p (v ∷ ws) w has is = elim (Contains-cases v ws w has) [
  | inl same ↦ rw (ap p same ∙ is) (subst (λ x. Contains (x ∷ filter p ws) w) (sym same) (Contains-head w (filter p ws)))
  | inr later ↦ by_test (p v) refl (in_filter p ws w later is)
]
  where
    by_test : (b : Bool) → p v ≡ b → Contains (filter p ws) w → Contains (filter p (v ∷ ws)) w
    by_test true e has = rw e (Contains-later v (filter p ws) w has)
    by_test false e has = rw e has

pub in_first_uses : (ws : List Wmm) (w : Wmm) → Contains ws w → Contains (first_uses ws) w
in_first_uses [] w has = absurd (Contains-nothing w has)
in_first_uses (v ∷ ws) w has = elim (Contains-cases v ws w has) [
  | inl same ↦ subst (λ x. Contains (x ∷ filter (λ u. not (same_wmm v u)) (first_uses ws)) w) (sym same) (Contains-head w (filter (λ u. not (same_wmm v u)) (first_uses ws)))
  | inr later ↦ elim (cases_wmm v w) [
    | inl same ↦ subst (λ x. Contains (x ∷ filter (λ u. not (same_wmm v u)) (first_uses ws)) w) (sym same) (Contains-head w (filter (λ u. not (same_wmm v u)) (first_uses ws)))
    | inr apart ↦
        Contains-later v (filter (λ u. not (same_wmm v u)) (first_uses ws)) w
        (in_filter (λ u. not (same_wmm v u)) (first_uses ws) w (in_first_uses ws w later) (rw apart.1 refl))
  ]
]

pub used_here : (ds : List Domain) (d : Domain) (r : Rule) (w : Wmm) → Contains ds d → Contains d.rules r → r.wmm ≡ Some w → Contains (first_uses (wmm_in ds)) w
used_here ds d r w in_ds in_rules is =
    in_first_uses (wmm_in ds) w
    (in_flat (λ (d : Domain). wmm_in_rules d.rules) ds d w in_ds
    (in_flat wmm_in_rule d.rules r w in_rules (subst (λ o. Contains (option_to_list o) w) (sym is) (Contains-head w []))))

-- ---- the place of one that is there

place_below : (ws : List Wmm) (w : Wmm) → Contains ws w → position_or_len (same_wmm w) ws < length ws
place_below [] w has = absurd (Contains-nothing w has)
place_below (v ∷ ws) w has = elim (cases_wmm w v) [
  | inl same ↦ let e : same_wmm w v ≡ true = subst (λ x. same_wmm w x ≡ true) same (same_wmm-itself w) in rw e (omega arith)
  | inr apart ↦ rw apart.1 (elim (Contains-cases v ws w has) [
    | inl same ↦ absurd (apart.0 (sym same))
    | inr later ↦ let less = place_below ws w later in omega (arith, less)
  ])
]

-- it stands there
pub record IsPlaced (ws : List Wmm) (w : Wmm) : Type 0 where
  pub below : position_or_len (same_wmm w) ws < length ws
  pub is : get_or ws (position_or_len (same_wmm w) ws) w ≡ w

pub placed : (ws : List Wmm) (w : Wmm) → Contains ws w → IsPlaced ws w
placed ws w has =
    let below = place_below ws w has in
    record { below = below; is = sym (same_wmm-true w (get_or ws (position_or_len (same_wmm w) ws) w) (passes_at_first (same_wmm w) ws w below)) }

-- ---- how many there are

pub few_first : (ws : List Wmm) → length (first_uses ws) ≤ length ws
few_first [] = omega arith
few_first (w ∷ ws) =
    let few = few_first ws in
    let less = count_by-le-length (λ v. not (same_wmm w v)) (first_uses ws) in
    let e = length-filter (λ v. not (same_wmm w v)) (first_uses ws) in
    omega (arith, few, less, e)

pub few_flat : {X Y : Type 0} (f : X → List Y) (n : ℕ) (xs : List X) → All (λ x. length (f x) ≤ n) xs → length (flat_map f xs) ≤ length xs * n
few_flat f n [] each = omega arith
few_flat f n (x ∷ xs) each =
    let rest = few_flat f n xs (All-tail (λ x. length (f x) ≤ n) x xs each) in
    let here = All-head (λ x. length (f x) ≤ n) x xs each in
    let e = length-append (f x) (flat_map f xs) in
    omega (arith, rest, here, e)

one_option : (o : Option Wmm) → length (option_to_list o) ≤ 1
one_option None = omega arith
one_option (Some w) = omega arith

pub few_in_rules : (d : Domain) → IsDomain d → length (wmm_in_rules d.rules) ≤ 128
few_in_rules d is =
    let some = few_flat wmm_in_rule 1 d.rules (λ k r less. one_option (get_or d.rules k r).wmm) in
    let few = is.rules.few in
    omega (arith, some, few)
