-- Each rule of a list allows one width.
use Rattle.std.proofs.Common.{◌≡◌, ℕ, zero, suc, ◌+◌, ◌-◌, ◌<◌, ◌≤◌, ◌⊎◌, Bool, true, false, List, Some, length, get_or, MatchBool, slice_get, arith, refl, sym, ap, subst, ◌∙◌, inl, inr}
use Rattle.std.proofs.lemmas.Bool.{cases_order, cases_lt}
use Rattle.std.proofs.lemmas.Option.{slice_get-get_or, slice_get_within}
use Rattle.freq_range.specs.declared.rule.Rule.{Rule}
use Rattle.rule_tables.specs.Width.{TouchesNext, IsRunStart, IsRunEnd, IsRunWidth, IsAllowedWidth}

run_start_unique : (rules : List Rule) (k i j : ℕ) → IsRunStart rules k i → IsRunStart rules k j → i ≡ j
run_start_unique rules k i j one other = elim (cases_order i j) [
  | inl same ↦ same
  | inr (inl below) ↦ absurd (other.least i below one.run)
  | inr (inr above) ↦ absurd (one.least j above other.run)
]

run_end_unique : (rules : List Rule) (k i j : ℕ) → IsRunEnd rules k i → IsRunEnd rules k j → i ≡ j
run_end_unique rules k i j one other = elim (cases_order i j) [
  | inl same ↦ same
  | inr (inl below) ↦ absurd (one.greatest j below other.in_range other.run)
  | inr (inr above) ↦ absurd (other.greatest i above one.in_range one.run)
]

run_width_unique : (rules : List Rule) (k : ℕ) (r : Rule) (v w : ℕ) → IsRunWidth rules k v → IsRunWidth rules k w → v ≡ w
run_width_unique rules k r v w one other =
    let same_first = run_start_unique rules k one.first other.first one.starts other.starts in
    let same_last = run_end_unique rules k one.last other.last one.ends other.ends in
    let in_range = one.ends.in_range in
    let low = one.starts.within in
    let high = one.ends.within in
    let f = slice_get-get_or rules one.first r (omega arith) in
    let l = slice_get-get_or rules one.last r in_range in
    let f' = ap (λ n. slice_get rules n) (sym same_first) ∙ f in
    let l' = ap (λ n. slice_get rules n) (sym same_last) ∙ l in
    one.span (get_or rules one.first r) (get_or rules one.last r) f l ∙ sym (other.span (get_or rules one.first r) (get_or rules one.last r) f' l')

by_flag : (rules : List Rule) (k : ℕ) (r : Rule) (v w own : ℕ) (flag : Bool) → MatchBool flag (IsRunWidth rules k v) (v ≡ own) → MatchBool flag (IsRunWidth rules k w) (w ≡ own) → v ≡ w
by_flag rules k r v w own true one other = run_width_unique rules k r v w one other
by_flag rules k r v w own false one other = one ∙ sym other

pub IsAllowedWidth-unique : (rules : List Rule) (k : ℕ) (r : Rule) (v w : ℕ) → slice_get rules k ≡ Some r → IsAllowedWidth rules k v → IsAllowedWidth rules k w → v ≡ w
IsAllowedWidth-unique rules k r v w at one other = by_flag rules k r v w r.max_bw_khz r.flags.auto_bw (one r at) (other r at)

-- whether a rule touches the next one is decided
touches_or_not : (rules : List Rule) (i : ℕ) (r : Rule) → i + 1 < length rules → TouchesNext rules i ⊎ (TouchesNext rules i → ⊥)
touches_or_not rules i r in_range =
    let here = slice_get-get_or rules i r (omega arith) in
    let there = slice_get-get_or rules (i + 1) r in_range in
    elim (cases_lt (get_or rules i r).end_khz (get_or rules (i + 1) r).start_khz) [
      | inl apart ↦ inr (λ touches. let reach = touches (get_or rules i r) (get_or rules (i + 1) r) here there in omega (arith, reach, apart))
      | inr meet ↦ inl (λ a b at_a at_b. same_meet here there at_a at_b meet)
    ]
  where
    same_meet : {a b c d : Rule} → slice_get rules i ≡ Some a → slice_get rules (i + 1) ≡ Some b → slice_get rules i ≡ Some c → slice_get rules (i + 1) ≡ Some d
        → b.start_khz ≤ a.end_khz → d.start_khz ≤ c.end_khz
    same_meet {a} {b} {c} {d} ea eb ec ed meet =
        let p : a ≡ c = cc in
        let q : b ≡ d = cc in
        rw (sym p, sym q) meet

some_start : (rules : List Rule) (r : Rule) (k : ℕ) → k < length rules → (j : ℕ) × IsRunStart rules k j
some_start rules r zero in_range = (
  0,
  record {
    within = omega arith;
    run = λ i low high. absurd (omega arith);
    least = λ i low run. omega arith;
  },
)
some_start rules r (suc k) in_range = elim (touches_or_not rules k r (omega arith)) [
  | inl touches ↦ longer touches (some_start rules r k (omega arith))
  | inr apart ↦ (
    suc k,
    record {
      within = omega arith;
      run = λ i low high. absurd (omega arith);
      least = λ i low run. apart (run k (omega arith) (omega arith));
    },
  )
]
  where
    longer : TouchesNext rules k → (j : ℕ) × IsRunStart rules k j → (j : ℕ) × IsRunStart rules (suc k) j
    longer touches (j, start) = (
      j,
      record {
        within = let within = start.within in omega arith;
        run = λ i low high. elim (cases_order i k) [
          | inl same ↦ rw same touches
          | inr (inl below) ↦ start.run i low below
          | inr (inr above) ↦ absurd (omega arith)
        ];
        least = λ i low run. start.least i low (λ n from to. run n from (omega arith));
      },
    )

-- n more rules stand behind rule k
some_end : (rules : List Rule) (r : Rule) (n k : ℕ) → k + suc n ≡ length rules → (m : ℕ) × IsRunEnd rules k m
some_end rules r zero k count = (
  k,
  record {
    within = omega arith;
    in_range = omega arith;
    run = λ i low high. absurd (omega arith);
    greatest = λ i above in_range run. omega arith;
  },
)
some_end rules r (suc n) k count = elim (touches_or_not rules k r (omega arith)) [
  | inl touches ↦ longer touches (some_end rules r n (k + 1) (omega arith))
  | inr apart ↦ (
    k,
    record {
      within = omega arith;
      in_range = omega arith;
      run = λ i low high. absurd (omega arith);
      greatest = λ i above in_range run. apart (run k (omega arith) above);
    },
  )
]
  where
    longer : TouchesNext rules k → (m : ℕ) × IsRunEnd rules (k + 1) m → (m : ℕ) × IsRunEnd rules k m
    longer touches (m, end) = (
      m,
      record {
        within = let within = end.within in omega arith;
        in_range = end.in_range;
        run = λ i low high. elim (cases_order i k) [
          | inl same ↦ rw same touches
          | inr (inl below) ↦ absurd (omega arith)
          | inr (inr above) ↦ end.run i (omega arith) high
        ];
        greatest = λ i above in_range run. end.greatest i above in_range (λ n from to. run n (omega arith) to);
      },
    )

some_run_width : (rules : List Rule) (r : Rule) (k : ℕ) → k < length rules → (w : ℕ) × IsRunWidth rules k w
some_run_width rules r k in_range =
    let start = some_start rules r k in_range in
    let end = some_end rules r (length rules - suc k) k (omega arith) in
    let f = get_or rules start.0 r in
    let l = get_or rules end.0 r in
    let low = start.1.within in
    let at_f = slice_get-get_or rules start.0 r (omega arith) in
    let at_l = slice_get-get_or rules end.0 r end.1.in_range in (
      l.end_khz - f.start_khz,
      record {
        first = start.0;
        last = end.0;
        starts = start.1;
        ends = end.1;
        span = λ a b at_a at_b. same_span start.0 end.0 at_f at_l at_a at_b;
      },
    )
  where
    same_span : (i j : ℕ) {a b c d : Rule} → slice_get rules i ≡ Some a → slice_get rules j ≡ Some b → slice_get rules i ≡ Some c → slice_get rules j ≡ Some d
        → b.end_khz - a.start_khz ≡ d.end_khz - c.start_khz
    same_span i j {a} {b} {c} {d} ea eb ec ed =
        let p : a ≡ c = cc in
        let q : b ≡ d = cc in
        rw (p, q) refl

-- a width by the flag's value is one by the flag
width_by : (rules : List Rule) (k w : ℕ) (r s : Rule) (flag : Bool) → r ≡ s → r.flags.auto_bw ≡ flag
    → MatchBool flag (IsRunWidth rules k w) (w ≡ r.max_bw_khz) → MatchBool s.flags.auto_bw (IsRunWidth rules k w) (w ≡ s.max_bw_khz)
width_by rules k w r s flag same is given =
    subst (λ x. MatchBool x.flags.auto_bw (IsRunWidth rules k w) (w ≡ x.max_bw_khz)) same
    (subst (λ b. MatchBool b (IsRunWidth rules k w) (w ≡ r.max_bw_khz)) (sym is) given)

-- each rule of the list has an allowed width
pub some_width : (rules : List Rule) (k : ℕ) (r : Rule) → slice_get rules k ≡ Some r → (w : ℕ) × IsAllowedWidth rules k w
some_width rules k r at = by_auto r.flags.auto_bw refl
  where
    same_some : {a b : Rule} → Some a ≡ Some b → a ≡ b
    same_some {a} {b} p = cc

    by_auto : (flag : Bool) → r.flags.auto_bw ≡ flag → (w : ℕ) × IsAllowedWidth rules k w
    by_auto true is =
        let run = some_run_width rules r k (slice_get_within rules k r at) in
        (run.0, λ s at_s. width_by rules k run.0 r s true (same_some (sym at ∙ at_s)) is run.1)
    by_auto false is = (r.max_bw_khz, λ s at_s. width_by rules k r.max_bw_khz r s false (same_some (sym at ∙ at_s)) is refl)
