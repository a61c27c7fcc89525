-- Two WMM rules are one where all their numbers are the same.
use Rattle.std.proofs.Common.{◌≡◌, ◌≢◌, ◌⊎◌, true, false, get_or, ap, sym, subst, refl, inl, inr}
use Rattle.std.proofs.lemmas.Bool.{cases_Bool, false_from_ne_true}
use Rattle.std.proofs.lemmas.Slice.Eq.{bytes_eq-Decides}
use Rattle.freq_range.specs.declared.wmm.Wmm.{Wmm}
use Rattle.db_text.specs.Printed.{same_wmm, wmm_numbers}

-- the numbers tell the WMM rule
pub wmm_told : (w v : Wmm) → wmm_numbers w ≡ wmm_numbers v → w ≡ v
unfolding wmm_numbers
wmm_told w v e = λ i. record {
  vo_c = record { min_exp = ap (λ xs. get_or xs 0 0) e i; max_exp = ap (λ xs. get_or xs 1 0) e i; aifsn = ap (λ xs. get_or xs 2 0) e i; cot_ms = ap (λ xs. get_or xs 3 0) e i };
  vi_c = record { min_exp = ap (λ xs. get_or xs 4 0) e i; max_exp = ap (λ xs. get_or xs 5 0) e i; aifsn = ap (λ xs. get_or xs 6 0) e i; cot_ms = ap (λ xs. get_or xs 7 0) e i };
  be_c = record { min_exp = ap (λ xs. get_or xs 8 0) e i; max_exp = ap (λ xs. get_or xs 9 0) e i; aifsn = ap (λ xs. get_or xs 10 0) e i; cot_ms = ap (λ xs. get_or xs 11 0) e i };
  bk_c = record { min_exp = ap (λ xs. get_or xs 12 0) e i; max_exp = ap (λ xs. get_or xs 13 0) e i; aifsn = ap (λ xs. get_or xs 14 0) e i; cot_ms = ap (λ xs. get_or xs 15 0) e i };
  vo_ap = record { min_exp = ap (λ xs. get_or xs 16 0) e i; max_exp = ap (λ xs. get_or xs 17 0) e i; aifsn = ap (λ xs. get_or xs 18 0) e i; cot_ms = ap (λ xs. get_or xs 19 0) e i };
  vi_ap = record { min_exp = ap (λ xs. get_or xs 20 0) e i; max_exp = ap (λ xs. get_or xs 21 0) e i; aifsn = ap (λ xs. get_or xs 22 0) e i; cot_ms = ap (λ xs. get_or xs 23 0) e i };
  be_ap = record { min_exp = ap (λ xs. get_or xs 24 0) e i; max_exp = ap (λ xs. get_or xs 25 0) e i; aifsn = ap (λ xs. get_or xs 26 0) e i; cot_ms = ap (λ xs. get_or xs 27 0) e i };
  bk_ap = record { min_exp = ap (λ xs. get_or xs 28 0) e i; max_exp = ap (λ xs. get_or xs 29 0) e i; aifsn = ap (λ xs. get_or xs 30 0) e i; cot_ms = ap (λ xs. get_or xs 31 0) e i };
}

pub same_wmm-itself : (w : Wmm) → same_wmm w w ≡ true
same_wmm-itself w = (bytes_eq-Decides (wmm_numbers w) (wmm_numbers w)).1 refl

pub same_wmm-true : (w v : Wmm) → same_wmm w v ≡ true → w ≡ v
same_wmm-true w v is = wmm_told w v ((bytes_eq-Decides (wmm_numbers w) (wmm_numbers v)).0 is)

pub same_wmm-apart : (w v : Wmm) → w ≢ v → same_wmm w v ≡ false
same_wmm-apart w v apart = false_from_ne_true (same_wmm w v) (λ t. apart (same_wmm-true w v t))

pub cases_wmm : (w v : Wmm) → (w ≡ v) ⊎ ((w ≢ v) × (same_wmm w v ≡ false) × (same_wmm v w ≡ false))
cases_wmm w v = elim (cases_Bool (same_wmm w v)) [
  | inl is ↦ inl (same_wmm-true w v is)
  | inr differ ↦
      let apart : w ≢ v = λ same. let e = subst (λ x. same_wmm w x ≡ true) same (same_wmm-itself w) in cc in
      inr (apart, differ, same_wmm-apart v w (λ same. apart (sym same)))
]
