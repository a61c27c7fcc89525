-- Lists of what is on air.
use Rattle.std.proofs.Common.{◌≡◌, ℕ, zero, suc, ◌==◌, ◌<◌, ◌≤◌, not, Bool, true, false, if◌then◌else◌, List, [], ◌∷◌, ◌++◌, length, set, get_or, arith, refl, ap}
use Rattle.std.proofs.lemmas.Bool.{eq-eqb, ne_eqb}
use Rattle.radio_drv.specs.Air.{started, stopped}
use Rattle.radio_drv.specs.inner.First.{IsFirstOf}
use Rattle.radio_drv.specs.declared.on_air.OnAir.{OnAir}

pub started_first : (entry : OnAir) (air : List OnAir) (k : ℕ) → IsFirstOf air entry.iface k → set air k entry ≡ started entry air
started_first entry [] k is = let within = is.within in absurd (omega arith)
started_first entry (x ∷ air) zero is = rw (eq-eqb x.iface entry.iface (is.here x)) refl
started_first entry (x ∷ air) (suc k) is =
    let within = is.within in
    let rest : IsFirstOf air entry.iface k = record {
      within = omega arith;
      here = λ d. is.here d;
      none_before = λ j d below. is.none_before (suc j) d (omega arith);
    } in
    rw (ne_eqb x.iface entry.iface (is.none_before 0 x (omega arith))) (ap (λ ys. x ∷ ys) (started_first entry air k rest))

pub started_end : (entry : OnAir) (air : List OnAir) → ((k : ℕ) (d : OnAir) → k < length air → (get_or air k d).iface ≡ entry.iface → ⊥)
    → air ++ entry ∷ [] ≡ started entry air
started_end entry [] none = refl
started_end entry (x ∷ air) none =
    rw (ne_eqb x.iface entry.iface (none 0 x (omega arith)))
    (ap (λ ys. x ∷ ys) (started_end entry air (λ k d below. none (suc k) d (omega arith))))

pub stopped_few : (iface : ℕ) (air : List OnAir) → length (stopped iface air) ≤ length air
stopped_few iface [] = omega arith
stopped_few iface (x ∷ air) = step (not (x.iface == iface)) (stopped_few iface air)
  where
    step : (b : Bool) → length (stopped iface air) ≤ length air → length (if b then x ∷ stopped iface air else stopped iface air) ≤ length (x ∷ air)
    step true rest = omega arith
    step false rest = omega arith
