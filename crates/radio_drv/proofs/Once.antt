-- Each interface is on air once.
use Rattle.std.proofs.Common.{◌≡◌, ℕ, zero, suc, ◌+◌, ◌<◌, ◌≤◌, ◌==◌, not, Bool, true, false, if◌then◌else◌, List, [], ◌∷◌, length, get_or, All, AllPairs, arith, refl, sym, ap, subst, ◌∙◌, inl, inr}
use Rattle.std.proofs.lemmas.Bool.{cases_eq, eq-eqb, ne_eqb}
use Rattle.std.proofs.lemmas.List.{length-map}
use Rattle.std.proofs.lemmas.List.Elements.{All-cons, All-head, All-tail}
use Rattle.std.proofs.lemmas.List.Kept.{AllPairs-cons, AllPairs-filter}
use Rattle.radio_drv.specs.Air.{HasIface, HasPlace, IsAir, started, stopped, powered, with_power}
use Rattle.radio_drv.specs.declared.on_air.OnAir.{OnAir}
use Rattle.radio_drv.proofs.Lists.{stopped_few}

pub nothing_once : IsAir []
nothing_once = record { few = omega arith; once = λ i j d less within. absurd (omega arith) }

-- the first entry differs from the others, and these from one another
heads : (x : OnAir) (air : List OnAir) → AllPairs (λ x y. x.iface ≡ y.iface → ⊥) (x ∷ air) → All (λ y. x.iface ≡ y.iface → ⊥) air
heads x air pairs = λ k d within. pairs 0 (suc k) d (omega arith) (omega arith)

tails : (x : OnAir) (air : List OnAir) → AllPairs (λ x y. x.iface ≡ y.iface → ⊥) (x ∷ air) → AllPairs (λ x y. x.iface ≡ y.iface → ⊥) air
tails x air pairs = λ i j d less within. pairs (suc i) (suc j) d (omega arith) (omega arith)

all_started : (P : ℕ → Type 0) (entry : OnAir) (air : List OnAir) → P entry.iface → All (λ x. P x.iface) air → All (λ x. P x.iface) (started entry air)
all_started P entry [] p all = All-cons (λ x. P x.iface) entry [] p all
all_started P entry (x ∷ air) p all =
    step (x.iface == entry.iface) (All-head (λ x. P x.iface) x air all) (All-tail (λ x. P x.iface) x air all)
    (all_started P entry air p (All-tail (λ x. P x.iface) x air all))
  where
    step : (b : Bool) → P x.iface → All (λ x. P x.iface) air → All (λ x. P x.iface) (started entry air)
        → All (λ x. P x.iface) (if b then entry ∷ air else x ∷ started entry air)
    step true first others rest = All-cons (λ x. P x.iface) entry air p others
    step false first others rest = All-cons (λ x. P x.iface) x (started entry air) first rest

pairs_started : (entry : OnAir) (air : List OnAir) → AllPairs (λ x y. x.iface ≡ y.iface → ⊥) air → AllPairs (λ x y. x.iface ≡ y.iface → ⊥) (started entry air)
pairs_started entry [] pairs = λ i j d less within. absurd (omega arith)
pairs_started entry (x ∷ air) pairs = elim (cases_eq x.iface entry.iface) [
  | inl same ↦
      rw (eq-eqb x.iface entry.iface same)
      (AllPairs-cons (λ x y. x.iface ≡ y.iface → ⊥) entry air (λ k d within. λ equal. heads x air pairs k d within (same ∙ equal)) (tails x air pairs))
  | inr apart ↦
      rw (ne_eqb x.iface entry.iface apart)
      (AllPairs-cons (λ x y. x.iface ≡ y.iface → ⊥) x (started entry air)
      (all_started (λ n. x.iface ≡ n → ⊥) entry air apart (heads x air pairs)) (pairs_started entry air (tails x air pairs)))
]

-- the list is as long as before where the interface is on it, and one longer at most
longer : (entry : OnAir) (air : List OnAir) → length (started entry air) ≤ length air + 1
longer entry [] = omega arith
longer entry (x ∷ air) = step (x.iface == entry.iface) (longer entry air)
  where
    step : (b : Bool) → length (started entry air) ≤ length air + 1 → length (if b then entry ∷ air else x ∷ started entry air) ≤ length (x ∷ air) + 1
    step true rest = omega arith
    step false rest = omega arith

as_long : (entry : OnAir) (air : List OnAir) → HasIface air entry.iface → length (started entry air) ≡ length air
as_long entry [] has = let within = has.2 in absurd (omega arith)
as_long entry (x ∷ air) has = elim (cases_eq x.iface entry.iface) [
  | inl same ↦ rw (eq-eqb x.iface entry.iface same) refl
  | inr apart ↦ rw (ne_eqb x.iface entry.iface apart) (ap suc (as_long entry air (later apart has.0 has.1 has.2 has.3 has.4)))
]
  where
    later : (x.iface ≡ entry.iface → ⊥) → (k : ℕ) (y : OnAir) → k < length (x ∷ air) → get_or (x ∷ air) k y ≡ y → y.iface ≡ entry.iface → HasIface air entry.iface
    later apart zero y within at same = absurd (apart (ap (λ (z : OnAir). z.iface) at ∙ same))
    later apart (suc k) y within at same = (k, y, omega arith, at, same)

pub started_once : (entry : OnAir) (air : List OnAir) → HasPlace air entry.iface → IsAir air → IsAir (started entry air)
started_once entry air place is = record { few = few place; once = pairs_started entry air is.once }
  where
    few : HasPlace air entry.iface → length (started entry air) ≤ 8
    few (inl has) =
        let same = as_long entry air has in
        let before = is.few in
        omega arith
    few (inr room) =
        let most = longer entry air in
        omega arith

pub stopped_once : (iface : ℕ) (air : List OnAir) → IsAir air → IsAir (stopped iface air)
stopped_once iface air is =
    let fewer = stopped_few iface air in
    let few = is.few in
    record { few = omega arith; once = AllPairs-filter (λ x y. x.iface ≡ y.iface → ⊥) (λ x. not (x.iface == iface)) air is.once }

same_iface : (iface power : ℕ) (x : OnAir) → (with_power iface power x).iface ≡ x.iface
same_iface iface power x = step (x.iface == iface)
  where
    step : (b : Bool) → (if b then record x { power_mbm = power } else x).iface ≡ x.iface
    step true = refl
    step false = refl

all_powered : (P : ℕ → Type 0) (iface power : ℕ) (air : List OnAir) → All (λ x. P x.iface) air → All (λ x. P x.iface) (powered iface power air)
all_powered P iface power [] all = all
all_powered P iface power (x ∷ air) all =
    All-cons (λ x. P x.iface) (with_power iface power x) (powered iface power air)
    (subst P (sym (same_iface iface power x)) (All-head (λ x. P x.iface) x air all))
    (all_powered P iface power air (All-tail (λ x. P x.iface) x air all))

pairs_powered : (iface power : ℕ) (air : List OnAir) → AllPairs (λ x y. x.iface ≡ y.iface → ⊥) air
    → AllPairs (λ x y. x.iface ≡ y.iface → ⊥) (powered iface power air)
pairs_powered iface power [] pairs = pairs
pairs_powered iface power (x ∷ air) pairs =
    AllPairs-cons (λ x y. x.iface ≡ y.iface → ⊥) (with_power iface power x) (powered iface power air)
    (all_powered (λ n. (with_power iface power x).iface ≡ n → ⊥) iface power air
    (λ k d within. λ equal. heads x air pairs k d within (sym (same_iface iface power x) ∙ equal)))
    (pairs_powered iface power air (tails x air pairs))

pub powered_once : (iface power : ℕ) (air : List OnAir) → IsAir air → IsAir (powered iface power air)
powered_once iface power air is =
    let same = length-map air (with_power iface power) in
    let few = is.few in
    record { few = omega arith; once = pairs_powered iface power air is.once }
