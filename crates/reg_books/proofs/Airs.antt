-- An interface is on air exactly where it has an operation.
use Rattle.std.proofs.Common.{◌≡◌, ◌==◌, ℕ, List, [], ◌∷◌, find, Option, Some, None, if◌then◌else◌, refl, arith}
use Rattle.std.proofs.lemmas.Bool.Decides.{nat_tests}
use Rattle.std.specs.Option.{option_map}
use Rattle.radio_drv.specs.Air.{started as put_on_air, stopped as taken_off, powered as given_power, with_power}
use Rattle.radio_drv.specs.declared.on_air.OnAir.{OnAir}

-- the first entry of the interface
abbrev pub air_at : List OnAir → ℕ → Option OnAir
air_at air i = find (λ e. e.iface == i) air

pub air_at-started : (e : OnAir) (air : List OnAir) (i : ℕ) → air_at (put_on_air e air) i ≡ (if e.iface == i then Some e else air_at air i)
air_at-started e [] i = refl
air_at-started e (x ∷ air) i = let rest = air_at-started e air i in grind (arith, nat_tests, rest)

pub air_at-stopped : (j : ℕ) (air : List OnAir) (i : ℕ) → air_at (taken_off j air) i ≡ (if i == j then None else air_at air i)
air_at-stopped j [] i = grind (arith, nat_tests)
air_at-stopped j (x ∷ air) i = let rest = air_at-stopped j air i in grind (arith, nat_tests, rest)

pub air_at-powered : (j p : ℕ) (air : List OnAir) (i : ℕ) → air_at (given_power j p air) i ≡ (if i == j then option_map (with_power j p) (air_at air i) else air_at air i)
air_at-powered j p [] i = grind (arith, nat_tests)
air_at-powered j p (x ∷ air) i = let rest = air_at-powered j p air i in grind (arith, nat_tests, rest)
