-- The list of what is on air, and what the calls of a driver make of it. An interface is named by its index.
use Rattle.std.specs.Prelude.{◌≡◌, ℕ, ◌<◌, ◌≤◌, AllPairs, ◌==◌, if◌then◌else◌, not, ◌⊎◌, List, [], ◌∷◌, length, map, filter, Any}
use Rattle.chan_def.specs.declared.kind.TheConstants.{MOST_IFACES}
use Rattle.radio_drv.specs.declared.on_air.OnAir.{OnAir}

-- the interface is on air
abbrev pub HasIface : List OnAir → ℕ → Type 0
HasIface air iface = Any (λ x. x.iface ≡ iface) air

-- there is a place for the interface: its own, or one more
abbrev pub HasPlace : List OnAir → ℕ → Type 0
HasPlace air iface = HasIface air iface ⊎ (length air < MOST_IFACES)

-- the interface's entry is replaced in its place, or one is added at the end
abbrev pub started : OnAir → List OnAir → List OnAir
started entry [] = entry ∷ []
started entry (x ∷ air) = if x.iface == entry.iface then entry ∷ air else x ∷ started entry air

-- the interface's entry is taken away, if there is one
abbrev pub stopped : ℕ → List OnAir → List OnAir
stopped iface air = filter (λ x. not (x.iface == iface)) air

-- an entry, with this power where it is the interface's
abbrev pub with_power : ℕ → ℕ → OnAir → OnAir
with_power iface power x = if x.iface == iface then record x { power_mbm = power } else x

-- the interface's entry gets this power, if there is one
abbrev pub powered : ℕ → ℕ → List OnAir → List OnAir
powered iface power air = map (with_power iface power) air

-- at most as many entries as a radio has interfaces, each interface once
pub record IsAir (air : List OnAir) : Type 0 where
  pub few : length air ≤ MOST_IFACES
  pub once : AllPairs (λ x y. x.iface ≡ y.iface → ⊥) air
