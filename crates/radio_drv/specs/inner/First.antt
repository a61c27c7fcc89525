-- Where an interface's entry stands.
use Rattle.std.specs.Prelude.{◌≡◌, ℕ, ◌<◌, List, length, slice_index_or}
use Rattle.radio_drv.specs.declared.on_air.OnAir.{OnAir}

-- the entry at this place is the interface's, and none before it is
pub record IsFirstOf (air : List OnAir) (iface k : ℕ) : Type 0 where
  pub within : k < length air
  pub here : (d : OnAir) → (slice_index_or air k d).iface ≡ iface
  pub none_before : (j : ℕ) (d : OnAir) → j < k → (slice_index_or air j d).iface ≡ iface → ⊥
