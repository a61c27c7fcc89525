use Rattle.std.proofs.Common.{◌≡◌, ℕ, ◌<◌, get_or}
use Rattle.radio_drv.specs.declared.on_air.OnAir.{OnAir}
use Rattle.radio_drv.proofs.air_list.place_of.Given as goal

abbrev pub invariant-loop-k : goal.invariant-loop-k
invariant-loop-k l = (j : ℕ) (d : OnAir) → j < l.k → (get_or l.air j d).iface ≡ l.iface → ⊥
