-- What an interface has on air.
use Rattle.std.specs.Prelude.{ℕ, Option, None, if◌then◌else◌}
use Rattle.std.specs.Option.{option_map}
use Rattle.radio_drv.specs.declared.on_air.OnAir.{OnAir}
use Rattle.reg_journal.specs.Facts.{Journal}
use Rattle.reg_journal.specs.OnAir.{entry, is_on}
use Rattle.reg_journal.specs.Present.{Operation, operation_of}

-- the operation of the interface of this index, where it was made on the radio
abbrev pub entry_on : Journal → ℕ → ℕ → Option OnAir
entry_on J r i = if is_on J i r then option_map (λ (o : Operation). entry i o.chan o.power) (operation_of J i) else None
