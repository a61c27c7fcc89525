-- What becomes of an operation whose power is another.
use Rattle.std.specs.Prelude.{ℕ, ◌==◌, Option, None, Some, if◌then◌else◌}
use Rattle.core_parts.specs.declared.change.Change.{Change}
use Rattle.core_parts.specs.declared.change.Change.TheVariants.{Powered}
use Rattle.core_parts.specs.declared.interface.Interface.{Interface}
use Rattle.core_parts.specs.declared.interface.Running.{Running}

-- it goes on with the power, and where it is the one that it has nothing comes
abbrev pub repowered : Interface → Running → ℕ → Option Change
repowered p o power = if o.power_mbm == power then None else Some (Powered p power)
