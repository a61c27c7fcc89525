use Rattle.std.proofs.Common.{◌≡◌, map, take}
use Rattle.core_parts.specs.Interfaces.{interfaces_on}
use Rattle.core_parts.specs.Reading.{shown_interface}
use Rattle.reg_core.proofs.dumps.reports.shown_interfaces.Given as goal

abbrev pub invariant-loop-interface : goal.invariant-loop-interface
invariant-loop-interface l = l.list ≡ map shown_interface (interfaces_on (take l.interface-index l.interfaces) l.radio)
