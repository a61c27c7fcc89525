-- Operations that start and stop.
use Rattle.std.specs.Prelude.{◌≡◌, ℕ, Option, Some, None}
use Rattle.chan_def.specs.declared.definition.ChanDef.{ChanDef}
use Rattle.reg_journal.specs.Facts.{Fact, started, stopped}
use Rattle.core_parts.specs.declared.book_call.BookCall.{BookCall}
use Rattle.core_parts.specs.declared.book_call.BookCall.TheVariants.{Operate, Rest}
use Rattle.core_parts.specs.declared.interface.Running.{Running}

-- the fact is the start of this operation of the interface, or its stop
abbrev pub TellsRunning : Fact → ℕ → Option Running → Type 0
TellsRunning f i None = f ≡ stopped i
TellsRunning f i (Some o) = f ≡ started i o.chan o.power_mbm

-- what the book of a slot is told of the operation of its interface
abbrev pub book_operation : ℕ → Option Running → BookCall
book_operation slot None = Rest slot
book_operation slot (Some o) = Operate slot o.chan
