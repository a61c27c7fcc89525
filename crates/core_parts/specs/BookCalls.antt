-- What a radio's book is told.
use Rattle.std.specs.Prelude.{None, Some}
use Rattle.dfs_states.specs.Calls.{Call, Radar as RadarCall, Begin as BeginCall, DropCheck as DropCall, Operate as OperateCall}
use Rattle.reg_journal.specs.Facts.{Fact, started, stopped, radar_met, check_begun, check_dropped}
use Rattle.core_parts.specs.declared.book_call.BookCall.{BookCall}
use Rattle.core_parts.specs.declared.book_call.BookCall.TheVariants.{Radar, Begin, DropCheck, Operate, Rest}

-- the call of the book
abbrev pub call_in : BookCall → Call
call_in (Radar chan) = RadarCall chan
call_in (Begin slot chan length) = BeginCall slot chan length
call_in (DropCheck slot) = DropCall slot
call_in (Operate slot chan) = OperateCall slot (Some chan)
call_in (Rest slot) = OperateCall slot None

-- the fact speaks of nothing of a radio but of what its book is told
abbrev pub SpeaksToBooks : Fact → Type 0
SpeaksToBooks (started i chan power) = Unit {0}
SpeaksToBooks (stopped i) = Unit {0}
SpeaksToBooks (radar_met r chan) = Unit {0}
SpeaksToBooks (check_begun i chan length) = Unit {0}
SpeaksToBooks (check_dropped i) = Unit {0}
SpeaksToBooks f = ⊥
