-- A stream on its way. Only clauses of private functions cite it.
use Rattle.std.specs.Prelude.{◌≡◌, ℕ, ◌<◌, ◌≤◌, List, [], Option, None, length, All}
use Rattle.reg_base.specs.Causes.{Rose}
use Rattle.rule_tables.specs.declared.domain.Domain.{Domain}
use Rattle.radio_drv.specs.Seen.{Seen}
use Rattle.reg_books.specs.DriverRows.{AreDriven}
use Rattle.reg_core.specs.Kept.{StandsFor}
use Rattle.reg_core.specs.declared.core_state.Core.{Core}
use Rattle.reg_journal.specs.Facts.{Journal}
use Rattle.reg_journal.specs.Replies.{IsRegular}
use Rattle.nl_attrs.specs.Messages.{spelled}
use Rattle.nl_attrs.specs.Streams.{AreMessages, Decoding, HasGiven}
use Rattle.nl_attrs.specs.declared.fault.AttrFault.TheVariants.{Truncated}
use Rattle.nl_attrs.specs.declared.message.Msg.{Msg}
use Rattle.core_runs.specs.Answered.{StopsBetween, StopsWithin}
use Rattle.core_runs.specs.Turns.{IsRunSoFar}
use Rattle.db_commands.specs.Devices.{DriversAround, StreamAround}
use Rattle.db_commands.specs.declared.status.InputFault.TheVariants.{Wire}
use Rattle.db_commands.specs.declared.status.Status.{Status}
use Rattle.db_commands.specs.declared.status.Status.TheVariants.{Done, NoMemory as EndsNoMemory, WriteFault as EndsWriteFault, Refused}
use Rattle.wire_run.specs.Answering.{MessageGives}
use Rattle.wire_run.specs.Streaming.{BeginsWith, MeetsStreamFault}
use Rattle.wire_run.specs.declared.answering.Halt.{Halt}
use Rattle.wire_run.specs.declared.answering.Halt.TheVariants.{NoMemory, WriteFault}
use Rattle.wire_run.specs.declared.stream.Stop.{Stop}
use Rattle.wire_run.specs.declared.stream.Stop.TheVariants.{Halted, Faulty}

-- requests led the core to a journal, and the drivers have its running operations on air
pub record IsReached (core : Core) (row : List (Option Seen)) : Type 0 where
  pub db : List Domain
  pub journal : Journal
  pub stands : StandsFor db core journal
  pub regular : IsRegular db journal
  pub driven : AreDriven journal row

-- each message fits what may be sent
abbrev pub AreShort : List Msg → Type 0
AreShort messages = All (λ m. length (spelled m) ≤ 65536) messages

-- The decoder was fed these bytes, and the messages that it gave were answered.
pub record IsFedSoFar (db : List Domain) (fed : List ℕ) (decoder : Decoding) (before after : Option (List ℕ)) (core : Core) (heard heard' : List (Option Seen)) : Type 0 where
  pub messages : List Msg
  pub given : HasGiven decoder fed messages
  pub so_far : IsRunSoFar (MessageGives db) db messages before after core heard heard'

-- They are all messages that are whole in these bytes.
pub record IsWholeSoFar (db : List Domain) (fed : List ℕ) (decoder : Decoding) (before after : Option (List ℕ)) (core : Core) (heard heard' : List (Option Seen)) : Type 0 where
  pub far : IsFedSoFar db fed decoder before after core heard heard'
  pub whole : AreMessages fed far.messages None

-- ---- stops

-- where the answering of messages halts
abbrev pub IsMessageHalt : List Domain → List Msg → StreamAround → DriversAround → Halt → Type 0
IsMessageHalt db messages output drivers WriteFault = StopsWithin (MessageGives db) messages output drivers
IsMessageHalt db messages output drivers NoMemory = StopsBetween (MessageGives db) messages output drivers

-- and why
abbrev pub HasMessageCause : ℕ → ℕ → Halt → Type 0
HasMessageCause before after WriteFault = Rose before after
HasMessageCause before after NoMemory = Unit {0}

-- where a stream stops: within the answering of its messages, or at its first fault
abbrev pub IsStreamStop : List Domain → List ℕ → StreamAround → DriversAround → Stop → Type 0
IsStreamStop db fed output drivers (Halted halt) = BeginsWith fed (λ messages. IsMessageHalt db messages output drivers halt)
IsStreamStop db fed output drivers (Faulty place fault) = MeetsStreamFault db place fault fed output drivers

-- and why
abbrev pub HasStreamCause : ℕ → ℕ → Stop → Type 0
HasStreamCause before after (Halted halt) = HasMessageCause before after halt
HasStreamCause before after (Faulty place fault) = Unit {0}

-- what the command then ends with
abbrev pub status_of_message_halt : Halt → Status
status_of_message_halt NoMemory = EndsNoMemory
status_of_message_halt WriteFault = EndsWriteFault

abbrev pub status_of_stream_stop : Stop → Status
status_of_stream_stop (Halted halt) = status_of_message_halt halt
status_of_stream_stop (Faulty place fault) = Refused (Wire place fault)

-- what the command ends with where the stream ends and the decoder holds this
abbrev pub IsEndStatus : Decoding → Status → Type 0
IsEndStatus d Done = d.held ≡ []
IsEndStatus d (Refused (Wire place fault)) = (0 < length d.held) × (fault ≡ Truncated (length d.held)) × (place ≡ d.taken)
IsEndStatus d status = ⊥
