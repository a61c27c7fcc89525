-- The messages of a stream that comes in pieces, and what the answering of them ends with.
use Rattle.std.specs.Prelude.{◌≡◌, ℕ, List, ◌++◌, length, take, All, Option, Some, None}
use Rattle.reg_base.specs.Files.{IsLonger}
use Rattle.rule_tables.specs.declared.domain.Domain.{Domain}
use Rattle.nl_attrs.specs.Messages.{IsMsg, all_spelled}
use Rattle.nl_attrs.specs.Streams.{AreMessages, IsTruncated}
use Rattle.nl_attrs.specs.declared.fault.AttrFault.{AttrFault}
use Rattle.nl_attrs.specs.declared.message.Msg.{Msg}
use Rattle.std.specs.Prelude.{◌⊎◌}
use Rattle.core_runs.specs.Answered.{IsAnswered, StopsBetween, StopsWithin}
use Rattle.db_commands.specs.Devices.{DriversAround, StreamAround, HasFault, IsRead, script_limit}
use Rattle.db_commands.specs.declared.status.InputFault.TheVariants.{Wire}
use Rattle.db_commands.specs.declared.status.Status.{Status}
use Rattle.db_commands.specs.declared.status.Status.TheVariants.{Done, Refused, ReadFault, WriteFault, NoMemory, TooLong}
use Rattle.script_run.specs.Taken.{IsTaken}
use Rattle.wire_run.specs.Answering.{MessageGives}

-- how many bytes a stream of messages may have
abbrev pub stream_limit : ℕ
stream_limit = script_limit

-- the stream begins with the spellings of some messages, and P holds of these
abbrev pub BeginsWith : List ℕ → (List Msg → Type 0) → Type 0
BeginsWith stream P = (messages : List Msg) × (rest : List ℕ) × All IsMsg messages × (stream ≡ all_spelled messages ++ rest) × P messages

-- All messages that are whole in the stream were answered. The next one isn't whole yet, or has this fault.
abbrev pub HasAnswered : List Domain → Option AttrFault → List ℕ → StreamAround → DriversAround → Type 0
HasAnswered db fault stream output drivers = (messages : List Msg) × AreMessages stream messages fault × IsAnswered (MessageGives db) messages output drivers

-- All messages before the fault were answered, and the message with the fault begins at this place.
abbrev pub MeetsStreamFault : List Domain → ℕ → AttrFault → List ℕ → StreamAround → DriversAround → Type 0
MeetsStreamFault db place fault stream output drivers =
    (messages : List Msg) × AreMessages stream messages (Some fault) × (place ≡ length (all_spelled messages)) × IsAnswered (MessageGives db) messages output drivers

-- The stream is these messages.
abbrev pub IsStreamOf : List ℕ → List Msg → Type 0
IsStreamOf stream messages = All IsMsg messages × (stream ≡ all_spelled messages)

-- It ends within a message, which begins at this place. All messages before were answered.
abbrev pub EndsEarly : List Domain → ℕ → AttrFault → List ℕ → StreamAround → DriversAround → Type 0
EndsEarly db place fault stream output drivers =
    (messages : List Msg) × AreMessages stream messages None × IsTruncated stream messages fault × (place ≡ length (all_spelled messages))
    × IsAnswered (MessageGives db) messages output drivers

-- That holds of the bytes that were taken within the limit.
abbrev pub HasTaken : StreamAround → (List ℕ → Type 0) → Type 0
HasTaken input P = IsTaken input (λ taken. P (take stream_limit taken))

-- What the answering of a stream ends with, message by message as they are whole.
abbrev pub IsWiring : List Domain → StreamAround → StreamAround → DriversAround → Status → Type 0
IsWiring db input output drivers Done = IsRead stream_limit input (λ stream. (messages : List Msg) × IsStreamOf stream messages × IsAnswered (MessageGives db) messages output drivers)
IsWiring db input output drivers (Refused (Wire place fault)) =
    HasTaken input (λ stream. MeetsStreamFault db place fault stream output drivers) ⊎ IsRead stream_limit input (λ stream. EndsEarly db place fault stream output drivers)
IsWiring db input output drivers ReadFault = HasFault input × HasTaken input (λ stream. HasAnswered db None stream output drivers)
IsWiring db input output drivers WriteFault = HasFault output × HasTaken input (λ stream. BeginsWith stream (λ messages. StopsWithin (MessageGives db) messages output drivers))
IsWiring db input output drivers NoMemory = HasTaken input (λ stream. BeginsWith stream (λ messages. StopsBetween (MessageGives db) messages output drivers))
IsWiring db input output drivers TooLong = IsLonger stream_limit input.before × HasTaken input (λ stream. HasAnswered db None stream output drivers)
IsWiring db input output drivers status = ⊥
