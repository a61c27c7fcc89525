-- The command `wire`: what it ends with, and why.
use Rattle.std.specs.Prelude.{◌≡◌, ℕ, ◌≤◌, ◌⊎◌, List, [], ◌∷◌, length, map, take, Some, None, codes, string_bytes}
use Rattle.std.specs.Io.KnownBytes.{Appends, IsAtEnd}
use Rattle.std.specs.declared.alloc.Global.{Global}
use Rattle.std.specs.declared.string.String.{String}
use Rattle.rule_tables.specs.declared.domain.Domain.{Domain}
use Rattle.nl_attrs.specs.Streams.{AreMessages, IsTruncated}
use Rattle.nl_attrs.specs.Messages.{all_spelled}
use Rattle.nl_attrs.specs.declared.fault.AttrFault.{AttrFault}
use Rattle.nl_attrs.specs.declared.message.Msg.{Msg}
use Rattle.core_runs.specs.Answered.{IsAnswered}
use Rattle.core_runs.specs.Driven.{AreSteady}
use Rattle.db_commands.specs.Devices.{Devices, HasFault}
use Rattle.db_commands.specs.declared.status.Status.{Status}
use Rattle.script_run.specs.Run.{EndsAtFile, HasDatabase, HasInputOver}
use Rattle.wire_run.specs.Answering.{AreAnswers, MessageGives}
use Rattle.wire_run.specs.Streaming.{IsStreamOf, IsWiring, stream_limit}

-- the words are `wire` and the name of a database file
abbrev pub NamesWire : List (String Global) → List ℕ → Type 0
NamesWire words name = map string_bytes words ≡ codes "wire" ∷ name ∷ []

-- the database file was accepted, and then the messages were answered so
abbrev pub WiresOver : Devices → List ℕ → Status → Type 0
WiresOver d name status = HasDatabase d name (λ db. IsWiring db d.input d.output d.drivers status)

-- What `wire` ends with, over the database file of that name: there is no database, and nothing else was touched, or the messages were
-- answered so.
abbrev pub IsWireStatus : Devices → List ℕ → Status → Type 0
IsWireStatus d name status = EndsAtFile d name status ⊎ WiresOver d name status

-- ---- what comes of what is told

-- Nothing keeps the stream from being answered: it is at most as long as the limit, it is the spellings of messages, and no write failed.
pub record MayWire (d : Devices) (name : List ℕ) (db : List Domain) (stream : List ℕ) (messages : List Msg) : Type 0 where
  pub has_stream : HasInputOver d name db stream
  pub within : length stream ≤ stream_limit
  pub is : IsStreamOf stream messages
  pub writes : HasFault d.output → ⊥

-- The stream was read to its end, and each message was answered; with steady drivers what was written are their answers.
pub record WritesAnswers (d : Devices) (db : List Domain) (messages : List Msg) : Type 0 where
  pub at_end : IsAtEnd d.input.after
  pub answered : IsAnswered (MessageGives db) messages d.output d.drivers
  pub answers : AreSteady d.drivers.before → (bytes : List ℕ) × AreAnswers db messages bytes × Appends d.output.before d.output.after bytes

-- The fault of the stream: its first one, or that it ends within a message. The message with it begins at this place.
abbrev pub IsStreamFault : List ℕ → ℕ → AttrFault → Type 0
IsStreamFault stream place fault =
    (messages : List Msg) × (AreMessages stream messages (Some fault) ⊎ (AreMessages stream messages None × IsTruncated stream messages fault))
    × (place ≡ length (all_spelled messages))

-- No message that begins within the limit has a fault.
abbrev pub HasNoFault : List ℕ → Type 0
HasNoFault stream = (messages : List Msg) × AreMessages (take stream_limit stream) messages None
