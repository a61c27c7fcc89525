-- What the command ends with, by where the reading or the answering of messages stopped.
use Rattle.std.proofs.Common.{◌≡◌, ℕ, ◌+◌, ◌<◌, ◌≤◌, min, List, [], ◌++◌, append_assoc, length, take, Option, None, inl, inr, ap, ◌∙◌}
use Rattle.std.specs.Io.KnownBytes.{Consumes, IsAtEnd, Keeps}
use Rattle.reg_base.specs.Causes.{Rose}
use Rattle.rule_tables.specs.declared.domain.Domain.{Domain}
use Rattle.reg_core.specs.declared.core_state.Core.{Core}
use Rattle.nl_attrs.specs.Messages.{all_spelled}
use Rattle.nl_attrs.specs.Streams.{Decoding}
use Rattle.nl_attrs.specs.declared.message.Msg.{Msg}
use Rattle.core_runs.specs.Answered.{IsAnswered, StopsBetween}
use Rattle.core_runs.proofs.Turning.{ends_whole}
use Rattle.db_commands.specs.Devices.{DriversAround, StreamAround}
use Rattle.db_commands.specs.declared.status.InputFault.TheVariants.{Wire}
use Rattle.db_commands.specs.declared.status.Status.{Status}
use Rattle.db_commands.specs.declared.status.Status.TheVariants.{Done, Refused, ReadFault, TooLong, NoMemory as EndsNoMemory}
use Rattle.script_run.proofs.Pieces.{ReadsOn, rose_since}
use Rattle.pack_command.proofs.Reading.{is_longer, read_at_end, taken_among, taken_at_fault}
use Rattle.wire_run.specs.Answering.{MessageGives}
use Rattle.wire_run.specs.Streaming.{BeginsWith, EndsEarly, HasAnswered, IsStreamOf, IsWiring}
use Rattle.wire_run.specs.inner.Steps.{HasStreamCause, IsEndStatus, IsStreamStop, IsWholeSoFar, status_of_stream_stop}
use Rattle.wire_run.specs.declared.answering.Halt.TheVariants.{NoMemory, WriteFault as HaltsAtWrite}
use Rattle.wire_run.specs.declared.stream.Stop.{Stop}
use Rattle.wire_run.specs.declared.stream.Stop.TheVariants.{Halted, Faulty}
use Rattle.wire_run.proofs.Streaming.{ends_done, ends_early, has_answered}
use Rattle.wire_run.proofs.Turning.{ends_after}

pub cause_since : (first mid last : ℕ) (stop : Stop) → first ≤ mid → HasStreamCause mid last stop → HasStreamCause first last stop
cause_since first mid last (Halted HaltsAtWrite) later cause = rose_since first mid last later cause
cause_since first mid last (Halted NoMemory) later cause = cause
cause_since first mid last (Faulty place fault) later cause = cause

-- a read failed
pub stops_at_fault : (db : List Domain) (input output : StreamAround) (now : Option (List ℕ)) (left : ℕ) (drivers : DriversAround) (d : Decoding) (core : Core) (P : List ℕ → Type 0)
    → Rose input.faults_before input.faults_after → Keeps now input.after → ReadsOn input.before now left P
    → ((taken : List ℕ) → P taken → IsWholeSoFar db taken d output.before output.after core drivers.before drivers.after) → IsWiring db input output drivers ReadFault
stops_at_fault db input output now left drivers d core P rose kept so far =
    (rose, taken_at_fault input now left P (λ stream. HasAnswered db None stream output drivers) kept so (λ taken holds. has_answered db taken d output drivers core (far taken holds)))

-- more behind the messages
begins_more : (stream more : List ℕ) (P : List Msg → Type 0) → BeginsWith stream P → BeginsWith (stream ++ more) P
begins_more stream more P (messages, rest, each, parts, holds) = (messages, rest ++ more, each, ap (λ (l : List ℕ). l ++ more) parts ∙ append_assoc (all_spelled messages) rest more, holds)

begins_whole : (db : List Domain) (fed : List ℕ) (d : Decoding) (output : StreamAround) (drivers : DriversAround) (core : Core)
    → IsWholeSoFar db fed d output.before output.after core drivers.before drivers.after → BeginsWith fed (λ messages. StopsBetween (MessageGives db) messages output drivers)
begins_whole db fed d output drivers core so =
    (so.far.messages, d.held ++ so.far.given.lost, so.far.given.each, so.far.given.parts, ends_after db so.far.messages output drivers core so.far.so_far)

-- no memory was found for the bytes that were read
pub stops_unfed : (db : List Domain) (input output : StreamAround) (now : Option (List ℕ)) (left count : ℕ) (buffer : List ℕ) (drivers : DriversAround) (d : Decoding) (core : Core) (P : List ℕ → Type 0)
    → Consumes now input.after (take count buffer) → ReadsOn input.before now left P
    → ((taken : List ℕ) → P taken → IsWholeSoFar db taken d output.before output.after core drivers.before drivers.after) → IsWiring db input output drivers EndsNoMemory
stops_unfed db input output now left count buffer drivers d core P piece so far =
    taken_among input now left count buffer P (λ stream. BeginsWith stream (λ messages. StopsBetween (MessageGives db) messages output drivers)) piece so
    (λ taken holds. begins_more taken (take (min count left) buffer) (λ messages. StopsBetween (MessageGives db) messages output drivers) (begins_whole db taken d output drivers core (far taken holds)))

-- the answering stopped
pub stops_among : (db : List Domain) (input output : StreamAround) (now : Option (List ℕ)) (left count : ℕ) (buffer : List ℕ) (drivers : DriversAround) (stop : Stop) (P : List ℕ → Type 0)
    → Consumes now input.after (take count buffer) → ReadsOn input.before now left P → HasStreamCause output.faults_before output.faults_after stop
    → ((taken : List ℕ) → P taken → IsStreamStop db (taken ++ take (min count left) buffer) output drivers stop) → IsWiring db input output drivers (status_of_stream_stop stop)
stops_among db input output now left count buffer drivers stop P piece so cause stops = by stop cause stops
  where
    by : (stop : Stop) → HasStreamCause output.faults_before output.faults_after stop → ((taken : List ℕ) → P taken → IsStreamStop db (taken ++ take (min count left) buffer) output drivers stop)
        → IsWiring db input output drivers (status_of_stream_stop stop)
    by (Halted NoMemory) cause stops = taken_among input now left count buffer P (λ stream. IsStreamStop db stream output drivers (Halted NoMemory)) piece so stops
    by (Halted HaltsAtWrite) cause stops = (cause, taken_among input now left count buffer P (λ stream. IsStreamStop db stream output drivers (Halted HaltsAtWrite)) piece so stops)
    by (Faulty place fault) cause stops = inl (taken_among input now left count buffer P (λ stream. IsStreamStop db stream output drivers (Faulty place fault)) piece so stops)

-- more bytes came than the limit
pub stops_at_limit : (db : List Domain) (input output : StreamAround) (now : Option (List ℕ)) (left count : ℕ) (buffer : List ℕ) (drivers : DriversAround) (d : Decoding) (core : Core) (P : List ℕ → Type 0)
    → count ≤ length buffer → left < count → Consumes now input.after (take count buffer) → ReadsOn input.before now left P
    → ((taken : List ℕ) → P taken → IsWholeSoFar db (taken ++ take (min count left) buffer) d output.before output.after core drivers.before drivers.after)
    → IsWiring db input output drivers TooLong
stops_at_limit db input output now left count buffer drivers d core P few above piece so far = (
  is_longer input now left count buffer P few above piece so,
  taken_among input now left count buffer P (λ stream. HasAnswered db None stream output drivers) piece so (λ taken holds. has_answered db (taken ++ take (min count left) buffer) d output drivers core (far taken holds)),
)

-- the end was read
pub stops_at_end : (db : List Domain) (input output : StreamAround) (now : Option (List ℕ)) (left : ℕ) (drivers : DriversAround) (d : Decoding) (core : Core) (status : Status) (P : List ℕ → Type 0)
    → Consumes now input.after [] → IsAtEnd input.after → ReadsOn input.before now left P → d.fault ≡ None → IsEndStatus d status
    → ((taken : List ℕ) → P taken → IsWholeSoFar db taken d output.before output.after core drivers.before drivers.after) → IsWiring db input output drivers status
stops_at_end db input output now left drivers d core Done P none end so sound empty far =
    read_at_end input now left P (λ stream. (messages : List Msg) × IsStreamOf stream messages × IsAnswered (MessageGives db) messages output drivers) none end so
    (λ taken holds. let whole = far taken holds in
    (whole.far.messages, (whole.far.given.each, ends_done taken d whole.far.messages sound empty whole.far.given), ends_whole (MessageGives db) db whole.far.messages output drivers core whole.far.so_far))
stops_at_end db input output now left drivers d core (Refused (Wire place fault)) P none end so sound (some, is, placed) far =
    inr (read_at_end input now left P (λ stream. EndsEarly db place fault stream output drivers) none end so (λ taken holds. ends_early db taken d place fault output drivers core sound some is placed (far taken holds)))
stops_at_end db input output now left drivers d core status P none end so sound never far = absurd never
