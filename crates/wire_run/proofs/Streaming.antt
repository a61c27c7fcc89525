-- Messages that a decoder gives one after the other, and what a stream then comes to.
use Rattle.std.proofs.Common.{◌≡◌, ℕ, ◌+◌, ◌<◌, List, [], ◌∷◌, ◌++◌, append-nil, length, length-append, Option, Some, None, MatchOption, Result, Ok, Err, inl, refl, ap, subst, ◌∙◌, arith}
use Rattle.std.proofs.lemmas.List.Elements.{All-nil}
use Rattle.rule_tables.specs.declared.domain.Domain.{Domain}
use Rattle.radio_drv.specs.Seen.{Seen}
use Rattle.reg_core.specs.declared.core_state.Core.{Core}
use Rattle.nl_attrs.specs.Faults.{IsFault}
use Rattle.nl_attrs.specs.Messages.{IsMsg, all_spelled, spelled}
use Rattle.nl_attrs.specs.Streams.{AreMessages, Decoding, GivesNext, HasGiven, TakesMsg, with_piece, held_with}
use Rattle.nl_attrs.specs.declared.fault.AttrFault.{AttrFault}
use Rattle.nl_attrs.specs.declared.fault.AttrFault.TheVariants.{Truncated}
use Rattle.nl_attrs.specs.declared.fault.NextFault.{NextFault}
use Rattle.nl_attrs.specs.declared.fault.NextFault.TheVariants.{Bad}
use Rattle.nl_attrs.specs.declared.message.Msg.{Msg}
use Rattle.core_runs.specs.Driven.{IsAt}
use Rattle.core_runs.specs.Turns.{IsRunSoFar}
use Rattle.core_runs.proofs.Turning.{ends_whole, so_far_none}
use Rattle.db_commands.specs.Devices.{DriversAround, StreamAround}
use Rattle.wire_run.specs.Answering.{MessageGives}
use Rattle.wire_run.specs.Streaming.{BeginsWith, EndsEarly, HasAnswered}
use Rattle.wire_run.specs.inner.Steps.{IsMessageHalt, IsFedSoFar, IsStreamStop, IsWholeSoFar}
use Rattle.wire_run.specs.declared.answering.Halt.{Halt}
use Rattle.wire_run.specs.declared.answering.Halt.TheVariants.{NoMemory}
use Rattle.wire_run.specs.declared.stream.Stop.TheVariants.{Halted, Faulty}
use Rattle.wire_run.proofs.Turning.{ends_after}

-- ---- fed and given

nothing_is : AreMessages [] [] None
nothing_is = record { rest = []; parts = refl; each = All-nil IsMsg; last = inl (omega arith) }

pub reads_none : (db : List Domain) (d : Decoding) (output : Option (List ℕ)) (core : Core) (heard : List (Option Seen)) → HasGiven d [] [] → IsAt db [] core heard → IsWholeSoFar db [] d output output core heard heard
reads_none db d output core heard given here =
    record { far = record { messages = []; given = given; so_far = so_far_none (MessageGives db) db output core heard here }; whole = nothing_is }

pub feeds : (db : List Domain) (fed piece : List ℕ) (d e : Decoding) (before after : Option (List ℕ)) (core : Core) (heard heard' : List (Option Seen))
    → ((fed : List ℕ) (given : List Msg) → HasGiven d fed given → HasGiven e (fed ++ piece) given)
    → IsWholeSoFar db fed d before after core heard heard' → IsFedSoFar db (fed ++ piece) e before after core heard heard'
feeds db fed piece d e before after core heard heard' stream so =
    record { messages = so.far.messages; given = stream fed so.far.messages so.far.given; so_far = so.far.so_far }

-- the message was given and answered
pub takes_message : (db : List Domain) (fed : List ℕ) (d e : Decoding) (m : Msg) (r : Result (Option Msg) NextFault) (before mid after : Option (List ℕ)) (core core' : Core) (heard first heard' : List (Option Seen))
    → ((fed : List ℕ) (given : List Msg) → HasGiven d fed given → GivesNext e fed given r) → r ≡ Ok (Some m)
    → ((messages : List Msg) → IsRunSoFar (MessageGives db) db messages before mid core heard first → IsRunSoFar (MessageGives db) db (messages ++ m ∷ []) before after core' heard heard')
    → IsFedSoFar db fed d before mid core heard first → IsFedSoFar db fed e before after core' heard heard'
takes_message db fed d e m r before mid after core core' heard first heard' stream is answered so = record {
  messages = so.messages ++ m ∷ [];
  given = subst (GivesNext e fed so.messages) is (stream fed so.messages so.given);
  so_far = answered so.messages so.so_far;
}

begins : (fed : List ℕ) (d : Decoding) (given : List Msg) (P : List Msg → Type 0) → HasGiven d fed given → P given → BeginsWith fed P
begins fed d given P has holds = (given, d.held ++ has.lost, has.each, has.parts, holds)

-- the message was given, and its answering halted
pub halts_message : (db : List Domain) (fed : List ℕ) (d e : Decoding) (m : Msg) (r : Result (Option Msg) NextFault) (mid : Option (List ℕ)) (output : StreamAround) (drivers : DriversAround) (halt : Halt) (core : Core) (first : List (Option Seen))
    → ((fed : List ℕ) (given : List Msg) → HasGiven d fed given → GivesNext e fed given r) → r ≡ Ok (Some m)
    → ((messages : List Msg) → IsRunSoFar (MessageGives db) db messages output.before mid core drivers.before first → IsMessageHalt db (messages ++ m ∷ []) output drivers halt)
    → IsFedSoFar db fed d output.before mid core drivers.before first → IsStreamStop db fed output drivers (Halted halt)
halts_message db fed d e m r mid output drivers halt core first stream is halts so =
    begins fed e (so.messages ++ m ∷ []) (λ messages. IsMessageHalt db messages output drivers halt) (subst (GivesNext e fed so.messages) is (stream fed so.messages so.given)) (halts so.messages so.so_far)

-- no memory was found for the next message
pub halts_between : (db : List Domain) (fed : List ℕ) (d : Decoding) (output : StreamAround) (drivers : DriversAround) (core : Core)
    → IsFedSoFar db fed d output.before output.after core drivers.before drivers.after → IsStreamStop db fed output drivers (Halted NoMemory)
halts_between db fed d output drivers core so = begins fed d so.messages (λ messages. IsMessageHalt db messages output drivers NoMemory) so.given (ends_after db so.messages output drivers core so.so_far)

-- the messages given are all that are whole
pub takes_all : (db : List Domain) (fed : List ℕ) (d e : Decoding) (r : Result (Option Msg) NextFault) (before after : Option (List ℕ)) (core : Core) (heard heard' : List (Option Seen))
    → ((fed : List ℕ) (given : List Msg) → HasGiven d fed given → GivesNext e fed given r) → r ≡ Ok None
    → IsFedSoFar db fed d before after core heard heard' → IsWholeSoFar db fed e before after core heard heard'
takes_all db fed d e r before after core heard heard' stream is so =
    let (given, whole) = subst (GivesNext e fed so.messages) is (stream fed so.messages so.given) in
    record { far = record { messages = so.messages; given = given; so_far = so.so_far }; whole = whole }

-- the fault was met
pub meets_fault : (db : List Domain) (fed : List ℕ) (d e : Decoding) (r : Result (Option Msg) NextFault) (place : ℕ) (fault : AttrFault) (output : StreamAround) (drivers : DriversAround) (core : Core)
    → ((fed : List ℕ) (given : List Msg) → HasGiven d fed given → GivesNext e fed given r) → r ≡ Err (Bad fault)
    → ((fed : List ℕ) (given : List Msg) → HasGiven e fed given → place ≡ length (all_spelled given))
    → IsFedSoFar db fed d output.before output.after core drivers.before drivers.after → IsStreamStop db fed output drivers (Faulty place fault)
meets_fault db fed d e r place fault output drivers core stream is placed so =
    let (given, whole) = subst (GivesNext e fed so.messages) is (stream fed so.messages so.given) in
    (so.messages, whole, placed fed so.messages given, ends_whole (MessageGives db) db so.messages output drivers core so.so_far)

-- ---- counts

pub kept_taken : (d e : Decoding) (m : Msg) → TakesMsg d e m → e.taken + length e.held ≡ d.taken + length d.held
kept_taken d e m takes =
    let count = takes.count in
    let all = ap (λ (l : List ℕ). length l) takes.front in
    omega (arith, count, all, length-append (spelled m) e.held)

pub fewer_held : (d e : Decoding) (m : Msg) → TakesMsg d e m → length e.held < length d.held
fewer_held d e m takes =
    let long = takes.long in
    let all = ap (λ (l : List ℕ). length l) takes.front in
    omega (arith, long, all, length-append (spelled m) e.held)

-- a piece that was fed is held, where no fault was met
pub piece_held : (d e : Decoding) (piece : List ℕ) → e ≡ with_piece d piece → d.fault ≡ None → (e.fault ≡ None) × (e.taken + length e.held ≡ d.taken + length d.held + length piece)
piece_held d e piece is sound =
    let held : e.held ≡ d.held ++ piece = ap (λ (x : Decoding). x.held) is ∙ ap (λ (o : Option AttrFault). held_with o d.held piece) sound in
    let taken : e.taken ≡ d.taken = ap (λ (x : Decoding). x.taken) is in
    let all = ap (λ (l : List ℕ). length l) held in
    (ap (λ (x : Decoding). x.fault) is ∙ sound, omega (arith, all, taken, length-append d.held piece))

-- ---- the end

pub has_answered : (db : List Domain) (fed : List ℕ) (d : Decoding) (output : StreamAround) (drivers : DriversAround) (core : Core)
    → IsWholeSoFar db fed d output.before output.after core drivers.before drivers.after → HasAnswered db None fed output drivers
has_answered db fed d output drivers core so = (so.far.messages, so.whole, ends_whole (MessageGives db) db so.far.messages output drivers core so.far.so_far)

nothing_lost : (fault : Option AttrFault) (lost held : List ℕ) → fault ≡ None → MatchOption fault (lost ≡ []) (IsFault held) → lost ≡ []
nothing_lost fault lost held sound state = subst (λ o. MatchOption o (lost ≡ []) (IsFault held)) sound state

-- what was fed is the messages and the bytes that are held
held_behind : (fed : List ℕ) (d : Decoding) (given : List Msg) → d.fault ≡ None → HasGiven d fed given → fed ≡ all_spelled given ++ d.held
held_behind fed d given sound has =
    has.parts ∙ ap (λ (l : List ℕ). all_spelled given ++ (d.held ++ l)) (nothing_lost d.fault has.lost d.held sound has.state) ∙ ap (λ (l : List ℕ). all_spelled given ++ l) (append-nil d.held)

pub ends_done : (fed : List ℕ) (d : Decoding) (given : List Msg) → d.fault ≡ None → d.held ≡ [] → HasGiven d fed given → fed ≡ all_spelled given
ends_done fed d given sound none has = held_behind fed d given sound has ∙ ap (λ (l : List ℕ). all_spelled given ++ l) none ∙ append-nil (all_spelled given)

pub ends_early : (db : List Domain) (fed : List ℕ) (d : Decoding) (place : ℕ) (fault : AttrFault) (output : StreamAround) (drivers : DriversAround) (core : Core) → d.fault ≡ None
    → 0 < length d.held → fault ≡ Truncated (length d.held) → place ≡ d.taken
    → IsWholeSoFar db fed d output.before output.after core drivers.before drivers.after → EndsEarly db place fault fed output drivers
ends_early db fed d place fault output drivers core sound some is placed so = (
  so.far.messages,
  so.whole,
  record { rest = d.held; parts = held_behind fed d so.far.messages sound so.far.given; left = some; is = is },
  placed ∙ so.far.given.count,
  ends_whole (MessageGives db) db so.far.messages output drivers core so.far.so_far,
)
