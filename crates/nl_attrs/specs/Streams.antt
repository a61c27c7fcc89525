-- The messages of a stream, and what a decoder has done with the bytes that it was fed.
use Rattle.std.specs.Prelude.{◌≡◌, ℕ, ◌+◌, ◌<◌, ◌≤◌, ◌⊎◌, List, [], ◌∷◌, ◌++◌, length, All, Option, Some, None, MatchOption, Result, Ok, Err}
use Rattle.std.specs.List.{flat_map}
use Rattle.nl_attrs.specs.Messages.{IsMsg, spelled, all_spelled}
use Rattle.nl_attrs.specs.Faults.{IsFamilyWhole, IsFault, IsUndecided}
use Rattle.nl_attrs.specs.declared.message.Msg.{Msg}
use Rattle.nl_attrs.specs.declared.fault.AttrFault.{AttrFault}
use Rattle.nl_attrs.specs.declared.fault.AttrFault.TheVariants.{Truncated}
use Rattle.nl_attrs.specs.declared.fault.NextFault.{NextFault}
use Rattle.nl_attrs.specs.declared.fault.NextFault.TheVariants.{Bad, OutOfMemory}

-- the stream that comes in these pieces
abbrev pub joined : List (List ℕ) → List ℕ
joined pieces = flat_map (λ piece. piece) pieces

-- a message stands at the front, or a fault
abbrev pub HasMessage : List ℕ → Type 0
HasMessage held = (m : Msg) × (rest : List ℕ) × IsMsg m × (held ≡ spelled m ++ rest)

abbrev pub IsFaulty : List ℕ → Type 0
IsFaulty held = (fault : AttrFault) × IsFault held fault

-- The stream is the spellings of the messages, and a rest that is undecided or has the fault at its front.
pub record AreMessages (stream : List ℕ) (messages : List Msg) (fault : Option AttrFault) : Type 0 where
  pub rest : List ℕ
  pub parts : stream ≡ all_spelled messages ++ rest
  pub each : All IsMsg messages
  pub last : MatchOption fault (IsUndecided rest) (IsFault rest)

-- What callers see of a decoder: the bytes that were fed and not taken, how many were taken, and the fault that it met.
pub record Decoding : Type 0 where
  pub held : List ℕ
  pub taken : ℕ
  pub fault : Option AttrFault

-- a decoder that was fed nothing
abbrev pub nothing_fed : Decoding
nothing_fed = record { held = []; taken = 0; fault = None }

-- feeding adds the piece to what is held, and nothing after a fault
abbrev pub held_with : Option AttrFault → List ℕ → List ℕ → List ℕ
held_with None held piece = held ++ piece
held_with (Some fault) held piece = held

-- it was fed the piece; after a fault it takes no more
abbrev pub with_piece : Decoding → List ℕ → Decoding
with_piece d piece = record { held = held_with d.fault d.held piece; taken = d.taken; fault = d.fault }

-- The message stood at the front and was taken. Each has at least 20 bytes, so asking for the next one ends.
pub record TakesMsg (old new : Decoding) (m : Msg) : Type 0 where
  pub message : IsMsg m
  pub front : old.held ≡ spelled m ++ new.held
  pub long : 20 ≤ length (spelled m)
  pub count : new.taken ≡ old.taken + length (spelled m)
  pub before : old.fault ≡ None
  pub after : new.fault ≡ None

-- No message is whole yet, and no fault is there.
pub record Waits (old new : Decoding) : Type 0 where
  pub undecided : IsUndecided old.held
  pub fault : old.fault ≡ None
  pub same : new ≡ old

-- The fault is met, or was met before.
pub record MeetsFault (old new : Decoding) (fault : AttrFault) : Type 0 where
  pub met : MatchOption old.fault (IsFault old.held fault) (λ before. fault ≡ before)
  pub held : new.held ≡ old.held
  pub taken : new.taken ≡ old.taken
  pub kept : new.fault ≡ Some fault

-- why no message is taken; only a whole one of a family takes memory
abbrev pub IsNextFault : Decoding → Decoding → NextFault → Type 0
IsNextFault old new (Bad fault) = MeetsFault old new fault
IsNextFault old new OutOfMemory = (old.fault ≡ None) × (new ≡ old) × IsFamilyWhole old.held

-- What was fed is the spellings of the messages given, the bytes held, and bytes that were fed after a fault and are
-- lost.
pub record HasGiven (d : Decoding) (fed : List ℕ) (given : List Msg) : Type 0 where
  pub lost : List ℕ
  pub parts : fed ≡ all_spelled given ++ (d.held ++ lost)
  pub each : All IsMsg given
  pub count : d.taken ≡ length (all_spelled given)
  pub state : MatchOption d.fault (lost ≡ []) (IsFault d.held)

-- After asking for the next message: it is given too, or those given are all messages of what was fed.
abbrev pub GivesNext : Decoding → List ℕ → List Msg → Result (Option Msg) NextFault → Type 0
GivesNext d fed given (Ok (Some m)) = HasGiven d fed (given ++ m ∷ [])
GivesNext d fed given (Ok None) = HasGiven d fed given × AreMessages fed given None
GivesNext d fed given (Err (Bad fault)) = HasGiven d fed given × AreMessages fed given (Some fault)
GivesNext d fed given (Err OutOfMemory) = HasGiven d fed given

-- why the stream may not end where so many bytes are held: they are too few for a message, or the fault was met
abbrev pub IsLeft : Option AttrFault → ℕ → AttrFault → Type 0
IsLeft None n fault = (0 < n) × (fault ≡ Truncated n)
IsLeft (Some before) n fault = fault ≡ before

-- bytes are left behind the last message
pub record IsTruncated (fed : List ℕ) (given : List Msg) (fault : AttrFault) : Type 0 where
  pub rest : List ℕ
  pub parts : fed ≡ all_spelled given ++ rest
  pub left : 0 < length rest
  pub is : fault ≡ Truncated (length rest)

-- The stream ends with the last message given, or it has the fault behind it, or bytes are left.
abbrev pub EndsStream : List ℕ → List Msg → Result (Unit {0}) AttrFault → Type 0
EndsStream fed given (Ok done) = fed ≡ all_spelled given
EndsStream fed given (Err fault) = AreMessages fed given (Some fault) ⊎ IsTruncated fed given fault
