-- The messages of the requests of a script, numbered from 1 on.
use Rattle.std.specs.Prelude.{◌≡◌, ℕ, ◌+◌, ◌≤◌, List, [], ◌∷◌, ◌++◌, length, take, Option, Some, None, Result, Ok, Err}
use Rattle.std.specs.Io.KnownBytes.{Appends}
use Rattle.line_forms.specs.Lines.{Says}
use Rattle.line_forms.specs.declared.fault.LineFault.{LineFault}
use Rattle.nl_attrs.specs.Messages.{IsMsg, spelled}
use Rattle.nl80211_cmds.specs.Requests.{message_of}
use Rattle.reg_journal.specs.Forms.{IsLineRequest}
use Rattle.reg_journal.specs.Requests.{IsTyped}
use Rattle.reg_journal.specs.declared.request.Request.{Request}
use Rattle.core_runs.specs.Given.{EachGives}
use Rattle.db_commands.specs.Devices.{StreamAround}

-- ---- a line

-- The bytes are the one spelling of the request's message with this sequence number. A line can ask the request.
pub record IsPacked (q : Request) (seq : ℕ) (bytes : List ℕ) : Type 0 where
  pub typed : IsTyped q
  pub askable : IsLineRequest q
  pub message : IsMsg (message_of q seq)
  pub is : bytes ≡ spelled (message_of q seq)

-- What a line that says this gives behind so many requests, and how many there are then. A line with a fault gives nothing that could
-- go on.
abbrev pub SayingPacks : ℕ → Result (Option Request) LineFault → List ℕ → ℕ → Type 0
SayingPacks n (Ok None) bytes next = (bytes ≡ []) × (next ≡ n)
SayingPacks n (Ok (Some q)) bytes next = IsPacked q (n + 1) bytes × (next ≡ n + 1)
SayingPacks n (Err fault) bytes next = ⊥

-- What a line gives behind so many requests, and how many there are then. No driver is asked, so none fails.
abbrev pub PackGives : ℕ → List ℕ → List ℕ → List ℕ → ℕ → Type 0
PackGives n line bytes failed next = (said : Result (Option Request) LineFault) × Says line said × SayingPacks n said bytes next × (failed ≡ [])

-- ---- lines

-- what lines give, one behind the other, and how many requests they ask
abbrev pub Packs : List (List ℕ) → List ℕ → ℕ → Type 0
Packs lines bytes requests = EachGives PackGives 0 lines bytes [] requests

-- the lines were packed, and all of that was written
pub record AreAllPacked (lines : List (List ℕ)) (output : StreamAround) : Type 0 where
  pub bytes : List ℕ
  pub requests : ℕ
  pub packed : Packs lines bytes requests
  pub written : Appends output.before output.after bytes

-- The line of that number, counted from 1, is the first with a fault, which is this. What the lines before it give was written.
pub record MeetsFaultyLine (lines : List (List ℕ)) (number : ℕ) (fault : LineFault) (output : StreamAround) : Type 0 where
  pub first : List (List ℕ)
  pub line : List ℕ
  pub rest : List (List ℕ)
  pub parts : lines ≡ first ++ line ∷ rest
  pub says : Says line (Err fault)
  pub numbered : number ≡ length first + 1
  pub before : AreAllPacked first output

-- What the lines before one give was written, and some front of what that one gives.
pub record StopsWithinLine (lines : List (List ℕ)) (output : StreamAround) : Type 0 where
  pub first : List (List ℕ)
  pub line : List ℕ
  pub rest : List (List ℕ)
  pub parts : lines ≡ first ++ line ∷ rest
  pub bytes : List ℕ
  pub requests : ℕ
  pub packed : Packs first bytes requests
  pub message : List ℕ
  pub next : ℕ
  pub here : PackGives requests line message [] next
  pub count : ℕ
  pub within : count ≤ length message
  pub written : Appends output.before output.after (bytes ++ take count message)

-- What the lines that stand first give was written, and nothing of the next one.
pub record StopsBetweenLines (lines : List (List ℕ)) (output : StreamAround) : Type 0 where
  pub first : List (List ℕ)
  pub left : List (List ℕ)
  pub parts : lines ≡ first ++ left
  pub before : AreAllPacked first output
