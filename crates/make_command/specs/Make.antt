-- The command `make`: what it ends with, and why.
use Rattle.std.specs.Prelude.{◌≡◌, ℕ, List, [], ◌∷◌, ◌++◌, map, Some, codes, string_bytes}
use Rattle.std.specs.Io.KnownBytes.{Appends}
use Rattle.std.specs.declared.alloc.Global.{Global}
use Rattle.std.specs.declared.string.String.{String}
use Rattle.reg_base.specs.Appended.{AppendsFront}
use Rattle.reg_journal.specs.Facts.{Journal}
use Rattle.reg_journal.specs.declared.reply.Reply.{Reply}
use Rattle.reg_journal.specs.declared.request.Request.{Request}
use Rattle.core_runs.specs.Driven.{AreSteady, Follow}
use Rattle.core_runs.specs.Given.{EachGives, RequestGives}
use Rattle.line_forms.specs.Spelling.{number_within}
use Rattle.db_commands.specs.Devices.{StreamAround, Devices, HasFault, IsUntouched, DriversAround}
use Rattle.db_commands.specs.declared.status.Status.{Status}
use Rattle.db_commands.specs.declared.status.Status.TheVariants.{Done, WriteFault, NoMemory}
use Rattle.reg_make.specs.Domains.{made_domains}
use Rattle.reg_make.specs.Made.{made_requests}
use Rattle.make_command.specs.Counts.{counts_line}

-- the words are `make` and a number from 1 to 1,000,000
abbrev pub NamesMake : List (String Global) → ℕ → Type 0
NamesMake words n = (word : List ℕ) × (map string_bytes words ≡ codes "make" ∷ word ∷ []) × (number_within 1 1000000 word ≡ Some n)

-- these requests, asked of a core of the made database that nothing was asked of yet, give this
abbrev pub MadeGive : List Request → List Reply → List ℕ → Journal → Type 0
MadeGive requests replies failed last = EachGives (RequestGives made_domains) [] requests replies failed last

-- All requests were answered, the drivers follow the journal that they led to, and of the line that sums the replies up P holds.
pub record IsMadeWhole (n : ℕ) (drivers : DriversAround) (P : List ℕ → Type 0) : Type 0 where
  pub replies : List Reply
  pub failed : List ℕ
  pub last : Journal
  pub given : MadeGive (made_requests n) replies failed last
  pub follow : Follow last failed drivers.before drivers.after
  pub line : P (counts_line replies)

-- the requests that stand first were answered, and the drivers follow the journal that they led to
pub record IsMadeInPart (n : ℕ) (drivers : DriversAround) : Type 0 where
  pub first : List Request
  pub left : List Request
  pub parts : made_requests n ≡ first ++ left
  pub replies : List Reply
  pub failed : List ℕ
  pub last : Journal
  pub given : MadeGive first replies failed last
  pub follow : Follow last failed drivers.before drivers.after

-- What `make` ends with, for n drawn requests: the line was written, or a front of it before a fault, or nothing where memory was
-- wanting.
abbrev pub IsMakeStatus : ℕ → StreamAround → DriversAround → Status → Type 0
IsMakeStatus n output drivers Done = IsMadeWhole n drivers (λ line. Appends output.before output.after line)
IsMakeStatus n output drivers WriteFault = HasFault output × IsMadeWhole n drivers (λ line. AppendsFront output.before output.after line)
IsMakeStatus n output drivers NoMemory = IsUntouched output × IsMadeInPart n drivers
IsMakeStatus n output drivers status = ⊥

-- ---- what comes of what is told

-- Nothing keeps the line from being written: no write failed.
pub record MayMake (words : List (String Global)) (d : Devices) (n : ℕ) : Type 0 where
  pub form : NamesMake words n
  pub writes : HasFault d.output → ⊥

-- The line that sums the replies up was written. Where the drivers are steady, none failed.
pub record WritesCounts (d : Devices) (n : ℕ) : Type 0 where
  pub made : IsMadeWhole n d.drivers (λ line. Appends d.output.before d.output.after line)
  pub none_fails : AreSteady d.drivers.before → made.failed ≡ []
