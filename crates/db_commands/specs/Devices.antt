-- What a call of the program was lent, and what it did to it.
use Rattle.std.specs.Prelude.{◌≡◌, ℕ, ◌≤◌, List, length, Option}
use Rattle.std.specs.Io.KnownBytes.{IsAtEnd}
use Rattle.reg_base.specs.Causes.{Rose}
use Rattle.reg_base.specs.Files.{AreAll}
use Rattle.radio_drv.specs.Seen.{Seen}

-- how many bytes a rule text or a database may have
abbrev pub input_limit : ℕ
input_limit = 16777216

-- how many bytes a script may have
abbrev pub script_limit : ℕ
script_limit = 4294967295

-- ---- what is lent

-- A source or a sink round a call: the bytes that a source has left or a sink holds, where it tells them, and its count of
-- faults.
pub record StreamAround : Type 0 where
  pub before : Option (List ℕ)
  pub after : Option (List ℕ)
  pub faults_before : ℕ
  pub faults_after : ℕ

abbrev pub around : Option (List ℕ) → Option (List ℕ) → ℕ → ℕ → StreamAround
around before after faults_before faults_after = record { before = before; after = after; faults_before = faults_before; faults_after = faults_after }

-- Files round a call: what the file of a name holds, where that is told, and their count of faults.
pub record FilesAround : Type 0 where
  pub before : List ℕ → Option (List ℕ)
  pub after : List ℕ → Option (List ℕ)
  pub faults_before : ℕ
  pub faults_after : ℕ

abbrev pub stored : (List ℕ → Option (List ℕ)) → (List ℕ → Option (List ℕ)) → ℕ → ℕ → FilesAround
stored before after faults_before faults_after = record { before = before; after = after; faults_before = faults_before; faults_after = faults_after }

-- the drivers round a call, as they are seen
pub record DriversAround : Type 0 where
  pub before : List (Option Seen)
  pub after : List (Option Seen)

abbrev pub driven : List (Option Seen) → List (Option Seen) → DriversAround
driven before after = record { before = before; after = after }

-- all that is lent
pub record Devices : Type 0 where
  pub files : FilesAround
  pub input : StreamAround
  pub output : StreamAround
  pub drivers : DriversAround

abbrev pub devices : FilesAround → StreamAround → StreamAround → DriversAround → Devices
devices files input output drivers = record { files = files; input = input; output = output; drivers = drivers }

-- ---- what was done to it

-- the call did nothing to it
pub record IsUntouched (d : StreamAround) : Type 0 where
  pub bytes : d.after ≡ d.before
  pub faults : d.faults_after ≡ d.faults_before

-- the call read no file
pub record IsUnread (files : FilesAround) : Type 0 where
  pub bytes : files.after ≡ files.before
  pub faults : files.faults_after ≡ files.faults_before

-- the call told the drivers nothing
abbrev pub AreLeft : DriversAround → Type 0
AreLeft drivers = drivers.after ≡ drivers.before

-- a fault came in the call
abbrev pub HasFault : StreamAround → Type 0
HasFault d = Rose d.faults_before d.faults_after

abbrev pub HasFileFault : FilesAround → Type 0
HasFileFault files = Rose files.faults_before files.faults_after

-- ---- what was read

-- The bytes that were there, where that is told, are at most so many, and P holds of them.
pub record AreGood (most : ℕ) (there : Option (List ℕ)) (P : List ℕ → Type 0) : Type 0 where
  pub given : List ℕ
  pub all : AreAll there given
  pub within : length given ≤ most
  pub holds : P given

-- The input was read to its end. It had at most so many bytes, and that holds of them.
pub record IsRead (most : ℕ) (input : StreamAround) (P : List ℕ → Type 0) : Type 0 where
  pub at_end : IsAtEnd input.after
  pub good : AreGood most input.before P
