-- What a call that reads all bytes of a file, or of a source, learns of them.
use Rattle.std.specs.Prelude.{◌≡◌, ◌≢◌, ℕ, ◌<◌, ◌≤◌, ◌⊎◌, List, length, Contains, Option, Some, None, IfSome, if◌then◌else◌}
use Rattle.std.specs.Str.{bytes_eq}
use Rattle.reg_base.specs.Causes.{Rose, counted}
use Rattle.reg_base.specs.declared.errors.FileFault.{FileFault}
use Rattle.reg_base.specs.declared.errors.FileFault.TheVariants.{Failed, TooLong, OutOfMemory}

-- the bytes are all those that were there, where that is told
abbrev pub AreAll : Option (List ℕ) → List ℕ → Type 0
AreAll there bytes = IfSome there (λ all. all ≡ bytes)

-- more bytes than `most` were there, where that is told
abbrev pub IsLonger : ℕ → Option (List ℕ) → Type 0
IsLonger most there = IfSome there (λ all. most < length all)

-- why not all were read, by what was there and by the count of faults before and after
abbrev pub IsFileFault : ℕ → Option (List ℕ) → ℕ → ℕ → FileFault → Type 0
IsFileFault most there before after Failed = Rose before after
IsFileFault most there before after TooLong = IsLonger most there
IsFileFault most there before after OutOfMemory = Unit {0}

-- a file in memory: its name and its bytes
pub record NamedFile : Type 0 where
  pub name : List ℕ
  pub bytes : List ℕ

-- one file in memory, and how often reading failed
pub record FileStore : Type 0 where
  pub file : NamedFile
  pub faults : ℕ

-- one file in memory whose reading fails at listed calls: the calls by their numbers from 1, how many were made, and how
-- many failed
pub record FailingFileStore : Type 0 where
  pub file : NamedFile
  pub failing : List ℕ
  pub calls : ℕ
  pub faults : ℕ

-- what a name holds where this is the only file: of another name nothing is told
abbrev pub held_by : NamedFile → List ℕ → Option (List ℕ)
held_by file name = if bytes_eq name file.name then Some file.bytes else None

-- the bytes are those of the file, which has that name and at most so many of them
pub record IsReadOf (file : NamedFile) (name : List ℕ) (most : ℕ) (bytes : List ℕ) : Type 0 where
  pub named : name ≡ file.name
  pub all : bytes ≡ file.bytes
  pub within : length bytes ≤ most

-- why the only file there wasn't read: the first that applies
abbrev pub IsStoreFault : NamedFile → List ℕ → ℕ → FileFault → Type 0
IsStoreFault file name most Failed = name ≢ file.name
IsStoreFault file name most TooLong = (name ≡ file.name) × (most < length file.bytes)
IsStoreFault file name most OutOfMemory = (name ≡ file.name) × (length file.bytes ≤ most)

-- what a failed call does to the count of faults, and any other call
abbrev pub faults_after : FileFault → ℕ → ℕ
faults_after Failed faults = counted faults
faults_after TooLong faults = faults
faults_after OutOfMemory faults = faults

-- Where the call of that number isn't listed as failing, the bytes are those of the file.
pub record IsReadAt (call : ℕ) (store : FailingFileStore) (name : List ℕ) (most : ℕ) (bytes : List ℕ) : Type 0 where
  pub good_call : Contains store.failing call → ⊥
  pub read : IsReadOf store.file name most bytes

-- why the call of that number read nothing: it is listed as failing, or the file wasn't read
abbrev pub IsFaultAt : ℕ → FailingFileStore → List ℕ → ℕ → FileFault → Type 0
IsFaultAt call store name most Failed = Contains store.failing call ⊎ IsStoreFault store.file name most Failed
IsFaultAt call store name most TooLong = (Contains store.failing call → ⊥) × IsStoreFault store.file name most TooLong
IsFaultAt call store name most OutOfMemory = (Contains store.failing call → ⊥) × IsStoreFault store.file name most OutOfMemory
