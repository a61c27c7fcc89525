-- What the command ends with, by where the reading or the packing of lines stopped.
use Rattle.std.proofs.Common.{◌≡◌, ℕ, ◌<◌, ◌≤◌, min, List, [], ◌++◌, length, take, Option, inl, inr, refl, sym, subst}
use Rattle.std.specs.Io.KnownBytes.{Appends, Consumes, IsAtEnd, Keeps}
use Rattle.std.proofs.KnownBytes.{Appends-nil}
use Rattle.reg_base.specs.Causes.{Rose}
use Rattle.iw_commands.specs.Cutting.{OpenLine}
use Rattle.iw_commands.specs.Scripts.{script_lines}
use Rattle.db_commands.specs.Devices.{StreamAround}
use Rattle.db_commands.specs.declared.status.Status.TheVariants.{Done, ReadFault, TooLong, NoMemory as EndsNoMemory}
use Rattle.script_run.specs.Taken.{AreEnded}
use Rattle.script_run.proofs.Cutting.{ended}
use Rattle.script_run.proofs.Pieces.{ReadsOn, rose_since}
use Rattle.pack_command.specs.Pack.{IsPackStatus}
use Rattle.pack_command.specs.Packing.{AreAllPacked, MeetsFaultyLine, StopsBetweenLines, StopsWithinLine}
use Rattle.pack_command.specs.inner.Steps.{HasStopCause, IsPackedSoFar, IsPackStop, StopsAmong, status_of_stop}
use Rattle.pack_command.specs.declared.packing.Progress.{Progress}
use Rattle.pack_command.specs.declared.packing.Stop.{Stop}
use Rattle.pack_command.specs.declared.packing.Stop.TheVariants.{NoMemory, WriteFault, Faulty}
use Rattle.pack_command.proofs.Packed.{all_written}
use Rattle.pack_command.proofs.Reading.{is_longer, read_at_end, taken_among, taken_at_end, taken_at_fault, taken_none}

pub cause_since : (first mid last : ℕ) (stop : Stop) → first ≤ mid → HasStopCause mid last stop → HasStopCause first last stop
cause_since first mid last WriteFault later cause = rose_since first mid last later cause
cause_since first mid last NoMemory later cause = cause
cause_since first mid last (Faulty number fault) later cause = cause

-- the lines that ended with the bytes were packed
abbrev pub HasPacked : StreamAround → List ℕ → Type 0
HasPacked output bytes = (lines : List (List ℕ)) × (begun : List ℕ) × AreEnded bytes lines begun × AreAllPacked lines output

has_packed : (taken : List ℕ) (cutter : OpenLine) (output : StreamAround) (progress : Progress) → IsPackedSoFar taken cutter output.before output.after progress → HasPacked output taken
has_packed taken cutter output progress so = (so.lines, so.begun, ended taken so.lines so.begun so.cut, all_written so.lines output progress so.so_far)

-- nothing was written
nothing_packed : (output : StreamAround) → output.after ≡ output.before → StopsBetweenLines [] output
nothing_packed output same = record {
  first = [];
  left = [];
  parts = refl;
  before = record { bytes = []; requests = 0; packed = (refl, refl, refl); written = subst (λ o. Appends output.before o []) (sym same) (Appends-nil output.before) };
}

-- no byte was read
pub stops_at_once : (input output : StreamAround) → input.after ≡ input.before → output.after ≡ output.before → IsPackStatus input output EndsNoMemory
stops_at_once input output unread same =
    inl (taken_none input (λ bytes. (lines : List (List ℕ)) × (begun : List ℕ) × AreEnded bytes lines begun × StopsBetweenLines lines output) unread ([], [], refl, nothing_packed output same))

-- a read failed
pub stops_at_fault : (input output : StreamAround) (now : Option (List ℕ)) (left : ℕ) (cutter : OpenLine) (progress : Progress)
    → Rose input.faults_before input.faults_after → Keeps now input.after → ReadsOn input.before now left (λ taken. IsPackedSoFar taken cutter output.before output.after progress)
    → IsPackStatus input output ReadFault
stops_at_fault input output now left cutter progress rose kept so =
    (rose, taken_at_fault input now left (λ taken. IsPackedSoFar taken cutter output.before output.after progress) (HasPacked output) kept so (λ taken far. has_packed taken cutter output progress far))

-- The end was read, and the last line was packed.
pub stops_at_end : (input output : StreamAround) (now : Option (List ℕ)) (left : ℕ) (P : List ℕ → Type 0)
    → Consumes now input.after [] → IsAtEnd input.after → ReadsOn input.before now left P → ((taken : List ℕ) → P taken → AreAllPacked (script_lines taken) output)
    → IsPackStatus input output Done
stops_at_end input output now left P none end so written = read_at_end input now left P (λ taken. AreAllPacked (script_lines taken) output) none end so written

-- the packing of the last line stopped
pub last_stops : (input output : StreamAround) (now : Option (List ℕ)) (left : ℕ) (stop : Stop) (P : List ℕ → Type 0)
    → Consumes now input.after [] → IsAtEnd input.after → ReadsOn input.before now left P → HasStopCause output.faults_before output.faults_after stop
    → ((taken : List ℕ) → P taken → IsPackStop (script_lines taken) output stop) → IsPackStatus input output (status_of_stop stop)
last_stops input output now left stop P none end so cause stops = by stop cause stops
  where
    by : (stop : Stop) → HasStopCause output.faults_before output.faults_after stop → ((taken : List ℕ) → P taken → IsPackStop (script_lines taken) output stop) → IsPackStatus input output (status_of_stop stop)
    by NoMemory cause stops = inr (end, taken_at_end input now left P (λ taken. StopsBetweenLines (script_lines taken) output) none so stops)
    by WriteFault cause stops = (cause, inr (end, taken_at_end input now left P (λ taken. StopsWithinLine (script_lines taken) output) none so stops))
    by (Faulty number fault) cause stops = inr (end, taken_at_end input now left P (λ taken. MeetsFaultyLine (script_lines taken) number fault output) none so stops)

-- the packing of a line stopped whose newline came
pub stops_among : (input output : StreamAround) (now : Option (List ℕ)) (left count : ℕ) (buffer : List ℕ) (stop : Stop) (P : List ℕ → Type 0)
    → Consumes now input.after (take count buffer) → ReadsOn input.before now left P → HasStopCause output.faults_before output.faults_after stop
    → ((taken : List ℕ) → P taken → StopsAmong (taken ++ take (min count left) buffer) output stop) → IsPackStatus input output (status_of_stop stop)
stops_among input output now left count buffer stop P piece so cause stops = by stop cause stops
  where
    by : (stop : Stop) → HasStopCause output.faults_before output.faults_after stop → ((taken : List ℕ) → P taken → StopsAmong (taken ++ take (min count left) buffer) output stop) → IsPackStatus input output (status_of_stop stop)
    by NoMemory cause stops = inl (taken_among input now left count buffer P (λ bytes. StopsAmong bytes output NoMemory) piece so stops)
    by WriteFault cause stops = (cause, inl (taken_among input now left count buffer P (λ bytes. StopsAmong bytes output WriteFault) piece so stops))
    by (Faulty number fault) cause stops = inl (taken_among input now left count buffer P (λ bytes. StopsAmong bytes output (Faulty number fault)) piece so stops)

-- more bytes came than the limit
pub stops_at_limit : (input output : StreamAround) (now : Option (List ℕ)) (left count : ℕ) (buffer : List ℕ) (cutter : OpenLine) (progress : Progress) (P : List ℕ → Type 0)
    → count ≤ length buffer → left < count → Consumes now input.after (take count buffer) → ReadsOn input.before now left P
    → ((taken : List ℕ) → P taken → IsPackedSoFar (taken ++ take (min count left) buffer) cutter output.before output.after progress)
    → IsPackStatus input output TooLong
stops_at_limit input output now left count buffer cutter progress P few above piece so goes = (
  is_longer input now left count buffer P few above piece so,
  taken_among input now left count buffer P (HasPacked output) piece so (λ taken holds. has_packed (taken ++ take (min count left) buffer) cutter output progress (goes taken holds)),
)
