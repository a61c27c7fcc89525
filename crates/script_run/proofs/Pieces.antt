-- What was taken of a script while it is read, and what an end of reading then comes to.
use Rattle.std.proofs.Common.{◌≡◌, ℕ, ◌+◌, ◌<◌, ◌≤◌, min, List, [], ◌++◌, length, length-append, take, length-take, length-take-le, take-take, take_all, append-nil, Option, Some, None, inl, inr, refl, sym, ap, subst, ◌∙◌, arith}
use Rattle.std.proofs.lemmas.Bool.{cases_lt}
use lib.Seq.{take-append-add}
use Rattle.std.specs.Io.KnownBytes.{Consumes, IsAtEnd, Keeps}
use Rattle.std.proofs.KnownBytes.{Consumes-kept, Consumes-nil, Consumes-trans, Consumes-whole}
use Rattle.rule_tables.specs.declared.domain.Domain.{Domain}
use Rattle.radio_drv.specs.Seen.{Seen}
use Rattle.reg_base.specs.Causes.{Rose}
use Rattle.reg_base.specs.Files.{IsLonger}
use Rattle.reg_core.specs.declared.core_state.Core.{Core}
use Rattle.iw_commands.specs.Cutting.{OpenLine, opened}
use Rattle.iw_commands.specs.Scripts.{script_lines}
use Rattle.db_commands.specs.Devices.{DriversAround, StreamAround, script_limit}
use Rattle.db_commands.specs.declared.status.Status.TheVariants.{Done, ReadFault, TooLong, NoMemory as EndsNoMemory}
use Rattle.core_runs.specs.Driven.{IsAt}
use Rattle.script_run.specs.Output.{LineGives}
use Rattle.script_run.specs.Run.{IsAnswering}
use Rattle.core_runs.specs.Answered.{IsAnswered}
use Rattle.script_run.specs.Taken.{AreEnded}
use Rattle.script_run.specs.inner.Turns.{HaltsAmong, HasHaltCause, IsHalt, IsHeld, IsReadSoFar, status_of_halt}
use Rattle.script_run.specs.declared.answering.Halt.{Halt}
use Rattle.script_run.specs.declared.answering.Halt.TheVariants.{NoMemory, WriteFault}
use Rattle.script_run.proofs.Cutting.{cut_none, ended, held_none}
use Rattle.core_runs.proofs.Turning.{ends_before, ends_whole, so_far_none}

-- these bytes were taken, so many more may come within the limit, and that holds of them
abbrev pub ReadsOn : Option (List ℕ) → Option (List ℕ) → ℕ → (List ℕ → Type 0) → Type 0
ReadsOn before now left P = (taken : List ℕ) × Consumes before now taken × (length taken + left ≡ script_limit) × P taken

-- ---- what lies within the limit

within_left : (buffer : List ℕ) (left count : ℕ) → take left (take count buffer) ≡ take (min count left) buffer
within_left buffer left count = elim (cases_lt left count) [
  | inl less ↦ take-take left count buffer (omega (arith, less)) ∙ ap (λ n. take n buffer) (omega (arith, less))
  | inr not ↦
      take_all left (take count buffer) (omega (arith, not, length-take count buffer)) ∙ ap (λ n. take n buffer) (omega (arith, not))
]

-- of what was taken and of a piece behind it, what lies within the limit
front_within : (taken buffer : List ℕ) (left count : ℕ) → length taken + left ≡ script_limit → take script_limit (taken ++ take count buffer) ≡ taken ++ take (min count left) buffer
front_within taken buffer left count sum =
    ap (λ n. take n (taken ++ take count buffer)) (sym sum) ∙ take-append-add taken (take count buffer) left ∙ ap (λ xs. taken ++ xs) (within_left buffer left count)

all_within : (taken : List ℕ) (left : ℕ) → length taken + left ≡ script_limit → take script_limit taken ≡ taken
all_within taken left sum = take_all script_limit taken (omega (arith, sum))

-- ---- causes

-- a count that rose since a later moment rose since an earlier one
pub rose_since : (first mid last : ℕ) → first ≤ mid → Rose mid last → Rose first last
rose_since first mid last later rose = omega (arith, later, rose)

pub cause_since : (first mid last : ℕ) (halt : Halt) → first ≤ mid → HasHaltCause mid last halt → HasHaltCause first last halt
cause_since first mid last WriteFault later cause = rose_since first mid last later cause
cause_since first mid last NoMemory later cause = cause

-- ---- reading begins

pub reads_none : (db : List Domain) (cutter : OpenLine) (output : Option (List ℕ)) (core : Core) (heard : List (Option Seen)) → cutter ≡ opened → IsAt db [] core heard → IsReadSoFar db [] cutter output output core heard heard
reads_none db cutter output core heard is here =
    record { lines = []; begun = []; cut = cut_none; holds = subst (IsHeld []) (sym is) held_none; so_far = so_far_none (LineGives db) db output core heard here }

-- ---- reading stops

-- no byte was read, and nothing was answered
pub stops_at_once : (db : List Domain) (input output : StreamAround) (drivers : DriversAround) (core : Core)
    → input.after ≡ input.before → output.after ≡ output.before → drivers.after ≡ drivers.before → IsAt db [] core drivers.before → IsAnswering db input output drivers EndsNoMemory
stops_at_once db input output drivers core unread same left here = inl (record {
  taken = [];
  consumed = subst (λ o. Consumes input.before o []) (sym unread) (Consumes-nil input.before);
  holds = ([], [], refl, ends_before (LineGives db) db output drivers core same left here);
})

-- a read failed
pub stops_at_fault : (db : List Domain) (input output : StreamAround) (now : Option (List ℕ)) (left : ℕ) (drivers : DriversAround) (cutter : OpenLine) (core : Core)
    → Rose input.faults_before input.faults_after → Keeps now input.after
    → ReadsOn input.before now left (λ taken. IsReadSoFar db taken cutter output.before output.after core drivers.before drivers.after)
    → IsAnswering db input output drivers ReadFault
stops_at_fault db input output now left drivers cutter core rose kept (taken, consumed, sum, so) = (
  rose,
  record {
    taken = taken;
    consumed = Consumes-kept input.before now input.after taken consumed kept;
    holds = (
      so.lines,
      so.begun,
      subst (λ bytes. AreEnded bytes so.lines so.begun) (sym (all_within taken left sum)) (ended taken so.lines so.begun so.cut),
      ends_whole (LineGives db) db so.lines output drivers core so.so_far,
    );
  },
)

-- The end was read, and the last line is answered.
pub stops_at_end : (db : List Domain) (input output : StreamAround) (now : Option (List ℕ)) (left : ℕ) (drivers : DriversAround) (P : List ℕ → Type 0)
    → Consumes now input.after [] → IsAtEnd input.after → ReadsOn input.before now left P
    → ((taken : List ℕ) → P taken → IsAnswered (LineGives db) (script_lines taken) output drivers)
    → IsAnswering db input output drivers Done
stops_at_end db input output now left drivers P none end (taken, consumed, sum, holds) answered =
    let all : Consumes input.before input.after taken = subst (Consumes input.before input.after) (append-nil taken) (Consumes-trans input.before now input.after taken [] consumed none) in
    record {
      at_end = end;
      good = record {
        given = taken;
        all = Consumes-whole input.before input.after taken (λ bytes. bytes ≡ taken) all end refl;
        within = omega (arith, sum);
        holds = answered taken holds;
      };
    }

-- the answering of the last line stopped
pub halts_at_end : (db : List Domain) (input output : StreamAround) (now : Option (List ℕ)) (left : ℕ) (drivers : DriversAround) (halt : Halt) (P : List ℕ → Type 0)
    → Consumes now input.after [] → IsAtEnd input.after → ReadsOn input.before now left P
    → HasHaltCause output.faults_before output.faults_after halt
    → ((taken : List ℕ) → P taken → IsHalt db (script_lines taken) output drivers halt)
    → IsAnswering db input output drivers (status_of_halt halt)
halts_at_end db input output now left drivers halt P none end (taken, consumed, sum, holds) = by halt
  where
    all : Consumes input.before input.after taken
    all = subst (Consumes input.before input.after) (append-nil taken) (Consumes-trans input.before now input.after taken [] consumed none)

    by : (halt : Halt) → HasHaltCause output.faults_before output.faults_after halt → ((taken : List ℕ) → P taken → IsHalt db (script_lines taken) output drivers halt)
        → IsAnswering db input output drivers (status_of_halt halt)
    by NoMemory cause stops = inr (end, record { taken = taken; consumed = all; holds = (omega (arith, sum), stops taken holds) })
    by WriteFault cause stops = (cause, inr (end, record { taken = taken; consumed = all; holds = (omega (arith, sum), stops taken holds) }))

-- the answering of a line stopped whose newline came
pub halts_among : (db : List Domain) (input output : StreamAround) (now : Option (List ℕ)) (left count : ℕ) (buffer : List ℕ) (drivers : DriversAround) (halt : Halt) (P : List ℕ → Type 0)
    → Consumes now input.after (take count buffer) → ReadsOn input.before now left P
    → HasHaltCause output.faults_before output.faults_after halt
    → ((taken : List ℕ) → P taken → HaltsAmong db (taken ++ take (min count left) buffer) output drivers halt)
    → IsAnswering db input output drivers (status_of_halt halt)
halts_among db input output now left count buffer drivers halt P piece (taken, consumed, sum, holds) = by halt
  where
    all : Consumes input.before input.after (taken ++ take count buffer)
    all = Consumes-trans input.before now input.after taken (take count buffer) consumed piece

    by : (halt : Halt) → HasHaltCause output.faults_before output.faults_after halt → ((taken : List ℕ) → P taken → HaltsAmong db (taken ++ take (min count left) buffer) output drivers halt)
        → IsAnswering db input output drivers (status_of_halt halt)
    by NoMemory cause stops =
        let (lines, begun, are, stop) = stops taken holds in
        inl (record {
          taken = taken ++ take count buffer;
          consumed = all;
          holds = (lines, begun, subst (λ bytes. AreEnded bytes lines begun) (sym (front_within taken buffer left count sum)) are, stop);
        })
    by WriteFault cause stops =
        let (lines, begun, are, stop) = stops taken holds in (
          cause,
          inl (record {
            taken = taken ++ take count buffer;
            consumed = all;
            holds = (lines, begun, subst (λ bytes. AreEnded bytes lines begun) (sym (front_within taken buffer left count sum)) are, stop);
          }),
        )

-- ---- the limit

longer : (before after : Option (List ℕ)) (bytes : List ℕ) → Consumes before after bytes → script_limit < length bytes → IsLonger script_limit before
longer None after bytes all above = tt
longer (Some xs) None bytes all above = absurd all
longer (Some xs) (Some ys) bytes all above = omega (arith, above, ap length all, length-append bytes ys)

-- more bytes came than the limit
pub stops_at_limit : (db : List Domain) (input output : StreamAround) (now : Option (List ℕ)) (left count : ℕ) (buffer : List ℕ) (drivers : DriversAround) (cutter : OpenLine) (core : Core) (P : List ℕ → Type 0)
    → count ≤ length buffer → left < count → Consumes now input.after (take count buffer) → ReadsOn input.before now left P
    → ((taken : List ℕ) → P taken → IsReadSoFar db (taken ++ take (min count left) buffer) cutter output.before output.after core drivers.before drivers.after)
    → IsAnswering db input output drivers TooLong
stops_at_limit db input output now left count buffer drivers cutter core P few above piece (taken, consumed, sum, holds) goes =
    let so = goes taken holds in
    let all = Consumes-trans input.before now input.after taken (take count buffer) consumed piece in (
      longer input.before input.after (taken ++ take count buffer) all
          (omega (arith, sum, above, length-append taken (take count buffer), length-take-le count buffer few)),
      record {
        taken = taken ++ take count buffer;
        consumed = all;
        holds = (
          so.lines,
          so.begun,
          subst (λ bytes. AreEnded bytes so.lines so.begun) (sym (front_within taken buffer left count sum)) (ended (taken ++ take (min count left) buffer) so.lines so.begun so.cut),
          ends_whole (LineGives db) db so.lines output drivers core so.so_far,
        );
      },
    )

-- ---- reading goes on

pub reads_on : (before now after : Option (List ℕ)) (left count : ℕ) (buffer : List ℕ) (P Q : List ℕ → Type 0) → count ≤ length buffer → count ≤ left → Consumes now after (take count buffer) → ReadsOn before now left P
    → ((taken : List ℕ) → P taken → Q (taken ++ take (min count left) buffer))
    → (rest : ℕ) → rest + count ≡ left → ReadsOn before after rest Q
reads_on before now after left count buffer P Q few within piece (taken, consumed, sum, holds) goes rest is = (
  taken ++ take count buffer,
  Consumes-trans before now after taken (take count buffer) consumed piece,
  omega (arith, sum, is, length-append taken (take count buffer), length-take-le count buffer few),
  subst (λ n. Q (taken ++ take n buffer)) (omega (arith, within)) (goes taken holds),
)
