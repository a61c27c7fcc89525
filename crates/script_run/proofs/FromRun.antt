-- What follows from the end of `run`, where its database file and its script are told: the whole output, or the fault of the
-- database, or the length.
use Rattle.std.proofs.Common.{◌≡◌, ℕ, ◌<◌, ◌≤◌, ◌⊎◌, List, [], length, inl, inr, refl, sym, subst, arith}
use Rattle.std.specs.Io.KnownBytes.{Appends}
use Rattle.rule_tables.specs.FileFaults.{IsDbFault}
use Rattle.rule_tables.specs.declared.domain.Domain.{Domain}
use Rattle.rule_tables.specs.declared.file_fault.DbFault.{DbFault}
use Rattle.iw_commands.specs.Scripts.{script_lines}
use Rattle.db_commands.specs.Status.{EndsWith}
use Rattle.db_commands.specs.Devices.{Devices, DriversAround, HasFault, StreamAround, input_limit, script_limit}
use Rattle.core_runs.specs.Driven.{AreSteady}
use Rattle.core_runs.proofs.Drivers.{none_fails}
use Rattle.core_runs.proofs.Each.{EachGives-each}
use Rattle.script_run.specs.Granting.{LineGrants}
use Rattle.script_run.specs.Output.{IsOutput, LineGives, ScriptGives}
use Rattle.script_run.specs.Run.{Answers, EndsAtFile, HasFile, HasInputOver, IsAnswering, IsRunStatus, MayRun, WritesReplies}
use Rattle.core_runs.specs.Answered.{IsAnswered}
use Rattle.db_commands.specs.declared.status.InputFault.TheVariants.{Database}
use Rattle.db_commands.specs.declared.status.Status.{Status}
use Rattle.db_commands.specs.declared.status.Status.TheVariants.{Done, Usage, Refused, ReadFault, WriteFault, NoMemory, TooLong}
use Rattle.db_commands.proofs.FromConversion.{not_longer, of_told}
use Rattle.script_run.proofs.FromFile.{accepted_file, faulty_file, long_file, same_database}
use Rattle.script_run.proofs.Granting.{line_grants}

-- the command ended at its file, or answered a script, but for want of memory
run_ends : (d : Devices) (name : List ℕ) (status : Status) → IsRunStatus d name status → (status ≡ NoMemory) ⊎ (EndsAtFile d name status ⊎ Answers d name status)
run_ends d name Done there = inr (inr there)
run_ends d name Usage none = absurd none
run_ends d name (Refused fault) at_file = inr (inl at_file)
run_ends d name ReadFault run = inr run
run_ends d name WriteFault there = inr (inr there)
run_ends d name NoMemory run = inl refl
run_ends d name TooLong run = inr run

-- ---- the whole output

-- each line was answered, a start with a power where it is granted
answered_so : (db : List Domain) (lines : List (List ℕ)) (output : StreamAround) (drivers : DriversAround) → IsAnswered (LineGives db) lines output drivers → IsAnswered (LineGrants db) lines output drivers
answered_so db lines output drivers done = record {
  text = done.text;
  failed = done.failed;
  last = done.last;
  given = EachGives-each (LineGives db) (LineGrants db) (line_grants db) [] lines done.text done.failed done.last done.given;
  written = done.written;
  follow = done.follow;
}

-- steady drivers don't fail
output_of : (d : Devices) (db : List Domain) (script : List ℕ) → IsAnswered (LineGives db) (script_lines script) d.output d.drivers → AreSteady d.drivers.before
    → (text : List ℕ) × IsOutput db script text × Appends d.output.before d.output.after text
output_of d db script done steady =
    let none = none_fails d.drivers.before done.failed steady done.follow.gone_on.unsteady in
    (done.text, (done.last, subst (λ f. ScriptGives db script done.text f done.last) none done.given), done.written)

-- what was answered is the script that was told
answered_whole : (d : Devices) (name : List ℕ) (db : List Domain) (script : List ℕ) (status : Status) → MayRun d name db script → IsAnswering db d.input d.output d.drivers status
    → (status ≡ NoMemory) ⊎ ((status ≡ Done) × WritesReplies d db script)
answered_whole d name db script Done may read =
    let done = subst (λ given. IsAnswered (LineGives db) (script_lines given) d.output d.drivers) (sym (of_told _ script _ may.has_script.told read.good.all)) read.good.holds in
    inr (refl, record { at_end = read.at_end; answered = answered_so db (script_lines script) d.output d.drivers done; output = output_of d db script done })
answered_whole d name db script Usage may none = absurd none
answered_whole d name db script (Refused fault) may none = absurd none
answered_whole d name db script ReadFault may (rose, lines) = absurd (may.has_script.reads rose)
answered_whole d name db script WriteFault may (rose, lines) = absurd (may.writes rose)
answered_whole d name db script NoMemory may lines = inl refl
answered_whole d name db script TooLong may (longer, lines) =
    let above = of_told _ script _ may.has_script.told longer in
    absurd (omega (arith, above, may.within))

pub ran_whole : (d : Devices) (name : List ℕ) (status : Status) (db : List Domain) (script : List ℕ) → MayRun d name db script → IsRunStatus d name status
    → (status ≡ NoMemory) ⊎ ((status ≡ Done) × WritesReplies d db script)
ran_whole d name status db script may run = elim (run_ends d name status run) [
  | inl none ↦ inl none
  | inr ended ↦ elim ended [
    | inl at_file ↦ inl (accepted_file d name db status may.has_script.file at_file)
    | inr there ↦ answered_whole d name db script status may (same_database d name db (λ db. IsAnswering db d.input d.output d.drivers status) may.has_script.file there)
  ]
]

-- ---- the file

pub ran_fault : (d : Devices) (name : List ℕ) (status : Status) (bytes : List ℕ) (fault : DbFault) → HasFile d name bytes → length bytes ≤ input_limit → IsDbFault bytes fault → IsRunStatus d name status
    → EndsWith status (Refused (Database fault))
ran_fault d name status bytes fault file within is run = elim (run_ends d name status run) [
  | inl none ↦ inl none
  | inr ended ↦ faulty_file d name bytes fault status (λ db. IsAnswering db d.input d.output d.drivers status) file within is ended
]

pub ran_long_file : (d : Devices) (name : List ℕ) (status : Status) (bytes : List ℕ) → HasFile d name bytes → input_limit < length bytes → IsRunStatus d name status → EndsWith status TooLong
ran_long_file d name status bytes file above run = elim (run_ends d name status run) [
  | inl none ↦ inl none
  | inr ended ↦ long_file d name bytes status (λ db. IsAnswering db d.input d.output d.drivers status) file above ended
]

-- ---- the length of the script

answered_long : (d : Devices) (name : List ℕ) (db : List Domain) (script : List ℕ) (status : Status) → HasInputOver d name db script → script_limit < length script → IsAnswering db d.input d.output d.drivers status
    → EndsWith status TooLong ⊎ HasFault d.output
answered_long d name db script Done has above read = absurd (not_longer script_limit d.input script _ has.told above read)
answered_long d name db script Usage has above none = absurd none
answered_long d name db script (Refused fault) has above none = absurd none
answered_long d name db script ReadFault has above (rose, lines) = absurd (has.reads rose)
answered_long d name db script WriteFault has above (rose, lines) = inr rose
answered_long d name db script NoMemory has above lines = inl (inl refl)
answered_long d name db script TooLong has above longer = inl (inr refl)

pub ran_long_script : (d : Devices) (name : List ℕ) (status : Status) (db : List Domain) (script : List ℕ) → HasInputOver d name db script → script_limit < length script → IsRunStatus d name status
    → EndsWith status TooLong ⊎ HasFault d.output
ran_long_script d name status db script has above run = elim (run_ends d name status run) [
  | inl none ↦ inl (inl none)
  | inr ended ↦ elim ended [
    | inl at_file ↦ inl (inl (accepted_file d name db status has.file at_file))
    | inr there ↦ answered_long d name db script status has above (same_database d name db (λ db. IsAnswering db d.input d.output d.drivers status) has.file there)
  ]
]
