-- What a script gives: line by line, from the oldest on, what each gives at the journal that the lines before it left.
use Rattle.std.specs.Prelude.{◌≡◌, ℕ, List, [], Option, Some, None, Result, Ok, Err}
use Rattle.rule_tables.specs.declared.domain.Domain.{Domain}
use Rattle.reg_journal.specs.Facts.{Journal}
use Rattle.reg_journal.specs.Replies.{Steps}
use Rattle.reg_journal.specs.declared.reply.Reply.{Reply}
use Rattle.reg_journal.specs.declared.request.Request.{Request}
use Rattle.reg_books.specs.DriverRows.{driven_radio}
use Rattle.reg_core.specs.Stepping.{is_failed}
use Rattle.core_runs.specs.Given.{EachGives, HaveFailed}
use Rattle.line_forms.specs.Lines.{Says}
use Rattle.iw_commands.specs.Printed.{IsTextOf, line_fault_text}
use Rattle.iw_commands.specs.Scripts.{script_lines}
use Rattle.line_forms.specs.declared.fault.LineFault.{LineFault}

-- ---- a line

-- What a line that says this gives: its text, the radios whose drivers failed, and the next journal.
abbrev pub SayingGives : List Domain → Journal → Result (Option Request) LineFault → List ℕ → List ℕ → Journal → Type 0
SayingGives db J (Ok None) text failed next = (text ≡ []) × (failed ≡ []) × (next ≡ J)
SayingGives db J (Ok (Some q)) text failed next =
    (reply : Reply) × Steps db J q (is_failed reply) reply next × IsTextOf reply text × HaveFailed (is_failed reply) (driven_radio J q) failed
SayingGives db J (Err fault) text failed next = (text ≡ line_fault_text fault) × (failed ≡ []) × (next ≡ J)

-- what a line writes, and the journal behind it: the one reply of its request, the text of its fault, or nothing
abbrev pub LineGives : List Domain → Journal → List ℕ → List ℕ → List ℕ → Journal → Type 0
LineGives db J line text failed next = (said : Result (Option Request) LineFault) × Says line said × SayingGives db J said text failed next

-- ---- a script

-- What the script gives, line by line, from the empty journal on.
abbrev pub ScriptGives : List Domain → List ℕ → List ℕ → List ℕ → Journal → Type 0
ScriptGives db script text failed last = EachGives (LineGives db) [] (script_lines script) text failed last

-- The output of the script, with no driver failing.
abbrev pub IsOutput : List Domain → List ℕ → List ℕ → Type 0
IsOutput db script text = (last : Journal) × ScriptGives db script text [] last
