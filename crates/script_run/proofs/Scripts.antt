-- What lines give is one thing, where no driver fails.
use Rattle.std.proofs.Common.{◌≡◌, ℕ, List, [], Option, Some, None, Result, Ok, Err, sym, subst, ◌∙◌}
use Rattle.rule_tables.specs.declared.domain.Domain.{Domain}
use Rattle.reg_journal.specs.Facts.{Journal}
use Rattle.reg_journal.specs.declared.reply.Reply.{Reply}
use Rattle.reg_journal.specs.declared.request.Request.{Request}
use Rattle.iw_commands.specs.Printed.{IsTextOf}
use Rattle.line_forms.specs.declared.fault.LineFault.{LineFault}
use Rattle.line_forms.proofs.Saying.{one_meaning}
use Rattle.core_runs.proofs.Each.{EachGives-unique, none_failed, one_answer}
use Rattle.script_run.specs.Output.{IsOutput, LineGives, SayingGives}

one_text : (reply : Reply) (text other : List ℕ) → IsTextOf reply text → IsTextOf reply other → text ≡ other
one_text reply text other is is' = is ∙ sym is'

one_saying : (db : List Domain) (J : Journal) (said : Result (Option Request) LineFault) (text other : List ℕ) (next next' : Journal)
    → SayingGives db J said text [] next → SayingGives db J said other [] next' → (text ≡ other) × (next ≡ next')
one_saying db J (Ok None) text other next next' (is, none, stays) (is', none', stays') = (is ∙ sym is', stays ∙ sym stays')
one_saying db J (Ok (Some q)) text other next next' (reply, answers, is, failing) (reply', answers', is', failing') =
    let same = one_answer db J q reply reply' next next' (none_failed _ _ failing) (none_failed _ _ failing') answers answers' in
    (one_text reply' text other (subst (λ r. IsTextOf r text) same.0 is) is', same.1)
one_saying db J (Err fault) text other next next' (is, none, stays) (is', none', stays') = (is ∙ sym is', stays ∙ sym stays')

one_line : (db : List Domain) (J : Journal) (line text other : List ℕ) (next next' : Journal)
    → LineGives db J line text [] next → LineGives db J line other [] next' → (text ≡ other) × (next ≡ next')
one_line db J line text other next next' (said, says, gives) (said', says', gives') =
    one_saying db J said' text other next next' (subst (λ s. SayingGives db J s text [] next) (one_meaning line said said' says says') gives) gives'

pub one_output : (db : List Domain) (script text other : List ℕ) → IsOutput db script text → IsOutput db script other → text ≡ other
one_output db script text other (last, gives) (last', gives') = (EachGives-unique (LineGives db) (one_line db) [] _ text other last last' gives gives').0
