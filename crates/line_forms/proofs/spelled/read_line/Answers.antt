use Rattle.std.proofs.Common.{◌≤◌, length, rules}
use Rattle.reg_base.specs.declared.limits.TheConstants.{MOST_LINE_BYTES}
use Rattle.line_forms.specs.Lines.{IsScriptLine}
use Rattle.line_forms.specs.Words.{words_of}
use Rattle.line_forms.proofs.AskedLines.{form-line, rules-line}
use Rattle.line_forms.proofs.Saying.{form-fault}
use Rattle.line_forms.proofs.spelled.read_line.Goals as goal

pub returns-in-Err-clause-says : goal.returns-in-Err-clause-says
returns-in-Err-clause-says c =
    let short : length c.args.line.now ≤ MOST_LINE_BYTES = search rules in
    let is : IsScriptLine c.args.line.now = record { short = short; each = c.are_line_bytes.ensures.0 c.if-not-are_line_bytes.false } in
    form-fault c.args.line.now c.in-Err.fault is (λ s. let one = c.is_silent.ensures.1 (rw c.new-cut.ensures s) in let other = c.if-is_silent.false in cc) (rw c.in_default.is at c.in_ok-request.ensures.asked) (rw c.new-cut.ensures at c.in-Err.ensures.read)

pub returns-in-Some-clause-line : goal.returns-in-Some-clause-line
returns-in-Some-clause-line c = rules-line (words_of c.args.line.now) c.in-Some.request (rw c.in-Some.is at c.in_ok-request.ensures.asked)

pub returns-in-Ok-clause-line : goal.returns-in-Ok-clause-line
returns-in-Ok-clause-line c = form-line (words_of c.args.line.now) c.in-Ok.request (rw c.new-cut.ensures at c.in-Ok.ensures.read)
