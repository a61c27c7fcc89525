use Rattle.std.proofs.Common.{◌≡◌, rules, subst, sym}
use Rattle.line_forms.specs.Lines.{Asks}
use Rattle.line_printing.specs.Printed.{line_text}
use Rattle.line_printing.proofs.PrintedLines.{printed-line-asks}
use Rattle.line_printing.proofs.line_printer.line_of.Goals as goal

pub returns-clause-reads : goal.returns-clause-reads
returns-clause-reads c =
    let text : c.put_words.new.out ≡ line_text c.args.request.now = search rules in
    subst (λ l. Asks l c.args.request.now) (sym text) (printed-line-asks c.args.request.now c.type_request.ensures c.requires.line)
