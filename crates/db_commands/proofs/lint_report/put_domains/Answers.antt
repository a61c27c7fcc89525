use Rattle.std.proofs.Common.{◌++◌, ◌∙◌, ◌≤◌, ap, length, map, subst}
use Rattle.db_text.specs.Printed.{text_of_lines}
use Rattle.db_commands.specs.Reports.{note_line, silent_count}
use Rattle.db_commands.proofs.NotedDomains.{few_noted, noted_step}
use Rattle.db_commands.proofs.lint_report.put_domains.Goals as goal

pub loop-domain-preserved : goal.loop-domain-preserved
loop-domain-preserved c =
    let (own, parts, are) = c.in_ok-lint_domain.ensures.notes in
    let all = parts ∙ ap (λ xs. xs ++ own) c.clear.ensures.empty in
    let grown = c.in_ok-put_notes.ensures ∙ ap (λ xs. c.loop-domain.out ++ text_of_lines (map note_line xs)) (c.as_slice.ensures.items ∙ all) in
    let counted = c.count_silent-silent.ensures.exact ∙ ap silent_count (c.as_slice-in-loop-domain.ensures.items ∙ all) in
    let few = subst (λ xs. c.count_silent-silent.result ≤ length xs) (c.as_slice-in-loop-domain.ensures.items ∙ all) c.count_silent-silent.ensures.small in
    record {
      noted = noted_step c.args.domains.now c.loop-domain.domain-index c.domain-item.result own c.args.out.now c.loop-domain.out c.put_notes.new.out c.loop-domain.silent c.count_silent-silent.result
          c.loop-domain-test.true c.domain-item.is c.loop-domain.invariant.noted are grown counted;
      small = few_noted c.args.domains.now c.loop-domain.domain-index c.domain-item.result own c.loop-domain.silent c.count_silent-silent.result c.loop-domain-test.true c.domain-item.is c.requires.short are
          c.loop-domain.invariant.small few;
    }
