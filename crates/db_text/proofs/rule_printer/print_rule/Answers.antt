use Rattle.std.proofs.Common.{List, ℕ, rules, subst, append-nil}
use Rattle.text_lines.specs.LineFaults.{IsTextOfRule}
use Rattle.db_text.specs.PrintedRules.{rule_part}
use Rattle.db_text.proofs.PrintedText.{printed_rule_reads}
use Rattle.db_text.proofs.ShownRules.{all_shown, shows_rule}
use Rattle.db_text.proofs.rule_printer.print_rule.Goals as goal

pub returns-clause-reads : goal.returns-clause-reads
returns-clause-reads c valid =
    rw (c.in_ok-put_rule_part.ensures, c.new-out.ensures.empty)
    (subst (λ (line : List ℕ). IsTextOfRule line c.args.rule.now) (append-nil (rule_part c.args.rule.now)) (printed_rule_reads c.args.rule.now valid c.requires.no_time c.requires.no_wmm))

pub returns-clause-bytes : goal.returns-clause-bytes
returns-clause-bytes c =
    rw (c.in_ok-put_rule_part.ensures, c.new-out.ensures.empty)
    (all_shown (rule_part c.args.rule.now) 93 (shows_rule c.args.rule.now (search rules) (search rules) (search rules) (search rules)))

pub returns-clause-short : goal.returns-clause-short
returns-clause-short c =
    rw (c.in_ok-put_rule_part.ensures, c.new-out.ensures.empty)
    (shows_rule c.args.rule.now (search rules) (search rules) (search rules) (search rules)).short
