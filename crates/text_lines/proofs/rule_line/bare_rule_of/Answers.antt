use Rattle.std.proofs.Common.{sym, ◌∙◌}
use Rattle.std.proofs.lemmas.Result.{err_from_is_err_and}
use Rattle.text_lines.proofs.BareRules.{named-bare, not_opens, opens-rule, part-bare, some-now}
use Rattle.text_lines.proofs.rule_line.bare_rule_of.Goals as goal

pub returns-then-not-begins_with : goal.returns-then-not-begins_with
returns-then-not-begins_with c = not_opens c.args.line.now (sym c.begins_with.ensures ∙ c.if-not-begins_with.true)

pub returns-in_err-spelled : goal.returns-in_err-spelled
returns-in_err-spelled c =
    let p = err_from_is_err_and c.from_residual.result c.from_residual.ensures.1 in
    let opens = opens-rule c.args.line.now (sym c.begins_with.ensures ∙ c.if-not-begins_with.false) in
    rw (p.1, p.2) (part-bare c.args.line.now _ opens c.in_err-spelled.ensures)

pub returns-then-is_some : goal.returns-then-is_some
returns-then-is_some c =
    let opens = opens-rule c.args.line.now (sym c.begins_with.ensures ∙ c.if-not-begins_with.false) in
    named-bare c.args.line.now c.in_ok-spelled.spelled.rule _ _ opens c.in_ok-spelled.ensures (some-now c.in_ok-spelled.spelled.name (sym c.is_some.ensures ∙ c.if-is_some.true))
