use Rattle.std.proofs.Common.{sym, ap, length, ◌∙◌, arith}
use Rattle.std.proofs.lemmas.Bool.{eqb-true}
use Rattle.std.proofs.lemmas.List.{length-append}
use Rattle.std.proofs.lemmas.Result.{err_from_is_err_and}
use Rattle.nl_attrs.specs.Attributes.{attr_bytes, attr_in}
use Rattle.nl_attrs.proofs.Lengths.{length-attr_bytes}
use Rattle.nl80211_cmds.proofs.RuleLists.{bad_rule, breach_in_rules, none_given, one_more, too_many}
use Rattle.nl80211_cmds.proofs.rule_reader.rules_within.Goals as goal

pub returns-in_err-attr : goal.returns-in_err-attr
returns-in_err-attr c =
    let p = err_from_is_err_and c.from_residual.result c.from_residual.ensures.1 in
    rw (p.1, p.2) (λ told. breach_in_rules c.args.payload.now _ told (c.in_err-attr.ensures.walk c.args.payload.now c.rules.invariant.given c.rules.invariant.walked))

pub returns-then-len-eq-MOST_RULES : goal.returns-then-len-eq-MOST_RULES
returns-then-len-eq-MOST_RULES c = λ told.
    let step = rw c.in-Some.is at c.in_ok-attr.ensures.attr in
    too_many c.rules.walk c.next.new.self c.args.payload.now c.rules.rules told (attr_in c.in-Some.attr) c.rules.invariant (omega (arith, c.len.ensures.len)) step

pub returns-in_err-rule : goal.returns-in_err-rule
returns-in_err-rule c =
    let p = err_from_is_err_and c.from_residual-in_err-rule.result c.from_residual-in_err-rule.ensures.1 in
    let step = rw c.in-Some.is at c.in_ok-attr.ensures.attr in
    rw (p.1, p.2) (bad_rule c.rules.walk c.next.new.self c.args.payload.now c.rules.rules (attr_in c.in-Some.attr) c.in_err-rule.field-0.0 c.rules.invariant step c.in_err-rule.ensures)

pub rules-smaller : goal.rules-smaller
rules-smaller c =
    let step = rw c.in-Some.is at c.in_ok-attr.ensures.attr in
    omega (arith, ap length step.front, length-append (attr_bytes (attr_in c.in-Some.attr)) c.next.new.self.left, length-attr_bytes (attr_in c.in-Some.attr))

pub rules-preserved : goal.rules-preserved
rules-preserved c =
    let walked = rw c.in-Some.is at (c.in_ok-attr.ensures.walk c.args.payload.now c.rules.invariant.given c.rules.invariant.walked) in
    rw c.in_ok-push.ensures.ok (one_more c.rules.walk c.next.new.self c.args.payload.now c.rules.rules (attr_in c.in-Some.attr) c.in_ok-rule.rule c.rules.invariant walked c.in_ok-rule.ensures (omega (arith, c.len.ensures.len, c.rules.invariant.few)))

pub returns-then-is_empty : goal.returns-then-is_empty
returns-then-is_empty c = λ told.
    let all = rw c.in_default.is at (c.in_ok-attr.ensures.walk c.args.payload.now c.rules.invariant.given c.rules.invariant.walked) in
    none_given c.rules.walk c.args.payload.now c.rules.rules told c.rules.invariant all (eqb-true _ _ (sym c.is_empty.ensures.empty ∙ c.if-is_empty.true))
