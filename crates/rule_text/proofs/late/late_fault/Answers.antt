use Rattle.std.proofs.Common.{◌<◌, length, arith, ap}
use Rattle.std.proofs.lemmas.List.Elements.{All-contains}
use Rattle.freq_range.specs.Valid.{IsValidWmm}
use Rattle.rule_text.proofs.LateLaws.{first_is_empty, first_is_short, none_short}
use Rattle.rule_text.proofs.late.late_fault.Goals as goal

pub returns-in-None-None-clause-first : goal.returns-in-None-None-clause-first
returns-in-None-None-clause-first c = λ forms sound blocks countries.
    none_short forms c.args.blocks.now c.args.countries.now sound blocks countries (rw c.in-None-None.is-0 at c.first_short.ensures) (rw c.in-None-None.is-1 at c.first_empty.ensures)

pub returns-in-None-Some-clause-first : goal.returns-in-None-Some-clause-first
returns-in-None-Some-clause-first c = λ forms sound blocks countries.
    let valid = rw c.in-None-Some.is-0 at c.first_short.ensures in
    first_is_empty forms c.args.blocks.now c.args.countries.now c.in-None-Some.line sound blocks countries (rw c.in-None-Some.is-1 at c.first_empty.ensures)
    (λ b has bad. absurd (bad (All-contains (λ x. IsValidWmm x.wmm) c.args.blocks.now b valid has)))

pub returns-in-Some-None-clause-first : goal.returns-in-Some-None-clause-first
returns-in-Some-None-clause-first c = λ forms sound blocks countries.
    let some = rw c.in-Some-None.is-1 at c.first_empty.ensures in
    first_is_short forms c.args.blocks.now c.args.countries.now c.in-Some-None.line sound blocks countries (rw c.in-Some-None.is-0 at c.first_short.ensures)
    (λ k has none. let rules = All-contains (λ x. 0 < length x.rules) c.args.countries.now k some has in let e = ap length none in omega (arith, rules, e))

pub returns-then-short-empty-clause-first : goal.returns-then-short-empty-clause-first
returns-then-short-empty-clause-first c = λ forms sound blocks countries.
    let empty = rw c.in-Some-Some.is-1 at c.first_empty.ensures in
    first_is_short forms c.args.blocks.now c.args.countries.now c.in-Some-Some.short sound blocks countries (rw c.in-Some-Some.is-0 at c.first_short.ensures)
    (λ k has none. let above = empty.least k has none in omega (arith, above, c.if-short-empty.true))

pub returns-else-short-empty-clause-first : goal.returns-else-short-empty-clause-first
returns-else-short-empty-clause-first c = λ forms sound blocks countries.
    let short = rw c.in-Some-Some.is-0 at c.first_short.ensures in
    first_is_empty forms c.args.blocks.now c.args.countries.now c.in-Some-Some.empty sound blocks countries (rw c.in-Some-Some.is-1 at c.first_empty.ensures)
    (λ b has bad. let above = short.least b has bad in omega (arith, above, c.if-short-empty.false))
