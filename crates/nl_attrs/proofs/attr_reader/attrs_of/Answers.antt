use Rattle.std.proofs.Common.{◌≡◌, rules, length, sym, ap, ◌∙◌, arith}
use Rattle.std.proofs.lemmas.List.{length-append}
use Rattle.std.proofs.lemmas.Result.{err_from_is_err_and}
use Rattle.nl_attrs.specs.Attributes.{attr_in, attr_bytes, attrs_bytes}
use Rattle.nl_attrs.proofs.AttrLaws.{memory_wanted, no_breach, one_list}
use Rattle.nl_attrs.proofs.Lengths.{length-attr_bytes}
use Rattle.nl_attrs.proofs.attr_reader.attrs_of.Goals as goal

pub returns-in_err-attr-clause-inverse : goal.returns-in_err-attr-clause-inverse
returns-in_err-attr-clause-inverse c attrs fit e =
    absurd (no_breach c.args.payload.now _ attrs (c.in_err-attr.ensures.walk c.args.payload.now c.attrs.list c.attrs.invariant) fit e)

pub returns-in_err-attr-2-clause-fault : goal.returns-in_err-attr-2-clause-fault
returns-in_err-attr-2-clause-fault c =
    let p = err_from_is_err_and c.from_residual-in_err-attr-2.result c.from_residual-in_err-attr-2.ensures.1 in
    let step = rw c.in-Some.is at c.in_ok-attr.ensures.attr in
    rw (p.1, p.2) (memory_wanted _ c.attrs.list _ c.attrs.walk.left _ c.attrs.invariant.parts c.attrs.invariant.each step.is step.front)

pub attrs-smaller : goal.attrs-smaller
attrs-smaller c =
    let step = rw c.in-Some.is at c.in_ok-attr.ensures.attr in
    omega (arith, ap length step.front, length-append (attr_bytes (attr_in c.in-Some.attr)) c.next.new.self.left, length-attr_bytes (attr_in c.in-Some.attr))

pub returns-in_err-push-clause-fault : goal.returns-in_err-push-clause-fault
returns-in_err-push-clause-fault c =
    let p = err_from_is_err_and c.from_residual-in_err-push.result c.from_residual-in_err-push.ensures.1 in
    let step = rw c.in-Some.is at c.in_ok-attr.ensures.attr in
    rw (p.1, p.2) (memory_wanted _ c.attrs.list _ c.attrs.walk.left _ c.attrs.invariant.parts c.attrs.invariant.each step.is step.front)

pub returns-clause-inverse : goal.returns-clause-inverse
returns-clause-inverse c attrs fit e =
    let all : c.args.payload.now ≡ attrs_bytes c.attrs.list = search rules in
    one_list c.attrs.list attrs c.attrs.invariant.each fit (sym all ∙ e)
