use Rattle.std.proofs.Common.{take, arith, sym}
use Rattle.std.proofs.lemmas.Option.{slice_get_within}
use Rattle.std.specs.List.{filter_map}
use Rattle.reg_journal.specs.Applicable.{find_domain}
use Rattle.core_parts.proofs.Fronts.{codes_all, codes_fault, codes_more, handed_on_so_far}
use Rattle.core_parts.proofs.tables.shared_table.Goals as goal

pub returns-in_err-so_far-clause-made : goal.returns-in_err-so_far-clause-made
returns-in_err-so_far-clause-made c =
    let f = find_domain c.args.domains.now in
    let codes = c.args.hints.now.global in
    let fault = c.in_err-so_far.field-0.0 in
    let made = c.in_err-so_far.ensures.made (filter_map f (take c.codes.k codes)) c.codes.invariant.so_far in
    rw c.if-self_managed.false
    (handed_on_so_far (filter_map f codes) c.from_residual.result fault c.from_residual.ensures.1
    (codes_fault f codes c.codes.k c.in-Some.alpha2 fault (sym c.in-Some.ensures.code) (rw c.find.ensures.domain at made)))

pub codes-smaller : goal.codes-smaller
codes-smaller c =
    let within = slice_get_within c.args.hints.now.global c.codes.k c.in-Some.alpha2 (sym c.in-Some.ensures.code) in
    omega (arith, within)

pub codes-preserved : goal.codes-preserved
codes-preserved c =
    let f = find_domain c.args.domains.now in
    let codes = c.args.hints.now.global in
    let here = sym c.in-Some.ensures.code in
    let within = slice_get_within codes c.codes.k c.in-Some.alpha2 here in
    let made = c.in_ok-so_far.ensures.made (filter_map f (take c.codes.k codes)) c.codes.invariant.so_far in
    let few = c.in_ok-so_far.ensures.count in
    record {
      so_far = rw (c.find.ensures.domain, codes_more f codes c.codes.k c.in-Some.alpha2 here) at made;
      count = omega (arith, few);
      within = omega (arith, within);
    }

pub returns-clause-made : goal.returns-clause-made
returns-clause-made c =
    let all = codes_all (find_domain c.args.domains.now) c.args.hints.now.global c.codes.k (sym c.in_default.ensures.code) in
    rw c.if-self_managed.false (rw all at c.codes.invariant.so_far)
