use Rattle.std.proofs.Common.{take, arith, sym}
use Rattle.std.proofs.lemmas.Option.{slice_get_within}
use Rattle.std.specs.List.{filter_map}
use Rattle.reg_journal.specs.Applicable.{find_domain}
use Rattle.core_parts.proofs.Fronts.{codes_all, codes_more}
use Rattle.core_parts.proofs.regions.shared_region.Goals as goal

pub codes-smaller : goal.codes-smaller
codes-smaller c =
    let within = slice_get_within c.args.hints.now.global c.codes.k c.in-Some.alpha2 (sym c.in-Some.ensures.code) in
    omega (arith, within)

pub codes-preserved : goal.codes-preserved
codes-preserved c =
    let f = find_domain c.args.domains.now in
    let codes = c.args.hints.now.global in
    let here = sym c.in-Some.ensures.code in
    let within = slice_get_within codes c.codes.k c.in-Some.alpha2 here in
    let region = c.also-so_far.ensures (filter_map f (take c.codes.k codes)) c.codes.invariant.so_far in
    record {
      so_far = rw (c.find.ensures.domain, codes_more f codes c.codes.k c.in-Some.alpha2 here) at region;
      within = omega (arith, within);
    }

pub returns : goal.returns
returns c =
    let all = codes_all (find_domain c.args.domains.now) c.args.hints.now.global c.codes.k (sym c.in_default.ensures.code) in
    rw c.if-self_managed.false (rw all at c.codes.invariant.so_far)
