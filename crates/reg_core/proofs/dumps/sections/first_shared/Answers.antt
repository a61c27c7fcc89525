use Rattle.std.proofs.Common.{arith, slice_get, sym, ap, ◌∙◌}
use Rattle.std.proofs.lemmas.Option.{slice_get_within}
use Rattle.reg_journal.specs.Applicable.{find_domain}
use Rattle.core_parts.proofs.FirstDomains.{first_found, none_more}
use Rattle.core_parts.proofs.Fronts.{codes_all}
use Rattle.reg_core.proofs.dumps.sections.first_shared.Goals as goal

pub returns-in-Some-find : goal.returns-in-Some-find
returns-in-Some-find c =
    rw c.if-self_managed.false
    (sym (first_found (find_domain c.args.domains.now) c.args.hints.now.global c.codes.k c.in-Some.alpha2 c.in-Some-find.domain.now c.codes.invariant.none
    (sym c.in-Some.ensures.code) (sym c.in-Some-find.ensures.domain)))

pub codes-smaller : goal.codes-smaller
codes-smaller c =
    let within = slice_get_within c.args.hints.now.global c.codes.k c.in-Some.alpha2 (sym c.in-Some.ensures.code) in
    omega (arith, within)

pub codes-preserved : goal.codes-preserved
codes-preserved c =
    let codes = c.args.hints.now.global in
    let here = sym c.in-Some.ensures.code in
    let within = slice_get_within codes c.codes.k c.in-Some.alpha2 here in
    record {
      none = none_more (find_domain c.args.domains.now) codes c.codes.k c.in-Some.alpha2 c.codes.invariant.none here (sym c.in_default-find.ensures.domain);
      within = omega (arith, within);
    }

pub returns : goal.returns
returns c =
    let all = codes_all (find_domain c.args.domains.now) c.args.hints.now.global c.codes.k (sym c.in_default.ensures.code) in
    rw c.if-self_managed.false (sym (ap (λ ds. slice_get ds 0) (sym all ∙ c.codes.invariant.none)))
