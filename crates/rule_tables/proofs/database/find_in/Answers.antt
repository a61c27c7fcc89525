use Rattle.std.proofs.Common.{◌∙◌, ap}
use Rattle.std.proofs.lemmas.List.{get_or_default}
use Rattle.rule_tables.specs.declared.domain.Domain.{Domain}
use Rattle.rule_tables.proofs.Sought.{no_code}
use Rattle.rule_tables.proofs.database.find_in.Goals as goal

pub returns-then-not-is_same : goal.returns-then-not-is_same
returns-then-not-is_same c =
    let ds = c.args.domains.now in
    let i = c.place_of-place.result in
    let it = c.index-domains-place.result in
    no_code ds c.args.alpha2 i c.requires c.place_of-place.ensures.below c.place_of-place.ensures.at (λ d within same.
    let found = c.is_same.ensures.1 (ap (λ (x : Domain). x.alpha2) (c.index-domains-place.is ∙ get_or_default ds i it d within) ∙ same) in cc)
