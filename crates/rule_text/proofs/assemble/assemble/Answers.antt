use Rattle.std.proofs.Common.{sym, ◌∙◌}
use Rattle.rule_text.proofs.Assembled.{is_ready, is_fresh, assembled_more, assembled_end, nothing_from_length}
use Rattle.rule_text.proofs.assemble.assemble.Goals as goal

pub insert_new-requires-clause-fresh : goal.insert_new-requires-clause-fresh
insert_new-requires-clause-fresh c = is_fresh _ _ _ _ c.in-Some.country c.requires c.loop-country.invariant c.in-Some.ensures.items

pub insert_new-requires-clause-domain : goal.insert_new-requires-clause-domain
insert_new-requires-clause-domain c = is_ready _ _ _ _ c.in-Some.country c.requires c.loop-country.invariant c.in-Some.ensures.items

pub loop-country-preserved : goal.loop-country-preserved
loop-country-preserved c = assembled_more _ _ _ _ _ c.in-Some.country c.loop-country.invariant c.in-Some.ensures.items c.in_ok-insert_new.ensures.db c.in_ok-insert_new.ensures.ok

pub returns : goal.returns
returns c =
    let none = nothing_from_length c.loop-country.left.items (sym c.loop-country.left.ok.0 ∙ c.in_default.ensures.cases.0) in
    assembled_end _ _ _ none c.loop-country.invariant
