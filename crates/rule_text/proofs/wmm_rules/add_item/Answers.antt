use Rattle.std.proofs.Common.{rules, ◌≡◌, Some}
use Rattle.std.proofs.lemmas.Result.{MatchResult-weaker}
use Rattle.rule_text.proofs.wmm_rules.add_item.Goals as goal
use Rattle.rule_text.proofs.NamedBlocks.{adds}
use Rattle.rule_text.specs.inner.State.{block_named}

pub returns-in-Some : goal.returns-in-Some
returns-in-Some c =
    let updates = (c.get_mut.follows.holds c.add.new.self).3 (search rules) in
    let was : block_named c.args.blocks.now c.args.name.now ≡ Some c.in-Some.block.now = search rules in
    MatchResult-weaker c.add.result c.add.ensures
    (λ v added. adds c.args.name.now c.args.item c.args.entry c.args.blocks.now _ c.in-Some.block.now c.add.new.self was updates.3 updates.1 added)
    (λ e stop. (c.in-Some.block.now, was, stop))
