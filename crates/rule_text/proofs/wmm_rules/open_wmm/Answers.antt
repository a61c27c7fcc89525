use Rattle.std.proofs.Common.{sym}
use Rattle.rule_text.proofs.wmm_rules.open_wmm.Goals as goal
use Rattle.rule_text.proofs.NamedBlocks.{found, not_found, opens}
use Rattle.rule_text.specs.inner.State.{block_named}

pub returns-then-contains_key : goal.returns-then-contains_key
returns-then-contains_key c = found (block_named c.args.blocks.now c.args.name.now) (sym c.if-contains_key.ensures)

pub returns : goal.returns
returns c =
    let same = c.in_ok-to_vec.ensures.items_if_clones_equal (λ x y e. e) in
    let updates = c.in_ok-insert.ensures.updates in
    opens c.args.name.now c.in_ok-to_vec.field-0.items c.args.line c.args.blocks.now c.insert.new.self same updates.3 updates.1
    (not_found (block_named c.args.blocks.now c.args.name.now) (sym c.if-contains_key.ensures))
