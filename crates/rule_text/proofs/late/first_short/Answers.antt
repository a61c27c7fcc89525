use Rattle.std.proofs.Common.{rules, get_or}
use Rattle.freq_range.specs.Valid.{IsValidWmm}
use Rattle.rule_text.specs.Forms.{no_items}
use Rattle.rule_text.specs.declared.wmm_rules.WmmBlock.{WmmBlock}
use Rattle.rule_text.proofs.LeastLines.{get_or_same, least_end, least_skips, least_takes}
use Rattle.rule_text.proofs.late.first_short.Goals as goal

abbrev Bad : WmmBlock → Type 0
Bad b = IsValidWmm b.wmm → ⊥

abbrev Good : WmmBlock → Type 0
Good b = IsValidWmm b.wmm

-- some block, where one has to be named
abbrev some_block : WmmBlock
some_block = record { line = 0; wmm = no_items }

pub loop-block-preserved-then-is_valid : goal.loop-block-preserved-then-is_valid
loop-block-preserved-then-is_valid c =
    let good : Good (get_or c.args.blocks.now c.loop-block.block-index some_block) = search rules in
    least_skips Bad Good (λ x. x.line) c.args.blocks.now c.loop-block.block-index (get_or c.args.blocks.now c.loop-block.block-index some_block) c.loop-block.least c.loop-block-test.true
    (get_or_same c.args.blocks.now c.loop-block.block-index some_block c.loop-block-test.true) good (λ bad. bad good) c.loop-block.invariant

pub loop-block-preserved : goal.loop-block-preserved
loop-block-preserved c =
    let bad : Bad (get_or c.args.blocks.now c.loop-block.block-index some_block) = search rules in
    least_takes Bad Good (λ x. x.line) (λ x b good. b good) c.args.blocks.now c.loop-block.block-index (get_or c.args.blocks.now c.loop-block.block-index some_block) c.loop-block.least c.lesser.result
    c.loop-block-test.true (get_or_same c.args.blocks.now c.loop-block.block-index some_block c.loop-block-test.true) bad c.lesser.ensures c.loop-block.invariant

pub returns : goal.returns
returns c = least_end Bad Good (λ x. x.line) c.args.blocks.now c.loop-block.block-index c.loop-block.least c.loop-block-test.false c.loop-block.invariant
