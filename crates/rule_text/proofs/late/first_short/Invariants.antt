use Rattle.std.proofs.Common.{take}
use Rattle.freq_range.specs.Valid.{IsValidWmm}
use Rattle.rule_text.proofs.LeastLines.{IsLeast}
use Rattle.rule_text.proofs.late.first_short.Given as goal

abbrev pub invariant-loop-block : goal.invariant-loop-block
invariant-loop-block l = IsLeast (λ b. IsValidWmm b.wmm → ⊥) (λ b. IsValidWmm b.wmm) (λ b. b.line) (take l.block-index l.blocks) l.least
