-- the lists agree exactly where what is left of them does
use Rattle.std.proofs.Common.{◌≡◌}
use Rattle.nl_attrs.specs.declared.attr.Attr.{Attr}
use Rattle.reply_reading.proofs.Zipped.{LeftAgree}
use Rattle.reply_reading.proofs.compare.are_same_attrs.Given as goal

abbrev pub invariant-loop-k : goal.invariant-loop-k
invariant-loop-k l = LeftAgree (λ (x y : Attr). x ≡ y) l.left l.right l.k
