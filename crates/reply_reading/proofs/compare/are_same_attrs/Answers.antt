use Rattle.std.proofs.Common.{◌≡◌, length, ap, eq-eqb}
use Rattle.std.proofs.lemmas.Bool.{eqb-true}
use Rattle.nl_attrs.specs.declared.attr.Attr.{Attr}
use Rattle.reply_reading.proofs.Zipped.{agrees_to_end, are_equal}
use Rattle.reply_reading.proofs.compare.are_same_attrs.Goals as goal

pub returns : goal.returns
returns c =
    let left = c.args.left.now in let right = c.args.right.now in (
      λ same. are_equal left right (agrees_to_end (λ (x y : Attr). x ≡ y) left right c.loop-k.k c.loop-k-test.false (eqb-true (length left) (length right) same) c.loop-k.invariant),
      λ e. eq-eqb (length left) (length right) (ap length e),
    )
