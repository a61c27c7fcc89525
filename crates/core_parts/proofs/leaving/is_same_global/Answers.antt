use Rattle.std.proofs.Common.{arith, refl}
use Rattle.core_parts.proofs.LeftAlone.{same_from_places}
use Rattle.core_parts.proofs.leaving.is_same_global.Goals as goal

pub returns : goal.returns
returns c =
    let end = c.loop-k-test.false in (
      λ yes. same_from_places 4 c.args.one.now.global c.args.other.now.global c.global-first.ensures.few.few c.global-other.ensures.few.few
          (λ k below. c.loop-k.invariant k (omega (arith, end, below))),
      λ same. refl,
    )
