use Rattle.std.proofs.Common.{◌≡◌, All, length}
use Rattle.rule_publish.specs.Shown.{seen_by, lookers_of}
use Rattle.rule_publish.specs.inner.Written.{written_by}
use Rattle.rule_publish.proofs.open.seated.Given as goal

abbrev pub invariant-loop-seat : goal.invariant-loop-seat
invariant-loop-seat g l = (written_by l.pen ≡ written_by l.fn.pen) × (length (lookers_of l.lookers) ≡ l._seat) × All (λ k. seen_by k ≡ written_by l.fn.pen) (lookers_of l.lookers)
