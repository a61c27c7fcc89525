-- A stop that a callee answered and `?` handed on.
use Rattle.std.proofs.Common.{◌≡◌, Result, Ok, Err, MatchResult, sym, subst}
use Rattle.std.specs.Result.{IsErrAnd}
use Rattle.text_lines.specs.declared.fault.LineStop.{LineStop}

pub handed_on : {T : Type 0} (r : Result T LineStop) (stop : LineStop) (P : T → Type 0) (Q : LineStop → Type 0) → IsErrAnd r (λ e. e ≡ stop) → Q stop → MatchResult r P Q
handed_on (Ok v) stop P Q is q = absurd is
handed_on (Err e) stop P Q is q = subst Q (sym is) q
