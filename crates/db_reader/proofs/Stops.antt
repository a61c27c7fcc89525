-- A fault that a `?` hands on.
use Rattle.std.proofs.Common.{◌≡◌, sym, subst, MatchResult, Result, Ok, Err}
use Rattle.std.specs.Result.{IsErrAnd}
use Rattle.db_reader.specs.declared.fault.ReadFault.{ReadFault}

pub handed_on : {T : Type 0} (r : Result T ReadFault) (stop : ReadFault) (P : T → Type 0) (Q : ReadFault → Type 0) → IsErrAnd r (λ e. e ≡ stop) → Q stop → MatchResult r P Q
handed_on (Ok v) stop P Q is q = absurd is
handed_on (Err e) stop P Q is q = subst Q (sym is) q
