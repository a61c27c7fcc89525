-- Codes of refusals are apart from those of other answers.
use Rattle.std.proofs.Common.{◌<◌, ◌≤◌, arith}
use Rattle.reg_journal.specs.Codes.{code_and_errno}
use Rattle.reg_journal.specs.declared.refusal.Refusal.{Refusal}
use Rattle.reg_journal.specs.declared.refusal.Refusal.TheVariants.{Full}

pub code_of_refusal : (e : Refusal) → (20 ≤ (code_and_errno e).0) × ((code_and_errno e).0 ≤ 53) × (0 < (code_and_errno e).1)
code_of_refusal Full = (omega arith, omega arith, omega arith)
code_of_refusal e = (omega arith, omega arith, omega arith)
