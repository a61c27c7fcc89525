use Rattle.core_parts.proofs.Fronts.{handed_on_so_far}
use Rattle.core_parts.proofs.tables.also.Goals as goal

pub returns-in_err-joined-in-Some-clause-made : goal.returns-in_err-joined-in-Some-clause-made
returns-in_err-joined-in-Some-clause-made c = λ ds is.
    rw c.in-Some.is
    (handed_on_so_far _ c.from_residual.result c.in_err-joined-in-Some.field-0.0 c.from_residual.ensures.1 (c.in_err-joined-in-Some.ensures.made ds is))
