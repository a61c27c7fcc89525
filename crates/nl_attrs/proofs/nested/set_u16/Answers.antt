use Rattle.std.proofs.Common.{◌∙◌, arith}
use Rattle.nl_attrs.proofs.NestedWritten.{written_over}
use Rattle.nl_attrs.proofs.nested.set_u16.Goals as goal

pub returns : goal.returns
returns c =
    written_over c.args.bytes.now c.copy_from_slice.new.self c.args.place _ c.args.number (omega arith) (c.copy_from_slice.ensures.after ∙ c.to_le_bytes.ensures)
