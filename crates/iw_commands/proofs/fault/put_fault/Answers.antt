use Rattle.std.proofs.Common.{append_assoc}
use Rattle.iw_commands.proofs.fault.put_fault.Goals as goal

pub returns-clause-text : goal.returns-clause-text
returns-clause-text c = rw (c.in_ok-put_text-2.ensures.text, c.in_ok-put_name.ensures.text, c.in_ok-put_text.ensures.text) (simp append_assoc)
