use Rattle.script_run.proofs.Turning.{told_too_long}
use Rattle.script_run.proofs.answering.answer_cut.Goals as goal

pub returns-in-TooLong-clause-answered : goal.returns-in-TooLong-clause-answered
returns-in-TooLong-clause-answered g c = rw c.in-TooLong.is (told_too_long c.put_fault.result _ _ _ _ c.clear.ensures.empty c.put_fault.ensures.text)
