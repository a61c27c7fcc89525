use Rattle.freq_range.proofs.Powers.{one_mbm}
use Rattle.freq_range.proofs.power.mw_to_mbm.Goals as goal

pub returns-then-contains-clause-only : goal.returns-then-contains-clause-only
returns-then-contains-clause-only c other is = one_mbm c.args.mw other c.logarithm.result is c.logarithm.ensures
