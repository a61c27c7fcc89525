use Rattle.std.proofs.Common.{All, map}
use Rattle.freq_range.specs.Ascending.{AreAllAscending}
use Rattle.freq_range.proofs.Picked.{IsPicked}
use Rattle.db_lint.specs.CommonLists.{IsCommon, IsCommonChannel}
use Rattle.db_lint.proofs.joint.common.Given as goal

abbrev pub invariant-loop-khz : goal.invariant-loop-khz
invariant-loop-khz l = record {
  channels : AreAllAscending (IsPicked (IsCommonChannel l.fn.a l.fn.b) l.khz-items l.khz-index) (map (λ c. c.khz) l.list);
  each : All (IsCommon l.fn.a l.fn.b) l.list;
}
