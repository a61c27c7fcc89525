-- The present moment after one more call.
use Rattle.std.proofs.Common.{◌≤◌, List, ◌∷◌, arith}
use Rattle.dfs_states.specs.Calls.{Call, Advance, Radar, Begin, DropCheck, Operate, RegionChanged, moment_of}
use Rattle.dfs_states.specs.Meaning.{EachMayBeCalled}

pub now_later : (f : Call) (calls : List Call) → EachMayBeCalled (f ∷ calls) → moment_of calls ≤ moment_of (f ∷ calls)
now_later (Advance moment) calls due = due.0.0
now_later (Radar chan) calls due = omega arith
now_later (Begin slot chan length) calls due = omega arith
now_later (DropCheck slot) calls due = omega arith
now_later (Operate slot chan) calls due = omega arith
now_later (RegionChanged lasts) calls due = omega arith
