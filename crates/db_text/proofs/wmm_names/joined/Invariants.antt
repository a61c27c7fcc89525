use Rattle.std.proofs.Common.{◌≡◌, ◌++◌, ◌-◌, ◌*◌, take, flat_map, replicate}
use Rattle.db_text.specs.Printed.{entry_numbers}
use Rattle.db_text.proofs.wmm_names.joined.Given as goal

-- the entries so far stand in front, and zeros behind them
abbrev pub invariant-loop-k : goal.invariant-loop-k
invariant-loop-k l = l.key ≡ flat_map entry_numbers (take l.k l.entries) ++ replicate (32 - 4 * l.k) 0
