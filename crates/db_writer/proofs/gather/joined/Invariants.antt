use Rattle.std.proofs.Common.{◌≡◌, ◌++◌, ◌-◌, ◌*◌, take, flat_map, replicate}
use Rattle.db_writer.specs.Records.{wmm_entry_bytes}
use Rattle.db_writer.proofs.gather.joined.Given as goal

-- the entries so far stand in front, and zeros behind them
abbrev pub invariant-loop-k : goal.invariant-loop-k
invariant-loop-k l = l.record ≡ flat_map wmm_entry_bytes (take l.k l.entries) ++ replicate (32 - 4 * l.k) 0
