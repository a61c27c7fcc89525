use Rattle.std.proofs.Common.{◌≡◌, ◌++◌, drop}
use Rattle.iw_dumps.specs.DumpTexts.{channels_text}
use Rattle.iw_dumps.proofs.channels.channels_text.Given as goal

-- what was printed, and the lines of the channels that are left, are all
abbrev pub invariant-loop-shown : goal.invariant-loop-shown
invariant-loop-shown l = l.out ++ channels_text (drop l.shown-index l.list) ≡ channels_text l.list
