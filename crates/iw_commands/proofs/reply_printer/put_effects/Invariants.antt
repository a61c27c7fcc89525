use Rattle.std.proofs.Common.{◌≡◌, ◌++◌, drop}
use Rattle.iw_commands.specs.Printed.{KeepsFront, effect_lines}
use Rattle.iw_commands.proofs.reply_printer.put_effects.Given as goal

-- what was printed, and the lines of the effects that are left, are all
abbrev pub invariant-loop-effect : goal.invariant-loop-effect
invariant-loop-effect l = record {
  text : l.out ++ effect_lines (drop l.effect-index l.effects) ≡ l.initial.out ++ effect_lines l.effects;
  kept : KeepsFront l.initial.out l.out;
}
