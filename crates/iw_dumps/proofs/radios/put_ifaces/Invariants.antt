use Rattle.std.proofs.Common.{◌≡◌, ◌++◌, drop}
use Rattle.std.specs.List.{flat_map}
use Rattle.reg_base.specs.Texts.{line_of}
use Rattle.iw_dumps.specs.DumpTexts.{shown_iface_text}
use Rattle.iw_dumps.proofs.radios.put_ifaces.Given as goal

-- what was printed, and the lines of the interfaces that are left, are all
abbrev pub invariant-loop-shown : goal.invariant-loop-shown
invariant-loop-shown l = l.out ++ flat_map (λ x. line_of (shown_iface_text x)) (drop l.shown-index l.ifaces) ≡ l.initial.out ++ flat_map (λ x. line_of (shown_iface_text x)) l.ifaces
