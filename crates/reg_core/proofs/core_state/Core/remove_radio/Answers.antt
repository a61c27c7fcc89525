use Rattle.std.proofs.Common.{rules, ap, set}
use Rattle.core_parts.specs.declared.radio.RadioPlace.TheVariants.{Removed}
use Rattle.reg_core.proofs.Removed.{keeps_after_removal}
use Rattle.reg_core.proofs.core_state.Core.remove_radio.Goals as goal

pub returns : goal.returns
returns c = record {
  kept = λ db J s due.
      keeps_after_removal db J c.args.number c.args.self.now _ (search rules) s due (ap (λ n. set c.args.self.now.radios n Removed) c.get.ensures.number);
}
