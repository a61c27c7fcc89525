use Rattle.std.proofs.Common.{◌+◌, ◌++◌, ◌∷◌, [], arith, ap, ◌∙◌}
use Rattle.core_parts.specs.Interfaces.{slot_on}
use Rattle.core_parts.proofs.KeptInterfaces.{new_interface}
use Rattle.reg_core.proofs.KeptOver.{keeps_after_making, next_is_new}
use Rattle.reg_core.proofs.core_state.Core.add_iface.Goals as goal

pub overflow_add-index : goal.overflow_add-index
overflow_add-index c =
    let s = c.requires.core.keeps in
    let due = c.in_default.ensures.due c.requires.core.db c.requires.core.journal s c.args.kind in
    let few = due.1 in
    let made = s.made in
    omega (arith, few, made)

pub returns : goal.returns
returns c = record {
  taken = λ db J s. record {
    free = c.in_default.ensures.first db J s;
    keeps = keeps_after_making db J c.args.self.now c.args.name c.args.radio c.args.kind c.add.new.self s (c.in_default.ensures.due db J s c.args.kind, s.due)
        (c.in_ok-add.ensures.ok (next_is_new db J c.args.self.now s)
        ∙ ap (λ slot. c.args.self.now.interfaces ++ new_interface (c.args.self.now.made + 1) c.args.name c.args.radio slot c.args.kind ∷ [])
        (c.free_slot_on.ensures ∙ ap (λ ps. slot_on ps c.args.radio) c.as_slice.ensures.items));
  };
}
