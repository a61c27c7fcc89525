use Rattle.std.proofs.Common.{ap, refl, ◌∙◌}
use Rattle.std.proofs.lemmas.Bool.{false≢true}
use Rattle.core_parts.specs.declared.interface.Interface.{Interface}
use Rattle.core_parts.proofs.Named.{named_is_of}
use Rattle.reg_core.proofs.Settings.{type_barred, type_unnamed}
use Rattle.reg_core.proofs.core_state.Core.resting.Goals as goal

pub returns-in-Err : goal.returns-in-Err
returns-in-Err c = λ db J s.
    type_unnamed J c.args.name.now c.in-Err.refusal
    (c.in-Err.ensures db J (record { due = s.due; interfaces_are = c.as_slice.ensures.items ∙ s.interfaces; radios_are = s.radios }))

pub returns-then-is_used : goal.returns-then-is_used
returns-then-is_used c = λ db J s.
    let has = c.in-Ok.ensures db J (record { due = s.due; interfaces_are = c.as_slice.ensures.items ∙ s.interfaces; radios_are = s.radios }) in
    type_barred J c.args.name.now has.iface has.is_named
    ((c.if-is_used.ensures db J has.iface (named_is_of db J c.args.name.now c.in-Ok.found.0.now c.in-Ok.found.1.now s.due has)).0 refl)

pub returns : goal.returns
returns c = λ db J s.
    let has = c.in-Ok.ensures db J (record { due = s.due; interfaces_are = c.as_slice.ensures.items ∙ s.interfaces; radios_are = s.radios }) in
    rw has.is_named (
      ap (λ (p : Interface). p.index) has.interface_is,
      λ used. false≢true ((c.if-is_used.ensures db J has.iface (named_is_of db J c.args.name.now c.in-Ok.found.0.now c.in-Ok.found.1.now s.due has)).1 used),
    )
