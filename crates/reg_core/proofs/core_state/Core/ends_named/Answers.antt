use Rattle.std.proofs.Common.{◌∙◌, ◌∷◌, []}
use Rattle.core_parts.proofs.Named.{named_is_of}
use Rattle.reg_core.proofs.Removed.{ends_alone}
use Rattle.reg_core.proofs.core_state.Core.ends_named.Goals as goal

pub returns-in-Err : goal.returns-in-Err
returns-in-Err c = λ db J s. c.in-Err.ensures db J (record { due = s.due; interfaces_are = c.as_slice.ensures.items ∙ s.interfaces; radios_are = s.radios })

pub returns : goal.returns
returns c = λ db J s.
    let has = c.in-Ok.ensures db J (record { due = s.due; interfaces_are = c.as_slice.ensures.items ∙ s.interfaces; radios_are = s.radios }) in
    rw has.is_named
    (ends_alone J (has.iface ∷ []) c.args.changes.now c.add_end.new.changes c.requires.empty
    (c.add_end.ensures.added db J has.iface (named_is_of db J c.args.name.now c.in-Ok.found.0.now c.in-Ok.found.1.now s.due has)))
