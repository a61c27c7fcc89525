use Rattle.std.proofs.Common.{refl, ◌∙◌}
use Rattle.core_parts.proofs.Named.{named_is_of}
use Rattle.core_parts.proofs.ShownReports.{iface_reported}
use Rattle.reg_core.proofs.core_state.Core.iface_report.Goals as goal

pub returns-in-Ok : goal.returns-in-Ok
returns-in-Ok c = record {
  report = λ db J s.
      let has = c.in-Ok.ensures db J (record { due = s.due; interfaces_are = c.as_slice.ensures.items ∙ s.interfaces; radios_are = s.radios }) in
      rw has.is_named
      (iface_reported J has.iface c.in-Ok.interface.now _ has.interface_is refl
      (c.state_of.ensures db J has.iface (named_is_of db J c.args.name.now c.in-Ok.interface.now c.in-Ok.radio.now s.due has)));
}
