use Rattle.std.proofs.Common.{subst, sym, ◌∙◌}
use Rattle.chan_def.specs.Covered.{IsValidDef}
use Rattle.reg_journal.specs.Granted.{IsPermitted}
use Rattle.reg_journal.specs.Permits.{EndsOperation}
use Rattle.core_parts.specs.Judging.{IsSwept}
use Rattle.core_parts.specs.declared.interface.Running.{Running}
use Rattle.reg_journal.proofs.Listed.{named_listed}
use Rattle.reg_core.proofs.Settings.{barred_by_limit, may_set, may_set_at_rest, setting_unnamed}
use Rattle.reg_core.proofs.SweepJudged.{operation_read}
use Rattle.reg_journal.proofs.Wholes.{operation_valid}
use Rattle.reg_core.proofs.core_state.Core.settable.Goals as goal

pub returns-in-Err : goal.returns-in-Err
returns-in-Err c = λ db J s.
    setting_unnamed db J c.args.name.now c.args.setting c.in-Err.refusal
    (c.in-Err.ensures db J (record { due = s.keeps.due; interfaces_are = c.as_slice.ensures.items ∙ s.keeps.interfaces; radios_are = s.keeps.radios }))

pub returns-in_default : goal.returns-in_default
returns-in_default c = λ db J s.
    let has = c.in-Ok.ensures db J (record { due = s.keeps.due; interfaces_are = c.as_slice.ensures.items ∙ s.keeps.interfaces; radios_are = s.keeps.radios }) in
    may_set_at_rest db J c.args.name.now c.args.setting has.iface c.in-Ok.found.0.now has.is_named has.interface_is c.in_default.is

pub power_with-requires : goal.power_with-requires
power_with-requires c =
    let core = c.requires.core in
    let s = core.keeps in
    let has = c.in-Ok.ensures core.db core.journal (record { due = s.due; interfaces_are = c.as_slice.ensures.items ∙ s.interfaces; radios_are = s.radios }) in
    let read = operation_read core.journal has.iface c.in-Ok.found.0.now c.in-Some.operation has.interface_is c.in-Some.is in
    record { valid = subst (λ (r : Running). IsValidDef r.chan) (sym read.2) (operation_valid core.db core.journal has.iface.index read.0 s.due read.1) }

pub returns-in-Ok-power_with : goal.returns-in-Ok-power_with
returns-in-Ok-power_with c = λ db J s.
    let has = c.in-Ok.ensures db J (record { due = s.keeps.due; interfaces_are = c.as_slice.ensures.items ∙ s.keeps.interfaces; radios_are = s.keeps.radios }) in
    let read = operation_read J has.iface c.in-Ok.found.0.now c.in-Some.operation has.interface_is c.in-Some.is in
    let swept : IsSwept db J has.iface c.in-Ok.found.0.now c.in-Ok.found.1.now c.args.self.now.indoor = record {
      due = s.keeps.due;
      there = named_listed J c.args.name.now has.iface has.is_named;
      interface_is = has.interface_is;
      radio_is = has.radio_is;
      indoor_is = s.keeps.indoor;
    } in
    rw c.repowered.ensures
    (may_set db J c.args.name.now c.args.setting has.iface c.in-Ok.found.0.now c.in-Some.operation read.0 c.in-Ok-power_with.power_mbm has.is_named s.keeps.due has.interface_is read.1 read.2
    (subst (λ (r : Running). IsPermitted db J (record has.iface { setting = c.args.setting }) r.chan c.in-Ok-power_with.power_mbm) read.2
    (c.in-Ok-power_with.ensures db J has.iface swept)))

pub returns-in-Err-power_with : goal.returns-in-Err-power_with
returns-in-Err-power_with c = λ db J s.
    let has = c.in-Ok.ensures db J (record { due = s.keeps.due; interfaces_are = c.as_slice.ensures.items ∙ s.keeps.interfaces; radios_are = s.keeps.radios }) in
    let read = operation_read J has.iface c.in-Ok.found.0.now c.in-Some.operation has.interface_is c.in-Some.is in
    let swept : IsSwept db J has.iface c.in-Ok.found.0.now c.in-Ok.found.1.now c.args.self.now.indoor = record {
      due = s.keeps.due;
      there = named_listed J c.args.name.now has.iface has.is_named;
      interface_is = has.interface_is;
      radio_is = has.radio_is;
      indoor_is = s.keeps.indoor;
    } in
    barred_by_limit db J c.args.self.now c.args.name.now c.args.setting has.iface read.0 c.in-Err-power_with.refusal s has.is_named read.1
    (subst (λ (r : Running). EndsOperation db J (record has.iface { setting = c.args.setting }) r.chan c.in-Err-power_with.refusal) read.2
    (c.in-Err-power_with.ensures db J has.iface swept))
