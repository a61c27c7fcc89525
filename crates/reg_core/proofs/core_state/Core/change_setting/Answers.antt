use Rattle.std.proofs.Common.{◌++◌, ap, ◌∙◌}
use Rattle.std.specs.Option.{option_to_list}
use Rattle.reg_core.proofs.SettingSteps.{set_whole}
use Rattle.reg_core.proofs.core_state.Core.change_setting.Goals as goal

pub returns-clause-set : goal.returns-clause-set
returns-clause-set g c = λ db J s.
    set_whole db J c.args.name.now c.args.setting c.in_ok-index.index c.in_ok-index.change c.add_change.new.changes c.as_slice.result.now c.as_slice-2.result.now c.args.self.now
    c.keep_setting.new.self c.take_all.new.self _ _ c.effects_of.result s (c.in_ok-index.ensures db J s) (λ s due. c.keep_setting.ensures.kept db J s due)
    (c.add_change.ensures ∙ ap (λ cs. cs ++ option_to_list c.in_ok-index.change) c.no_changes-changes.ensures) c.as_slice.ensures.items c.as_slice-2.ensures.items (λ K s can. c.take_all.ensures.kept db K s can) c.take_all.ensures.told c.effects_of.ensures
