use Rattle.std.proofs.Common.{◌+◌, ◌∷◌, [], sym, subst}
use Rattle.std.specs.List.{AllZip}
use Rattle.std.specs.Option.{option_to_list}
use Rattle.reg_journal.specs.Dumps.{IsRadioSection}
use Rattle.core_parts.specs.Reading.{AreSectionsBelow, with_own_list}
use Rattle.core_parts.proofs.ShownSections.{sections_more}
use Rattle.reg_core.proofs.dumps.sections.all_sections.Goals as goal

pub loop-number-preserved : goal.loop-number-preserved
loop-number-preserved c = λ J led is keeps.
    let db = c.args.domains.now in
    let n = c.loop-number.number in
    let own = c.in_ok-own.own in
    let here = subst (λ k. AllZip (IsRadioSection db J) (with_own_list J (k ∷ [])) (option_to_list own)) c.radio_no.ensures (c.in_ok-own.ensures J led keeps) in
    subst (AreSectionsBelow db J (n + 1)) (sym c.in_ok-push_some.ensures)
    (sections_more db J n c.loop-number.sections (option_to_list own) (c.loop-number.invariant J led is keeps) here)
