use Rattle.rule_text.proofs.RuleTaken.{item_bad, item_nothing, item_stop}
use Rattle.rule_text.proofs.Stops.{handed_on}
use Rattle.rule_text.proofs.Taken.{in_wmm, outside_wmm, taken_item}
use Rattle.rule_text.proofs.parser.Parser.take_item.Goals as goal

pub returns-in_err-add_item-in-Some : goal.returns-in_err-add_item-in-Some
returns-in_err-add_item-in-Some c = λ above sound stands opens.
    handed_on c.from_residual.result c.in_err-add_item-in-Some.field-0.0 _ _ c.from_residual.ensures.1
    (item_stop above c.args.line.now c.args.self.now.name.items c.args.item c.args.self.now.blocks c.in_err-add_item-in-Some.field-0.0 opens
    (in_wmm above c.args.self.now stands c.in-Wmm.is) stands.blocks_are (rw c.as_slice.ensures.value at c.in_err-add_item-in-Some.ensures))

pub returns-in-Nothing : goal.returns-in-Nothing
returns-in-Nothing c = λ above sound stands opens. item_nothing above c.args.line.now c.args.item opens (outside_wmm above c.args.self.now stands c.in-Nothing.is)

pub returns-in-None : goal.returns-in-None
returns-in-None c = λ above sound stands opens.
    item_bad above c.args.line.now c.args.self.now.name.items c.args.item opens (in_wmm above c.args.self.now stands c.in-Wmm.is) c.in-None.ensures.entry

pub returns-in_ok-add_item-in-Some : goal.returns-in_ok-add_item-in-Some
returns-in_ok-add_item-in-Some c = λ above sound stands opens.
    taken_item above c.args.line.now c.args.item c.in-Some.entry c.args.self.now c.add_item.new.blocks stands c.in-Wmm.is c.in-Some.ensures.entry
    (rw c.as_slice.ensures.value at c.in_ok-add_item-in-Some.ensures)
