use Rattle.std.proofs.Common.{rules, ◌≡◌}
use Rattle.rule_text.proofs.HeaderTaken.{twice_stop, wmm_bad}
use Rattle.rule_text.proofs.Stops.{handed_on}
use Rattle.rule_text.proofs.Taken.{taken_wmm}
use Rattle.rule_text.proofs.parser.Parser.take_wmm_header.Goals as goal

pub returns-in_err-open_wmm-in-Some : goal.returns-in_err-open_wmm-in-Some
returns-in_err-open_wmm-in-Some c = λ above at sound stands opens.
    handed_on c.from_residual.result c.in_err-open_wmm-in-Some.field-0.0 _ _ c.from_residual.ensures.1
    (twice_stop above c.args.line.now c.in-Some.name.now c.args.self.now.blocks c.in_err-open_wmm-in-Some.field-0.0 c.in-Some.ensures.name stands.blocks_are c.in_err-open_wmm-in-Some.ensures)

pub returns-in-None : goal.returns-in-None
returns-in-None c = λ above at sound stands opens. wmm_bad above c.args.line.now opens c.in-None.ensures.name

pub returns-in_ok-extend_from_slice-in-Some : goal.returns-in_ok-extend_from_slice-in-Some
returns-in_ok-extend_from_slice-in-Some c = λ above at sound stands opens.
    let copied : c.extend_from_slice.new.self.items ≡ c.in-Some.name.now = search rules in
    taken_wmm above c.args.line.now c.in-Some.name.now c.args.number c.args.self.now c.open_wmm.new.blocks c.extend_from_slice.new.self at stands c.in-Some.ensures.name
    c.in_ok-open_wmm-in-Some.ensures copied
