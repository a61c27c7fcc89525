use Rattle.std.proofs.Common.{◌∙◌}
use Rattle.rule_text.proofs.Stops.{handed_on}
use Rattle.rule_text.proofs.WholeLine.{whole_line, whole_stop}
use Rattle.rule_text.proofs.text.take_line.Goals as goal

pub returns-in_err-take-in-Ok : goal.returns-in_err-take-in-Ok
returns-in_err-take-in-Ok c = λ above at sound stands.
    let bare = c.as_slice.ensures.value ∙ c.in_ok-squeeze-in-Ok.ensures.bare in
    handed_on c.from_residual-in_err-take-in-Ok.result c.in_err-take-in-Ok.field-0.0 _ _ c.from_residual-in_err-take-in-Ok.ensures.1
    (whole_stop above c.args.line.now c.in_err-take-in-Ok.field-0.0 c.in-Ok.ensures.readable ((rw bare at c.in_err-take-in-Ok.ensures) above at sound stands))

pub returns-in_ok-take-in-Ok : goal.returns-in_ok-take-in-Ok
returns-in_ok-take-in-Ok c = λ above at sound stands.
    let bare = c.as_slice.ensures.value ∙ c.in_ok-squeeze-in-Ok.ensures.bare in
    whole_line above c.args.line.now c.take.new.self c.in-Ok.ensures.readable ((rw bare at c.in_ok-take-in-Ok.ensures) above at sound stands)
