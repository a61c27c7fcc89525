use Rattle.rule_text.proofs.HeaderTaken.{contradicted_stop, header_stop}
use Rattle.rule_text.proofs.Stops.{handed_on}
use Rattle.rule_text.proofs.Taken.{taken_header}
use Rattle.rule_text.proofs.parser.Parser.take_header.Goals as goal

pub returns-in_err-region : goal.returns-in_err-region
returns-in_err-region c = λ above at sound stands opens.
    handed_on c.from_residual.result c.in_err-region.field-0.0 _ _ c.from_residual.ensures.1
    (header_stop above c.args.line.now c.in_err-region.field-0.0 opens c.in_err-region.ensures.header)

pub returns-in_err-open_countries : goal.returns-in_err-open_countries
returns-in_err-open_countries c = λ above at sound stands opens.
    let header = c.in_ok-region.ensures.header in
    handed_on c.from_residual-in_err-open_countries.result c.in_err-open_countries.field-0.0 _ _ c.from_residual-in_err-open_countries.ensures.1
    (contradicted_stop above c.args.line.now c.header_of.new.codes.items c.in_ok-region.region c.in_err-open_countries.field-0.0 header
    ((rw c.as_slice.ensures.value at c.in_err-open_countries.ensures) above at header.are.each stands.countries_are))

pub returns : goal.returns
returns c = λ above at sound stands opens.
    let header = c.in_ok-region.ensures.header in
    taken_header above c.args.line.now c.args.self.now c.open_countries.new.countries c.header_of.new.codes c.in_ok-region.region stands header
    ((rw c.as_slice.ensures.value at c.in_ok-open_countries.ensures) above at header.are.each stands.countries_are)
