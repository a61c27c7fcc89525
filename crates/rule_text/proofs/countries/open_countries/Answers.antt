use Rattle.rule_text.proofs.CountryLaws.{no_codes, opened_step, open_all_stop}
use Rattle.rule_text.proofs.Stops.{handed_on}
use Rattle.rule_text.proofs.countries.open_countries.Goals as goal

pub loop-code-init : goal.loop-code-init
loop-code-init c = λ above at codes are. no_codes c.args.region above c.args.countries.now are

pub returns-in_err-open_country : goal.returns-in_err-open_country
returns-in_err-open_country c = λ above at codes are.
    handed_on c.from_residual.result c.in_err-open_country.field-0.0 _ _ c.from_residual.ensures.1
    (open_all_stop c.args.codes.now c.loop-code.code-index c.args.region above c.loop-code.countries c.in_err-open_country.field-0.0 c.loop-code-test.true codes
    (c.loop-code.invariant above at codes are) c.in_err-open_country.ensures)

pub loop-code-preserved : goal.loop-code-preserved
loop-code-preserved c = λ above at codes are.
    opened_step c.args.codes.now c.loop-code.code-index c.args.region above c.args.line c.loop-code.countries c.open_country.new.countries c.loop-code-test.true at codes
    (c.loop-code.invariant above at codes are) c.in_ok-open_country.ensures
