use Rattle.std.proofs.Common.{arith, rules, get_or}
use Rattle.core_parts.specs.declared.radio.RadioPlace.TheVariants.{Free}
use Rattle.core_parts.proofs.Asked.{asked_radio}
use Rattle.core_parts.proofs.radios.radio_at.Goals as goal

pub returns-in_err-get-clause-kept : goal.returns-in_err-get-clause-kept
returns-in_err-get-clause-kept c = λ db J keeps.
    let number = c.get.ensures.number in
    let few = c.get.ensures.few in
    asked_radio db J c.args.number (get_or c.args.radios.now c.args.number Free) c.from_residual.result (keeps c.args.number (omega (arith, number, few))) (search rules)

pub returns-clause-kept : goal.returns-clause-kept
returns-clause-kept c = λ db J keeps.
    let number = c.get.ensures.number in
    let few = c.get.ensures.few in
    asked_radio db J c.args.number (get_or c.args.radios.now c.args.number Free) c.radio.result (keeps c.args.number (omega (arith, number, few))) (search rules)
