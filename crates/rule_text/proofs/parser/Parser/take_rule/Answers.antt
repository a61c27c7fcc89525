use Rattle.std.specs.Option.{option_map}
use Rattle.rule_text.proofs.RuleTaken.{many_stop, name_stop, rule_nothing, rule_stop}
use Rattle.rule_text.proofs.FormLaws.{block_codes}
use Rattle.rule_text.proofs.Stops.{handed_on}
use Rattle.rule_text.proofs.Taken.{full_rule, in_countries, outside_countries, taken_rule}
use Rattle.rule_text.proofs.parser.Parser.take_rule.Goals as goal

pub returns-in_err-wmm-in-Ok : goal.returns-in_err-wmm-in-Ok
returns-in_err-wmm-in-Ok c = λ above sound stands opens.
    handed_on c.from_residual.result c.in_err-wmm-in-Ok.field-0.0 _ _ c.from_residual.ensures.1
    (name_stop above c.args.line.now c.args.self.now.codes.items c.in-Ok.rule (option_map (λ n. n.now) c.in-Ok.name) c.args.self.now.blocks c.in_err-wmm-in-Ok.field-0.0
    (in_countries above c.args.self.now stands c.in-Countries.is) c.in-Ok.ensures.rule stands.blocks_are c.in_err-wmm-in-Ok.ensures)

pub returns-in_err-add_rules-in-Ok : goal.returns-in_err-add_rules-in-Ok
returns-in_err-add_rules-in-Ok c = λ above sound stands opens.
    let name = option_map (λ n. n.now) c.in-Ok.name in
    let block = in_countries above c.args.self.now stands c.in-Countries.is in
    let codes = block_codes above c.args.self.now.codes.items sound block in
    handed_on c.from_residual-in_err-add_rules-in-Ok.result c.in_err-add_rules-in-Ok.field-0.0 _ _ c.from_residual-in_err-add_rules-in-Ok.ensures.1
    (many_stop above c.args.line.now c.args.self.now.codes.items c.in-Ok.rule name c.args.self.now.blocks c.in_ok-wmm-in-Ok.wmm c.in_err-add_rules-in-Ok.field-0.0 block c.in-Ok.ensures.rule
    stands.blocks_are c.in_ok-wmm-in-Ok.ensures
    ((rw c.as_slice.ensures.value at c.in_err-add_rules-in-Ok.ensures) above c.in-Ok.rule name (full_rule above c.args.self.now c.in-Ok.rule name c.in_ok-wmm-in-Ok.wmm stands c.in_ok-wmm-in-Ok.ensures) block codes.each stands.countries_are))

pub returns-in-Nothing : goal.returns-in-Nothing
returns-in-Nothing c = λ above sound stands opens. rule_nothing above c.args.line.now opens (outside_countries above c.args.self.now stands c.in-Nothing.is)

pub returns-in-Err : goal.returns-in-Err
returns-in-Err c = λ above sound stands opens.
    rule_stop above c.args.line.now c.args.self.now.codes.items c.in-Err.kind opens (in_countries above c.args.self.now stands c.in-Countries.is) c.in-Err.ensures.rule

pub returns-in_ok-add_rules-in-Ok : goal.returns-in_ok-add_rules-in-Ok
returns-in_ok-add_rules-in-Ok c = λ above sound stands opens.
    let name = option_map (λ n. n.now) c.in-Ok.name in
    let block = in_countries above c.args.self.now stands c.in-Countries.is in
    let codes = block_codes above c.args.self.now.codes.items sound block in
    taken_rule above c.args.line.now c.in-Ok.rule name c.in_ok-wmm-in-Ok.wmm c.args.self.now c.add_rules.new.countries sound stands c.in-Countries.is c.in-Ok.ensures.rule c.in_ok-wmm-in-Ok.ensures
    ((rw c.as_slice.ensures.value at c.in_ok-add_rules-in-Ok.ensures) above c.in-Ok.rule name (full_rule above c.args.self.now c.in-Ok.rule name c.in_ok-wmm-in-Ok.wmm stands c.in_ok-wmm-in-Ok.ensures) block codes.each stands.countries_are)
