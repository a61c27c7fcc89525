use Rattle.text_lines.proofs.RuleTexts.{no_band, no_power, no_words, spelled-reads}
use Rattle.text_lines.proofs.rule_reader.spelled_rule_of.Goals as goal

pub returns-in_default : goal.returns-in_default
returns-in_default c = no_band c.args.line.now c.in_default.ensures

pub returns-in_default-power_at : goal.returns-in_default-power_at
returns-in_default-power_at c = no_power c.args.line.now c.in-Some.band c.in-Some.rest.now c.in-Some.ensures c.in_default-power_at.ensures

pub returns-in_default-words_at : goal.returns-in_default-words_at
returns-in_default-words_at c =
    let (amount, read, means) = c.in-Some-power_at.ensures in
    no_words c.args.line.now c.in-Some.band c.in-Some.rest.now amount c.in-Some-power_at.rest.now c.in-Some-power_at.power c.in-Some.ensures read means c.in_default-words_at.ensures

pub returns : goal.returns
returns c =
    let (amount, read, means) = c.in-Some-power_at.ensures in
    rw c.rule_from-rule.ensures (
    spelled-reads c.args.line.now c.in-Some.band c.in-Some.rest.now amount c.in-Some-power_at.rest.now c.in-Some-power_at.power _ c.in-Some.ensures read means c.in-Some-words_at.ensures)
