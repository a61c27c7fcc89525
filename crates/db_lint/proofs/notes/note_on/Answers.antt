use Rattle.db_lint.proofs.Noted.{note_is}
use Rattle.db_lint.proofs.notes.note_on.Goals as goal

pub hidden_by-requires : goal.hidden_by-requires
hidden_by-requires c = record { held = (c.args.k, c.rule_of-rule.result, c.rule_of-rule.ensures.rule, c.least_held-held.ensures.least) }

pub returns : goal.returns
returns c = record {
  note = note_is c.args.domain.now c.args.k c.rule_of-rule.result c.args.width_khz c.args.least c.least_held-held.result c.hidden_by.result c.is_idle_auto.result
      c.rule_of-rule.ensures.rule c.requires.width c.requires.least c.least_held-held.ensures.least c.hidden_by.ensures.hidden c.is_idle_auto.ensures.idle;
}
