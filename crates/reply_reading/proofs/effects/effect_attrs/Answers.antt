use Rattle.std.proofs.Common.{sym, ◌∙◌}
use Rattle.reply_reading.proofs.Behind.{behind_one, behind_two}
use Rattle.reply_reading.proofs.effects.effect_attrs.Goals as goal

pub returns-then-is_plain_at : goal.returns-then-is_plain_at
returns-then-is_plain_at c = λ answer effects e. c.attrs_from.ensures ∙ behind_two answer effects c.args.attrs.now (sym c.is_plain_at.ensures ∙ c.if-is_plain_at.true) e

pub returns-else-is_plain_at : goal.returns-else-is_plain_at
returns-else-is_plain_at c = λ answer effects e. c.attrs_from-else-is_plain_at.ensures ∙ behind_one answer effects c.args.attrs.now (sym c.is_plain_at.ensures ∙ c.if-is_plain_at.false) e
