use Rattle.std.proofs.Common.{map, ap, ◌∙◌}
use Rattle.reg_journal.specs.declared.reply.Reply.TheVariants.{Plain}
use Rattle.nl80211_replies.specs.Plain.{effect_attr}
use Rattle.reply_reading.specs.inner.Reading.{payload_in}
use Rattle.reply_reading.proofs.Behind.{effect_payloads}
use Rattle.reply_reading.proofs.candidate.plain_in.Goals as goal

pub returns : goal.returns
returns c = λ answer effects typed shown e.
    let one = c.answer_in-answer.ensures answer (map effect_attr effects) typed.0 shown e in
    let each = c.in_ok-effects.ensures effects typed.1 typed.2 (ap (map payload_in) (c.effect_attrs.ensures answer effects e) ∙ effect_payloads effects) in
    λ i. Plain (one i) (each i)
