use Rattle.std.proofs.Common.{sym, subst}
use Rattle.chan_def.specs.Words.{IsNamedBy}
use Rattle.line_forms.proofs.NamedChannels.{unnamed}
use Rattle.line_forms.proofs.pieces.channel_by_word.Goals as goal

pub returns-in_err-text : goal.returns-in_err-text
returns-in_err-text c = rw c.from_residual.ensures (λ x h. unnamed c.args.control_khz c.args.word.now x c.in_err-text.ensures h)

pub returns-in_err-c : goal.returns-in_err-c
returns-in_err-c c =
    rw c.from_residual-in_err-c.ensures (λ x h. c.in_err-c.ensures.named x (subst (λ w. IsNamedBy c.args.control_khz w x) (sym c.in_ok-text.ensures.0) h.named))
