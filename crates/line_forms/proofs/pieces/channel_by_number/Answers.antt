use Rattle.std.proofs.Common.{◌∙◌, sym, subst}
use Rattle.std.proofs.lemmas.Option.{same_Some}
use Rattle.line_forms.specs.Spelling.{HasChannelNumber}
use Rattle.line_forms.proofs.pieces.channel_by_number.Goals as goal

pub returns-in_err-khz : goal.returns-in_err-khz
returns-in_err-khz c =
    rw c.from_residual-in_err-khz.ensures (λ khz h. c.in_err-khz.ensures khz (subst (λ n. HasChannelNumber n khz) (same_Some _ _ (sym h.spelled ∙ sym c.in_ok-number.ensures.number)) h.centre))
