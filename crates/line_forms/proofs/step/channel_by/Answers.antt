use Rattle.line_forms.proofs.step.channel_by.Goals as goal

pub returns-in_err-khz-in-ChannelNo : goal.returns-in_err-khz-in-ChannelNo
returns-in_err-khz-in-ChannelNo c =
    rw c.from_residual-in_err-khz-in-ChannelNo.ensures (rw c.in-ChannelNo.is (λ x h. c.in_err-khz-in-ChannelNo.ensures h.0 h.1))

pub returns-in-WordForm : goal.returns-in-WordForm
returns-in-WordForm c = rw c.in-WordForm.is c.channel_by_word.ensures
