use Rattle.std.proofs.Common.{Some, ap, sym, ◌∙◌}
use Rattle.std.proofs.lemmas.Option.{same_Some}
use Rattle.reg_journal.specs.declared.reply.Reply.TheVariants.{Radio as OfRadio}
use Rattle.reply_reading.proofs.ShownAgain.{channels_shown, iface_shown, plain_shown, radio_shown, sections_shown, shown_is}
use Rattle.reply_reading.proofs.candidate.candidate.Goals as goal

pub returns-in_ok-plain_in-in-Answer : goal.returns-in_ok-plain_in-in-Answer
returns-in_ok-plain_in-in-Answer c = λ request reply typed told e.
    let kind = sym (shown_is request reply c.args.msgs.now c.first-item.result c.second-item.result told e c.first-item.is c.second-item.is) ∙ sym c.shown_by.ensures ∙ c.in-Answer.is in
    ap Some (plain_shown request reply c.args.msgs.now c.first-item.result c.in_ok-plain_in-in-Answer.field-0 typed told e c.first-item.is kind (rw c.attrs_in-attrs.ensures at c.in_ok-plain_in-in-Answer.ensures))

pub returns-in_ok-sections_in-in-Sections : goal.returns-in_ok-sections_in-in-Sections
returns-in_ok-sections_in-in-Sections c = λ request reply typed told e.
    let kind = sym (shown_is request reply c.args.msgs.now c.first-item.result c.second-item.result told e c.first-item.is c.second-item.is) ∙ sym c.shown_by.ensures ∙ c.in-Sections.is in
    ap Some (sections_shown request reply c.args.msgs.now c.without_last-shown.result.now c.in_ok-sections_in-in-Sections.field-0 typed told e c.without_last-shown.ensures kind c.in_ok-sections_in-in-Sections.ensures)

pub returns-in_ok-channels_in-in-Channels : goal.returns-in_ok-channels_in-in-Channels
returns-in_ok-channels_in-in-Channels c = λ request reply typed told e.
    let kind = sym (shown_is request reply c.args.msgs.now c.first-item.result c.second-item.result told e c.first-item.is c.second-item.is) ∙ sym c.shown_by.ensures ∙ c.in-Channels.is in
    ap Some (rw (c.radio_of.ensures, c.from.ensures)
    (channels_shown request reply c.args.msgs.now c.without_last-shown.result.now c.first-item.result c.number_at.result c.in_ok-channels_in-in-Channels.field-0 typed told e c.first-item.is c.without_last-shown.ensures kind
    (rw c.attrs_in-attrs.ensures at c.number_at.ensures) c.in_ok-channels_in-in-Channels.ensures))

pub returns-in-Some : goal.returns-in-Some
returns-in-Some c = λ request reply typed told e.
    let kind = sym (shown_is request reply c.args.msgs.now c.first-item.result c.second-item.result told e c.first-item.is c.second-item.is) ∙ sym c.shown_by.ensures ∙ c.in-Radio.is in
    let shown = radio_shown request reply c.args.msgs.now c.first-item.result c.in_ok-report-in-Radio.field-0 typed e c.first-item.is kind (rw c.attrs_in-attrs.ensures at c.in_ok-report-in-Radio.ensures) in
    ap Some (ap OfRadio (same_Some c.in-Some.report shown.0 (sym c.in-Some.is ∙ shown.1)) ∙ sym shown.2)

pub returns-in-None : goal.returns-in-None
returns-in-None c = λ request reply typed told e.
    let kind = sym (shown_is request reply c.args.msgs.now c.first-item.result c.second-item.result told e c.first-item.is c.second-item.is) ∙ sym c.shown_by.ensures ∙ c.in-Radio.is in
    let shown = radio_shown request reply c.args.msgs.now c.first-item.result c.in_ok-report-in-Radio.field-0 typed e c.first-item.is kind (rw c.attrs_in-attrs.ensures at c.in_ok-report-in-Radio.ensures) in
    let clash = sym c.in-None.is ∙ shown.1 in
    absurd cc

pub returns-in_ok-iface_in-in-Iface : goal.returns-in_ok-iface_in-in-Iface
returns-in_ok-iface_in-in-Iface c = λ request reply typed told e.
    let kind = sym (shown_is request reply c.args.msgs.now c.first-item.result c.second-item.result told e c.first-item.is c.second-item.is) ∙ sym c.shown_by.ensures ∙ c.in-Iface.is in
    ap Some (iface_shown request reply c.args.msgs.now c.first-item.result c.in_ok-iface_in-in-Iface.field-0 typed told e c.first-item.is kind (rw c.attrs_in-attrs.ensures at c.in_ok-iface_in-in-Iface.ensures))
