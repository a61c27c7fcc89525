use Rattle.std.proofs.Common.{ap, ◌∙◌}
use Rattle.chan_flags.specs.Profiles.{Abilities}
use Rattle.core_parts.proofs.ShownChannels.{channel_shown}
use Rattle.reg_core.proofs.dumps.channels.shown_channel.Goals as goal

pub returns : goal.returns
returns c = λ db J r due keeps has.
    channel_shown db J r c.args.radio.now c.args.chan c.power_mbm.result c.limited-fit.result c.state-state.result due keeps has
    (c.power_mbm.ensures ∙ ap (λ (p : Abilities). p.power_mbm) c.profile.ensures) c.limited-fit.ensures (c.state-state.ensures.answer _ _ _ keeps.book)
