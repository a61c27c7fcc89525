use Rattle.std.proofs.Common.{arith, map, sym, subst, take, ◌+◌}
use Rattle.std.proofs.lemmas.Option.{slice_get_within}
use Rattle.std.specs.List.{AllZip}
use Rattle.chan_flags.specs.declared.record.Chan.{Chan}
use Rattle.reg_journal.specs.Dumps.{IsShownChannel}
use Rattle.core_parts.proofs.ShownChannels.{channel_there, channels_all, channels_more}
use Rattle.reg_core.proofs.dumps.channels.shown_channels.Goals as goal

pub channels-preserved : goal.channels-preserved
channels-preserved c =
    let chans = c.args.radio.now.chans.chans in
    let here = sym c.in-Some.ensures in
    let within = slice_get_within chans c.channels.i c.in-Some.chan here in
    record {
      shown = λ db J r due keeps.
          subst (λ list. AllZip (IsShownChannel db J r) (map (λ (c : Chan). c.khz) (take (c.channels.i + 1) chans)) list) (sym c.in_ok-push.ensures.ok)
          (channels_more db J r chans c.channels.i c.in-Some.chan c.channels.list c.shown_channel.result here
          (c.shown_channel.ensures db J r due keeps (channel_there chans c.channels.i c.in-Some.chan here)) (c.channels.invariant.shown db J r due keeps));
      within = omega (arith, within);
    }

pub returns : goal.returns
returns c = λ db J r due keeps.
    channels_all db J r c.args.radio.now c.channels.i c.channels.list keeps c.len-channels.ensures.channels (sym c.in_default.ensures) (c.channels.invariant.shown db J r due keeps)
