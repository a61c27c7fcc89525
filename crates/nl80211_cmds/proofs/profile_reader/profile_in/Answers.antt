use Rattle.nl80211_cmds.proofs.ReadValues.{made_profile}
use Rattle.nl80211_cmds.proofs.profile_reader.profile_in.Goals as goal

pub returns : goal.returns
returns c =
    made_profile c.args.attrs.now c.new.result _ _ _ _ _ _ _ _ _ c.bands_of-bands.ensures c.flags_of-self_managed.ensures c.in_ok-number_of.ensures.number c.in_ok-width_mhz.ensures.number c.in_ok-radar_mhz.ensures.number c.in_ok-power_mbm.ensures.number c.in_ok-contexts.ensures.number c.in_ok-number_of-2.ensures.number c.new.ensures.profile c.new.ensures.valid
