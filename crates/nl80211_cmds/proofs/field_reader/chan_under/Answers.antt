use Rattle.nl80211_cmds.proofs.field_reader.chan_under.Goals as goal

pub returns : goal.returns
returns c = rw (c.payload_of.ensures, c.payload_of-2.ensures, c.payload_of-3.ensures) at c.chan_in.ensures
