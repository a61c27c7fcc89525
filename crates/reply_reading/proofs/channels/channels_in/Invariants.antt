-- the channels so far are those that the messages so far tell
use Rattle.std.proofs.Common.{◌≡◌, ℕ, List, All, map, take}
use Rattle.chan_flags.specs.declared.record.Chan.{Chan}
use Rattle.dfs_states.specs.declared.dfs.Dfs.{Dfs}
use Rattle.nl_attrs.specs.Messages.{attrs_in}
use Rattle.nl80211_replies.specs.Dumps.{channel_attrs}
use Rattle.reply_reading.specs.inner.Reading.{IsToldChannel}
use Rattle.reply_reading.proofs.channels.channels_in.Given as goal

abbrev pub invariant-loop-msg : goal.invariant-loop-msg
invariant-loop-msg l = (r : ℕ) (told : List (Chan × Dfs)) → All IsToldChannel told → map attrs_in l.msgs ≡ map (channel_attrs r) told → l.list ≡ take l.msg-index told
