use Rattle.nl80211_replies.proofs.Fitting.{state_fits}
use Rattle.nl80211_replies.proofs.interfaces.iface_attrs.Goals as goal

pub push_nested-requires : goal.push_nested-requires
push_nested-requires c = rw (c.in_ok-push_state.ensures, c.new-held.ensures.empty) (state_fits _)
