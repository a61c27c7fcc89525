use Rattle.nl80211_replies.proofs.Fitting.{iface_fits}
use Rattle.nl80211_replies.proofs.radios.push_iface.Goals as goal

pub push_nested-requires : goal.push_nested-requires
push_nested-requires c =
    rw (c.in_ok-push_number.ensures, c.in_ok-push_wide.ensures, c.in_ok-push_text.ensures, c.new-held.ensures.empty)
    (iface_fits c.as_bytes.result.now _ _ (rw (← c.as_bytes.ensures.bytes) at c.as_bytes.ensures.name))
