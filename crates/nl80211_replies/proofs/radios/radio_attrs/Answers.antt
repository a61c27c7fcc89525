use Rattle.nl80211_replies.proofs.Fitting.{radio_fits}
use Rattle.nl80211_replies.proofs.radios.radio_attrs.Goals as goal

pub push_nested-requires : goal.push_nested-requires
push_nested-requires c =
    rw (c.in_ok-push_ifaces.ensures.attrs, c.in_ok-push_profile.ensures, c.new-held.ensures.empty)
    (radio_fits c.args.report.now.profile c.as_slice.result.now c.in_ok-push_ifaces.ensures.named)
