-- what was appended, and what the rest gives, is what all give; each so far has a name
use Rattle.std.proofs.Common.{◌≡◌, ◌++◌, All, drop, map, take}
use Rattle.nl80211_replies.specs.Dumps.{iface_attr}
use Rattle.nl80211_replies.specs.inner.Fitting.{HasName}
use Rattle.nl80211_replies.proofs.radios.push_ifaces.Given as goal

abbrev pub invariant-loop-iface : goal.invariant-loop-iface
invariant-loop-iface l = record {
  attrs : l.out ++ map iface_attr (drop l.iface-index l.ifaces) ≡ l.initial.out ++ map iface_attr l.ifaces;
  named : All HasName (take l.iface-index l.ifaces);
}
