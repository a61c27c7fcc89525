use Rattle.std.proofs.Common.{All, arith, subst}
use Rattle.std.proofs.lemmas.List.{take_all}
use Rattle.std.proofs.lemmas.List.Elements.{All-more}
use Rattle.nl80211_replies.specs.Dumps.{iface_attr}
use Rattle.nl80211_replies.specs.inner.Fitting.{HasName}
use Rattle.nl80211_replies.proofs.Fitting.{more_mapped}
use Rattle.nl80211_replies.proofs.radios.push_ifaces.Goals as goal

pub loop-iface-preserved : goal.loop-iface-preserved
loop-iface-preserved c = record {
  attrs = more_mapped iface_attr c.args.ifaces.now c.loop-iface.iface-index c.iface-item.result c.loop-iface.out c.push_iface.new.out _ c.loop-iface-test.true c.iface-item.is c.in_ok-push_iface.ensures.attr
      c.loop-iface.invariant.attrs;
  named = All-more HasName c.args.ifaces.now c.loop-iface.iface-index c.iface-item.result c.loop-iface-test.true c.loop-iface.invariant.named (subst HasName c.iface-item.is c.in_ok-push_iface.ensures.named);
}

pub returns-clause-named : goal.returns-clause-named
returns-clause-named c = subst (All HasName) (take_all c.loop-iface.iface-index c.args.ifaces.now (omega (arith, c.loop-iface-test.false))) c.loop-iface.invariant.named
