use Rattle.std.proofs.Common.{subst, sym}
use Rattle.core_parts.specs.ByIndex.{AreByIndex}
use Rattle.core_parts.proofs.ByIndex.{by_index_added, map_adds}
use Rattle.core_parts.proofs.interface_map.InterfaceMap.add.Goals as goal

pub invariant_of-self-2 : goal.invariant_of-self-2
invariant_of-self-2 c = subst AreByIndex (sym c.in_ok-insert.ensures.entries) (by_index_added c.args.interface c.self.inside.by_index.entries c.self.invariant)

pub returns-clause-ok : goal.returns-clause-ok
returns-clause-ok c =
    map_adds c.args.interface.index c.args.interface c.self.inside.by_index.entries c.insert.new.self.entries c.args.self.now c.self.invariant c.in_ok-insert.ensures.entries c.self.view_is
