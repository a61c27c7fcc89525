use Rattle.std.proofs.Common.{subst, sym}
use Rattle.core_parts.specs.ByIndex.{AreByIndex}
use Rattle.core_parts.proofs.ByIndex.{by_index_left, map_removes}
use Rattle.core_parts.proofs.interface_map.InterfaceMap.remove.Goals as goal

pub invariant_of-self : goal.invariant_of-self
invariant_of-self c = subst AreByIndex (sym c.shift_remove-gone.ensures.entries) (by_index_left c.args.index c.self.inside.by_index.entries c.self.invariant)

pub returns : goal.returns
returns c = record {
  others = map_removes c.args.index c.self.inside.by_index.entries c.shift_remove-gone.new.self.entries c.args.self.now c.self.invariant c.len-count.ensures.unique c.shift_remove-gone.ensures.entries c.self.view_is;
}
