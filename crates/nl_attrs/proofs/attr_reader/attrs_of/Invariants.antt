use Rattle.std.proofs.Common.{length}
use Rattle.nl_attrs.specs.Walks.{HasWalked}
use Rattle.nl_attrs.proofs.attr_reader.attrs_of.Given as goal

-- what was given so far is the list
abbrev pub invariant-attrs : goal.invariant-attrs
invariant-attrs l = HasWalked l.walk l.payload l.list

abbrev pub decreases-attrs : goal.decreases-attrs
decreases-attrs l = length l.walk.left
