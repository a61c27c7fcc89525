use Rattle.std.proofs.Common.{take}
use Rattle.dfs_states.specs.inner.Steps.{ArePlaces}
use Rattle.dfs_states.proofs.book.unused_places.Given as goal

abbrev pub invariant-loop-khz : goal.invariant-loop-khz
invariant-loop-khz l = ArePlaces (take l.khz-index l.channels) l.places.items
