use Rattle.dfs_states.proofs.Asked.{stands_opening, slots, empty_at}
use Rattle.chan_def.specs.declared.definition.ChanDef.{ChanDef}
use Rattle.dfs_states.specs.declared.check.Check.{Check}
use Rattle.dfs_states.proofs.book.DfsBook.new.Goals as goal

pub returns : goal.returns
returns c = record {
  opening = stands_opening c.args.channels.now c.in_ok-unused_places.field-0.items c.args.lasts
      (slots {X = Check} 8) (slots {X = ChanDef} 8) c.in_ok-unused_places.ensures (empty_at {X = Check} 8) (empty_at {X = ChanDef} 8);
}
