use Rattle.iw_dumps.proofs.channels.put_state.Goals as goal

pub returns-in-Available : goal.returns-in-Available
returns-in-Available c = rw c.in-Available.is c.put_labelled-in-Available.ensures
