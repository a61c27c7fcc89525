use Rattle.std.proofs.Common.{sym}
use Rattle.dfs_states.proofs.Asked.{answer_there, answer_none}
use Rattle.dfs_states.proofs.book.DfsBook.state.Goals as goal

pub returns-in-Some : goal.returns-in-Some
returns-in-Some c = record {
  answer = λ channels opening calls stands.
      let stood = rw (← c.self.view_is) at stands in
      let found = rw c.as_slice.ensures.value at c.in-Some.ensures in
      answer_there _ channels opening calls c.args.khz c.state.result c.in-Some.place stood found.0 found.1 (λ is. c.state.ensures opening calls stood.due
      (record { moment = sym stood.moment; region = sym stood.lasts; operating = stood.operations }) is);
}

pub returns-in-None : goal.returns-in-None
returns-in-None c = record {
  answer = λ channels opening calls stands.
      let stood = rw (← c.self.view_is) at stands in
      answer_none _ channels opening calls c.args.khz stood (rw c.as_slice.ensures.value at c.in-None.ensures);
}
