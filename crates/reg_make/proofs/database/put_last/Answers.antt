use Rattle.reg_make.proofs.DatabaseMade.{goes_last}
use Rattle.reg_make.proofs.database.put_last.Goals as goal

pub returns : goal.returns
returns c = record { last = goes_last _ _ _ c.in_ok-insert_new.ensures.ok c.in_ok-insert_new.ensures.db c.requires.above }
