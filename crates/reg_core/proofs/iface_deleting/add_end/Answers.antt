use Rattle.reg_core.proofs.KeptChanges.{interface_of_kept}
use Rattle.reg_core.proofs.Removed.{ends_one_more}
use Rattle.reg_core.proofs.iface_deleting.add_end.Goals as goal

pub returns : goal.returns
returns c = record {
  added = λ db J x is.
      ends_one_more J x c.release_of.result c.args.interface.now c.args.changes.now c.add_change.new.changes c.add_change-2.new.changes (c.release_of.ensures db J x is)
      (interface_of_kept J x _ is.there is.interface_is) c.add_change.ensures c.add_change-2.ensures;
}
