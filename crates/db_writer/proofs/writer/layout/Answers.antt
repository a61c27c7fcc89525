use Rattle.db_writer.specs.LaidOut.{LaidOut, IsWithinReach}
use Rattle.db_writer.proofs.Says.{says_database}
use Rattle.db_writer.proofs.writer.layout.Goals as goal

pub returns-clause-reads : goal.returns-clause-reads
returns-clause-reads c =
    let file : LaidOut c.args.db.now c.in_ok-bytes.bytes = rw c.as_slice.ensures.all at c.in_ok-bytes.ensures.file in
    let fits : IsWithinReach c.args.db.now = rw c.as_slice.ensures.all at c.in_ok-bytes.ensures.fits in
    says_database c.args.db.now c.in_ok-bytes.bytes c.as_slice.ensures.db file fits
