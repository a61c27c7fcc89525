use Rattle.std.proofs.Common.{subst, sym}
use Rattle.chan_def.specs.Covered.{IsValidDef}
use Rattle.reg_core.proofs.SweepJudged.{check_drops, check_goes_on, check_read, no_check, none_read, of_swept}
use Rattle.reg_journal.proofs.Wholes.{check_valid}
use Rattle.reg_core.proofs.sweep.change_of_check.Goals as goal

pub must_drop-requires : goal.must_drop-requires
must_drop-requires c =
    let some = c.requires.swept in
    let is = some.swept in
    let read = check_read some.journal some.iface c.in-Some.chan
    (c.in-Some.ensures some.db some.journal some.iface (of_swept some.db some.journal some.iface c.args.interface.now c.args.radio.now c.args.indoor is)) in
    record { valid = subst IsValidDef (sym read.2) (check_valid some.db some.journal some.iface.index read.0 is.due read.1) }

pub returns-in_default : goal.returns-in_default
returns-in_default c = λ db J x is none region.
    no_check db J x none (none_read J x (c.in_default.ensures db J x (of_swept db J x c.args.interface.now c.args.radio.now c.args.indoor is)))

pub returns-then-must_drop : goal.returns-then-must_drop
returns-then-must_drop c = λ db J x is none region.
    let read = check_read J x c.in-Some.chan (c.in-Some.ensures db J x (of_swept db J x c.args.interface.now c.args.radio.now c.args.indoor is)) in
    check_drops db J x c.args.interface.now c.args.radio.now c.args.indoor read.0 is none read.1 (c.if-must_drop.ensures db J x read.0 is read.2 (region read.0 read.1))

pub returns-else-must_drop : goal.returns-else-must_drop
returns-else-must_drop c = λ db J x is none region.
    let read = check_read J x c.in-Some.chan (c.in-Some.ensures db J x (of_swept db J x c.args.interface.now c.args.radio.now c.args.indoor is)) in
    check_goes_on db J x read.0 none read.1 (c.if-must_drop.ensures db J x read.0 is read.2 (region read.0 read.1))
