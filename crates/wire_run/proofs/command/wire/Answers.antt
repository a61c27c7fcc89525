use Rattle.std.proofs.Common.{inl, inr, refl}
use Rattle.core_runs.proofs.Drivers.{AreIdle-at}
use Rattle.wire_run.proofs.Turning.{reached_first}
use Rattle.wire_run.proofs.command.wire.Goals as goal

pub answer_stream-requires-clause-ready : goal.answer_stream-requires-clause-ready
answer_stream-requires-clause-ready g c =
    reached_first c.in-Ok.db c.in-Ok-new.core (g.D.DriverRow.seen c.args.drivers.now) c.in-Ok-new.ensures.stands
    (AreIdle-at c.in-Ok.db c.in-Ok-new.core (g.D.DriverRow.seen c.args.drivers.now) c.in-Ok-new.ensures.stands c.requires.idle).driven

pub returns-in-Err-clause-wire : goal.returns-in-Err-clause-wire
returns-in-Err-clause-wire g c = inl (c.in-Err.ensures.database, record { bytes = refl; faults = refl }, (record { bytes = refl; faults = refl }, refl))

pub returns-in-Ok-new-clause-wire : goal.returns-in-Ok-new-clause-wire
returns-in-Ok-new-clause-wire g c =
    let good = c.in-Ok.ensures.database in
    inr (record {
      given = good.given;
      all = good.all;
      within = good.within;
      holds = (c.in-Ok.db, good.holds, c.answer_stream.ensures.wiring c.in-Ok.db c.in-Ok-new.ensures.stands);
    })

pub returns-in-Err-new-clause-wire : goal.returns-in-Err-new-clause-wire
returns-in-Err-new-clause-wire g c = inl (tt, record { bytes = refl; faults = refl }, (record { bytes = refl; faults = refl }, refl))
