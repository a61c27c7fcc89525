use Rattle.std.proofs.Common.{arith, List, [], sym, subst}
use Rattle.rule_tables.specs.declared.domain.Domain.{Domain}
use Rattle.reg_core.specs.Kept.{StandsFor}
use Rattle.core_runs.proofs.Drivers.{AreIdle-at}
use Rattle.make_command.specs.inner.Making.{SomeAnswered}
use Rattle.make_command.proofs.Course.{always_told, ends_some, goes_round, so_far_none}
use Rattle.make_command.proofs.answering.answer_all.Goals as goal

pub requests-init : goal.requests-init
requests-init g c = record {
  ready = c.requires.ready;
  few = c.new-counts.ensures.few;
  room = omega (arith, c.new-counts.ensures.requests, c.requires.few);
  so_far = λ db stands. so_far_none db _ _ _ _ (AreIdle-at db _ _ stands c.requires.idle) c.new-counts.ensures.none;
}

pub returns-in_err-reply-clause-stopped : goal.returns-in_err-reply-clause-stopped
returns-in_err-reply-clause-stopped g c =
    let stopped : (db : List Domain) → StandsFor db c.args.core.now [] → SomeAnswered db c.args.requests.now (g.D.DriverRow.seen c.args.drivers.now) (g.D.DriverRow.seen c.step.new.drivers)
    = λ db stands. subst (SomeAnswered db c.args.requests.now (g.D.DriverRow.seen c.args.drivers.now)) (sym c.in_err-reply.ensures.drivers_stay)
    (ends_some db _ c.requests.requests c.requests.counts c.requests.core _ _ (c.requests.invariant.so_far db stands)) in
    always_told _ _ stopped

pub requests-preserved-in_ok-reply : goal.requests-preserved-in_ok-reply
requests-preserved-in_ok-reply g c = goes_round _ _ _ _ _ _ _ _ _ _ _ _ _ (rw c.in-Some.is at c.in_ok-request.ensures.next) c.in_ok-reply.ensures.step c.in_ok-reply.ensures.ready
    c.count.ensures.counted c.count.ensures.requests c.count.ensures.few c.requests.invariant

pub requests-preserved-in_ok-reply-2 : goal.requests-preserved-in_ok-reply-2
requests-preserved-in_ok-reply-2 g c = goes_round _ _ _ _ _ _ _ _ _ _ _ _ _ (rw c.in-Some.is at c.in_ok-request.ensures.next) c.in_ok-reply.ensures.step c.in_ok-reply.ensures.ready
    c.count.ensures.counted c.count.ensures.requests c.count.ensures.few c.requests.invariant

pub requests-preserved : goal.requests-preserved
requests-preserved g c = goes_round _ _ _ _ _ _ _ _ _ _ _ _ _ (rw c.in-Some.is at c.in_ok-request.ensures.next) c.in_ok-reply.ensures.step c.in_ok-reply.ensures.ready
    c.count.ensures.counted c.count.ensures.requests c.count.ensures.few c.requests.invariant
