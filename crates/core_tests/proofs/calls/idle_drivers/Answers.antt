use Rattle.core_runs.proofs.Drivers.{AreIdle-none}
use Rattle.core_tests.proofs.calls.idle_drivers.Goals as goal

-- each driver that is added makes one more idle one
pub returns : goal.returns
returns g c = record {
  idle = c.in_ok-add_driver-8.ensures 7 (c.in_ok-add_driver-7.ensures 6 (c.in_ok-add_driver-6.ensures 5 (c.in_ok-add_driver-5.ensures 4
      (c.in_ok-add_driver-4.ensures 3 (c.in_ok-add_driver-3.ensures 2 (c.in_ok-add_driver-2.ensures 1 (c.in_ok-add_driver.ensures 0 (AreIdle-none _ _ c.new-drivers.ensures.items))))))));
}
