use Rattle.radio_drv.proofs.Once.{nothing_once, started_once, stopped_once, powered_once}
use Rattle.radio_drv.proofs.laws.each_interface_is_once_on_air.Goals as goal

pub returns-clause-nothing : goal.returns-clause-nothing
returns-clause-nothing c = nothing_once

pub returns-clause-started : goal.returns-clause-started
returns-clause-started c = started_once

pub returns-clause-stopped : goal.returns-clause-stopped
returns-clause-stopped c = stopped_once

pub returns-clause-powered : goal.returns-clause-powered
returns-clause-powered c = powered_once
