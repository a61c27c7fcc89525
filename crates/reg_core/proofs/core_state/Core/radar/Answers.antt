use Rattle.reg_journal.specs.declared.request.Request.TheVariants.{Radar}
use Rattle.reg_core.specs.Stepping.{swept_reply}
use Rattle.reg_core.proofs.Decided.{swept_decided}
use Rattle.reg_core.proofs.OneSteps.{ready_after}
use Rattle.reg_core.proofs.SweptSteps.{radar_refused, radar_taken}
use Rattle.reg_core.proofs.core_state.Core.radar.Goals as goal

pub returns-clause-step : goal.returns-clause-step
returns-clause-step g c = λ db J s. swept_decided db J (Radar c.args.radio c.args.chan.now) c.args.self.now c.meet_radar.new.self _ _ _ _ c.meet_radar.result (c.meet_radar.ensures.swept db J s) c.meet_radar.ensures.core_stays c.meet_radar.ensures.drivers_stay
    (λ effects is. radar_taken db J c.args.radio c.args.chan.now effects c.args.self.now c.meet_radar.new.self _ _ s is.0 is.1)
    (λ e cause same same'. radar_refused db J c.args.radio c.args.chan.now e c.args.self.now c.meet_radar.new.self _ _ s cause same same')

pub returns-clause-ready : goal.returns-clause-ready
returns-clause-ready g c = ready_after (Radar c.args.radio c.args.chan.now) c.args.self.now c.meet_radar.new.self _ _ (swept_reply c.meet_radar.result) c.requires.ready (λ db J s. swept_decided db J (Radar c.args.radio c.args.chan.now) c.args.self.now c.meet_radar.new.self _ _ _ _ c.meet_radar.result (c.meet_radar.ensures.swept db J s) c.meet_radar.ensures.core_stays c.meet_radar.ensures.drivers_stay
    (λ effects is. radar_taken db J c.args.radio c.args.chan.now effects c.args.self.now c.meet_radar.new.self _ _ s is.0 is.1)
    (λ e cause same same'. radar_refused db J c.args.radio c.args.chan.now e c.args.self.now c.meet_radar.new.self _ _ s cause same same'))
