use Rattle.core_parts.proofs.Permitted.{check_fits, ends_check_by, ends_check_radar, rules_of_check}
use Rattle.core_parts.proofs.permitting.check_permit.Goals as goal

pub returns-in-Refused : goal.returns-in-Refused
returns-in-Refused c = λ db J x has. rw c.refusal_of.ensures (ends_check_by db J x c.args.chan.now c.in-Refused.refusal (rw c.in-Refused.is at has.verdict_is))

pub returns-in-Some : goal.returns-in-Some
returns-in-Some c = λ db J x has.
    let fits = rw c.in-Fits.is at has.verdict_is in
    let rules = rules_of_check db J x c.args.kind c.args.radio.now c.args.chan.now c.in-Fits.power_mbm c.in-Fits.check_ms c.args.verdict has fits in
    ends_check_radar db J x c.args.chan.now c.in-Fits.power_mbm c.in-Fits.check_ms c.in-Some.refusal fits (c.in-Some.ensures db J x rules has.kind_is)

pub returns-in-None : goal.returns-in-None
returns-in-None c = λ db J x has.
    let fits = rw c.in-Fits.is at has.verdict_is in
    let rules = rules_of_check db J x c.args.kind c.args.radio.now c.args.chan.now c.in-Fits.power_mbm c.in-Fits.check_ms c.args.verdict has fits in
    check_fits db J x c.args.radio.now c.args.chan.now c.in-Fits.power_mbm c.in-Fits.check_ms rules fits (c.in-None.ensures db J x rules has.kind_is)
