use Rattle.core_parts.proofs.Judged.{ends_by, ends_by_radar, ends_unchecked, permitted, rules_of_fitting}
use Rattle.core_parts.proofs.permitting.permit.Goals as goal

pub returns-in-Refused : goal.returns-in-Refused
returns-in-Refused c = λ db J x has. rw c.refusal_of.ensures (ends_by db J x c.args.chan.now c.in-Refused.refusal (rw c.in-Refused.is at has.verdict_is))

pub returns-in-Some : goal.returns-in-Some
returns-in-Some c = λ db J x has.
    let fits = rw c.in-Fits.is at has.verdict_is in
    let rules = rules_of_fitting db J x c.args.radio.now c.args.chan.now c.in-Fits.power_mbm c.in-Fits.check_ms has.due has.radio_is fits in
    ends_by_radar db J x c.args.chan.now c.in-Fits.power_mbm c.in-Fits.check_ms c.in-Some.refusal fits (c.in-Some.ensures db J x rules has.kind_is)

pub returns-in-Some-unchecked_refusal : goal.returns-in-Some-unchecked_refusal
returns-in-Some-unchecked_refusal c = λ db J x has.
    let fits = rw c.in-Fits.is at has.verdict_is in
    let rules = rules_of_fitting db J x c.args.radio.now c.args.chan.now c.in-Fits.power_mbm c.in-Fits.check_ms has.due has.radio_is fits in
    let radar = c.in_default.ensures db J x rules has.kind_is in
    ends_unchecked db J x c.args.chan.now c.in-Fits.power_mbm c.in-Fits.check_ms c.in-Some-unchecked_refusal.refusal fits radar.0 radar.1
    (c.in-Some-unchecked_refusal.ensures db J x rules has.kind_is radar.1)

pub returns-in_default-unchecked_refusal : goal.returns-in_default-unchecked_refusal
returns-in_default-unchecked_refusal c = λ db J x has.
    let fits = rw c.in-Fits.is at has.verdict_is in
    let rules = rules_of_fitting db J x c.args.radio.now c.args.chan.now c.in-Fits.power_mbm c.in-Fits.check_ms has.due has.radio_is fits in
    let radar = c.in_default.ensures db J x rules has.kind_is in
    permitted db J x c.args.chan.now c.in-Fits.power_mbm c.in-Fits.check_ms fits radar.0 (c.in_default-unchecked_refusal.ensures db J x rules has.kind_is radar.1)
