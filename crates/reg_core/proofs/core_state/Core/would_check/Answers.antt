use Rattle.std.proofs.Common.{◌∙◌}
use Rattle.core_parts.specs.Judging.{IsJudged}
use Rattle.core_parts.specs.Reading.{AreKeptParts}
use Rattle.reg_core.proofs.Forecasts.{begins_unended, would_bar_check, would_bar_judged, would_check}
use Rattle.core_parts.proofs.Judged.{swept_of_judged}
use Rattle.core_parts.proofs.Named.{named_among, named_is_of}
use Rattle.reg_core.proofs.core_state.Core.would_check.Goals as goal

pub returns-in-Some : goal.returns-in-Some
returns-in-Some c = record {
  would = λ db J s.
      let has = c.in-Ok.ensures db J (record { due = s.keeps.due; interfaces_are = c.as_slice-interfaces.ensures.items ∙ s.keeps.interfaces; radios_are = s.keeps.radios }) in
      would_bar_check db J c.args.name.now c.args.chan.now has.iface c.in-Some.refusal has.is_named
      (c.in-Some.ensures.first db J has.iface (named_is_of db J c.args.name.now c.in-Ok.found.0.now c.in-Ok.found.1.now s.keeps.due has));
}

pub returns-in-Err-judge_check : goal.returns-in-Err-judge_check
returns-in-Err-judge_check c = record {
  would = λ db J s.
      let are : AreKeptParts db J c.as_slice-interfaces.result.now c.args.self.now.radios =
      record { due = s.keeps.due; interfaces_are = c.as_slice-interfaces.ensures.items ∙ s.keeps.interfaces; radios_are = s.keeps.radios } in
      let has = c.in-Ok.ensures db J are in
      let may = c.in_default.ensures.first db J has.iface (named_is_of db J c.args.name.now c.in-Ok.found.0.now c.in-Ok.found.1.now s.keeps.due has) in
      would_bar_judged db J c.args.name.now c.args.chan.now has.iface c.in-Err-judge_check.refusal has.is_named may
      (c.in-Err-judge_check.ensures db J has.iface (record {
        among = named_among db J c.args.name.now c.as_slice-interfaces.result.now c.args.self.now.radios c.in-Ok.found.0.now c.in-Ok.found.1.now are has;
        indoor_is = s.keeps.indoor;
      }) may.sends_first);
}

pub returns-in-Ok-limit_on : goal.returns-in-Ok-limit_on
returns-in-Ok-limit_on c = record {
  would = λ db J s.
      let are : AreKeptParts db J c.as_slice-interfaces.result.now c.args.self.now.radios =
      record { due = s.keeps.due; interfaces_are = c.as_slice-interfaces.ensures.items ∙ s.keeps.interfaces; radios_are = s.keeps.radios } in
      let has = c.in-Ok.ensures db J are in
      let may = c.in_default.ensures.first db J has.iface (named_is_of db J c.args.name.now c.in-Ok.found.0.now c.in-Ok.found.1.now s.keeps.due has) in
      let judged : IsJudged db J has.iface c.in-Ok.found.0.now c.as_slice-interfaces.result.now c.in-Ok.found.1.now c.args.self.now.indoor = record {
        among = named_among db J c.args.name.now c.as_slice-interfaces.result.now c.args.self.now.radios c.in-Ok.found.0.now c.in-Ok.found.1.now are has;
        indoor_is = s.keeps.indoor;
      } in
      let begins = c.in-Ok-judge_check.ensures db J has.iface judged may.sends_first in
      would_check db J c.args.name.now c.args.chan.now has.iface c.in-Ok.found.0.now c.in-Ok-judge_check.length_ms c.in-Ok-limit_on.limit_mbm has.is_named has.interface_is may begins.0 begins.1
      (c.in-Ok-limit_on.ensures db J has.iface (swept_of_judged db J has.iface c.in-Ok.found.0.now c.as_slice-interfaces.result.now c.in-Ok.found.1.now c.args.self.now.indoor judged));
}

pub returns-in-Err-limit_on : goal.returns-in-Err-limit_on
returns-in-Err-limit_on c = record {
  would = λ db J s.
      let are : AreKeptParts db J c.as_slice-interfaces.result.now c.args.self.now.radios =
      record { due = s.keeps.due; interfaces_are = c.as_slice-interfaces.ensures.items ∙ s.keeps.interfaces; radios_are = s.keeps.radios } in
      let has = c.in-Ok.ensures db J are in
      let may = c.in_default.ensures.first db J has.iface (named_is_of db J c.args.name.now c.in-Ok.found.0.now c.in-Ok.found.1.now s.keeps.due has) in
      let judged : IsJudged db J has.iface c.in-Ok.found.0.now c.as_slice-interfaces.result.now c.in-Ok.found.1.now c.args.self.now.indoor = record {
        among = named_among db J c.args.name.now c.as_slice-interfaces.result.now c.args.self.now.radios c.in-Ok.found.0.now c.in-Ok.found.1.now are has;
        indoor_is = s.keeps.indoor;
      } in
      let begins = c.in-Ok-judge_check.ensures db J has.iface judged may.sends_first in
      absurd (begins_unended db J has.iface c.args.chan.now c.in-Err-limit_on.refusal begins.0
      (c.in-Err-limit_on.ensures db J has.iface (swept_of_judged db J has.iface c.in-Ok.found.0.now c.as_slice-interfaces.result.now c.in-Ok.found.1.now c.args.self.now.indoor judged)));
}
