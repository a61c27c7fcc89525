use Rattle.std.proofs.Common.{◌∙◌}
use Rattle.core_parts.specs.Reading.{AreKeptParts}
use Rattle.reg_core.proofs.Forecasts.{would_bar_start, would_judge_start}
use Rattle.core_parts.proofs.Named.{named_among, named_is_of}
use Rattle.reg_core.proofs.core_state.Core.would_start.Goals as goal

pub returns-in-Some : goal.returns-in-Some
returns-in-Some c = record {
  would = λ db J s.
      let has = c.in-Ok.ensures db J (record { due = s.keeps.due; interfaces_are = c.as_slice-interfaces.ensures.items ∙ s.keeps.interfaces; radios_are = s.keeps.radios }) in
      would_bar_start db J c.args.name.now c.args.kind c.args.chan.now has.iface c.in-Some.refusal has.is_named
      (c.in-Some.ensures.first db J has.iface (named_is_of db J c.args.name.now c.in-Ok.found.0.now c.in-Ok.found.1.now s.keeps.due has));
}

pub returns : goal.returns
returns c = record {
  would = λ db J s.
      let are : AreKeptParts db J c.as_slice-interfaces.result.now c.args.self.now.radios = record { due = s.keeps.due; interfaces_are = c.as_slice-interfaces.ensures.items ∙ s.keeps.interfaces; radios_are = s.keeps.radios } in
      let has = c.in-Ok.ensures db J are in
      would_judge_start db J c.args.name.now c.args.kind c.args.chan.now has.iface c.judge.result has.is_named
      (c.in_default.ensures.first db J has.iface (named_is_of db J c.args.name.now c.in-Ok.found.0.now c.in-Ok.found.1.now s.keeps.due has))
      (c.judge.ensures db J has.iface (record {
        among = named_among db J c.args.name.now c.as_slice-interfaces.result.now c.args.self.now.radios c.in-Ok.found.0.now c.in-Ok.found.1.now are has;
        indoor_is = s.keeps.indoor;
      }));
}
