use Rattle.std.proofs.Common.{refl, ◌∙◌}
use Rattle.core_parts.proofs.Named.{radio_is_no_cause}
use Rattle.core_parts.proofs.RadarRefusals.{abilities_kept}
use Rattle.core_parts.proofs.ShownReports.{interfaces_shown}
use Rattle.reg_core.proofs.core_state.Core.radio_report.Goals as goal

pub returns-in_default : goal.returns-in_default
returns-in_default c = record { report = λ db J s. (c.in_default.ensures.kept db J s.radios, refl) }

pub returns-in-Ok : goal.returns-in-Ok
returns-in-Ok c = record {
  report = λ db J s.
      let keeps = c.in-Some.ensures.kept db J s.radios in (
        radio_is_no_cause db J c.args.radio c.in-Some.found.now keeps,
        record {
          radio = refl;
          profile = c.profile-profile.ensures ∙ abilities_kept db J c.args.radio c.in-Some.found.now keeps;
          ifaces = c.in-Ok.ensures ∙ interfaces_shown J c.args.radio c.as_slice.result.now (c.as_slice.ensures.items ∙ s.interfaces);
        },
      );
}
