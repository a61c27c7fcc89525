use Rattle.core_parts.proofs.ShownSections.{none_there}
use Rattle.reg_core.proofs.dumps.sections.own_section.Goals as goal

pub returns-in_default : goal.returns-in_default
returns-in_default c = λ J led keeps. none_there c.args.domains.now J c.args.number (c.in_default.ensures.kept c.args.domains.now J keeps)
