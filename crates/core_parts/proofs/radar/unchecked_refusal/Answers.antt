use Rattle.std.proofs.Common.{sym, ap, ◌∙◌}
use Rattle.chan_def.specs.Kinds.{initiates}
use Rattle.core_parts.proofs.RadarRefusals.{lacks_check}
use Rattle.core_parts.proofs.radar.unchecked_refusal.Goals as goal

pub returns-in-Some : goal.returns-in-Some
returns-in-Some c = λ db J x rules kind quiet.
    let sends = ap initiates (sym kind) ∙ sym c.initiates.ensures.initiates ∙ c.if-not-initiates.false in
    lacks_check db J x c.args.chan.now c.in-Some.khz sends quiet (c.in-Some.ensures db J x.radio rules)
