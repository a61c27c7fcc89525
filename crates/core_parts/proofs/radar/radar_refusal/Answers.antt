use Rattle.std.proofs.Common.{sym, ap, inr, ◌∙◌}
use Rattle.chan_def.specs.Kinds.{initiates}
use Rattle.core_parts.proofs.RadarRefusals.{free_of_width, has_width, met_radar}
use Rattle.core_parts.proofs.radar.radar_refusal.Goals as goal

pub returns-in-Some : goal.returns-in-Some
returns-in-Some c = λ db J x rules kind.
    let sends = ap initiates (sym kind) ∙ sym c.initiates.ensures.initiates ∙ c.if-not-initiates.false in
    let wide = has_width db J x c.args.radio.now c.args.chan.now rules.radio_is (c.if-lacks_radar_width.ensures db J x.radio rules) in
    inr (free_of_width db J x c.args.chan.now wide, met_radar db J x c.args.chan.now c.in-Some.khz sends (c.in-Some.ensures db J x.radio rules))

pub returns-in-None : goal.returns-in-None
returns-in-None c = λ db J x rules kind. (
  has_width db J x c.args.radio.now c.args.chan.now rules.radio_is (c.if-lacks_radar_width.ensures db J x.radio rules),
  λ sends. c.in-None.ensures db J x.radio rules,
)
