use Rattle.core_parts.proofs.radar.lacks_radar_width.Goals as goal

pub returns-in-None : goal.returns-in-None
returns-in-None c = λ db J r rules s covered bound. absurd (c.in-None.ensures db J r rules s covered bound)
