-- Which kinds of interfaces send first.
use Rattle.std.specs.Prelude.{Bool, true, false}
use Rattle.chan_def.specs.declared.kind.Kind.{Kind}
use Rattle.chan_def.specs.declared.kind.Kind.TheVariants.{Ap, Ibss, Mesh, Station, Monitor}

-- access points, and points of an ad-hoc network or of a mesh, send first
abbrev pub initiates : Kind → Bool
initiates Ap = true
initiates Ibss = true
initiates Mesh = true
initiates Station = false
initiates Monitor = false
