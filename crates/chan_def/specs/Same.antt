-- Whether two definitions are of the same channel.
use Rattle.std.specs.Prelude.{◌==◌, Bool, ◌&&◌}
use Rattle.chan_def.specs.declared.definition.ChanDef.{ChanDef}
use Rattle.chan_def.specs.Covered.{width_number}

-- all three parts are the same, the widths by their numbers
abbrev pub is_same_channel : ChanDef → ChanDef → Bool
is_same_channel one other = one.control_khz == other.control_khz && width_number one.width == width_number other.width && one.centre_khz == other.centre_khz
