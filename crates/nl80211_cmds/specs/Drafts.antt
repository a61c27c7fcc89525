-- What attributes have said so far, and the request that a command makes of it.
use Rattle.std.specs.Prelude.{false, true, [], ◌∷◌}
use Rattle.chan_def.specs.declared.kind.Kind.{Kind}
use Rattle.chan_def.specs.declared.kind.Kind.TheVariants.{Ap, Ibss, Mesh, Station, Monitor}
use Rattle.chan_def.specs.declared.width.Width.TheVariants.{Noht}
use Rattle.chan_flags.specs.Profiles.{abilities}
use Rattle.chan_flags.specs.declared.verdict.PowerSetting.TheVariants.{Auto}
use Rattle.reg_journal.specs.declared.request.Request.{Request}
use Rattle.reg_journal.specs.declared.request.Request.TheVariants.{At, RadioAdd, RadioDel, RadioRules, Element, DriverHint, UserHint, Radar, Indoor, IfaceAdd, IfaceDel, SetType, SetPower, Start, Stop, Check, GetReg, Channels, RadioInfo, IfaceInfo}
use Rattle.nl80211_cmds.specs.declared.command.Command.{Command}
use Rattle.nl80211_cmds.specs.declared.command.Command.TheVariants as commands
use Rattle.nl80211_cmds.specs.declared.draft.Draft.{Draft}

-- before anything is said, something that nobody reads stands in each place
abbrev pub nothing_told : Draft
nothing_told = record {
  moment = 0;
  radio = 0;
  name = 45 ∷ [];
  kind = Ap;
  alpha2 = record { a = 48; b = 48 };
  chan = record { control_khz = 0; width = Noht; centre_khz = 0 };
  setting = Auto;
  on = false;
  profile = abilities (record { ghz2 = true; ghz5 = false; ghz6 = false }) 20 0 0 1 false false;
  body = [];
  rules = [];
}

-- the request of a command, from what its attributes said
abbrev pub asked_request : Command → Draft → Request
asked_request commands.GetWiphy d = RadioInfo d.radio
asked_request commands.SetWiphyPower d = SetPower d.name d.setting
asked_request commands.SetWiphyChannel d = Start d.name Monitor d.chan
asked_request commands.GetInterface d = IfaceInfo d.name
asked_request commands.SetInterface d = SetType d.name d.kind
asked_request commands.NewInterface d = IfaceAdd d.radio d.name d.kind
asked_request commands.DelInterface d = IfaceDel d.name
asked_request commands.StartAp d = Start d.name Ap d.chan
asked_request commands.StopAp d = Stop d.name Ap
asked_request commands.ReqSetReg d = UserHint d.alpha2
asked_request commands.GetReg d = GetReg
asked_request commands.JoinIbss d = Start d.name Ibss d.chan
asked_request commands.LeaveIbss d = Stop d.name Ibss
asked_request commands.Connect d = Start d.name Station d.chan
asked_request commands.Disconnect d = Stop d.name Station
asked_request commands.JoinMesh d = Start d.name Mesh d.chan
asked_request commands.LeaveMesh d = Stop d.name Mesh
asked_request commands.RadarDetect d = Check d.name d.chan
asked_request commands.At d = At d.moment
asked_request commands.RadioAdd d = RadioAdd d.radio d.profile
asked_request commands.RadioDel d = RadioDel d.radio
asked_request commands.RadioRules d = RadioRules d.radio d.rules
asked_request commands.Element d = Element d.radio d.body
asked_request commands.DriverHint d = DriverHint d.radio d.alpha2
asked_request commands.Radar d = Radar d.radio d.chan
asked_request commands.Indoor d = Indoor d.on
asked_request commands.GetChannels d = Channels d.radio

-- the command that starts, and the one that stops, an operation of that kind; no command stops a monitor
abbrev pub start_command : Kind → Command
start_command Ap = commands.StartAp
start_command Ibss = commands.JoinIbss
start_command Mesh = commands.JoinMesh
start_command Station = commands.Connect
start_command Monitor = commands.SetWiphyChannel

abbrev pub stop_command : Kind → Command
stop_command Ap = commands.StopAp
stop_command Ibss = commands.LeaveIbss
stop_command Mesh = commands.LeaveMesh
stop_command Station = commands.Disconnect
stop_command Monitor = commands.StopAp

-- the command of a request
abbrev pub command_of : Request → Command
command_of (At moment) = commands.At
command_of (RadioAdd radio profile) = commands.RadioAdd
command_of (RadioDel radio) = commands.RadioDel
command_of (RadioRules radio rules) = commands.RadioRules
command_of (Element radio body) = commands.Element
command_of (DriverHint radio code) = commands.DriverHint
command_of (UserHint code) = commands.ReqSetReg
command_of (Radar radio c) = commands.Radar
command_of (Indoor on) = commands.Indoor
command_of (IfaceAdd radio name kind) = commands.NewInterface
command_of (IfaceDel name) = commands.DelInterface
command_of (SetType name kind) = commands.SetInterface
command_of (SetPower name setting) = commands.SetWiphyPower
command_of (Start name kind c) = start_command kind
command_of (Stop name kind) = stop_command kind
command_of (Check name c) = commands.RadarDetect
command_of GetReg = commands.GetReg
command_of (Channels radio) = commands.GetChannels
command_of (RadioInfo radio) = commands.GetWiphy
command_of (IfaceInfo name) = commands.GetInterface

-- what the request says, for its attributes to say
abbrev pub told_by : Request → Draft
told_by (At moment) = record nothing_told { moment = moment }
told_by (RadioAdd radio profile) = record nothing_told { radio = radio; profile = profile }
told_by (RadioDel radio) = record nothing_told { radio = radio }
told_by (RadioRules radio rules) = record nothing_told { radio = radio; rules = rules }
told_by (Element radio body) = record nothing_told { radio = radio; body = body }
told_by (DriverHint radio code) = record nothing_told { radio = radio; alpha2 = code }
told_by (UserHint code) = record nothing_told { alpha2 = code }
told_by (Radar radio c) = record nothing_told { radio = radio; chan = c }
told_by (Indoor on) = record nothing_told { on = on }
told_by (IfaceAdd radio name kind) = record nothing_told { radio = radio; name = name; kind = kind }
told_by (IfaceDel name) = record nothing_told { name = name }
told_by (SetType name kind) = record nothing_told { name = name; kind = kind }
told_by (SetPower name setting) = record nothing_told { name = name; setting = setting }
told_by (Start name kind c) = record nothing_told { name = name; chan = c }
told_by (Stop name kind) = record nothing_told { name = name }
told_by (Check name c) = record nothing_told { name = name; chan = c }
told_by GetReg = nothing_told
told_by (Channels radio) = record nothing_told { radio = radio }
told_by (RadioInfo radio) = record nothing_told { radio = radio }
told_by (IfaceInfo name) = record nothing_told { name = name }
