-- Commands: their families, their numbers and what their attributes say.
use Rattle.std.specs.Prelude.{◌≡◌, ℕ, ◌==◌, ◌&&◌, Bool, true, false, List, [], ◌∷◌, Option}
use Rattle.std.specs.List.{find}
use Rattle.nl80211_cmds.specs.declared.attribute.TheConstants.{WIPHY, IFNAME, IFTYPE, REG_ALPHA2, WIPHY_FREQ, TX_POWER_SETTING, TX_POWER_LEVEL, CHANNEL_WIDTH, CENTER_FREQ1, MOMENT, RADIO, RULES, BODY, ALPHA2, FREQ, WIDTH, CENTRE, INDOOR}
use Rattle.nl80211_cmds.specs.declared.command.TheConstants.{COMMANDS}
use Rattle.nl80211_cmds.specs.declared.command.Command.{Command}
use Rattle.nl80211_cmds.specs.declared.command.Command.TheVariants as commands
use Rattle.nl80211_cmds.specs.declared.family.Family.{Family}
use Rattle.nl80211_cmds.specs.declared.family.Family.TheVariants.{Nl80211, Simulation}
use Rattle.nl80211_cmds.specs.declared.field.Field.{Field}
use Rattle.nl80211_cmds.specs.declared.field.Field.TheVariants as fields

-- the number of a family, which is the type of its messages
abbrev pub family_number : Family → ℕ
family_number Nl80211 = 32
family_number Simulation = 33

-- the family of a command
abbrev pub family_of : Command → Family
family_of commands.At = Simulation
family_of commands.RadioAdd = Simulation
family_of commands.RadioDel = Simulation
family_of commands.RadioRules = Simulation
family_of commands.Element = Simulation
family_of commands.DriverHint = Simulation
family_of commands.Radar = Simulation
family_of commands.Indoor = Simulation
family_of commands.GetChannels = Simulation
family_of command = Nl80211

-- the number of a command in its family
abbrev pub command_number : Command → ℕ
command_number commands.GetWiphy = 1
command_number commands.SetWiphyPower = 2
command_number commands.SetWiphyChannel = 2
command_number commands.GetInterface = 5
command_number commands.SetInterface = 6
command_number commands.NewInterface = 7
command_number commands.DelInterface = 8
command_number commands.StartAp = 15
command_number commands.StopAp = 16
command_number commands.ReqSetReg = 27
command_number commands.GetReg = 31
command_number commands.JoinIbss = 43
command_number commands.LeaveIbss = 44
command_number commands.Connect = 46
command_number commands.Disconnect = 48
command_number commands.JoinMesh = 68
command_number commands.LeaveMesh = 69
command_number commands.RadarDetect = 94
command_number commands.At = 1
command_number commands.RadioAdd = 2
command_number commands.RadioDel = 3
command_number commands.RadioRules = 4
command_number commands.Element = 5
command_number commands.DriverHint = 6
command_number commands.Radar = 7
command_number commands.Indoor = 8
command_number commands.GetChannels = 9

-- those that are answered by a dump
abbrev pub is_dump : Command → Bool
is_dump commands.GetWiphy = true
is_dump commands.GetInterface = true
is_dump commands.GetReg = true
is_dump commands.GetChannels = true
is_dump command = false

-- what the attributes of each command say, in their order: the table of requests
abbrev pub fields_of : Command → List Field
fields_of commands.GetWiphy = fields.Radio WIPHY ∷ []
fields_of commands.SetWiphyPower = fields.Name IFNAME ∷ fields.Power TX_POWER_SETTING TX_POWER_LEVEL ∷ []
fields_of commands.SetWiphyChannel = fields.Name IFNAME ∷ fields.Chan WIPHY_FREQ CHANNEL_WIDTH CENTER_FREQ1 ∷ []
fields_of commands.GetInterface = fields.Name IFNAME ∷ []
fields_of commands.SetInterface = fields.Name IFNAME ∷ fields.Kind IFTYPE ∷ []
fields_of commands.NewInterface = fields.Radio WIPHY ∷ fields.Name IFNAME ∷ fields.Kind IFTYPE ∷ []
fields_of commands.DelInterface = fields.Name IFNAME ∷ []
fields_of commands.StartAp = fields.Name IFNAME ∷ fields.Chan WIPHY_FREQ CHANNEL_WIDTH CENTER_FREQ1 ∷ []
fields_of commands.StopAp = fields.Name IFNAME ∷ []
fields_of commands.ReqSetReg = fields.Code REG_ALPHA2 ∷ []
fields_of commands.GetReg = []
fields_of commands.JoinIbss = fields.Name IFNAME ∷ fields.Chan WIPHY_FREQ CHANNEL_WIDTH CENTER_FREQ1 ∷ []
fields_of commands.LeaveIbss = fields.Name IFNAME ∷ []
fields_of commands.Connect = fields.Name IFNAME ∷ fields.PlainChan WIPHY_FREQ CHANNEL_WIDTH CENTER_FREQ1 ∷ []
fields_of commands.Disconnect = fields.Name IFNAME ∷ []
fields_of commands.JoinMesh = fields.Name IFNAME ∷ fields.Chan WIPHY_FREQ CHANNEL_WIDTH CENTER_FREQ1 ∷ []
fields_of commands.LeaveMesh = fields.Name IFNAME ∷ []
fields_of commands.RadarDetect = fields.Name IFNAME ∷ fields.Chan WIPHY_FREQ CHANNEL_WIDTH CENTER_FREQ1 ∷ []
fields_of commands.At = fields.Moment MOMENT ∷ []
fields_of commands.RadioAdd = fields.Radio RADIO ∷ fields.Profile ∷ []
fields_of commands.RadioDel = fields.Radio RADIO ∷ []
fields_of commands.RadioRules = fields.Radio RADIO ∷ fields.Rules RULES ∷ []
fields_of commands.Element = fields.Radio RADIO ∷ fields.Body BODY ∷ []
fields_of commands.DriverHint = fields.Radio RADIO ∷ fields.Code ALPHA2 ∷ []
fields_of commands.Radar = fields.Radio RADIO ∷ fields.Chan FREQ WIDTH CENTRE ∷ []
fields_of commands.Indoor = fields.Switch INDOOR ∷ []
fields_of commands.GetChannels = fields.Radio RADIO ∷ []

-- the family and the command of a message are those of the command
pub record IsOfCommand (command : Command) (family number : ℕ) : Type 0 where
  pub family_is : family_number (family_of command) ≡ family
  pub number_is : command_number command ≡ number

-- the same as a test
abbrev pub is_command : ℕ → ℕ → Command → Bool
is_command family number command = family_number (family_of command) == family && command_number command == number

-- the first command of that family with that number
abbrev pub numbered_command : ℕ → ℕ → Option Command
numbered_command family number = find (is_command family number) COMMANDS
