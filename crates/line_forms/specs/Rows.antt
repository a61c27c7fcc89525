-- The table of forms: which slots stand in the lines of each.
use Rattle.std.specs.Prelude.{List}
use Rattle.line_forms.specs.declared.form.Extra.TheVariants.{Neither, OnlySelf, OnlyDeaf, Both}
use Rattle.line_forms.specs.declared.form.Freq.TheVariants.{Alone, ByWord, Twenty, Block}
use Rattle.line_forms.specs.declared.form.Form.{Form}
use Rattle.line_forms.specs.declared.form.Form.TheVariants.{At, RadioAdd, RadioDel, RadioRules, Element, DriverHint, Radar, IndoorOn, IndoorOff, GetReg, UserHint, RadioInfo, ChannelsOf, IfaceAdd, IfaceInfo, IfaceDel, SetType, SetFreq, SetChannel, PowerAuto, PowerLimit, PowerFixed, CheckFreq, CheckChannel, ApStart, ApStartHead, ApStop, IbssJoin, IbssLeave, MeshJoin, MeshLeave, Connect, Disconnect}
use Rattle.line_forms.specs.declared.rows_radio.TheConstants.{AT, RADIO_ADD_NEITHER, RADIO_ADD_ONLY_SELF, RADIO_ADD_ONLY_DEAF, RADIO_ADD_BOTH, RADIO_DEL, RADIO_RULES, ELEMENT, DRIVER_HINT, RADAR_ALONE, RADAR_BY_WORD, RADAR_TWENTY, RADAR_BLOCK, INDOOR_ON, INDOOR_OFF}
use Rattle.line_forms.specs.declared.rows_iw.TheConstants.{GET_REG, USER_HINT, RADIO_INFO, CHANNELS_OF, IFACE_ADD, IFACE_INFO, IFACE_DEL, SET_TYPE, SET_FREQ_ALONE, SET_FREQ_BY_WORD, SET_FREQ_TWENTY, SET_FREQ_BLOCK, SET_CHANNEL_ALONE, SET_CHANNEL_BY_WORD, SET_CHANNEL_TWENTY, SET_CHANNEL_BLOCK, POWER_AUTO, POWER_LIMIT, POWER_FIXED}
use Rattle.line_forms.specs.declared.rows_operating.TheConstants.{CHECK_FREQ_ALONE, CHECK_FREQ_BY_WORD, CHECK_FREQ_TWENTY, CHECK_FREQ_BLOCK, CHECK_CHANNEL_ALONE, CHECK_CHANNEL_BY_WORD, CHECK_CHANNEL_TWENTY, CHECK_CHANNEL_BLOCK, AP_START_ALONE, AP_START_BY_WORD, AP_START_TWENTY, AP_START_BLOCK, AP_START_HEAD_ALONE, AP_START_HEAD_BY_WORD, AP_START_HEAD_TWENTY, AP_START_HEAD_BLOCK, AP_STOP, IBSS_JOIN_ALONE, IBSS_JOIN_BY_WORD, IBSS_JOIN_TWENTY, IBSS_JOIN_BLOCK, IBSS_LEAVE, MESH_JOIN_ALONE, MESH_JOIN_BY_WORD, MESH_JOIN_TWENTY, MESH_JOIN_BLOCK, MESH_LEAVE, CONNECT, DISCONNECT}
use Rattle.line_forms.specs.declared.slot.Slot.{Slot}

-- the slots of a form, in the order of the words
abbrev pub slots : Form → List Slot
slots At = AT
slots (RadioAdd Neither) = RADIO_ADD_NEITHER
slots (RadioAdd OnlySelf) = RADIO_ADD_ONLY_SELF
slots (RadioAdd OnlyDeaf) = RADIO_ADD_ONLY_DEAF
slots (RadioAdd Both) = RADIO_ADD_BOTH
slots RadioDel = RADIO_DEL
slots RadioRules = RADIO_RULES
slots Element = ELEMENT
slots DriverHint = DRIVER_HINT
slots (Radar Alone) = RADAR_ALONE
slots (Radar ByWord) = RADAR_BY_WORD
slots (Radar Twenty) = RADAR_TWENTY
slots (Radar Block) = RADAR_BLOCK
slots IndoorOn = INDOOR_ON
slots IndoorOff = INDOOR_OFF
slots GetReg = GET_REG
slots UserHint = USER_HINT
slots RadioInfo = RADIO_INFO
slots ChannelsOf = CHANNELS_OF
slots IfaceAdd = IFACE_ADD
slots IfaceInfo = IFACE_INFO
slots IfaceDel = IFACE_DEL
slots SetType = SET_TYPE
slots (SetFreq Alone) = SET_FREQ_ALONE
slots (SetFreq ByWord) = SET_FREQ_BY_WORD
slots (SetFreq Twenty) = SET_FREQ_TWENTY
slots (SetFreq Block) = SET_FREQ_BLOCK
slots (SetChannel Alone) = SET_CHANNEL_ALONE
slots (SetChannel ByWord) = SET_CHANNEL_BY_WORD
slots (SetChannel Twenty) = SET_CHANNEL_TWENTY
slots (SetChannel Block) = SET_CHANNEL_BLOCK
slots PowerAuto = POWER_AUTO
slots PowerLimit = POWER_LIMIT
slots PowerFixed = POWER_FIXED
slots (CheckFreq Alone) = CHECK_FREQ_ALONE
slots (CheckFreq ByWord) = CHECK_FREQ_BY_WORD
slots (CheckFreq Twenty) = CHECK_FREQ_TWENTY
slots (CheckFreq Block) = CHECK_FREQ_BLOCK
slots (CheckChannel Alone) = CHECK_CHANNEL_ALONE
slots (CheckChannel ByWord) = CHECK_CHANNEL_BY_WORD
slots (CheckChannel Twenty) = CHECK_CHANNEL_TWENTY
slots (CheckChannel Block) = CHECK_CHANNEL_BLOCK
slots (ApStart Alone) = AP_START_ALONE
slots (ApStart ByWord) = AP_START_BY_WORD
slots (ApStart Twenty) = AP_START_TWENTY
slots (ApStart Block) = AP_START_BLOCK
slots (ApStartHead Alone) = AP_START_HEAD_ALONE
slots (ApStartHead ByWord) = AP_START_HEAD_BY_WORD
slots (ApStartHead Twenty) = AP_START_HEAD_TWENTY
slots (ApStartHead Block) = AP_START_HEAD_BLOCK
slots ApStop = AP_STOP
slots (IbssJoin Alone) = IBSS_JOIN_ALONE
slots (IbssJoin ByWord) = IBSS_JOIN_BY_WORD
slots (IbssJoin Twenty) = IBSS_JOIN_TWENTY
slots (IbssJoin Block) = IBSS_JOIN_BLOCK
slots IbssLeave = IBSS_LEAVE
slots (MeshJoin Alone) = MESH_JOIN_ALONE
slots (MeshJoin ByWord) = MESH_JOIN_BY_WORD
slots (MeshJoin Twenty) = MESH_JOIN_TWENTY
slots (MeshJoin Block) = MESH_JOIN_BLOCK
slots MeshLeave = MESH_LEAVE
slots Connect = CONNECT
slots Disconnect = DISCONNECT
