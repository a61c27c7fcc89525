-- The message of a request asks it.
use Rattle.std.proofs.Common.{◌≡◌, ℕ, ◌/◌, ◌%◌, ◌≤◌, Bool, true, false, cond, List, [], ◌∷◌, ◌++◌, Option, Some, refl, ap, ◌∙◌, inl, inr, arith}
use Rattle.std.specs.Prelude.{◌≢◌, ◌==◌, ◌||◌, IsTrue}
use Rattle.std.proofs.lemmas.Bool.Decides.{nat_tests}
use Rattle.std.proofs.lemmas.List.Elements.{All-cons, All-nil}
use Rattle.rule_tables.specs.Code.{IsCode}
use Rattle.rule_tables.specs.declared.code.Alpha2.{Alpha2}
use Rattle.chan_def.specs.Covered.{width_number}
use Rattle.chan_def.specs.declared.definition.ChanDef.{ChanDef}
use Rattle.chan_def.specs.declared.kind.Kind.{Kind}
use Rattle.chan_def.specs.declared.kind.Kind.TheVariants.{Ap, Ibss, Mesh, Station, Monitor}
use Rattle.chan_def.specs.declared.width.Width.{Width}
use Rattle.chan_def.specs.declared.width.Width.TheVariants.{Noht, W20, W40, W80, W160, W320}
use Rattle.chan_flags.specs.Profiles.{Abilities, IsProfile, is_width}
use Rattle.chan_flags.specs.declared.profile.Bands.{Bands}
use Rattle.chan_flags.specs.declared.verdict.PowerSetting.{PowerSetting}
use Rattle.chan_flags.specs.declared.verdict.PowerSetting.TheVariants.{Auto, Limit, Fixed}
use Rattle.radio_drv.specs.Names.{IsName}
use Rattle.nl_attrs.specs.Endian.{le32}
use Rattle.nl_attrs.specs.Payloads.{IsZeroFree}
use Rattle.nl_attrs.specs.declared.attr.Attr.{Attr}
use Rattle.reg_journal.specs.Forms.{IsLineRequest}
use Rattle.reg_journal.specs.Requests.{IsTyped}
use Rattle.reg_journal.specs.declared.request.Request.{Request}
use Rattle.reg_journal.specs.declared.request.Request.TheVariants.{At, RadioAdd, RadioDel, RadioRules, Element, DriverHint, UserHint, Radar, Indoor, IfaceAdd, IfaceDel, SetType, SetPower, Start, Stop, Check, GetReg, Channels, RadioInfo, IfaceInfo}
use Rattle.nl80211_cmds.specs.Commands.{fields_of, is_dump}
use Rattle.nl80211_cmds.specs.Drafts.{asked_request, nothing_told, told_by}
use Rattle.nl80211_cmds.specs.Fields.{FieldTells, FieldsTell, fields_attrs}
use Rattle.nl80211_cmds.specs.Requests.{IsMeant, IsSupportedHint, MsgAsks, message_by, message_of}
use Rattle.nl80211_cmds.specs.Values.{band_bits, iftype_number, payload_of, profile_bits, TellsCentre, TellsChan, TellsPower, TellsProfile, TellsWidth}
use Rattle.nl80211_cmds.specs.declared.attribute.TheConstants.{ALPHA2, BANDS, CENTER_FREQ1, CENTRE, CHANNEL_WIDTH, CONTEXTS, FREQ, IFNAME, IFTYPE, POWER, PROFILE_FLAGS, RADAR_MHZ, RADIO, REG_ALPHA2, RULES, TX_POWER_LEVEL, TX_POWER_SETTING, WIDTH, WIDTH_MHZ, WIPHY, WIPHY_FREQ}
use Rattle.nl80211_cmds.specs.declared.command.Command.{Command}
use Rattle.nl80211_cmds.specs.declared.command.Command.TheVariants as commands
use Rattle.nl80211_cmds.specs.declared.draft.Draft.{Draft}
use Rattle.nl80211_cmds.specs.declared.field.Field.TheVariants as fields
use Rattle.nl80211_cmds.proofs.LineRequests.{CanBeLine, IsWholeChan, can_be_line}
use Rattle.nl80211_cmds.proofs.OneValue.{bit-le}
use Rattle.nl80211_cmds.proofs.RuleBytes.{rules_told, tells_number}

-- ---- fields that are written are told

zero_free : (name : List ℕ) → IsName name → IsZeroFree name
zero_free name is = λ k d lt. λ e. let visible = is.visible k d lt in omega (arith, visible.0, e)

radio_tells : (kind : ℕ) (attrs : List Attr) (d : Draft) (radio : ℕ) → payload_of kind attrs ≡ Some (le32 radio) → radio ≤ 7 → FieldTells (fields.Radio kind) attrs d (record d { radio = radio })
radio_tells kind attrs d radio e fits = (radio, tells_number (payload_of kind attrs) 7 radio e fits, refl)

name_tells : (kind : ℕ) (attrs : List Attr) (d : Draft) (name : List ℕ) → payload_of kind attrs ≡ Some (name ++ 0 ∷ []) → IsName name → FieldTells (fields.Name kind) attrs d (record d { name = name })
name_tells kind attrs d name e is = (name, record { told = rw e (zero_free name is, inl refl); is = is }, refl)

iftype-le : (kind : Kind) → iftype_number kind ≤ 7
iftype-le Ap = omega arith
iftype-le Ibss = omega arith
iftype-le Mesh = omega arith
iftype-le Station = omega arith
iftype-le Monitor = omega arith

kind_tells : (kind : ℕ) (attrs : List Attr) (d : Draft) (iftype : Kind) → payload_of kind attrs ≡ Some (le32 (iftype_number iftype)) → FieldTells (fields.Kind kind) attrs d (record d { kind = iftype })
kind_tells kind attrs d iftype e = (iftype, tells_number (payload_of kind attrs) 7 (iftype_number iftype) e (iftype-le iftype), refl)

two_free : (a b : ℕ) → a ≢ 0 → b ≢ 0 → IsZeroFree (a ∷ b ∷ [])
two_free a b first second = All-cons (λ x. x ≢ 0) a (b ∷ []) first (All-cons (λ x. x ≢ 0) b [] second (All-nil (λ x. x ≢ 0)))

code_free : (code : Alpha2) → IsCode code → IsZeroFree (code.a ∷ code.b ∷ [])
code_free code (inl capitals) = two_free code.a code.b (λ e. omega (arith, capitals.0.0, e)) (λ e. omega (arith, capitals.1.0, e))
code_free code (inr zeros) = two_free code.a code.b (λ e. omega (arith, zeros.0, e)) (λ e. omega (arith, zeros.1, e))

code_tells : (kind : ℕ) (attrs : List Attr) (d : Draft) (code : Alpha2) → payload_of kind attrs ≡ Some ((code.a ∷ code.b ∷ []) ++ 0 ∷ []) → IsCode code → FieldTells (fields.Code kind) attrs d (record d { alpha2 = code })
code_tells kind attrs d code e is = (code, record { told = rw e (code_free code is, inl refl); is = is }, refl)

-- ---- channels

width-le : (width : Width) → width_number width ≤ 13
width-le Noht = omega arith
width-le W20 = omega arith
width-le W40 = omega arith
width-le W80 = omega arith
width-le W160 = omega arith
width-le W320 = omega arith

width_tells : (payload : Option (List ℕ)) (width : Width) → payload ≡ Some (le32 (width_number width)) → TellsWidth payload width
width_tells payload width e = rw e (record { told = refl; least_is = omega arith; most_is = width-le width })

centre_tells : (payload : Option (List ℕ)) (width : Width) (mhz centre : ℕ) → payload ≡ Some (le32 centre) → 1 ≤ centre → centre ≤ 100000 → (width ≡ Noht → centre ≡ mhz) → TellsCentre payload width mhz centre
centre_tells payload width mhz centre e some few plain = rw e (record { told = refl; least_is = some; most_is = few }, plain)

chan_tells : (frequency width centre : Option (List ℕ)) (c : ChanDef) → IsWholeChan c → frequency ≡ Some (le32 (c.control_khz / 1000)) → width ≡ Some (le32 (width_number c.width)) → centre ≡ Some (le32 (c.centre_khz / 1000)) → TellsChan frequency width centre c
chan_tells frequency width centre c whole f w m =
    let control : c.control_khz / 1000 ≡ whole.mhz = omega (arith, whole.control) in
    let middle : c.centre_khz / 1000 ≡ whole.centre_mhz = omega (arith, whole.middle) in
    record {
      mhz = whole.mhz;
      centre_mhz = whole.centre_mhz;
      frequency_is = record { told = f ∙ ap (λ (n : ℕ). Some (le32 n)) control; least_is = whole.some; most_is = whole.few };
      width_is = width_tells width c.width w;
      centre_is = centre_tells centre c.width whole.mhz whole.centre_mhz (m ∙ ap (λ (n : ℕ). Some (le32 n)) middle) whole.some_centre whole.few_centre (λ noht. let same = whole.plain noht in omega (arith, same, whole.control, whole.middle));
      control = whole.control;
      middle = whole.middle;
    }

chan_field : (frequency width centre : ℕ) (attrs : List Attr) (d : Draft) (c : ChanDef) → IsWholeChan c → payload_of frequency attrs ≡ Some (le32 (c.control_khz / 1000)) → payload_of width attrs ≡ Some (le32 (width_number c.width)) → payload_of centre attrs ≡ Some (le32 (c.centre_khz / 1000))
    → FieldTells (fields.Chan frequency width centre) attrs d (record d { chan = c })
chan_field frequency width centre attrs d c whole f w m = (c, chan_tells (payload_of frequency attrs) (payload_of width attrs) (payload_of centre attrs) c whole f w m, refl)

-- ---- profiles

width_fits : (mhz : ℕ) → IsTrue (is_width mhz) → mhz ≤ 65535
width_fits mhz is = grind (arith, nat_tests)

radar_fits : (mhz : ℕ) → IsTrue (mhz == 0 || is_width mhz) → mhz ≤ 65535
radar_fits mhz is = grind (arith, nat_tests)

bands_fit : (b : Bands) → band_bits b ≤ 7
bands_fit b = omega (arith, bit-le b.ghz2, bit-le b.ghz5, bit-le b.ghz6)

flags_fit : (p : Abilities) → profile_bits p ≤ 3
flags_fit p = omega (arith, bit-le p.self_managed, bit-le p.deaf)

profile_tells : (attrs : List Attr) (p : Abilities) → IsProfile p → payload_of BANDS attrs ≡ Some (le32 (band_bits p.bands)) → payload_of WIDTH_MHZ attrs ≡ Some (le32 p.width_mhz) → payload_of RADAR_MHZ attrs ≡ Some (le32 p.radar_mhz)
    → payload_of POWER attrs ≡ Some (le32 p.power_mbm) → payload_of CONTEXTS attrs ≡ Some (le32 p.contexts) → payload_of PROFILE_FLAGS attrs ≡ Some (le32 (profile_bits p)) → TellsProfile attrs p
profile_tells attrs p is a b c d e f =
    record {
      numbers = record {
        bands = tells_number (payload_of BANDS attrs) 7 (band_bits p.bands) a (bands_fit p.bands);
        width = tells_number (payload_of WIDTH_MHZ attrs) 65535 p.width_mhz b (width_fits p.width_mhz is.width);
        radar = tells_number (payload_of RADAR_MHZ attrs) 65535 p.radar_mhz c (radar_fits p.radar_mhz is.radar);
        power = tells_number (payload_of POWER attrs) 65535 p.power_mbm d (omega (arith, is.power_fits));
        contexts = tells_number (payload_of CONTEXTS attrs) 255 p.contexts e (omega (arith, is.few_contexts));
        flags = tells_number (payload_of PROFILE_FLAGS attrs) 3 (profile_bits p) f (flags_fit p);
      };
      allowed = is;
    }

power_tells : (setting level : ℕ) (attrs : List Attr) (d : Draft) (s : PowerSetting) → TellsPower (payload_of setting attrs) (payload_of level attrs) s → FieldTells (fields.Power setting level) attrs d (record d { setting = s })
power_tells setting level attrs d s tells = (s, tells, refl)

-- ---- requests

odd_flags : (dump : Bool) → cond dump 773 5 % 2 ≡ 1
odd_flags true = refl
odd_flags false = refl

asks_back : (command : Command) (told : Draft) (seq : ℕ) (q : Request) → IsSupportedHint command (fields_attrs (fields_of command) told) → IsMeant command (fields_attrs (fields_of command) told)
    → FieldsTell (fields_of command) (fields_attrs (fields_of command) told) nothing_told told → q ≡ asked_request command told → MsgAsks (message_by command told seq) q
asks_back command told seq q supported meant tells is = (
  command,
  record {
    command_is = record { family_is = refl; number_is = refl };
    supported = supported;
    asks = record { flagged = odd_flags (is_dump command); meant = meant; told = told; tells = tells; is = is };
  },
)

again : (q : Request) (seq : ℕ) → CanBeLine q → MsgAsks (message_of q seq) q
again (At moment) seq is =
    asks_back commands.At (told_by (At moment)) seq (At moment) tt tt
    ((record nothing_told { moment = moment }), (moment, record { told = refl; fits = is }, refl), refl) refl
again (RadioAdd radio profile) seq is =
    asks_back commands.RadioAdd (told_by (RadioAdd radio profile)) seq (RadioAdd radio profile) tt tt
    ((record nothing_told { radio = radio }), radio_tells RADIO (fields_attrs (fields_of commands.RadioAdd) (told_by (RadioAdd radio profile))) nothing_told radio refl is.0, ((record nothing_told { radio = radio; profile = profile }), (profile, profile_tells (fields_attrs (fields_of commands.RadioAdd) (told_by (RadioAdd radio profile))) profile is.1 refl refl refl refl refl refl, refl), refl)) refl
again (RadioDel radio) seq is =
    asks_back commands.RadioDel (told_by (RadioDel radio)) seq (RadioDel radio) tt tt
    ((record nothing_told { radio = radio }), radio_tells RADIO (fields_attrs (fields_of commands.RadioDel) (told_by (RadioDel radio))) nothing_told radio refl is, refl) refl
again (RadioRules radio rules) seq is =
    asks_back commands.RadioRules (told_by (RadioRules radio rules)) seq (RadioRules radio rules) tt tt
    ((record nothing_told { radio = radio }), radio_tells RADIO (fields_attrs (fields_of commands.RadioRules) (told_by (RadioRules radio rules))) nothing_told radio refl is.0, (told_by (RadioRules radio rules), (rules, rules_told (payload_of RULES (fields_attrs (fields_of commands.RadioRules) (told_by (RadioRules radio rules)))) rules refl is.1 is.2 is.3, refl), refl)) refl
again (Element radio body) seq is =
    asks_back commands.Element (told_by (Element radio body)) seq (Element radio body) tt tt
    ((record nothing_told { radio = radio }), radio_tells RADIO (fields_attrs (fields_of commands.Element) (told_by (Element radio body))) nothing_told radio refl is.0, ((record nothing_told { radio = radio; body = body }), (body, record { told = refl; some = is.1; few = is.2 }, refl), refl)) refl
again (DriverHint radio code) seq is =
    asks_back commands.DriverHint (told_by (DriverHint radio code)) seq (DriverHint radio code) tt tt
    ((record nothing_told { radio = radio }), radio_tells RADIO (fields_attrs (fields_of commands.DriverHint) (told_by (DriverHint radio code))) nothing_told radio refl is.0, ((record nothing_told { radio = radio; alpha2 = code }), code_tells ALPHA2 (fields_attrs (fields_of commands.DriverHint) (told_by (DriverHint radio code))) (record nothing_told { radio = radio }) code refl is.1, refl)) refl
again (UserHint code) seq is =
    asks_back commands.ReqSetReg (told_by (UserHint code)) seq (UserHint code) tt tt
    ((record nothing_told { alpha2 = code }), code_tells REG_ALPHA2 (fields_attrs (fields_of commands.ReqSetReg) (told_by (UserHint code))) nothing_told code refl is, refl) refl
again (Radar radio c) seq is =
    asks_back commands.Radar (told_by (Radar radio c)) seq (Radar radio c) tt tt
    ((record nothing_told { radio = radio }), radio_tells RADIO (fields_attrs (fields_of commands.Radar) (told_by (Radar radio c))) nothing_told radio refl is.0, ((record nothing_told { radio = radio; chan = c }), chan_field FREQ WIDTH CENTRE (fields_attrs (fields_of commands.Radar) (told_by (Radar radio c))) (record nothing_told { radio = radio }) c is.1 refl refl refl, refl)) refl
again (Indoor on) seq is =
    asks_back commands.Indoor (told_by (Indoor on)) seq (Indoor on) tt tt
    ((record nothing_told { on = on }), (on, refl, refl), refl) refl
again (IfaceAdd radio name kind) seq is =
    asks_back commands.NewInterface (told_by (IfaceAdd radio name kind)) seq (IfaceAdd radio name kind) tt tt
    ((record nothing_told { radio = radio }), radio_tells WIPHY (fields_attrs (fields_of commands.NewInterface) (told_by (IfaceAdd radio name kind))) nothing_told radio refl is.0, ((record nothing_told { radio = radio; name = name }), name_tells IFNAME (fields_attrs (fields_of commands.NewInterface) (told_by (IfaceAdd radio name kind))) (record nothing_told { radio = radio }) name refl is.1, ((record nothing_told { radio = radio; name = name; kind = kind }), kind_tells IFTYPE (fields_attrs (fields_of commands.NewInterface) (told_by (IfaceAdd radio name kind))) (record nothing_told { radio = radio; name = name }) kind refl, refl))) refl
again (IfaceDel name) seq is =
    asks_back commands.DelInterface (told_by (IfaceDel name)) seq (IfaceDel name) tt tt
    ((record nothing_told { name = name }), name_tells IFNAME (fields_attrs (fields_of commands.DelInterface) (told_by (IfaceDel name))) nothing_told name refl is, refl) refl
again (SetType name kind) seq is =
    asks_back commands.SetInterface (told_by (SetType name kind)) seq (SetType name kind) tt tt
    ((record nothing_told { name = name }), name_tells IFNAME (fields_attrs (fields_of commands.SetInterface) (told_by (SetType name kind))) nothing_told name refl is, ((record nothing_told { name = name; kind = kind }), kind_tells IFTYPE (fields_attrs (fields_of commands.SetInterface) (told_by (SetType name kind))) (record nothing_told { name = name }) kind refl, refl)) refl
again (SetPower name Auto) seq is =
    asks_back commands.SetWiphyPower (told_by (SetPower name Auto)) seq (SetPower name Auto) tt (refl, refl)
    ((record nothing_told { name = name }), name_tells IFNAME (fields_attrs (fields_of commands.SetWiphyPower) (told_by (SetPower name Auto))) nothing_told name refl is.0, ((record nothing_told { name = name; setting = Auto }), power_tells TX_POWER_SETTING TX_POWER_LEVEL (fields_attrs (fields_of commands.SetWiphyPower) (told_by (SetPower name Auto))) (record nothing_told { name = name }) Auto (tells_number (payload_of TX_POWER_SETTING (fields_attrs (fields_of commands.SetWiphyPower) (told_by (SetPower name Auto)))) 2 0 refl (omega arith)), refl)) refl
again (SetPower name (Limit power)) seq is =
    asks_back commands.SetWiphyPower (told_by (SetPower name (Limit power))) seq (SetPower name (Limit power)) tt (refl, refl)
    ((record nothing_told { name = name }), name_tells IFNAME (fields_attrs (fields_of commands.SetWiphyPower) (told_by (SetPower name (Limit power)))) nothing_told name refl is.0, ((record nothing_told { name = name; setting = (Limit power) }), power_tells TX_POWER_SETTING TX_POWER_LEVEL (fields_attrs (fields_of commands.SetWiphyPower) (told_by (SetPower name (Limit power)))) (record nothing_told { name = name }) (Limit power) ((tells_number (payload_of TX_POWER_SETTING (fields_attrs (fields_of commands.SetWiphyPower) (told_by (SetPower name (Limit power))))) 2 1 refl (omega arith), tells_number (payload_of TX_POWER_LEVEL (fields_attrs (fields_of commands.SetWiphyPower) (told_by (SetPower name (Limit power))))) 65535 power refl (omega (arith, is.1)))), refl)) refl
again (SetPower name (Fixed power)) seq is =
    asks_back commands.SetWiphyPower (told_by (SetPower name (Fixed power))) seq (SetPower name (Fixed power)) tt (refl, refl)
    ((record nothing_told { name = name }), name_tells IFNAME (fields_attrs (fields_of commands.SetWiphyPower) (told_by (SetPower name (Fixed power)))) nothing_told name refl is.0, ((record nothing_told { name = name; setting = (Fixed power) }), power_tells TX_POWER_SETTING TX_POWER_LEVEL (fields_attrs (fields_of commands.SetWiphyPower) (told_by (SetPower name (Fixed power)))) (record nothing_told { name = name }) (Fixed power) ((tells_number (payload_of TX_POWER_SETTING (fields_attrs (fields_of commands.SetWiphyPower) (told_by (SetPower name (Fixed power))))) 2 2 refl (omega arith), tells_number (payload_of TX_POWER_LEVEL (fields_attrs (fields_of commands.SetWiphyPower) (told_by (SetPower name (Fixed power))))) 65535 power refl (omega (arith, is.1)))), refl)) refl
again (Start name Ap c) seq is =
    asks_back commands.StartAp (told_by (Start name Ap c)) seq (Start name Ap c) tt tt
    ((record nothing_told { name = name }), name_tells IFNAME (fields_attrs (fields_of commands.StartAp) (told_by (Start name Ap c))) nothing_told name refl is.0, ((record nothing_told { name = name; chan = c }), chan_field WIPHY_FREQ CHANNEL_WIDTH CENTER_FREQ1 (fields_attrs (fields_of commands.StartAp) (told_by (Start name Ap c))) (record nothing_told { name = name }) c is.1 refl refl refl, refl)) refl
again (Start name Ibss c) seq is =
    asks_back commands.JoinIbss (told_by (Start name Ibss c)) seq (Start name Ibss c) tt tt
    ((record nothing_told { name = name }), name_tells IFNAME (fields_attrs (fields_of commands.JoinIbss) (told_by (Start name Ibss c))) nothing_told name refl is.0, ((record nothing_told { name = name; chan = c }), chan_field WIPHY_FREQ CHANNEL_WIDTH CENTER_FREQ1 (fields_attrs (fields_of commands.JoinIbss) (told_by (Start name Ibss c))) (record nothing_told { name = name }) c is.1 refl refl refl, refl)) refl
again (Start name Mesh c) seq is =
    asks_back commands.JoinMesh (told_by (Start name Mesh c)) seq (Start name Mesh c) tt tt
    ((record nothing_told { name = name }), name_tells IFNAME (fields_attrs (fields_of commands.JoinMesh) (told_by (Start name Mesh c))) nothing_told name refl is.0, ((record nothing_told { name = name; chan = c }), chan_field WIPHY_FREQ CHANNEL_WIDTH CENTER_FREQ1 (fields_attrs (fields_of commands.JoinMesh) (told_by (Start name Mesh c))) (record nothing_told { name = name }) c is.1 refl refl refl, refl)) refl
again (Start name Station c) seq is =
    asks_back commands.Connect (told_by (Start name Station c)) seq (Start name Station c) tt tt
    ((record nothing_told { name = name }), name_tells IFNAME (fields_attrs (fields_of commands.Connect) (told_by (Start name Station c))) nothing_told name refl is.0, ((record nothing_told { name = name; chan = c }), (c, chan_tells (payload_of WIPHY_FREQ (fields_attrs (fields_of commands.Connect) (told_by (Start name Station c)))) (payload_of CHANNEL_WIDTH (fields_attrs (fields_of commands.Connect) (told_by (Start name Station c)))) (payload_of CENTER_FREQ1 (fields_attrs (fields_of commands.Connect) (told_by (Start name Station c)))) c is.1 refl refl refl, is.2, refl), refl)) refl
again (Start name Monitor c) seq is =
    asks_back commands.SetWiphyChannel (told_by (Start name Monitor c)) seq (Start name Monitor c) tt (refl, refl)
    ((record nothing_told { name = name }), name_tells IFNAME (fields_attrs (fields_of commands.SetWiphyChannel) (told_by (Start name Monitor c))) nothing_told name refl is.0, ((record nothing_told { name = name; chan = c }), chan_field WIPHY_FREQ CHANNEL_WIDTH CENTER_FREQ1 (fields_attrs (fields_of commands.SetWiphyChannel) (told_by (Start name Monitor c))) (record nothing_told { name = name }) c is.1 refl refl refl, refl)) refl
again (Stop name Ap) seq is =
    asks_back commands.StopAp (told_by (Stop name Ap)) seq (Stop name Ap) tt tt
    ((record nothing_told { name = name }), name_tells IFNAME (fields_attrs (fields_of commands.StopAp) (told_by (Stop name Ap))) nothing_told name refl is.0, refl) refl
again (Stop name Ibss) seq is =
    asks_back commands.LeaveIbss (told_by (Stop name Ibss)) seq (Stop name Ibss) tt tt
    ((record nothing_told { name = name }), name_tells IFNAME (fields_attrs (fields_of commands.LeaveIbss) (told_by (Stop name Ibss))) nothing_told name refl is.0, refl) refl
again (Stop name Mesh) seq is =
    asks_back commands.LeaveMesh (told_by (Stop name Mesh)) seq (Stop name Mesh) tt tt
    ((record nothing_told { name = name }), name_tells IFNAME (fields_attrs (fields_of commands.LeaveMesh) (told_by (Stop name Mesh))) nothing_told name refl is.0, refl) refl
again (Stop name Station) seq is =
    asks_back commands.Disconnect (told_by (Stop name Station)) seq (Stop name Station) tt tt
    ((record nothing_told { name = name }), name_tells IFNAME (fields_attrs (fields_of commands.Disconnect) (told_by (Stop name Station))) nothing_told name refl is.0, refl) refl
again (Stop name Monitor) seq is = absurd is.1
again (Check name c) seq is =
    asks_back commands.RadarDetect (told_by (Check name c)) seq (Check name c) tt tt
    ((record nothing_told { name = name }), name_tells IFNAME (fields_attrs (fields_of commands.RadarDetect) (told_by (Check name c))) nothing_told name refl is.0, ((record nothing_told { name = name; chan = c }), chan_field WIPHY_FREQ CHANNEL_WIDTH CENTER_FREQ1 (fields_attrs (fields_of commands.RadarDetect) (told_by (Check name c))) (record nothing_told { name = name }) c is.1 refl refl refl, refl)) refl
again GetReg seq is =
    asks_back commands.GetReg (told_by GetReg) seq GetReg tt tt
    refl refl
again (Channels radio) seq is =
    asks_back commands.GetChannels (told_by (Channels radio)) seq (Channels radio) tt tt
    ((record nothing_told { radio = radio }), radio_tells RADIO (fields_attrs (fields_of commands.GetChannels) (told_by (Channels radio))) nothing_told radio refl is, refl) refl
again (RadioInfo radio) seq is =
    asks_back commands.GetWiphy (told_by (RadioInfo radio)) seq (RadioInfo radio) tt tt
    ((record nothing_told { radio = radio }), radio_tells WIPHY (fields_attrs (fields_of commands.GetWiphy) (told_by (RadioInfo radio))) nothing_told radio refl is, refl) refl
again (IfaceInfo name) seq is =
    asks_back commands.GetInterface (told_by (IfaceInfo name)) seq (IfaceInfo name) tt tt
    ((record nothing_told { name = name }), name_tells IFNAME (fields_attrs (fields_of commands.GetInterface) (told_by (IfaceInfo name))) nothing_told name refl is, refl) refl

pub asked_again : (q : Request) (seq : ℕ) → IsTyped q → IsLineRequest q → MsgAsks (message_of q seq) q
asked_again q seq typed line = again q seq (can_be_line q typed line)
