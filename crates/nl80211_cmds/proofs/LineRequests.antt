-- What a line can ask, part by part.
use Rattle.std.proofs.Common.{◌≡◌, ℕ, ◌*◌, ◌/◌, ◌^◌, ◌<◌, ◌≤◌, length, All, None, arith}
use Rattle.std.proofs.lemmas.List.Elements.{All-weaker}
use Rattle.freq_range.specs.Valid.{IsValidRule}
use Rattle.freq_range.specs.declared.rule.Rule.{Rule}
use Rattle.chan_def.specs.declared.definition.ChanDef.{ChanDef}
use Rattle.chan_def.specs.declared.kind.Kind.{Kind}
use Rattle.chan_def.specs.declared.kind.Kind.TheVariants.{Ap, Ibss, Mesh, Station, Monitor}
use Rattle.chan_def.specs.declared.width.Width.TheVariants.{Noht}
use Rattle.chan_flags.specs.Profiles.{IsProfile}
use Rattle.radio_drv.specs.Names.{IsName}
use Rattle.rule_tables.specs.Code.{IsCode}
use Rattle.reg_journal.specs.Forms.{IsLineChannel, IsLineRequest}
use Rattle.reg_journal.specs.Requests.{FitsPowerField, IsRadioNo, IsTyped}
use Rattle.reg_journal.specs.declared.request.Request.{Request}
use Rattle.reg_journal.specs.declared.request.Request.TheVariants.{At, RadioAdd, RadioDel, RadioRules, Element, DriverHint, UserHint, Radar, Indoor, IfaceAdd, IfaceDel, SetType, SetPower, Start, Stop, Check, GetReg, Channels, RadioInfo, IfaceInfo}

-- control and centre are whole MHz from 1 to 100,000, and the same for the width without a number
pub record IsWholeChan (c : ChanDef) : Type 0 where
  pub mhz : ℕ
  pub centre_mhz : ℕ
  pub control : c.control_khz ≡ 1000 * mhz
  pub middle : c.centre_khz ≡ 1000 * centre_mhz
  pub some : 1 ≤ mhz
  pub few : mhz ≤ 100000
  pub some_centre : 1 ≤ centre_mhz
  pub few_centre : centre_mhz ≤ 100000
  pub plain : c.width ≡ Noht → c.centre_khz ≡ c.control_khz

-- a station has no width of its own
abbrev pub FitsKind : Kind → ChanDef → Type 0
FitsKind Station c = c.width ≡ Noht
FitsKind kind c = Unit {0}

-- monitors aren't stopped
abbrev pub IsStopped : Kind → Type 0
IsStopped Monitor = ⊥
IsStopped kind = Unit {0}

-- a valid rule without check time and without WMM rule
pub record IsPlainRule (rule : Rule) : Type 0 where
  pub valid : IsValidRule rule
  pub no_check : rule.cac_s ≡ 0
  pub no_wmm : rule.wmm ≡ None

-- Some line of a script can ask this.
abbrev pub CanBeLine : Request → Type 0
CanBeLine (At moment) = moment < 2 ^ 64
CanBeLine (RadioAdd radio profile) = IsRadioNo radio × IsProfile profile
CanBeLine (RadioDel radio) = IsRadioNo radio
CanBeLine (RadioRules radio rules) = IsRadioNo radio × (1 ≤ length rules) × (length rules ≤ 32) × All IsPlainRule rules
CanBeLine (Element radio body) = IsRadioNo radio × (1 ≤ length body) × (length body ≤ 255)
CanBeLine (DriverHint radio code) = IsRadioNo radio × IsCode code
CanBeLine (UserHint code) = IsCode code
CanBeLine (Radar radio c) = IsRadioNo radio × IsWholeChan c
CanBeLine (Indoor on) = Unit {0}
CanBeLine (IfaceAdd radio name kind) = IsRadioNo radio × IsName name
CanBeLine (IfaceDel name) = IsName name
CanBeLine (SetType name kind) = IsName name
CanBeLine (SetPower name setting) = IsName name × FitsPowerField setting
CanBeLine (Start name kind c) = IsName name × IsWholeChan c × FitsKind kind c
CanBeLine (Stop name kind) = IsName name × IsStopped kind
CanBeLine (Check name c) = IsName name × IsWholeChan c
CanBeLine GetReg = Unit {0}
CanBeLine (Channels radio) = IsRadioNo radio
CanBeLine (RadioInfo radio) = IsRadioNo radio
CanBeLine (IfaceInfo name) = IsName name

whole : (c : ChanDef) → IsLineChannel c → IsWholeChan c
whole c is =
    let control = is.control in
    let centre = is.centre in
    record {
      mhz = c.control_khz / 1000;
      centre_mhz = c.centre_khz / 1000;
      control = omega (arith, control.whole);
      middle = omega (arith, centre.whole);
      some = omega (arith, control.least);
      few = omega (arith, control.most);
      some_centre = omega (arith, centre.least);
      few_centre = omega (arith, centre.most);
      plain = is.alone;
    }

pub can_be_line : (q : Request) → IsTyped q → IsLineRequest q → CanBeLine q
can_be_line (At moment) typed line = typed
can_be_line (RadioAdd radio profile) typed line = typed
can_be_line (RadioDel radio) typed line = typed
can_be_line (RadioRules radio rules) typed line =
    (typed.0, line.0, line.1, All-weaker (λ rule. IsValidRule rule × (rule.cac_s ≡ 0) × (rule.wmm ≡ None)) IsPlainRule (λ rule is. record { valid = is.0; no_check = is.1; no_wmm = is.2 }) rules line.2)
can_be_line (Element radio body) typed line = (typed.0, line.0, line.1)
can_be_line (DriverHint radio code) typed line = (typed.0, line)
can_be_line (UserHint code) typed line = line
can_be_line (Radar radio c) typed line = (typed.0, whole c line)
can_be_line (Indoor on) typed line = tt
can_be_line (IfaceAdd radio name kind) typed line = typed
can_be_line (IfaceDel name) typed line = typed
can_be_line (SetType name kind) typed line = typed
can_be_line (SetPower name setting) typed line = typed
can_be_line (Start name Ap c) typed line = (typed.0, whole c line, tt)
can_be_line (Start name Ibss c) typed line = (typed.0, whole c line, tt)
can_be_line (Start name Mesh c) typed line = (typed.0, whole c line, tt)
can_be_line (Start name Station c) typed line = (typed.0, whole c line.0, line.1)
can_be_line (Start name Monitor c) typed line = (typed.0, whole c line, tt)
can_be_line (Stop name Ap) typed line = (typed, tt)
can_be_line (Stop name Ibss) typed line = (typed, tt)
can_be_line (Stop name Mesh) typed line = (typed, tt)
can_be_line (Stop name Station) typed line = (typed, tt)
can_be_line (Stop name Monitor) typed line = absurd line
can_be_line (Check name c) typed line = (typed.0, whole c line)
can_be_line GetReg typed line = tt
can_be_line (Channels radio) typed line = typed
can_be_line (RadioInfo radio) typed line = typed
can_be_line (IfaceInfo name) typed line = typed
