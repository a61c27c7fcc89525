-- What the attributes of a command tell, and the attributes that tell it.
use Rattle.std.specs.Prelude.{◌≡◌, ℕ, ◌/◌, Bool, List, [], ◌∷◌, ◌++◌}
use Rattle.std.specs.List.{flat_map}
use Rattle.freq_range.specs.declared.rule.Rule.{Rule}
use Rattle.nl_attrs.specs.Attributes.{attrs_bytes}
use Rattle.nl_attrs.specs.Nesting.{nested_with}
use Rattle.nl80211_cmds.specs.Rules.{nested_rules, TellsRules}
use Rattle.rule_tables.specs.declared.code.Alpha2.{Alpha2}
use Rattle.chan_def.specs.Covered.{width_number}
use Rattle.chan_def.specs.declared.definition.ChanDef.{ChanDef}
use Rattle.chan_def.specs.declared.kind.Kind.{Kind}
use Rattle.chan_def.specs.declared.width.Width.TheVariants.{Noht}
use Rattle.chan_flags.specs.Profiles.{Abilities}
use Rattle.chan_flags.specs.declared.verdict.PowerSetting.{PowerSetting}
use Rattle.chan_flags.specs.declared.verdict.PowerSetting.TheVariants.{Auto, Limit, Fixed}
use Rattle.nl_attrs.specs.Endian.{le64}
use Rattle.nl_attrs.specs.declared.attr.Attr.{Attr}
use Rattle.nl80211_cmds.specs.Values.{payload_of, plain_attr, number_attr, bit_of, iftype_number, band_bits, profile_bits, TellsNumber, TellsName, TellsCode, TellsKind, TellsMoment, TellsSwitch, TellsChan, TellsPower, TellsProfile, TellsBody}
use Rattle.nl80211_cmds.specs.declared.attribute.TheConstants.{BANDS, WIDTH_MHZ, RADAR_MHZ, POWER, CONTEXTS, PROFILE_FLAGS}
use Rattle.nl80211_cmds.specs.declared.draft.Draft.{Draft}
use Rattle.nl80211_cmds.specs.declared.field.Field.{Field}
use Rattle.nl80211_cmds.specs.declared.field.Field.TheVariants as fields

-- The attributes tell the field. It takes what was told from d to e.
abbrev pub FieldTells : Field → List Attr → Draft → Draft → Type 0
FieldTells (fields.Radio kind) attrs d e = (radio : ℕ) × TellsNumber (payload_of kind attrs) 0 7 radio × (e ≡ record d { radio = radio })
FieldTells (fields.Name kind) attrs d e = (name : List ℕ) × TellsName (payload_of kind attrs) name × (e ≡ record d { name = name })
FieldTells (fields.Kind kind) attrs d e = (iftype : Kind) × TellsKind (payload_of kind attrs) iftype × (e ≡ record d { kind = iftype })
FieldTells (fields.Code kind) attrs d e = (code : Alpha2) × TellsCode (payload_of kind attrs) code × (e ≡ record d { alpha2 = code })
FieldTells (fields.Chan frequency width centre) attrs d e =
    (c : ChanDef) × TellsChan (payload_of frequency attrs) (payload_of width attrs) (payload_of centre attrs) c × (e ≡ record d { chan = c })
FieldTells (fields.PlainChan frequency width centre) attrs d e =
    (c : ChanDef) × TellsChan (payload_of frequency attrs) (payload_of width attrs) (payload_of centre attrs) c × (c.width ≡ Noht) × (e ≡ record d { chan = c })
FieldTells (fields.Power setting level) attrs d e =
    (power : PowerSetting) × TellsPower (payload_of setting attrs) (payload_of level attrs) power × (e ≡ record d { setting = power })
FieldTells (fields.Moment kind) attrs d e = (moment : ℕ) × TellsMoment (payload_of kind attrs) moment × (e ≡ record d { moment = moment })
FieldTells (fields.Switch kind) attrs d e = (on : Bool) × TellsSwitch (payload_of kind attrs) on × (e ≡ record d { on = on })
FieldTells fields.Profile attrs d e = (profile : Abilities) × TellsProfile attrs profile × (e ≡ record d { profile = profile })
FieldTells (fields.Rules kind) attrs d e = (rules : List Rule) × TellsRules (payload_of kind attrs) rules × (e ≡ record d { rules = rules })
FieldTells (fields.Body kind) attrs d e = (body : List ℕ) × TellsBody (payload_of kind attrs) body × (e ≡ record d { body = body })

-- the attributes tell each of the fields
abbrev pub FieldsTell : List Field → List Attr → Draft → Draft → Type 0
FieldsTell [] attrs d e = e ≡ d
FieldsTell (field ∷ fields) attrs d e = (next : Draft) × FieldTells field attrs d next × FieldsTell fields attrs next e

-- ---- the attributes that tell them

-- a text, which ends with a zero byte
abbrev pub text_attr : ℕ → List ℕ → Attr
text_attr kind text = plain_attr kind (text ++ 0 ∷ [])

-- control frequency and centre in MHz, and the width's number
abbrev pub chan_attrs : ℕ → ℕ → ℕ → ChanDef → List Attr
chan_attrs frequency width centre c =
    number_attr frequency (c.control_khz / 1000) ∷ number_attr width (width_number c.width) ∷ number_attr centre (c.centre_khz / 1000) ∷ []

-- how power is set, and the power where there is one
abbrev pub power_attrs : ℕ → ℕ → PowerSetting → List Attr
power_attrs setting level Auto = number_attr setting 0 ∷ []
power_attrs setting level (Limit power) = number_attr setting 1 ∷ number_attr level power ∷ []
power_attrs setting level (Fixed power) = number_attr setting 2 ∷ number_attr level power ∷ []

-- the six attributes of a profile
abbrev pub profile_attrs : Abilities → List Attr
profile_attrs p =
    number_attr BANDS (band_bits p.bands) ∷ number_attr WIDTH_MHZ p.width_mhz ∷ number_attr RADAR_MHZ p.radar_mhz
    ∷ number_attr POWER p.power_mbm ∷ number_attr CONTEXTS p.contexts ∷ number_attr PROFILE_FLAGS (profile_bits p) ∷ []

-- the attributes that tell a field of what a request says
abbrev pub field_attrs : Field → Draft → List Attr
field_attrs (fields.Radio kind) d = number_attr kind d.radio ∷ []
field_attrs (fields.Name kind) d = text_attr kind d.name ∷ []
field_attrs (fields.Kind kind) d = number_attr kind (iftype_number d.kind) ∷ []
field_attrs (fields.Code kind) d = text_attr kind (d.alpha2.a ∷ d.alpha2.b ∷ []) ∷ []
field_attrs (fields.Chan frequency width centre) d = chan_attrs frequency width centre d.chan
field_attrs (fields.PlainChan frequency width centre) d = chan_attrs frequency width centre d.chan
field_attrs (fields.Power setting level) d = power_attrs setting level d.setting
field_attrs (fields.Moment kind) d = plain_attr kind (le64 d.moment) ∷ []
field_attrs (fields.Switch kind) d = plain_attr kind (bit_of d.on ∷ []) ∷ []
field_attrs fields.Profile d = profile_attrs d.profile
field_attrs (fields.Rules kind) d = nested_with kind (attrs_bytes (nested_rules 0 d.rules)) ∷ []
field_attrs (fields.Body kind) d = plain_attr kind d.body ∷ []

-- those of all of the fields, in their order
abbrev pub fields_attrs : List Field → Draft → List Attr
fields_attrs list d = flat_map (λ field. field_attrs field d) list
