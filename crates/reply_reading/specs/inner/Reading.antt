-- Reading by places.
use Rattle.std.specs.Prelude.{◌≡◌, ℕ, Bool, false, not, List, [], ◌∷◌, ◌++◌, Option, None, Some, slice_get}
use Rattle.nl_attrs.specs.Attributes.{attrs_bytes}
use Rattle.nl_attrs.specs.declared.attr.Attr.{Attr}
use Rattle.chan_def.specs.declared.definition.ChanDef.{ChanDef}
use Rattle.chan_def.specs.declared.kind.Kind.{Kind}
use Rattle.chan_flags.specs.declared.record.Chan.{Chan}
use Rattle.dfs_states.specs.declared.dfs.Dfs.{Dfs}
use Rattle.rule_intersect.specs.declared.row.Row.{Row}
use Rattle.rule_tables.specs.declared.code.Alpha2.{Alpha2}
use Rattle.reg_journal.specs.Forms.{IsShownSection, IsShownState, IsWholeChannel, IsWholeMhz}
use Rattle.reg_journal.specs.Requests.{FitsChannelFields}
use Rattle.reg_journal.specs.declared.effects.Effect.{Effect}
use Rattle.reg_journal.specs.declared.report.IfaceReport.{IfaceReport}
use Rattle.reg_journal.specs.declared.report.IfaceState.{IfaceState}
use Rattle.reg_journal.specs.declared.report.Section.{Section}
use Rattle.nl80211_cmds.specs.Fields.{text_attr}
use Rattle.nl80211_cmds.specs.Rules.{limit_attrs}
use Rattle.nl80211_cmds.specs.Values.{iftype_number, number_attr}
use Rattle.nl80211_replies.specs.Dumps.{limits_of_row}
use Rattle.nl80211_replies.specs.Plain.{effect_list, wide_attr}
use Rattle.nl80211_replies.specs.declared.attribute.TheConstants.{KIND, NAME}
use Rattle.reply_reading.specs.Typed.{IsTypedChannel, IsTypedReport, IsTypedRow, IsTypedSection, IsTypedState}

-- what was found is the one that was told so
abbrev pub Undoes : {X Y : Type 0} → (X → Type 0) → (X → Y) → Y → X → Type 0
Undoes {X} is told given found = (x : X) → is x → given ≡ told x → found ≡ x

abbrev pub payload_in : Attr → List ℕ
payload_in a = a.payload

-- the payload of an attribute, if there is one
abbrev pub payload_if : Option Attr → List ℕ
payload_if None = []
payload_if (Some a) = a.payload

-- the payload of the attribute at place k
abbrev pub payload_at : ℕ → List Attr → List ℕ
payload_at k attrs = payload_if (slice_get attrs k)

-- there is an attribute that holds no others
abbrev pub is_plain : Option Attr → Bool
is_plain None = false
is_plain (Some a) = not a.nested

-- a name, and the code of a country
abbrev pub name_payload : List ℕ → List ℕ
name_payload name = name ++ 0 ∷ []

abbrev pub code_payload : Alpha2 → List ℕ
code_payload code = code.a ∷ code.b ∷ 0 ∷ []

-- ---- what attributes that hold others hold

abbrev pub effect_payload : Effect → List ℕ
effect_payload effect = attrs_bytes (effect_list effect)

abbrev pub row_attrs : Row → List Attr
row_attrs row = limit_attrs (limits_of_row row)

abbrev pub row_payload : Row → List ℕ
row_payload row = attrs_bytes (row_attrs row)

abbrev pub iface_list : List ℕ × ℕ × Kind → List Attr
iface_list (name, index, kind) = text_attr NAME name ∷ wide_attr index ∷ number_attr KIND (iftype_number kind) ∷ []

abbrev pub iface_payload : List ℕ × ℕ × Kind → List ℕ
iface_payload x = attrs_bytes (iface_list x)

-- ---- what can be told

pub record IsToldRow (row : Row) : Type 0 where
  pub typed : IsTypedRow row
  pub unchecked : row.check_ms ≡ 0

pub record IsToldSection (section : Section) : Type 0 where
  pub typed : IsTypedSection section
  pub shown : IsShownSection section

abbrev pub IsToldChannel : Chan × Dfs → Type 0
IsToldChannel shown = IsTypedChannel shown × IsWholeMhz shown.0.khz

abbrev pub IsToldDef : ChanDef → Type 0
IsToldDef chan = FitsChannelFields chan × IsWholeChannel chan

abbrev pub IsToldState : IfaceState → Type 0
IsToldState state = IsTypedState state × IsShownState state

pub record IsToldReport (report : IfaceReport) : Type 0 where
  pub typed : IsTypedReport report
  pub shown : IsShownState report.state
