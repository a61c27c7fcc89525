-- Sections, radios and interfaces are those that attributes tell.
use Rattle.std.proofs.Common.{◌≡◌, ℕ, ◌+◌, ◌%◌, List, [], ◌∷◌, ◌++◌, map, drop, All, Option, None, Some, IfSome, ap, refl, ◌∙◌, arith}
use Rattle.std.proofs.lemmas.List.{length-map}
use Rattle.std.proofs.lemmas.List.Elements.{All-cons, All-head, All-nil, All-tail}
use Rattle.std.proofs.lemmas.Option.{same_Some}
use Rattle.rule_intersect.specs.declared.row.Row.{Row}
use Rattle.rule_tables.specs.Regions.{region_number}
use Rattle.rule_tables.specs.declared.code.Alpha2.{Alpha2}
use Rattle.chan_def.specs.declared.kind.Kind.{Kind}
use Rattle.chan_flags.specs.Profiles.{Abilities, IsProfile}
use Rattle.chan_flags.specs.declared.verdict.PowerSetting.{PowerSetting}
use Rattle.nl_attrs.specs.Attributes.{IsAttr, attrs_bytes}
use Rattle.nl_attrs.specs.Nesting.{nested_with}
use Rattle.nl_attrs.specs.declared.attr.Attr.{Attr}
use Rattle.reg_journal.specs.Requests.{FitsPowerField, IsRadioNo}
use Rattle.reg_journal.specs.declared.report.IfaceReport.{IfaceReport}
use Rattle.reg_journal.specs.declared.report.IfaceState.{IfaceState}
use Rattle.reg_journal.specs.declared.report.RadioReport.{RadioReport}
use Rattle.reg_journal.specs.declared.report.Section.{Section}
use Rattle.nl80211_cmds.specs.Fields.{power_attrs, profile_attrs, text_attr}
use Rattle.nl80211_cmds.specs.Rules.{nested_limits}
use Rattle.nl80211_cmds.specs.Values.{iftype_number, plain_attr}
use Rattle.nl80211_cmds.specs.declared.attribute.TheConstants.{REG_ALPHA2, TX_POWER_LEVEL, TX_POWER_SETTING}
use Rattle.nl80211_replies.specs.Dumps.{iface_attr, iface_attrs, limits_of_row, radio_attrs, radio_part, section_attrs, state_attrs}
use Rattle.nl80211_replies.specs.declared.attribute.TheConstants.{DFS_REGION, REG_RULES, SIM}
use Rattle.reply_reading.specs.Typed.{IsTypedIface, IsTypedRadio, IsTypedRow}
use Rattle.reply_reading.specs.inner.Reading.{IsToldReport, IsToldRow, IsToldSection, IsToldState, Undoes, iface_payload, payload_at, payload_in, row_payload}
use Rattle.reply_reading.specs.inner.Values.{kind_numbered, region_numbered}
use Rattle.reply_reading.proofs.AnswersAgain.{Codes, Names, Numbers32}
use Rattle.reply_reading.proofs.Fitting.{nested_limits_fit, radio_fit, state_fit}
use Rattle.reply_reading.proofs.Numbered.{iftype_small, kind_again, radio_is, region_again}

-- ---- sections

pub row_payloads : (k : ℕ) (rows : List Row) → map payload_in (nested_limits k (map limits_of_row rows)) ≡ map row_payload rows
row_payloads k [] = refl
row_payloads k (row ∷ rows) = ap (λ (xs : List (List ℕ)). row_payload row ∷ xs) (row_payloads (k + 1) rows)

pub rows_told : (rows : List Row) → All IsTypedRow rows → All (λ (row : Row). row.check_ms ≡ 0) rows → All IsToldRow rows
rows_told [] typed none = All-nil IsToldRow
rows_told (row ∷ rows) typed none =
    All-cons IsToldRow row rows (record { typed = All-head IsTypedRow row rows typed; unchecked = All-head (λ (row : Row). row.check_ms ≡ 0) row rows none })
    (rows_told rows (All-tail IsTypedRow row rows typed) (All-tail (λ (row : Row). row.check_ms ≡ 0) row rows none))

pub section_again : (section : Section) (attrs more held : List Attr) (radio : Option ℕ) (code : Alpha2) (number : ℕ) (rows : List Row) → IsToldSection section → attrs ≡ section_attrs section
    → ((o : Option ℕ) (a b d : Attr) → IfSome o IsRadioNo → attrs ≡ radio_part o ++ a ∷ b ∷ d ∷ [] → radio ≡ o)
    → ((o : Option ℕ) (a b d : Attr) → attrs ≡ radio_part o ++ a ∷ b ∷ d ∷ [] → more ≡ a ∷ b ∷ d ∷ [])
    → Codes more 0 code → ((n : ℕ) → payload_at 1 more ≡ n ∷ [] → number ≡ n) → Undoes (All IsAttr) attrs_bytes (payload_at 2 more) held
    → Undoes (All IsToldRow) (map row_payload) (map payload_in held) rows
    → record { radio = radio; alpha2 = code; region = region_numbered number; rows = rows } ≡ section
section_again section attrs more held radio code number rows is e of_radio behind letters byte inner each =
    let ls = map limits_of_row section.rows in
    let a : Attr = text_attr REG_ALPHA2 (section.alpha2.a ∷ section.alpha2.b ∷ []) in
    let b : Attr = plain_attr DFS_REGION (region_number section.region ∷ []) in
    let d : Attr = nested_with REG_RULES (attrs_bytes (nested_limits 0 ls)) in
    let few = is.shown.few in
    let parts = behind section.radio a b d e in
    let radios = of_radio section.radio a b d is.typed.radio e in
    let codes = letters section.alpha2 (ap (payload_at 0) parts) in
    let regions : region_numbered number ≡ section.region = ap region_numbered (byte (region_number section.region) (ap (payload_at 1) parts)) ∙ region_again section.region in
    let inside = inner (nested_limits 0 ls) (nested_limits_fit 0 ls (omega (arith, length-map section.rows limits_of_row))) (ap (payload_at 2) parts) in
    let all = each section.rows (rows_told section.rows is.typed.rows is.shown.unchecked) (ap (map payload_in) inside ∙ row_payloads 0 section.rows) in
    λ i. record { radio = radios i; alpha2 = codes i; region = regions i; rows = all i }

-- ---- radios

iface_payloads : (xs : List (List ℕ × ℕ × Kind)) → map payload_in (map iface_attr xs) ≡ map iface_payload xs
iface_payloads [] = refl
iface_payloads ((name, index, kind) ∷ xs) = ap (λ (ys : List (List ℕ)). iface_payload (name, index, kind) ∷ ys) (iface_payloads xs)

pub held_by_radio : (report : RadioReport) (attrs held : List Attr) → IsTypedRadio report → attrs ≡ radio_attrs report → Undoes (All IsAttr) attrs_bytes (payload_at 2 attrs) held
    → held ≡ profile_attrs report.profile ++ map iface_attr report.ifaces
held_by_radio report attrs held is e inner =
    inner (profile_attrs report.profile ++ map iface_attr report.ifaces) (radio_fit report.profile report.ifaces is.ifaces) (ap (payload_at 2) e)

pub radio_again : (report : RadioReport) (attrs held : List Attr) (n : ℕ) (profile : Abilities) (ifaces : List (List ℕ × ℕ × Kind)) → IsTypedRadio report → attrs ≡ radio_attrs report
    → Undoes (All IsAttr) attrs_bytes (payload_at 2 attrs) held → Undoes (All IsTypedIface) (map iface_payload) (map payload_in (drop 6 held)) ifaces
    → ((p : Abilities) (more : List Attr) → IsProfile p → held ≡ profile_attrs p ++ more → Some profile ≡ Some p) → Numbers32 attrs 0 n
    → record { radio = n % 8; profile = profile; ifaces = ifaces } ≡ report
radio_again report attrs held n profile ifaces is e inner each profiles number =
    let le = is.radio in
    let inside = held_by_radio report attrs held is e inner in
    let radio : n % 8 ≡ report.radio = radio_is n report.radio le (number report.radio (omega arith) (ap (payload_at 0) e)) in
    let same = same_Some profile report.profile (profiles report.profile (map iface_attr report.ifaces) is.profile inside) in
    let all = each report.ifaces is.ifaces (ap (λ (xs : List Attr). map payload_in (drop 6 xs)) inside ∙ iface_payloads report.ifaces) in
    λ i. record { radio = radio i; profile = same i; ifaces = all i }

pub no_radio : (report : RadioReport) (attrs held : List Attr) → IsTypedRadio report → attrs ≡ radio_attrs report → Undoes (All IsAttr) attrs_bytes (payload_at 2 attrs) held
    → ((p : Abilities) (more : List Attr) → IsProfile p → held ≡ profile_attrs p ++ more → None ≡ Some p) → ⊥
no_radio report attrs held is e inner profiles =
    let clash = profiles report.profile (map iface_attr report.ifaces) is.profile (held_by_radio report attrs held is e inner) in cc

-- ---- interfaces

pub report_again : (report : IfaceReport) (attrs held : List Attr) (name payload : List ℕ) (index n k : ℕ) (setting : PowerSetting) (state : IfaceState) → IsToldReport report → attrs ≡ iface_attrs report
    → Names attrs 2 name → Numbers32 attrs 1 index → Numbers32 attrs 0 n → Numbers32 attrs 3 k
    → ((s : PowerSetting) (more : List Attr) → FitsPowerField s → drop 4 attrs ≡ power_attrs TX_POWER_SETTING TX_POWER_LEVEL s ++ more → setting ≡ s)
    → ((s : PowerSetting) (a : Attr) → drop 4 attrs ≡ power_attrs TX_POWER_SETTING TX_POWER_LEVEL s ++ a ∷ [] → payload ≡ a.payload)
    → Undoes (All IsAttr) attrs_bytes payload held → Undoes IsToldState state_attrs held state
    → record { name = name; index = index; radio = n % 8; kind = kind_numbered k; setting = setting; state = state } ≡ report
report_again report attrs held name payload index n k setting state is e text first radio kind settings last inner states =
    let typed = is.typed in
    let le = typed.radio in
    let a : Attr = nested_with SIM (attrs_bytes (state_attrs report.state)) in
    let more : drop 4 attrs ≡ power_attrs TX_POWER_SETTING TX_POWER_LEVEL report.setting ++ a ∷ [] = ap (drop 4) e in
    let names = text report.name typed.name (ap (payload_at 2) e) in
    let indices = first report.index typed.index (ap (payload_at 1) e) in
    let radios : n % 8 ≡ report.radio = radio_is n report.radio le (radio report.radio (omega arith) (ap (payload_at 0) e)) in
    let kinds : kind_numbered k ≡ report.kind = ap kind_numbered (kind (iftype_number report.kind) (iftype_small report.kind) (ap (payload_at 3) e)) ∙ kind_again report.kind in
    let powers = settings report.setting (a ∷ []) typed.setting more in
    let inside = inner (state_attrs report.state) (state_fit report.state) (last report.setting a more) in
    let does = states report.state (typed.state, is.shown) inside in
    λ i. record { name = names i; index = indices i; radio = radios i; kind = kinds i; setting = powers i; state = does i }
