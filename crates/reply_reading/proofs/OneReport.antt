-- What dumps tell is one section, one channel, one radio, one interface.
use Rattle.std.proofs.Common.{◌≡◌, ℕ, ◌/◌, List, [], ◌∷◌, ◌++◌, length, map, drop, get_or, Option, None, Some, IfSome, ap, refl, sym, ◌∙◌, arith}
use Rattle.std.proofs.lemmas.List.{length-map}
use Rattle.rule_tables.specs.Regions.{region_number}
use Rattle.chan_def.specs.Covered.{width_number}
use Rattle.chan_def.specs.declared.definition.ChanDef.{ChanDef}
use Rattle.chan_def.specs.declared.kind.Kind.{Kind}
use Rattle.chan_flags.specs.Profiles.{Abilities, IsProfile}
use Rattle.chan_flags.specs.declared.record.Chan.{Chan}
use Rattle.chan_flags.specs.declared.record.Fit.{Fit}
use Rattle.chan_flags.specs.declared.verdict.PowerSetting.{PowerSetting}
use Rattle.chan_flags.specs.declared.verdict.PowerSetting.TheVariants.{Auto, Limit, Fixed}
use Rattle.dfs_states.specs.declared.dfs.Dfs.{Dfs}
use Rattle.dfs_states.specs.declared.dfs.Dfs.TheVariants.{Usable, Unavailable, Available}
use Rattle.nl_attrs.specs.Attributes.{attrs_bytes}
use Rattle.nl_attrs.specs.Nesting.{nested_with}
use Rattle.nl_attrs.specs.declared.attr.Attr.{Attr}
use Rattle.nl_attrs.proofs.AttrLaws.{one_list}
use Rattle.reg_journal.specs.Requests.{FitsPowerField, IsRadioNo}
use Rattle.reg_journal.specs.declared.report.IfaceReport.{IfaceReport}
use Rattle.reg_journal.specs.declared.report.IfaceState.{IfaceState}
use Rattle.reg_journal.specs.declared.report.RadioReport.{RadioReport}
use Rattle.reg_journal.specs.declared.report.Section.{Section}
use Rattle.nl80211_cmds.specs.Fields.{chan_attrs, power_attrs, profile_attrs, text_attr}
use Rattle.nl80211_cmds.specs.Rules.{nested_limits}
use Rattle.nl80211_cmds.specs.Values.{iftype_number, plain_attr}
use Rattle.nl80211_cmds.specs.declared.attribute.TheConstants.{CENTRE, FREQ, REG_ALPHA2, TX_POWER_LEVEL, TX_POWER_SETTING, WIDTH}
use Rattle.nl80211_cmds.proofs.OneValue.{same_le32}
use Rattle.nl80211_replies.specs.Dumps.{channel_attrs, dfs_attrs, fit_attrs, iface_attr, iface_attrs, limits_of_row, radio_attrs, radio_part, section_attrs, state_attrs}
use Rattle.nl80211_replies.specs.declared.attribute.TheConstants.{DFS_REGION, REG_RULES, SIM}
use Rattle.reply_reading.specs.Typed.{IsTypedDfs, IsTypedFit, IsTypedIface, IsTypedRadio}
use Rattle.reply_reading.specs.inner.Reading.{IsToldChannel, IsToldDef, IsToldReport, IsToldSection, IsToldState, iface_list, payload_at, payload_in}
use Rattle.reply_reading.specs.inner.Values.{dfs_numbered, khz_of, kind_numbered, region_numbered, width_numbered}
use Rattle.reply_reading.proofs.ChannelsAgain.{dfs_few}
use Rattle.reply_reading.proofs.Fitting.{iface_fit, nested_limits_fit, radio_fit, state_fit}
use Rattle.reply_reading.proofs.Numbered.{iftype_small, khz_is, kind_again, region_again, width_again, width_small}
use Rattle.reply_reading.proofs.OneValue.{each_one, held_one, name_is, number, number_is, rows_one, wide, wide_is}
use Rattle.reply_reading.proofs.PartsAgain.{fit_again, profile_again, state_again, widths_fit}
use Rattle.reply_reading.proofs.ReportsAgain.{row_payloads, rows_told}

-- ---- sections

parts_one : (o p : Option ℕ) (a b d e f g : Attr) → IfSome o IsRadioNo → IfSome p IsRadioNo → radio_part o ++ a ∷ b ∷ d ∷ [] ≡ radio_part p ++ e ∷ f ∷ g ∷ [] → (o ≡ p) × ((a ∷ b ∷ d ∷ []) ≡ (e ∷ f ∷ g ∷ []))
parts_one None None a b d e f g first second same = (refl, same)
parts_one None (Some q) a b d e f g first second same = absurd (omega (arith, ap length same))
parts_one (Some r) None a b d e f g first second same = absurd (omega (arith, ap length same))
parts_one (Some r) (Some q) a b d e f g first second same = (ap Some (same_le32 r q (omega arith) (omega arith) (ap (payload_at 0) same)), ap (drop 1) same)

pub section_one : (x y : Section) → IsToldSection x → IsToldSection y → section_attrs x ≡ section_attrs y → x ≡ y
section_one x y tx ty e =
    let ls = map limits_of_row x.rows in let ms = map limits_of_row y.rows in
    let few = tx.shown.few in let also = ty.shown.few in
    let parts = parts_one x.radio y.radio (text_attr REG_ALPHA2 (x.alpha2.a ∷ x.alpha2.b ∷ [])) (plain_attr DFS_REGION (region_number x.region ∷ [])) (nested_with REG_RULES (attrs_bytes (nested_limits 0 ls)))
    (text_attr REG_ALPHA2 (y.alpha2.a ∷ y.alpha2.b ∷ [])) (plain_attr DFS_REGION (region_number y.region ∷ [])) (nested_with REG_RULES (attrs_bytes (nested_limits 0 ms))) tx.typed.radio ty.typed.radio e in
    let radio = parts.0 in
    let a : x.alpha2.a ≡ y.alpha2.a = ap (λ (l : List Attr). get_or (payload_at 0 l) 0 0) parts.1 in
    let b : x.alpha2.b ≡ y.alpha2.b = ap (λ (l : List Attr). get_or (payload_at 0 l) 1 0) parts.1 in
    let region : x.region ≡ y.region = sym (region_again x.region) ∙ ap (λ (l : List Attr). region_numbered (get_or (payload_at 1 l) 0 0)) parts.1 ∙ region_again y.region in
    let inside = one_list (nested_limits 0 ls) (nested_limits 0 ms) (nested_limits_fit 0 ls (omega (arith, length-map x.rows limits_of_row))) (nested_limits_fit 0 ms (omega (arith, length-map y.rows limits_of_row))) (ap (payload_at 2) parts.1) in
    let rows = rows_one x.rows y.rows (rows_told x.rows tx.typed.rows tx.shown.unchecked) (rows_told y.rows ty.typed.rows ty.shown.unchecked) (sym (row_payloads 0 x.rows) ∙ ap (map payload_in) inside ∙ row_payloads 0 y.rows) in
    λ i. record { radio = radio i; alpha2 = record { a = a i; b = b i }; region = region i; rows = rows i }

-- ---- channels

dfs_again : (d : Dfs) (attrs : List Attr) → IsTypedDfs d → attrs ≡ dfs_attrs d → dfs_numbered (get_or (payload_at 0 attrs) 0 0) (wide attrs 1) ≡ d
dfs_again Usable attrs typed e = ap (λ (x : ℕ). dfs_numbered x (wide attrs 1)) (ap (λ (l : List Attr). get_or (payload_at 0 l) 0 0) e)
dfs_again (Unavailable until) attrs typed e =
    ap (λ (x : ℕ). dfs_numbered x (wide attrs 1)) (ap (λ (l : List Attr). get_or (payload_at 0 l) 0 0) e) ∙ ap Unavailable (wide_is attrs 1 until typed (ap (payload_at 1) e))
dfs_again (Available since) attrs typed e =
    ap (λ (x : ℕ). dfs_numbered x (wide attrs 1)) (ap (λ (l : List Attr). get_or (payload_at 0 l) 0 0) e) ∙ ap Available (wide_is attrs 1 since typed (ap (payload_at 1) e))

dfs_one : (d h : Dfs) → IsTypedDfs d → IsTypedDfs h → dfs_attrs d ≡ dfs_attrs h → d ≡ h
dfs_one d h td th e = sym (dfs_again d (dfs_attrs d) td refl) ∙ dfs_again h (dfs_attrs d) th e

fitted_one : (f g : Option Fit) (d h : Dfs) → IfSome f IsTypedFit → IfSome g IsTypedFit → IsTypedDfs d → IsTypedDfs h → fit_attrs f ++ dfs_attrs d ≡ fit_attrs g ++ dfs_attrs h → (f ≡ g) × (d ≡ h)
fitted_one None None d h tf tg td th e = (refl, dfs_one d h td th e)
fitted_one None (Some g) d h tf tg td th e = absurd (omega (arith, ap length e, dfs_few d))
fitted_one (Some f) None d h tf tg td th e = absurd (omega (arith, ap length e, dfs_few h))
fitted_one (Some f) (Some g) d h tf tg td th e =
    let attrs = fit_attrs (Some f) ++ dfs_attrs d in
    let same : f ≡ g =
    sym (fit_again f (dfs_attrs d) attrs (number attrs 0) (number attrs 1) (number attrs 2) (wide attrs 3) tf refl (number_is attrs 0) (number_is attrs 1) (number_is attrs 2) (wide_is attrs 3))
    ∙ fit_again g (dfs_attrs h) attrs (number attrs 0) (number attrs 1) (number attrs 2) (wide attrs 3) tg e (number_is attrs 0) (number_is attrs 1) (number_is attrs 2) (wide_is attrs 3) in
    (ap Some same, dfs_one d h td th (ap (drop 4) e))

pub channel_one : (r : ℕ) (x y : Chan × Dfs) → IsToldChannel x → IsToldChannel y → channel_attrs r x ≡ channel_attrs r y → x ≡ y
channel_one r (c, d) (k, h) tx ty e =
    let fits = tx.0.0 in let also = ty.0.0 in let whole = tx.1 in let too = ty.1 in
    let mhz : c.khz / 1000 ≡ k.khz / 1000 = same_le32 (c.khz / 1000) (k.khz / 1000) (omega arith) (omega arith) (ap (payload_at 1) e) in
    let khz : c.khz ≡ k.khz = omega (arith, mhz, whole, too) in
    let parts = fitted_one c.fit k.fit d h tx.0.1 ty.0.1 tx.0.2 ty.0.2 (ap (drop 2) e) in
    let fit = parts.0 in let dfs = parts.1 in
    λ i. (record { khz = khz i; fit = fit i }, dfs i)

-- ---- radios

kind_one : (k l : Kind) → iftype_number k ≡ iftype_number l → k ≡ l
kind_one k l e = sym (kind_again k) ∙ ap kind_numbered e ∙ kind_again l

list_one : (x y : List ℕ × ℕ × Kind) → IsTypedIface x → IsTypedIface y → iface_list x ≡ iface_list y → x ≡ y
list_one (n, j, k) (t, l, q) tx ty e =
    let attrs = iface_list (n, j, k) in
    let names = sym (name_is attrs 0 n tx.0 refl) ∙ name_is attrs 0 t ty.0 (ap (payload_at 0) e) in
    let fits = tx.1 in let also = ty.1 in
    let numbers : j ≡ l = sym (wide_is attrs 1 j (omega arith) refl) ∙ wide_is attrs 1 l (omega arith) (ap (payload_at 1) e) in
    let kinds = kind_one k q (same_le32 (iftype_number k) (iftype_number q) (iftype_small k) (iftype_small q) (ap (payload_at 2) e)) in
    λ i. (names i, numbers i, kinds i)

attr_one : (x y : List ℕ × ℕ × Kind) → IsTypedIface x → IsTypedIface y → iface_attr x ≡ iface_attr y → x ≡ y
attr_one (n, j, k) (t, l, q) tx ty e = held_one IsTypedIface iface_list iface_fit list_one (n, j, k) (t, l, q) tx ty (ap (λ (a : Attr). a.payload) e)

profile_one : (p q : Abilities) (more other : List Attr) → IsProfile p → IsProfile q → profile_attrs p ++ more ≡ profile_attrs q ++ other → p ≡ q
profile_one p q more other tp tq e =
    let attrs = profile_attrs p ++ more in
    let one = widths_fit p tp in let two = widths_fit q tq in
    sym (profile_again p more attrs (number attrs 0) (number attrs 1) (number attrs 2) (number attrs 3) (number attrs 4) (number attrs 5) tp one.0 one.1 refl (number_is attrs 0) (number_is attrs 1) (number_is attrs 2) (number_is attrs 3) (number_is attrs 4) (number_is attrs 5))
    ∙ profile_again q other attrs (number attrs 0) (number attrs 1) (number attrs 2) (number attrs 3) (number attrs 4) (number attrs 5) tq two.0 two.1 e (number_is attrs 0) (number_is attrs 1) (number_is attrs 2) (number_is attrs 3) (number_is attrs 4) (number_is attrs 5)

pub radio_one : (x y : RadioReport) → IsTypedRadio x → IsTypedRadio y → radio_attrs x ≡ radio_attrs y → x ≡ y
radio_one x y tx ty e =
    let le = tx.radio in let also = ty.radio in
    let xs = map iface_attr x.ifaces in let ys = map iface_attr y.ifaces in
    let inside = one_list (profile_attrs x.profile ++ xs) (profile_attrs y.profile ++ ys) (radio_fit x.profile x.ifaces tx.ifaces) (radio_fit y.profile y.ifaces ty.ifaces) (ap (payload_at 2) e) in
    let radio : x.radio ≡ y.radio = same_le32 x.radio y.radio (omega arith) (omega arith) (ap (payload_at 0) e) in
    let profile = profile_one x.profile y.profile xs ys tx.profile ty.profile inside in
    let ifaces = each_one IsTypedIface iface_attr attr_one x.ifaces y.ifaces tx.ifaces ty.ifaces (ap (drop 6) inside) in
    λ i. record { radio = radio i; profile = profile i; ifaces = ifaces i }

-- ---- interfaces

chan_read : List Attr → ChanDef
chan_read attrs = record { control_khz = khz_of (number attrs 1); width = width_numbered (number attrs 2); centre_khz = khz_of (number attrs 3) }

chan_again : (d : ChanDef) (a : Attr) (more attrs : List Attr) → IsToldDef d → attrs ≡ a ∷ chan_attrs FREQ WIDTH CENTRE d ++ more → chan_read attrs ≡ d
unfolding chan_read
chan_again d a more attrs is e =
    let fits = is.0.0 in let also = is.0.1 in
    let control = khz_is (number attrs 1) d.control_khz fits is.1.0 (number_is attrs 1 (d.control_khz / 1000) (omega arith) (ap (payload_at 1) e)) in
    let width = ap width_numbered (number_is attrs 2 (width_number d.width) (width_small d.width) (ap (payload_at 2) e)) ∙ width_again d.width in
    let centre = khz_is (number attrs 3) d.centre_khz also is.1.1 (number_is attrs 3 (d.centre_khz / 1000) (omega arith) (ap (payload_at 3) e)) in
    λ i. record { control_khz = control i; width = width i; centre_khz = centre i }

state_one : (x y : IfaceState) → IsToldState x → IsToldState y → state_attrs x ≡ state_attrs y → x ≡ y
state_one x y tx ty e =
    let attrs = state_attrs x in
    sym (state_again x attrs (number attrs 0) (wide attrs 4) (chan_read attrs) tx refl (number_is attrs 0) (λ d a more is so. chan_again d a more attrs is so) (wide_is attrs 4))
    ∙ state_again y attrs (number attrs 0) (wide attrs 4) (chan_read attrs) ty e (number_is attrs 0) (λ d a more is so. chan_again d a more attrs is so) (wide_is attrs 4)

setting_one : (s t : PowerSetting) (a b : Attr) → FitsPowerField s → FitsPowerField t → power_attrs TX_POWER_SETTING TX_POWER_LEVEL s ++ a ∷ [] ≡ power_attrs TX_POWER_SETTING TX_POWER_LEVEL t ++ b ∷ [] → (s ≡ t) × (a ≡ b)
setting_one Auto Auto a b fs ft e = (refl, ap (λ (l : List Attr). get_or l 1 a) e)
setting_one Auto (Limit q) a b fs ft e = absurd (omega (arith, ap length e))
setting_one Auto (Fixed q) a b fs ft e = absurd (omega (arith, ap length e))
setting_one (Limit p) Auto a b fs ft e = absurd (omega (arith, ap length e))
setting_one (Fixed p) Auto a b fs ft e = absurd (omega (arith, ap length e))
setting_one (Limit p) (Limit q) a b fs ft e = (ap Limit (same_le32 p q (omega arith) (omega arith) (ap (payload_at 1) e)), ap (λ (l : List Attr). get_or l 2 a) e)
setting_one (Fixed p) (Fixed q) a b fs ft e = (ap Fixed (same_le32 p q (omega arith) (omega arith) (ap (payload_at 1) e)), ap (λ (l : List Attr). get_or l 2 a) e)
setting_one (Limit p) (Fixed q) a b fs ft e = let clash = same_le32 1 2 (omega arith) (omega arith) (ap (payload_at 0) e) in absurd (omega (arith, clash))
setting_one (Fixed p) (Limit q) a b fs ft e = let clash = same_le32 2 1 (omega arith) (omega arith) (ap (payload_at 0) e) in absurd (omega (arith, clash))

pub report_one : (x y : IfaceReport) → IsToldReport x → IsToldReport y → iface_attrs x ≡ iface_attrs y → x ≡ y
report_one x y tx ty e =
    let attrs = iface_attrs x in
    let le = tx.typed.radio in let also = ty.typed.radio in
    let radio : x.radio ≡ y.radio = same_le32 x.radio y.radio (omega arith) (omega arith) (ap (payload_at 0) e) in
    let index = same_le32 x.index y.index tx.typed.index ty.typed.index (ap (payload_at 1) e) in
    let names = sym (name_is attrs 2 x.name tx.typed.name refl) ∙ name_is attrs 2 y.name ty.typed.name (ap (payload_at 2) e) in
    let kinds = kind_one x.kind y.kind (same_le32 (iftype_number x.kind) (iftype_number y.kind) (iftype_small x.kind) (iftype_small y.kind) (ap (payload_at 3) e)) in
    let last = setting_one x.setting y.setting (nested_with SIM (attrs_bytes (state_attrs x.state))) (nested_with SIM (attrs_bytes (state_attrs y.state))) tx.typed.setting ty.typed.setting (ap (drop 4) e) in
    let setting = last.0 in
    let state = held_one IsToldState state_attrs (λ s is. state_fit s) state_one x.state y.state (tx.typed.state, tx.shown) (ty.typed.state, ty.shown) (ap (λ (a : Attr). a.payload) last.1) in
    λ i. record { name = names i; index = index i; radio = radio i; kind = kinds i; setting = setting i; state = state i }
