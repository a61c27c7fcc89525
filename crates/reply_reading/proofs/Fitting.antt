-- What nested attributes hold are attributes.
use Rattle.std.proofs.Common.{ℕ, ◌+◌, ◌/◌, ◌<◌, ◌≤◌, List, [], ◌∷◌, ◌++◌, length, map, All, arith}
use Rattle.std.proofs.lemmas.List.{length-append}
use Rattle.std.proofs.lemmas.List.Elements.{All-append, All-cons, All-head, All-nil, All-tail, All-weaker}
use Rattle.chan_def.specs.Covered.{width_number}
use Rattle.chan_def.specs.declared.definition.ChanDef.{ChanDef}
use Rattle.chan_def.specs.declared.kind.Kind.{Kind}
use Rattle.chan_flags.specs.Profiles.{Abilities}
use Rattle.rule_intersect.specs.declared.row.Row.{Row}
use Rattle.nl_attrs.specs.Attributes.{IsAttr, attrs_bytes}
use Rattle.nl_attrs.specs.Endian.{AreBytes}
use Rattle.nl_attrs.specs.Nesting.{nested_with}
use Rattle.nl_attrs.specs.declared.attr.Attr.{Attr}
use Rattle.nl_attrs.proofs.ByteLaws.{AreBytes-append, AreBytes-attrs, AreBytes-le32, AreBytes-le64}
use Rattle.nl_attrs.proofs.Lengths.{length-attr_bytes, length-le32, length-le64}
use Rattle.radio_drv.specs.Names.{IsName, IsVisible}
use Rattle.reg_journal.specs.declared.effects.Effect.{Effect}
use Rattle.reg_journal.specs.declared.effects.Effect.TheVariants.{Stopped, Dropped, Power as PowerSet}
use Rattle.reg_journal.specs.declared.report.IfaceState.{IfaceState}
use Rattle.reg_journal.specs.declared.report.IfaceState.TheVariants.{Idle, Checking, Running}
use Rattle.nl80211_cmds.specs.Fields.{chan_attrs, profile_attrs, text_attr}
use Rattle.nl80211_cmds.specs.Rules.{flag_bits, limit_attrs, nested_limits}
use Rattle.nl80211_cmds.specs.Values.{band_bits, iftype_number, number_attr, profile_bits}
use Rattle.nl80211_cmds.specs.declared.attribute.TheConstants.{BANDS, CENTRE, CONTEXTS, FREQ, POWER, PROFILE_FLAGS, RADAR_MHZ, WIDTH, WIDTH_MHZ, RULE_CAC_TIME, RULE_END, RULE_FLAGS, RULE_MAX_ANT_GAIN, RULE_MAX_BW, RULE_MAX_EIRP, RULE_START}
use Rattle.nl80211_cmds.specs.declared.limits.Limits.{Limits}
use Rattle.nl80211_cmds.proofs.RuleBytes.{limit_length}
use Rattle.nl80211_replies.specs.Dumps.{iface_attr, limits_of_row, state_attrs}
use Rattle.nl80211_replies.specs.Plain.{effect_list, wide_attr}
use Rattle.nl80211_replies.specs.declared.attribute.TheConstants.{CODE, KIND, NAME, STATE}
use Rattle.reply_reading.specs.Typed.{IsTypedEffect, IsTypedIface}
use Rattle.reply_reading.specs.inner.Reading.{IsToldRow, iface_list, row_attrs}

number_is : (kind n : ℕ) → kind < 16384 → IsAttr (number_attr kind n)
number_is kind n lt = record { kind = lt; short = omega (arith, length-le32 n); bytes = AreBytes-le32 n }

wide_is : (n : ℕ) → IsAttr (wide_attr n)
wide_is n = record { kind = omega arith; short = omega (arith, length-le64 n); bytes = AreBytes-le64 n }

visible_byte : (b : ℕ) → IsVisible b → b < 256
visible_byte b is = omega (arith, is.0, is.1)

zero_is : AreBytes (0 ∷ [])
zero_is = All-cons (λ (b : ℕ). b < 256) 0 [] (omega arith) (All-nil (λ (b : ℕ). b < 256))

name_is : (kind : ℕ) (name : List ℕ) → kind < 16384 → IsName name → IsAttr (text_attr kind name)
name_is kind name lt is = record {
  kind = lt;
  short = omega (arith, is.few, length-append name (0 ∷ []));
  bytes = AreBytes-append name (0 ∷ []) (All-weaker IsVisible (λ (b : ℕ). b < 256) visible_byte name is.visible) zero_is;
}

one : (a : Attr) → IsAttr a → All IsAttr (a ∷ [])
one a fa = All-cons IsAttr a [] fa (All-nil IsAttr)

two : (a b : Attr) → IsAttr a → IsAttr b → All IsAttr (a ∷ b ∷ [])
two a b fa fb = All-cons IsAttr a (b ∷ []) fa (one b fb)

three : (a b c : Attr) → IsAttr a → IsAttr b → IsAttr c → All IsAttr (a ∷ b ∷ c ∷ [])
three a b c fa fb fc = All-cons IsAttr a (b ∷ c ∷ []) fa (two b c fb fc)

-- ---- effects

pub effect_fit : (e : Effect) → IsTypedEffect e → All IsAttr (effect_list e)
effect_fit (Stopped name) is = two (number_attr CODE 0) (text_attr NAME name) (number_is CODE 0 (omega arith)) (name_is NAME name (omega arith) is)
effect_fit (Dropped name) is = two (number_attr CODE 1) (text_attr NAME name) (number_is CODE 1 (omega arith)) (name_is NAME name (omega arith) is)
effect_fit (PowerSet name power) is =
    three (number_attr CODE 2) (text_attr NAME name) (wide_attr power) (number_is CODE 2 (omega arith)) (name_is NAME name (omega arith) is.0) (wide_is power)

-- ---- rows

limits_fit : (l : Limits) → All IsAttr (limit_attrs l)
limits_fit l =
    All-append IsAttr (number_attr RULE_FLAGS (flag_bits l.flags) ∷ number_attr RULE_START l.start_khz ∷ number_attr RULE_END l.end_khz ∷ [])
    (number_attr RULE_MAX_BW l.width_khz ∷ number_attr RULE_MAX_ANT_GAIN 0 ∷ number_attr RULE_MAX_EIRP l.eirp_mbm ∷ number_attr RULE_CAC_TIME l.cac_ms ∷ [])
    (three (number_attr RULE_FLAGS (flag_bits l.flags)) (number_attr RULE_START l.start_khz) (number_attr RULE_END l.end_khz)
    (number_is RULE_FLAGS (flag_bits l.flags) (omega arith)) (number_is RULE_START l.start_khz (omega arith)) (number_is RULE_END l.end_khz (omega arith)))
    (All-cons IsAttr (number_attr RULE_MAX_BW l.width_khz) (number_attr RULE_MAX_ANT_GAIN 0 ∷ number_attr RULE_MAX_EIRP l.eirp_mbm ∷ number_attr RULE_CAC_TIME l.cac_ms ∷ [])
    (number_is RULE_MAX_BW l.width_khz (omega arith))
    (three (number_attr RULE_MAX_ANT_GAIN 0) (number_attr RULE_MAX_EIRP l.eirp_mbm) (number_attr RULE_CAC_TIME l.cac_ms)
    (number_is RULE_MAX_ANT_GAIN 0 (omega arith)) (number_is RULE_MAX_EIRP l.eirp_mbm (omega arith)) (number_is RULE_CAC_TIME l.cac_ms (omega arith))))

pub row_fit : (row : Row) → IsToldRow row → All IsAttr (row_attrs row)
row_fit row is = limits_fit (limits_of_row row)

limit_is : (kind : ℕ) (l : Limits) → kind < 16384 → IsAttr (nested_with kind (attrs_bytes (limit_attrs l)))
limit_is kind l lt = record { kind = lt; short = omega (arith, limit_length l); bytes = AreBytes-attrs (limit_attrs l) (limits_fit l) }

pub nested_limits_fit : (kind : ℕ) (ls : List Limits) → kind + length ls ≤ 16384 → All IsAttr (nested_limits kind ls)
nested_limits_fit kind [] few = All-nil IsAttr
nested_limits_fit kind (l ∷ ls) few =
    All-cons IsAttr (nested_with kind (attrs_bytes (limit_attrs l))) (nested_limits (kind + 1) ls) (limit_is kind l (omega arith)) (nested_limits_fit (kind + 1) ls (omega arith))

-- ---- radios

pub iface_fit : (x : List ℕ × ℕ × Kind) → IsTypedIface x → All IsAttr (iface_list x)
iface_fit (name, index, kind) is =
    three (text_attr NAME name) (wide_attr index) (number_attr KIND (iftype_number kind)) (name_is NAME name (omega arith) is.0) (wide_is index) (number_is KIND (iftype_number kind) (omega arith))

three_short : (a b c : Attr) → length a.payload ≤ 16 → length b.payload ≤ 16 → length c.payload ≤ 16 → length (attrs_bytes (a ∷ b ∷ c ∷ [])) ≤ 65531
three_short a b c la lb lc =
    let ea = length-attr_bytes a in let eb = length-attr_bytes b in let ec = length-attr_bytes c in
    simp length-append (omega (arith, la, lb, lc, ea, eb, ec))

iface_attr_is : (x : List ℕ × ℕ × Kind) → IsTypedIface x → IsAttr (iface_attr x)
iface_attr_is (name, index, kind) is =
    let few = is.0.few in
    record {
      kind = omega arith;
      short = three_short (text_attr NAME name) (wide_attr index) (number_attr KIND (iftype_number kind)) (omega (arith, few, length-append name (0 ∷ []))) (omega (arith, length-le64 index)) (omega (arith, length-le32 (iftype_number kind)));
      bytes = AreBytes-attrs (iface_list (name, index, kind)) (iface_fit (name, index, kind) is);
    }

ifaces_fit : (xs : List (List ℕ × ℕ × Kind)) → All IsTypedIface xs → All IsAttr (map iface_attr xs)
ifaces_fit [] each = All-nil IsAttr
ifaces_fit (x ∷ xs) each = All-cons IsAttr (iface_attr x) (map iface_attr xs) (iface_attr_is x (All-head IsTypedIface x xs each)) (ifaces_fit xs (All-tail IsTypedIface x xs each))

profile_fit : (p : Abilities) → All IsAttr (profile_attrs p)
profile_fit p =
    All-append IsAttr (number_attr BANDS (band_bits p.bands) ∷ number_attr WIDTH_MHZ p.width_mhz ∷ number_attr RADAR_MHZ p.radar_mhz ∷ [])
    (number_attr POWER p.power_mbm ∷ number_attr CONTEXTS p.contexts ∷ number_attr PROFILE_FLAGS (profile_bits p) ∷ [])
    (three (number_attr BANDS (band_bits p.bands)) (number_attr WIDTH_MHZ p.width_mhz) (number_attr RADAR_MHZ p.radar_mhz) (number_is BANDS (band_bits p.bands) (omega arith)) (number_is WIDTH_MHZ p.width_mhz (omega arith))
    (number_is RADAR_MHZ p.radar_mhz (omega arith)))
    (three (number_attr POWER p.power_mbm) (number_attr CONTEXTS p.contexts) (number_attr PROFILE_FLAGS (profile_bits p)) (number_is POWER p.power_mbm (omega arith)) (number_is CONTEXTS p.contexts (omega arith))
    (number_is PROFILE_FLAGS (profile_bits p) (omega arith)))

pub radio_fit : (p : Abilities) (xs : List (List ℕ × ℕ × Kind)) → All IsTypedIface xs → All IsAttr (profile_attrs p ++ map iface_attr xs)
radio_fit p xs each = All-append IsAttr (profile_attrs p) (map iface_attr xs) (profile_fit p) (ifaces_fit xs each)

-- ---- interfaces

used_fit : (state n : ℕ) (c : ChanDef) → All IsAttr (number_attr STATE state ∷ chan_attrs FREQ WIDTH CENTRE c ++ wide_attr n ∷ [])
used_fit state n c =
    All-cons IsAttr (number_attr STATE state) (chan_attrs FREQ WIDTH CENTRE c ++ wide_attr n ∷ []) (number_is STATE state (omega arith))
    (All-append IsAttr (chan_attrs FREQ WIDTH CENTRE c) (wide_attr n ∷ [])
    (three (number_attr FREQ (c.control_khz / 1000)) (number_attr WIDTH (width_number c.width)) (number_attr CENTRE (c.centre_khz / 1000)) (number_is FREQ (c.control_khz / 1000) (omega arith)) (number_is WIDTH (width_number c.width) (omega arith))
    (number_is CENTRE (c.centre_khz / 1000) (omega arith))) (one (wide_attr n) (wide_is n)))

pub state_fit : (state : IfaceState) → All IsAttr (state_attrs state)
state_fit Idle = one (number_attr STATE 0) (number_is STATE 0 (omega arith))
state_fit (Checking chan until) = used_fit 1 until chan
state_fit (Running chan power) = used_fit 2 power chan
