-- The messages of requests that a line can ask aren't too long.
use Rattle.std.proofs.Common.{◌≡◌, ℕ, ◌+◌, ◌*◌, ◌/◌, ◌≤◌, List, [], ◌∷◌, ◌++◌, length, length-append, map, inl, inr, refl, sym, ap, subst, ◌∙◌, arith}
use Rattle.std.proofs.lemmas.Grind.{flat_map-append}
use Rattle.std.proofs.lemmas.List.{length-map}
use Rattle.chan_def.specs.Covered.{width_number}
use Rattle.chan_def.specs.declared.definition.ChanDef.{ChanDef}
use Rattle.chan_flags.specs.Profiles.{Abilities}
use Rattle.chan_flags.specs.declared.verdict.PowerSetting.{PowerSetting}
use Rattle.chan_flags.specs.declared.verdict.PowerSetting.TheVariants.{Auto, Limit, Fixed}
use Rattle.radio_drv.specs.Names.{IsName}
use Rattle.nl_attrs.specs.Attributes.{attr_bytes, attrs_bytes}
use Rattle.nl_attrs.specs.Endian.{le64}
use Rattle.nl_attrs.specs.Messages.{spelled}
use Rattle.nl_attrs.specs.Nesting.{nested_with}
use Rattle.nl_attrs.specs.Overlong.{IsEncodeFault}
use Rattle.nl_attrs.specs.declared.attr.Attr.{Attr}
use Rattle.nl_attrs.specs.declared.fault.EncodeFault.{EncodeFault}
use Rattle.nl_attrs.specs.declared.fault.EncodeFault.TheVariants as encode_faults
use Rattle.nl_attrs.specs.declared.message.Msg.{Msg}
use Rattle.nl_attrs.specs.declared.message.Msg.TheVariants.{Generic, Error, Done}
use Rattle.nl_attrs.proofs.Lengths.{length-attr_bytes, length-le32, length-le64, length-spelled}
use Rattle.reg_journal.specs.Forms.{IsLineRequest}
use Rattle.reg_journal.specs.Requests.{IsTyped}
use Rattle.reg_journal.specs.declared.request.Request.{Request}
use Rattle.reg_journal.specs.declared.request.Request.TheVariants.{RadioRules, Element, IfaceAdd, IfaceDel, SetType, SetPower, Start, Stop, Check, IfaceInfo}
use Rattle.nl80211_cmds.specs.Commands.{command_number, family_number, family_of, fields_of}
use Rattle.nl80211_cmds.specs.Drafts.{command_of, told_by}
use Rattle.nl80211_cmds.specs.Fields.{chan_attrs, field_attrs, fields_attrs, power_attrs, profile_attrs, text_attr}
use Rattle.nl80211_cmds.specs.Requests.{flags_of, message_of}
use Rattle.nl80211_cmds.specs.Rules.{limit_attrs, limits_of, nested_limits, nested_rules}
use Rattle.nl80211_cmds.specs.Values.{band_bits, bit_of, iftype_number, number_attr, plain_attr, profile_bits}
use Rattle.nl80211_cmds.specs.declared.attribute.TheConstants.{BANDS, CONTEXTS, POWER, PROFILE_FLAGS, RADAR_MHZ, WIDTH_MHZ}
use Rattle.nl80211_cmds.specs.declared.command.Command.{Command}
use Rattle.nl80211_cmds.specs.declared.command.Command.TheVariants as commands
use Rattle.nl80211_cmds.specs.declared.draft.Draft.{Draft}
use Rattle.nl80211_cmds.specs.declared.field.Field.{Field}
use Rattle.nl80211_cmds.specs.declared.field.Field.TheVariants as fields
use Rattle.nl80211_cmds.specs.declared.limits.Limits.{Limits}
use Rattle.nl80211_cmds.proofs.RuleBytes.{limit_length}

-- ---- attributes

-- how many bytes attributes have
abbrev pub bytes_in : List Attr → ℕ
bytes_in attrs = length (attrs_bytes attrs)

pub bytes_in-append : (xs ys : List Attr) → bytes_in (xs ++ ys) ≡ bytes_in xs + bytes_in ys
bytes_in-append xs ys = ap (λ (l : List ℕ). length l) (flat_map-append attr_bytes xs ys) ∙ length-append (attrs_bytes xs) (attrs_bytes ys)

pub bytes_in-cons : (a : Attr) (attrs : List Attr) → bytes_in (a ∷ attrs) ≤ length a.payload + 7 + bytes_in attrs
bytes_in-cons a attrs = omega (arith, length-attr_bytes a, length-append (attr_bytes a) (attrs_bytes attrs))

pub least-cons : (a : Attr) (attrs : List Attr) → 4 + length a.payload + bytes_in attrs ≤ bytes_in (a ∷ attrs)
least-cons a attrs = omega (arith, length-attr_bytes a, length-append (attr_bytes a) (attrs_bytes attrs))

pub generic_length : (family flags seq pid cmd version : ℕ) (attrs : List Attr) → length (spelled (Generic family flags seq pid cmd version attrs)) ≡ 20 + bytes_in attrs
generic_length family flags seq pid cmd version attrs = length-spelled (Generic family flags seq pid cmd version attrs) ∙ omega arith

-- a message that has at most 65,536 bytes isn't refused as too long
pub not_overlong : (m : Msg) (n : ℕ) → length (spelled m) ≤ 65536 → IsEncodeFault m (encode_faults.Overlong n) → ⊥
not_overlong m n short (inr (all, (above, is))) = omega (arith, short, above)
not_overlong (Generic family flags seq pid cmd version attrs) n short (inl long) =
    let all = ap bytes_in long.joined in
    let parts = bytes_in-append long.before (long.long ∷ long.after) in
    let least = least-cons long.long long.after in
    let above = long.above in
    omega (arith, short, generic_length family flags seq pid cmd version attrs, all, parts, least, above)
not_overlong (Error flags seq pid code head) n short (inl long) = let all = ap (λ (l : List Attr). length l) long.joined in omega (arith, all, length-append long.before (long.long ∷ long.after))
not_overlong (Done flags seq pid code) n short (inl long) = let all = ap (λ (l : List Attr). length l) long.joined in omega (arith, all, length-append long.before (long.long ∷ long.after))

-- ---- fields

-- the lists of what a request says are short
record HasShortParts (d : Draft) : Type 0 where
  name : length d.name ≤ 15
  body : length d.body ≤ 255
  rules : length d.rules ≤ 32

pub number_bytes : (kind n : ℕ) → bytes_in (number_attr kind n ∷ []) ≡ 8
number_bytes kind n = omega (arith, length-attr_bytes (number_attr kind n), length-le32 n, length-append (attr_bytes (number_attr kind n)) [])

pub three_bytes : (a b c d e f : ℕ) → bytes_in (number_attr a b ∷ number_attr c d ∷ number_attr e f ∷ []) ≡ 24
three_bytes a b c d e f =
    omega (
      arith,
      bytes_in-append (number_attr a b ∷ []) (number_attr c d ∷ number_attr e f ∷ []),
      bytes_in-append (number_attr c d ∷ []) (number_attr e f ∷ []),
      number_bytes a b,
      number_bytes c d,
      number_bytes e f,
    )

pub limits_bytes : (kind : ℕ) (ls : List Limits) → bytes_in (nested_limits kind ls) ≤ 63 * length ls
limits_bytes kind [] = omega arith
limits_bytes kind (l ∷ ls) =
    omega (arith, limits_bytes (kind + 1) ls, bytes_in-cons (nested_with kind (attrs_bytes (limit_attrs l))) (nested_limits (kind + 1) ls), limit_length l)

pub power_bytes : (setting level : ℕ) (power : PowerSetting) → bytes_in (power_attrs setting level power) ≤ 16
power_bytes setting level Auto = omega (arith, number_bytes setting 0)
power_bytes setting level (Limit power) = omega (arith, number_bytes setting 1, number_bytes level power, bytes_in-append (number_attr setting 1 ∷ []) (number_attr level power ∷ []))
power_bytes setting level (Fixed power) = omega (arith, number_bytes setting 2, number_bytes level power, bytes_in-append (number_attr setting 2 ∷ []) (number_attr level power ∷ []))

pub chan_bytes : (frequency width centre : ℕ) (c : ChanDef) → bytes_in (chan_attrs frequency width centre c) ≡ 24
chan_bytes frequency width centre c = three_bytes frequency (c.control_khz / 1000) width (width_number c.width) centre (c.centre_khz / 1000)

pub profile_bytes : (p : Abilities) → bytes_in (profile_attrs p) ≡ 48
profile_bytes p =
    omega (
      arith,
      bytes_in-append (number_attr BANDS (band_bits p.bands) ∷ number_attr WIDTH_MHZ p.width_mhz ∷ number_attr RADAR_MHZ p.radar_mhz ∷ [])
          (number_attr POWER p.power_mbm ∷ number_attr CONTEXTS p.contexts ∷ number_attr PROFILE_FLAGS (profile_bits p) ∷ []),
      three_bytes BANDS (band_bits p.bands) WIDTH_MHZ p.width_mhz RADAR_MHZ p.radar_mhz,
      three_bytes POWER p.power_mbm CONTEXTS p.contexts PROFILE_FLAGS (profile_bits p),
    )

pub alone : (a : Attr) (n : ℕ) → length a.payload ≤ n → bytes_in (a ∷ []) ≤ n + 7
alone a n few = omega (arith, few, bytes_in-cons a [])

field_bytes : (field : Field) (d : Draft) → HasShortParts d → bytes_in (field_attrs field d) ≤ 2100
field_bytes (fields.Radio kind) d short = omega (arith, number_bytes kind d.radio)
field_bytes (fields.Name kind) d short = let few = short.name in omega (arith, alone (text_attr kind d.name) 16 (omega (arith, few, length-append d.name (0 ∷ []))))
field_bytes (fields.Kind kind) d short = omega (arith, number_bytes kind (iftype_number d.kind))
field_bytes (fields.Code kind) d short = omega (arith, alone (text_attr kind (d.alpha2.a ∷ d.alpha2.b ∷ [])) 3 (omega arith))
field_bytes (fields.Chan frequency width centre) d short = omega (arith, chan_bytes frequency width centre d.chan)
field_bytes (fields.PlainChan frequency width centre) d short = omega (arith, chan_bytes frequency width centre d.chan)
field_bytes (fields.Power setting level) d short = omega (arith, power_bytes setting level d.setting)
field_bytes (fields.Moment kind) d short = omega (arith, alone (plain_attr kind (le64 d.moment)) 8 (omega (arith, length-le64 d.moment)))
field_bytes (fields.Switch kind) d short = omega (arith, alone (plain_attr kind (bit_of d.on ∷ [])) 1 (omega arith))
field_bytes fields.Profile d short = omega (arith, profile_bytes d.profile)
field_bytes (fields.Rules kind) d short =
    let few = short.rules in
    omega (arith, alone (nested_with kind (attrs_bytes (nested_rules 0 d.rules))) 2016 (omega (arith, few, limits_bytes 0 (map limits_of d.rules), length-map d.rules limits_of)))
field_bytes (fields.Body kind) d short = omega (arith, alone (plain_attr kind d.body) 255 short.body)

fields_bytes : (list : List Field) (d : Draft) → HasShortParts d → bytes_in (fields_attrs list d) ≤ 2100 * length list
fields_bytes [] d short = omega arith
fields_bytes (field ∷ list) d short = omega (arith, field_bytes field d short, fields_bytes list d short, bytes_in-append (field_attrs field d) (fields_attrs list d))

few_fields : (command : Command) → length (fields_of command) ≤ 3
few_fields commands.GetReg = omega arith
few_fields command = omega arith

-- ---- requests

named : (d : Draft) → IsName d.name → d.body ≡ [] → d.rules ≡ [] → HasShortParts d
named d is bodiless none = record { name = is.few; body = rw bodiless (omega arith); rules = rw none (omega arith) }

short_parts : (q : Request) → IsTyped q → IsLineRequest q → HasShortParts (told_by q)
short_parts (RadioRules r rules) its_types said = record { name = omega arith; body = omega arith; rules = said.1 }
short_parts (Element r body) its_types said = record { name = omega arith; body = said.1; rules = omega arith }
short_parts (IfaceAdd r name kind) its_types said = named (told_by (IfaceAdd r name kind)) its_types.1 refl refl
short_parts (IfaceDel name) its_types said = named (told_by (IfaceDel name)) its_types refl refl
short_parts (SetType name kind) its_types said = named (told_by (SetType name kind)) its_types refl refl
short_parts (SetPower name setting) its_types said = named (told_by (SetPower name setting)) its_types.0 refl refl
short_parts (Start name kind c) its_types said = named (told_by (Start name kind c)) its_types.0 refl refl
short_parts (Stop name kind) its_types said = named (told_by (Stop name kind)) its_types refl refl
short_parts (Check name c) its_types said = named (told_by (Check name c)) its_types.0 refl refl
short_parts (IfaceInfo name) its_types said = named (told_by (IfaceInfo name)) its_types refl refl
short_parts q its_types said = record { name = omega arith; body = omega arith; rules = omega arith }

-- the message of a request that a line can ask is short
pub message_short : (q : Request) (seq : ℕ) → IsTyped q → IsLineRequest q → length (spelled (message_of q seq)) ≤ 65536
message_short q seq its_types said =
    omega (
      arith,
      generic_length (family_number (family_of (command_of q))) (flags_of (command_of q)) seq 0 (command_number (command_of q)) 0 (fields_attrs (fields_of (command_of q)) (told_by q)),
      fields_bytes (fields_of (command_of q)) (told_by q) (short_parts q its_types said),
      few_fields (command_of q),
    )

-- so it isn't refused as too long
pub not_refused : (m : Msg) (q : Request) (seq n : ℕ) (fault : EncodeFault) → m ≡ message_of q seq → IsTyped q → IsLineRequest q → fault ≡ encode_faults.Overlong n → IsEncodeFault m fault → ⊥
not_refused m q seq n fault is its_types said long refused =
    not_overlong m n (subst (λ (x : Msg). length (spelled x) ≤ 65536) (sym is) (message_short q seq its_types said)) (subst (λ (f : EncodeFault). IsEncodeFault m f) long refused)
