-- The attributes of dumps fit their fields.
use Rattle.std.proofs.Common.{◌≡◌, ℕ, ◌+◌, ◌/◌, ◌<◌, ◌≤◌, List, [], ◌∷◌, ◌++◌, length, map, drop, get_or, All, Contains, ap, ◌∙◌, append_assoc, arith, refl, subst, sym}
use Rattle.std.proofs.lemmas.List.{drop_more, length-append}
use Rattle.std.proofs.lemmas.List.Elements.{All-append, All-cons, All-contains, All-head, All-nil, All-tail, Contains-append_right}
use Rattle.chan_def.specs.Covered.{width_number}
use Rattle.chan_def.specs.declared.definition.ChanDef.{ChanDef}
use Rattle.chan_def.specs.declared.kind.Kind.{Kind}
use Rattle.chan_flags.specs.Profiles.{Abilities}
use Rattle.nl_attrs.specs.Attributes.{attr_bytes, attrs_bytes}
use Rattle.nl_attrs.specs.Overlong.{IsFirstLong}
use Rattle.nl_attrs.specs.declared.attr.Attr.{Attr}
use Rattle.nl_attrs.proofs.Lengths.{length-attr_bytes, length-le32, length-le64}
use Rattle.radio_drv.specs.Names.{IsName}
use Rattle.reg_journal.specs.declared.report.IfaceState.{IfaceState}
use Rattle.reg_journal.specs.declared.report.IfaceState.TheVariants.{Idle, Checking, Running}
use Rattle.nl80211_cmds.specs.Fields.{chan_attrs, profile_attrs, text_attr}
use Rattle.nl80211_cmds.specs.Values.{band_bits, iftype_number, number_attr, profile_bits}
use Rattle.nl80211_cmds.specs.declared.attribute.TheConstants.{BANDS, CENTRE, CONTEXTS, FREQ, POWER, PROFILE_FLAGS, RADAR_MHZ, WIDTH, WIDTH_MHZ}
use Rattle.nl80211_replies.specs.Dumps.{iface_attr, state_attrs}
use Rattle.nl80211_replies.specs.Plain.{wide_attr}
use Rattle.nl80211_replies.specs.declared.attribute.TheConstants.{KIND, NAME, STATE}
use Rattle.nl80211_replies.specs.inner.Fitting.{FitsField, HasName}

number_fits : (kind n : ℕ) → kind < 16384 → FitsField (number_attr kind n)
number_fits kind n lt = (lt, omega (arith, length-le32 n))

wide_fits : (n : ℕ) → FitsField (wide_attr n)
wide_fits n = (omega arith, omega (arith, length-le64 n))

text_fits : (kind : ℕ) (text : List ℕ) → kind < 16384 → length text ≤ 15 → FitsField (text_attr kind text)
text_fits kind text lt few = (lt, omega (arith, few, length-append text (0 ∷ [])))

three_fit : (a b c : Attr) → FitsField a → FitsField b → FitsField c → All FitsField (a ∷ b ∷ c ∷ [])
three_fit a b c fa fb fc = All-cons FitsField a (b ∷ c ∷ []) fa (All-cons FitsField b (c ∷ []) fb (All-cons FitsField c [] fc (All-nil FitsField)))

-- ---- an interface of a radio

pub iface_fits : (name : List ℕ) (index number : ℕ) → IsName name → All FitsField (text_attr NAME name ∷ wide_attr index ∷ number_attr KIND number ∷ [])
iface_fits name index number is = three_fit (text_attr NAME name) (wide_attr index) (number_attr KIND number) (text_fits NAME name (omega arith) is.few) (wide_fits index) (number_fits KIND number (omega arith))

three_short : (a b c : Attr) → length a.payload ≤ 16 → length b.payload ≤ 16 → length c.payload ≤ 16 → length (attrs_bytes (a ∷ b ∷ c ∷ [])) ≤ 65531
three_short a b c la lb lc =
    let ea = length-attr_bytes a in let eb = length-attr_bytes b in let ec = length-attr_bytes c in
    simp length-append (omega (arith, la, lb, lc, ea, eb, ec))

iface_attr_fits : (x : List ℕ × ℕ × Kind) → IsName x.0 → FitsField (iface_attr x)
iface_attr_fits (name, index, kind) is =
    (omega arith, three_short (text_attr NAME name) (wide_attr index) (number_attr KIND (iftype_number kind)) (omega (arith, is.few, length-append name (0 ∷ []))) (omega (arith, length-le64 index)) (omega (arith, length-le32 (iftype_number kind))))

ifaces_fit : (xs : List (List ℕ × ℕ × Kind)) → All HasName xs → All FitsField (map iface_attr xs)
ifaces_fit [] named = All-nil FitsField
ifaces_fit (x ∷ xs) named = All-cons FitsField (iface_attr x) (map iface_attr xs) (iface_attr_fits x (All-head HasName x xs named)) (ifaces_fit xs (All-tail HasName x xs named))

-- ---- a radio

profile_fits : (p : Abilities) → All FitsField (profile_attrs p)
profile_fits p =
    All-append FitsField (number_attr BANDS (band_bits p.bands) ∷ number_attr WIDTH_MHZ p.width_mhz ∷ number_attr RADAR_MHZ p.radar_mhz ∷ [])
    (number_attr POWER p.power_mbm ∷ number_attr CONTEXTS p.contexts ∷ number_attr PROFILE_FLAGS (profile_bits p) ∷ [])
    (three_fit (number_attr BANDS (band_bits p.bands)) (number_attr WIDTH_MHZ p.width_mhz) (number_attr RADAR_MHZ p.radar_mhz) (number_fits BANDS (band_bits p.bands) (omega arith)) (number_fits WIDTH_MHZ p.width_mhz (omega arith))
    (number_fits RADAR_MHZ p.radar_mhz (omega arith)))
    (three_fit (number_attr POWER p.power_mbm) (number_attr CONTEXTS p.contexts) (number_attr PROFILE_FLAGS (profile_bits p)) (number_fits POWER p.power_mbm (omega arith)) (number_fits CONTEXTS p.contexts (omega arith))
    (number_fits PROFILE_FLAGS (profile_bits p) (omega arith)))

pub radio_fits : (p : Abilities) (xs : List (List ℕ × ℕ × Kind)) → All HasName xs → All FitsField (profile_attrs p ++ map iface_attr xs)
radio_fits p xs named = All-append FitsField (profile_attrs p) (map iface_attr xs) (profile_fits p) (ifaces_fit xs named)

-- ---- what an interface does

chan_fits : (c : ChanDef) → All FitsField (chan_attrs FREQ WIDTH CENTRE c)
chan_fits c =
    three_fit (number_attr FREQ (c.control_khz / 1000)) (number_attr WIDTH (width_number c.width)) (number_attr CENTRE (c.centre_khz / 1000)) (number_fits FREQ (c.control_khz / 1000) (omega arith)) (number_fits WIDTH (width_number c.width) (omega arith))
    (number_fits CENTRE (c.centre_khz / 1000) (omega arith))

used_fits : (state n : ℕ) (c : ChanDef) → All FitsField (number_attr STATE state ∷ chan_attrs FREQ WIDTH CENTRE c ++ wide_attr n ∷ [])
used_fits state n c =
    All-cons FitsField (number_attr STATE state) (chan_attrs FREQ WIDTH CENTRE c ++ wide_attr n ∷ []) (number_fits STATE state (omega arith))
    (All-append FitsField (chan_attrs FREQ WIDTH CENTRE c) (wide_attr n ∷ []) (chan_fits c) (All-cons FitsField (wide_attr n) [] (wide_fits n) (All-nil FitsField)))

pub state_fits : (state : IfaceState) → All FitsField (state_attrs state)
state_fits Idle = All-cons FitsField (number_attr STATE 0) [] (number_fits STATE 0 (omega arith)) (All-nil FitsField)
state_fits (Checking chan until) = used_fits 1 until chan
state_fits (Running chan power) = used_fits 2 power chan

-- ---- nothing is too long

pub none_long : (attrs : List Attr) (n : ℕ) → All FitsField attrs → IsFirstLong attrs n → ⊥
none_long attrs n fit is =
    let fits = All-contains FitsField attrs is.long fit (subst (λ xs. Contains xs is.long) (sym is.joined) (Contains-append_right is.before (is.long ∷ is.after) is.long (0, omega arith, refl))) in
    let short = fits.1 in
    omega (arith, short, is.above)

-- ---- one element more

pub more_mapped : {X Y : Type 0} (f : X → Y) (xs : List X) (i : ℕ) (x : X) (old new whole : List Y) → i < length xs → x ≡ get_or xs i x → new ≡ old ++ f x ∷ []
    → old ++ map f (drop i xs) ≡ whole → new ++ map f (drop (i + 1) xs) ≡ whole
more_mapped f xs i x old new whole below is grown so =
    ap (λ ys. ys ++ map f (drop (i + 1) xs)) grown ∙ append_assoc old (f x ∷ []) (map f (drop (i + 1) xs))
    ∙ ap (λ zs. old ++ map f zs) (sym (drop_more xs i x below ∙ ap (λ y. y ∷ drop (i + 1) xs) (sym is))) ∙ so
