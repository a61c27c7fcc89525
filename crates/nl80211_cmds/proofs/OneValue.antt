-- Attributes tell one value.
use Rattle.std.proofs.Common.{◌≡◌, ℕ, ◌+◌, ◌*◌, ◌/◌, ◌%◌, ◌^◌, ◌<◌, ◌≤◌, ◌==◌, Bool, true, false, cond, List, [], ◌∷◌, ◌++◌, length, get_or, Option, None, Some, refl, sym, ap, ◌∙◌, inl, inr, arith}
use Rattle.std.proofs.lemmas.List.{append_cancel_right, length-append}
use Rattle.std.proofs.lemmas.Option.{same_Some}
use Rattle.rule_tables.specs.declared.code.Alpha2.{Alpha2}
use Rattle.chan_def.specs.Covered.{width_number}
use Rattle.chan_def.specs.declared.definition.ChanDef.{ChanDef}
use Rattle.chan_def.specs.declared.kind.Kind.{Kind}
use Rattle.chan_def.specs.declared.kind.Kind.TheVariants.{Ap, Ibss, Mesh, Station, Monitor}
use Rattle.chan_def.specs.declared.width.Width.{Width}
use Rattle.chan_def.specs.declared.width.Width.TheVariants.{Noht, W20, W40, W80, W160, W320}
use Rattle.chan_flags.specs.Profiles.{Abilities}
use Rattle.chan_flags.specs.declared.profile.Bands.{Bands}
use Rattle.chan_flags.specs.declared.verdict.PowerSetting.{PowerSetting}
use Rattle.chan_flags.specs.declared.verdict.PowerSetting.TheVariants.{Auto, Limit, Fixed}
use Rattle.nl_attrs.specs.Endian.{le32, le64}
use Rattle.nl_attrs.specs.Payloads.{IsZeroFree, Tells}
use Rattle.nl_attrs.specs.declared.attr.Attr.{Attr}
use Rattle.nl_attrs.proofs.ReadNumbers.{read32, read64}
use Rattle.nl80211_cmds.specs.Values.{band_bits, bit_of, iftype_number, profile_bits, TellsNumber, TellsName, TellsCode, TellsKind, TellsMoment, TellsSwitch, TellsWidth, TellsCentre, TellsChan, TellsPower, TellsAbilities, TellsProfile, TellsBody}

-- ---- numbers

pub same_le32 : (m n : ℕ) → m < 2 ^ 32 → n < 2 ^ 32 → le32 m ≡ le32 n → m ≡ n
same_le32 m n m_fits n_fits e = sym (read32 (le32 m) m m_fits refl) ∙ read32 (le32 m) n n_fits e

pub same_le64 : (m n : ℕ) → m < 2 ^ 64 → n < 2 ^ 64 → le64 m ≡ le64 n → m ≡ n
same_le64 m n m_fits n_fits e = sym (read64 (le64 m) m m_fits refl) ∙ read64 (le64 m) n n_fits e

pub one_number : (payload : Option (List ℕ)) (least most m n : ℕ) → most < 2 ^ 32 → TellsNumber payload least most m → TellsNumber payload least most n → m ≡ n
one_number payload least most m n fits one two =
    same_le32 m n (omega (arith, one.most_is)) (omega (arith, two.most_is)) (same_Some (le32 m) (le32 n) (sym one.told ∙ two.told))

-- ---- texts

last_of : (front : List ℕ) → get_or (front ++ 0 ∷ []) (length front) 1 ≡ 0
last_of [] = refl
last_of (x ∷ front) = last_of front

no_zero_end : (text front : List ℕ) → IsZeroFree text → text ≡ front ++ 0 ∷ [] → ⊥
no_zero_end text front is e =
    is (length front) 1 (omega (arith, ap length e, length-append front (0 ∷ []))) (ap (λ (x : List ℕ). get_or x (length front) 1) e ∙ last_of front)

pub same_text : (p t u : List ℕ) → Tells p t → Tells p u → t ≡ u
same_text p t u one two =
    elim one.1 [
      | inl zero ↦
          elim two.1 [
            | inl other ↦ append_cancel_right t u (0 ∷ []) (sym zero ∙ other)
            | inr bare ↦ absurd (no_zero_end u t two.0 (sym bare ∙ zero))
          ]
      | inr bare ↦
          elim two.1 [
            | inl zero ↦ absurd (no_zero_end t u one.0 (sym bare ∙ zero))
            | inr other ↦ sym bare ∙ other
          ]
    ]

pub one_name : (payload : Option (List ℕ)) (t u : List ℕ) → TellsName payload t → TellsName payload u → t ≡ u
one_name None t u one two = absurd one.told
one_name (Some p) t u one two = same_text p t u one.told two.told

same_code : (c d : Alpha2) → c.a ∷ c.b ∷ [] ≡ d.a ∷ d.b ∷ [] → c ≡ d
same_code c d e =
    let first : c.a ≡ d.a = ap (λ (x : List ℕ). get_or x 0 0) e in
    let second : c.b ≡ d.b = ap (λ (x : List ℕ). get_or x 1 0) e in
    λ i. record { a = first i; b = second i }

pub one_code : (payload : Option (List ℕ)) (c d : Alpha2) → TellsCode payload c → TellsCode payload d → c ≡ d
one_code None c d one two = absurd one.told
one_code (Some p) c d one two = same_code c d (same_text p (c.a ∷ c.b ∷ []) (d.a ∷ d.b ∷ []) one.told two.told)

-- ---- kinds and other small values

kind_by : ℕ → Kind
kind_by n = cond (n == 1) Ibss (cond (n == 2) Station (cond (n == 3) Ap (cond (n == 6) Monitor Mesh)))

kind_again : (kind : Kind) → kind_by (iftype_number kind) ≡ kind
unfolding kind_by
kind_again Ap = refl
kind_again Ibss = refl
kind_again Mesh = refl
kind_again Station = refl
kind_again Monitor = refl

pub one_kind : (payload : Option (List ℕ)) (k l : Kind) → TellsKind payload k → TellsKind payload l → k ≡ l
one_kind payload k l one two =
    sym (kind_again k) ∙ ap kind_by (one_number payload 0 7 (iftype_number k) (iftype_number l) (omega arith) one two) ∙ kind_again l

pub one_moment : (payload : Option (List ℕ)) (m n : ℕ) → TellsMoment payload m → TellsMoment payload n → m ≡ n
one_moment payload m n one two = same_le64 m n one.fits two.fits (same_Some (le64 m) (le64 n) (sym one.told ∙ two.told))

pub same_bit : (a b : Bool) → bit_of a ≡ bit_of b → a ≡ b
same_bit true true e = refl
same_bit true false e = absurd (omega (arith, e))
same_bit false true e = absurd (omega (arith, e))
same_bit false false e = refl

pub bit-le : (a : Bool) → bit_of a ≤ 1
bit-le true = omega arith
bit-le false = omega arith

pub one_switch : (payload : Option (List ℕ)) (a b : Bool) → TellsSwitch payload a → TellsSwitch payload b → a ≡ b
one_switch payload a b one two =
    same_bit a b (ap (λ (x : List ℕ). get_or x 0 0) (same_Some (bit_of a ∷ []) (bit_of b ∷ []) (sym one ∙ two)))

pub one_body : (payload : Option (List ℕ)) (a b : List ℕ) → TellsBody payload a → TellsBody payload b → a ≡ b
one_body payload a b one two = same_Some a b (sym one.told ∙ two.told)

-- ---- channels

width_by : ℕ → Width
width_by n = cond (n == 0) Noht (cond (n == 1) W20 (cond (n == 2) W40 (cond (n == 3) W80 (cond (n == 5) W160 W320))))

width_again : (width : Width) → width_by (width_number width) ≡ width
unfolding width_by
width_again Noht = refl
width_again W20 = refl
width_again W40 = refl
width_again W80 = refl
width_again W160 = refl
width_again W320 = refl

pub one_width : (payload : Option (List ℕ)) (v w : Width) → TellsWidth payload v → TellsWidth payload w → v ≡ w
one_width None v w one two = one ∙ sym two
one_width (Some p) v w one two =
    sym (width_again v) ∙ ap width_by (one_number (Some p) 0 13 (width_number v) (width_number w) (omega arith) one two) ∙ width_again w

pub one_centre : (payload : Option (List ℕ)) (v w : Width) (m n a b : ℕ) → m ≡ n → TellsCentre payload v m a → TellsCentre payload w n b → a ≡ b
one_centre None v w m n a b e one two = one.1 ∙ e ∙ sym two.1
one_centre (Some p) v w m n a b e one two = one_number (Some p) 1 100000 a b (omega arith) one.0 two.0

same_chan : (c d : ChanDef) → c.control_khz ≡ d.control_khz → c.width ≡ d.width → c.centre_khz ≡ d.centre_khz → c ≡ d
same_chan c d control width middle = λ i. record { control_khz = control i; width = width i; centre_khz = middle i }

pub one_chan : (frequency width centre : Option (List ℕ)) (c d : ChanDef) → TellsChan frequency width centre c → TellsChan frequency width centre d → c ≡ d
one_chan frequency width centre c d one two =
    let mhz = one_number frequency 1 100000 one.mhz two.mhz (omega arith) one.frequency_is two.frequency_is in
    let middle = one_centre centre c.width d.width one.mhz two.mhz one.centre_mhz two.centre_mhz mhz one.centre_is two.centre_is in
    same_chan c d (one.control ∙ ap (λ (n : ℕ). 1000 * n) mhz ∙ sym two.control) (one_width width c.width d.width one.width_is two.width_is)
    (one.middle ∙ ap (λ (n : ℕ). 1000 * n) middle ∙ sym two.middle)

-- ---- powers

pub one_power : (setting level : Option (List ℕ)) (a b : PowerSetting) → TellsPower setting level a → TellsPower setting level b → a ≡ b
one_power setting level Auto Auto one two = refl
one_power setting level Auto (Limit q) one two = absurd (omega (arith, one_number setting 0 2 0 1 (omega arith) one two.0))
one_power setting level Auto (Fixed q) one two = absurd (omega (arith, one_number setting 0 2 0 2 (omega arith) one two.0))
one_power setting level (Limit p) Auto one two = absurd (omega (arith, one_number setting 0 2 1 0 (omega arith) one.0 two))
one_power setting level (Limit p) (Limit q) one two = ap Limit (one_number level 0 65535 p q (omega arith) one.1 two.1)
one_power setting level (Limit p) (Fixed q) one two = absurd (omega (arith, one_number setting 0 2 1 2 (omega arith) one.0 two.0))
one_power setting level (Fixed p) Auto one two = absurd (omega (arith, one_number setting 0 2 2 0 (omega arith) one.0 two))
one_power setting level (Fixed p) (Limit q) one two = absurd (omega (arith, one_number setting 0 2 2 1 (omega arith) one.0 two.0))
one_power setting level (Fixed p) (Fixed q) one two = ap Fixed (one_number level 0 65535 p q (omega arith) one.1 two.1)

-- ---- profiles

-- three bits of a number
bits_of : (a b c : Bool) (n : ℕ) → bit_of a + 2 * bit_of b + 4 * bit_of c ≡ n → (bit_of a ≡ n % 2) × (bit_of b ≡ n / 2 % 2) × (bit_of c ≡ n / 4)
bits_of a b c n e =
    (omega (arith, e, bit-le a, bit-le b, bit-le c), omega (arith, e, bit-le a, bit-le b, bit-le c), omega (arith, e, bit-le a, bit-le b, bit-le c))

pub same_bands : (a b : Bands) → band_bits a ≡ band_bits b → a ≡ b
same_bands a b e =
    let one = bits_of a.ghz2 a.ghz5 a.ghz6 (band_bits b) e in
    let two = bits_of b.ghz2 b.ghz5 b.ghz6 (band_bits b) refl in
    let first = same_bit a.ghz2 b.ghz2 (one.0 ∙ sym two.0) in
    let second = same_bit a.ghz5 b.ghz5 (one.1 ∙ sym two.1) in
    let third = same_bit a.ghz6 b.ghz6 (one.2 ∙ sym two.2) in
    λ i. record { ghz2 = first i; ghz5 = second i; ghz6 = third i }

same_abilities : (p q : Abilities) → p.bands ≡ q.bands → p.width_mhz ≡ q.width_mhz → p.radar_mhz ≡ q.radar_mhz → p.power_mbm ≡ q.power_mbm → p.contexts ≡ q.contexts → p.self_managed ≡ q.self_managed → p.deaf ≡ q.deaf → p ≡ q
same_abilities p q bands width radar power contexts self deaf =
    λ i. record { bands = bands i; width_mhz = width i; radar_mhz = radar i; power_mbm = power i; contexts = contexts i; self_managed = self i; deaf = deaf i }

pub flag_bits : (a b : Bool) (n : ℕ) → bit_of a + 2 * bit_of b ≡ n → (bit_of a ≡ n % 2) × (bit_of b ≡ n / 2)
flag_bits a b n e = (omega (arith, e, bit-le a, bit-le b), omega (arith, e, bit-le a, bit-le b))

pub one_abilities : (attrs : List Attr) (p q : Abilities) → TellsAbilities attrs p → TellsAbilities attrs q → p ≡ q
one_abilities attrs p q one two =
    let flags = one_number _ 0 3 (profile_bits p) (profile_bits q) (omega arith) one.flags two.flags in
    let left = flag_bits p.self_managed p.deaf (profile_bits q) flags in
    let right = flag_bits q.self_managed q.deaf (profile_bits q) refl in
    same_abilities p q (same_bands p.bands q.bands (one_number _ 0 7 (band_bits p.bands) (band_bits q.bands) (omega arith) one.bands two.bands))
    (one_number _ 0 65535 p.width_mhz q.width_mhz (omega arith) one.width two.width)
    (one_number _ 0 65535 p.radar_mhz q.radar_mhz (omega arith) one.radar two.radar)
    (one_number _ 0 65535 p.power_mbm q.power_mbm (omega arith) one.power two.power)
    (one_number _ 0 255 p.contexts q.contexts (omega arith) one.contexts two.contexts)
    (same_bit p.self_managed q.self_managed (left.0 ∙ sym right.0)) (same_bit p.deaf q.deaf (left.1 ∙ sym right.1))

pub one_profile : (attrs : List Attr) (p q : Abilities) → TellsProfile attrs p → TellsProfile attrs q → p ≡ q
one_profile attrs p q one two = one_abilities attrs p q one.numbers two.numbers
