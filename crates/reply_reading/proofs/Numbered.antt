-- Values are those of their numbers.
use Rattle.std.proofs.Common.{◌≡◌, ℕ, ◌+◌, ◌*◌, ◌/◌, ◌%◌, ◌^◌, ◌<◌, ◌≤◌, ◌==◌, Bool, true, false, cond, ap, refl, sym, ◌∙◌, arith}
use Rattle.std.proofs.lemmas.Bool.{lt-ltb}
use Rattle.freq_range.specs.declared.flags.RuleFlags.{RuleFlags}
use Rattle.rule_tables.specs.declared.code.Region.{Region}
use Rattle.rule_tables.specs.declared.code.Region.TheVariants.{Unset, Fcc, Etsi, Jp}
use Rattle.rule_tables.specs.Regions.{region_number}
use Rattle.chan_def.specs.Covered.{width_number}
use Rattle.chan_def.specs.declared.kind.Kind.{Kind}
use Rattle.chan_def.specs.declared.kind.Kind.TheVariants.{Ap, Ibss, Mesh, Station, Monitor}
use Rattle.chan_def.specs.declared.width.Width.{Width}
use Rattle.chan_def.specs.declared.width.Width.TheVariants.{Noht, W20, W40, W80, W160, W320}
use Rattle.chan_flags.specs.declared.profile.Bands.{Bands}
use Rattle.reg_journal.specs.Forms.{IsWholeMhz}
use Rattle.nl80211_cmds.specs.Rules.{flag_bits}
use Rattle.nl80211_cmds.specs.Values.{band_bits, bit_of, iftype_number}
use Rattle.nl80211_cmds.proofs.OneRule.{flags_are}
use Rattle.reply_reading.specs.inner.Values.{bands_numbered, below, flags_numbered, khz_of, kind_numbered, region_numbered, width_numbered}

-- ---- numbers

pub below_is : (limit n m : ℕ) → m < limit → n ≡ m → below limit n ≡ m
below_is limit n m lt e = ap (below limit) e ∙ ap (λ (b : Bool). cond b m 0) (lt-ltb m limit lt)

pub khz_is : (n khz : ℕ) → khz < 2 ^ 32 → IsWholeMhz khz → n ≡ khz / 1000 → khz_of n ≡ khz
khz_is n khz lt whole e =
    let back : 1000 * (khz / 1000) ≡ khz = omega (arith, whole) in
    ap khz_of e ∙ ap (λ (b : Bool). cond b (1000 * (khz / 1000)) 0) (lt-ltb (khz / 1000) 4294968 (omega arith)) ∙ back

pub radio_is : (n r : ℕ) → r ≤ 7 → n ≡ r → n % 8 ≡ r
radio_is n r le e = omega arith

-- ---- enums

pub kind_again : (kind : Kind) → kind_numbered (iftype_number kind) ≡ kind
kind_again Ap = refl
kind_again Ibss = refl
kind_again Mesh = refl
kind_again Station = refl
kind_again Monitor = refl

pub width_again : (width : Width) → width_numbered (width_number width) ≡ width
width_again Noht = refl
width_again W20 = refl
width_again W40 = refl
width_again W80 = refl
width_again W160 = refl
width_again W320 = refl

pub region_again : (region : Region) → region_numbered (region_number region) ≡ region
region_again Unset = refl
region_again Fcc = refl
region_again Etsi = refl
region_again Jp = refl

pub iftype_small : (kind : Kind) → iftype_number kind < 2 ^ 32
iftype_small Ap = omega arith
iftype_small Ibss = omega arith
iftype_small Mesh = omega arith
iftype_small Station = omega arith
iftype_small Monitor = omega arith

pub width_small : (width : Width) → width_number width < 2 ^ 32
width_small Noht = omega arith
width_small W20 = omega arith
width_small W40 = omega arith
width_small W80 = omega arith
width_small W160 = omega arith
width_small W320 = omega arith

-- ---- bits

pub flags_again : (f : RuleFlags) → flags_numbered (flag_bits f) ≡ f
flags_again f = sym (flags_are f (flag_bits f) refl)

pub bit_small : (b : Bool) → bit_of b ≤ 1
bit_small true = omega arith
bit_small false = omega arith

pub flags_small : (f : RuleFlags) → flag_bits f < 2 ^ 32
flags_small f = omega (arith, bit_small f.no_ofdm, bit_small f.no_outdoor, bit_small f.dfs, bit_small f.no_ir, bit_small f.auto_bw)

bands_by : (a b c : Bool) → bands_numbered (bit_of a + 2 * bit_of b + 4 * bit_of c) ≡ record { ghz2 = a; ghz5 = b; ghz6 = c }
bands_by true true true = refl
bands_by true true false = refl
bands_by true false true = refl
bands_by true false false = refl
bands_by false true true = refl
bands_by false true false = refl
bands_by false false true = refl
bands_by false false false = refl

pub bands_again : (b : Bands) → bands_numbered (band_bits b) ≡ b
bands_again b = bands_by b.ghz2 b.ghz5 b.ghz6

pub bands_small : (b : Bands) → band_bits b < 2 ^ 32
bands_small b = omega (arith, bit_small b.ghz2, bit_small b.ghz5, bit_small b.ghz6)

pub first_bit : (a b : Bool) → ((bit_of a + 2 * bit_of b) % 2 == 1) ≡ a
first_bit true true = refl
first_bit true false = refl
first_bit false true = refl
first_bit false false = refl

pub second_bit : (a b : Bool) → ((bit_of a + 2 * bit_of b) / 2 % 2 == 1) ≡ b
second_bit true true = refl
second_bit true false = refl
second_bit false true = refl
second_bit false false = refl

pub two_small : (a b : Bool) → bit_of a + 2 * bit_of b < 2 ^ 32
two_small a b = omega (arith, bit_small a, bit_small b)
