-- The words that are printed at slots: that they are words of at most so many bytes, and what they tell.
use Rattle.std.proofs.Common.{◌≡◌, ℕ, ◌+◌, ◌/◌, ◌%◌, ◌^◌, ◌<◌, ◌≤◌, inl, inr, Bool, true, false, ◌&&◌, ◌||◌, List, [], ◌∷◌, ◌++◌, length, refl, ◌∙◌, arith}
use Rattle.std.specs.Prelude.{codes, decimal, nat_le, ◌==◌}
use Rattle.std.specs.List.{list_all}
use Rattle.std.proofs.lemmas.Bool.{and_parts, leb-true}
use Rattle.std.proofs.lemmas.Bool.Decides.{nat_tests}
use Rattle.std.proofs.lemmas.Fmt.{decimal_by_steps, decimal_nonempty, length-decimal-le}
use Rattle.std.proofs.lemmas.List.{length-append}
use Rattle.std.proofs.lemmas.List.Folds.{list_all-append}
use Rattle.std.proofs.lemmas.List.Sums.{list_all-from_AllPass}
use Rattle.std.proofs.lemmas.List.Elements.{All-weaker}
use Rattle.freq_range.specs.declared.rule.Rule.{Rule}
use Rattle.chan_def.specs.Covered.{width_khz}
use Rattle.chan_def.specs.declared.kind.Kind.{Kind}
use Rattle.chan_def.specs.declared.kind.Kind.TheVariants.{Ap, Ibss, Mesh, Station, Monitor}
use Rattle.chan_def.specs.declared.width.Width.{Width}
use Rattle.chan_def.specs.declared.width.Width.TheVariants.{Noht, W20, W40, W80, W160, W320}
use Rattle.chan_flags.specs.Profiles.{is_width}
use Rattle.radio_drv.specs.Names.{IsName, IsVisible}
use Rattle.rule_tables.specs.Code.{IsCode}
use Rattle.rule_tables.specs.declared.code.Alpha2.{Alpha2}
use Rattle.iw_dumps.specs.Spelling.{band_numbers, code_text, kind_text, radio_text}
use Rattle.line_forms.specs.Slots.{fixed_text}
use Rattle.line_forms.specs.Spelling.{IsHexWord, is_hex_digit}
use Rattle.line_forms.specs.Told.{Told}
use Rattle.line_forms.specs.declared.slot.Slot.{Slot}
use Rattle.line_forms.specs.declared.slot.Slot.TheVariants.{Fixed, Moment, Radio, Bands as OfBands, Width as OfWidth, RadarWidth, MostPower, Contexts, Rules, Hex, Code, Mhz, ChannelNo, WordForm, Twenty, Wide, Centre, Name, OfKind, Power, Ssid, Interval, Dtim}
use Rattle.line_forms.specs.declared.slot.Word.{Word}
use Rattle.line_forms.specs.declared.slot.Word.TheVariants.{At, RadioOf, Add, Del, RulesOf, BandsOf, WidthOf, RadarOf, PowerOf, ContextsOf, SelfManaged, Deaf, Element, Driver, Indoor, On, Off, Iw, Reg, Get, Set, Phy, Info, Channels, Interface, TypeOf, Dev, FreqOf, ChannelOf, TxPower, Auto, Limit, FixedAt, Cac, Trigger, Ap as OfAp, Start, Stop, Head, Ibss as OfIbss, Join, Leave, Mesh as OfMesh, Connect, Disconnect}
use Rattle.line_printing.specs.Printed.{text_at}
use Rattle.line_printing.proofs.JoinedWords.{IsSolid, both, shows}
use Rattle.line_printing.proofs.ToldParts.{IsTold}

-- a word of at most so many bytes, all of which show
pub record Prints (word : List ℕ) (n : ℕ) : Type 0 where
  pub solid : IsSolid word
  pub short : length word ≤ n

-- the words at the slot have at most so many bytes
abbrev pub most : Slot → ℕ
most Hex = 510
most s = 20

-- a form with this slot isn't printed so
abbrev pub is_word_slot : Slot → Bool
is_word_slot Rules = false
is_word_slot ChannelNo = false
is_word_slot s = true

-- ---- numbers

digit-shows : (d : ℕ) → d < 10 → shows (48 + d) ≡ true
digit-shows d low = grind (arith, nat_tests)

Digits : ℕ → List ℕ → Type 0
Digits n ds = list_all shows ds ≡ true

digits-one : (n : ℕ) → n < 10 → Digits n ((48 + n) ∷ [])
unfolding Digits
digits-one n low = both (shows (48 + n)) true (digit-shows n low) refl

digits-more : (n : ℕ) (ds : List ℕ) → 10 ≤ n → Digits (n / 10) ds → Digits n (ds ++ (48 + n % 10) ∷ [])
unfolding Digits
digits-more n ds high is =
    list_all-append shows ds ((48 + n % 10) ∷ []) ∙ both (list_all shows ds) (list_all shows ((48 + n % 10) ∷ [])) is (digits-one (n % 10) (omega arith))

pub decimal-shows : (n : ℕ) → n < 2 ^ 64 → list_all shows (decimal n) ≡ true
unfolding Digits
decimal-shows n small = decimal_by_steps Digits digits-one digits-more n small

pub prints-decimal : (n : ℕ) → n < 2 ^ 64 → Prints (decimal n) 20
prints-decimal n small = record {
  solid = record { some = decimal_nonempty n small; shown = decimal-shows n small };
  short = length-decimal-le 20 n (omega arith) (omega arith) small;
}

pub prints-radio : (r : ℕ) → r ≤ 7 → Prints (radio_text r) 20
prints-radio r few =
    let small : r < 2 ^ 64 = omega arith in
    let short : length (decimal r) ≤ 2 = length-decimal-le 2 r (omega arith) (omega arith) small in
    record {
      solid = record { some = omega arith; shown = list_all-append shows (codes "phy") (decimal r) ∙ both (list_all shows (codes "phy")) (list_all shows (decimal r)) refl (decimal-shows r small) };
      short = let len = length-append (codes "phy") (decimal r) in omega (arith, len, short);
    }

-- ---- words of a few values

prints-bands : (a b c : Bool) → (a || b || c) ≡ true → Prints (band_numbers a b c) 20
prints-bands true true true some = record { solid = record { some = omega arith; shown = refl }; short = omega arith }
prints-bands true true false some = record { solid = record { some = omega arith; shown = refl }; short = omega arith }
prints-bands true false true some = record { solid = record { some = omega arith; shown = refl }; short = omega arith }
prints-bands true false false some = record { solid = record { some = omega arith; shown = refl }; short = omega arith }
prints-bands false true true some = record { solid = record { some = omega arith; shown = refl }; short = omega arith }
prints-bands false true false some = record { solid = record { some = omega arith; shown = refl }; short = omega arith }
prints-bands false false true some = record { solid = record { some = omega arith; shown = refl }; short = omega arith }
prints-bands false false false some = absurd cc

prints-kind : (k : Kind) → Prints (kind_text k) 20
prints-kind Ap = record { solid = record { some = omega arith; shown = refl }; short = omega arith }
prints-kind Ibss = record { solid = record { some = omega arith; shown = refl }; short = omega arith }
prints-kind Mesh = record { solid = record { some = omega arith; shown = refl }; short = omega arith }
prints-kind Station = record { solid = record { some = omega arith; shown = refl }; short = omega arith }
prints-kind Monitor = record { solid = record { some = omega arith; shown = refl }; short = omega arith }

-- a word that is short and shows, by computing
abbrev checked : List ℕ → Bool
checked word = nat_le 1 (length word) && nat_le (length word) 20 && list_all shows word

prints-checked : (word : List ℕ) → checked word ≡ true → Prints word 20
prints-checked word is =
    let p = and_parts (nat_le 1 (length word) && nat_le (length word) 20) (list_all shows word) is in
    let q = and_parts (nat_le 1 (length word)) (nat_le (length word) 20) p.0 in
    record { solid = record { some = leb-true 1 (length word) q.0; shown = p.1 }; short = leb-true (length word) 20 q.1 }

checked-fixed : (word : Word) → checked (fixed_text word) ≡ true
checked-fixed At = refl
checked-fixed RadioOf = refl
checked-fixed Add = refl
checked-fixed Del = refl
checked-fixed RulesOf = refl
checked-fixed BandsOf = refl
checked-fixed WidthOf = refl
checked-fixed RadarOf = refl
checked-fixed PowerOf = refl
checked-fixed ContextsOf = refl
checked-fixed SelfManaged = refl
checked-fixed Deaf = refl
checked-fixed Element = refl
checked-fixed Driver = refl
checked-fixed Indoor = refl
checked-fixed On = refl
checked-fixed Off = refl
checked-fixed Iw = refl
checked-fixed Reg = refl
checked-fixed Get = refl
checked-fixed Set = refl
checked-fixed Phy = refl
checked-fixed Info = refl
checked-fixed Channels = refl
checked-fixed Interface = refl
checked-fixed TypeOf = refl
checked-fixed Dev = refl
checked-fixed FreqOf = refl
checked-fixed ChannelOf = refl
checked-fixed TxPower = refl
checked-fixed Auto = refl
checked-fixed Limit = refl
checked-fixed FixedAt = refl
checked-fixed Cac = refl
checked-fixed Trigger = refl
checked-fixed OfAp = refl
checked-fixed Start = refl
checked-fixed Stop = refl
checked-fixed Head = refl
checked-fixed OfIbss = refl
checked-fixed Join = refl
checked-fixed Leave = refl
checked-fixed OfMesh = refl
checked-fixed Connect = refl
checked-fixed Disconnect = refl

byte-shows : (b : ℕ) → IsVisible b → shows b ≡ true
byte-shows b is = let low = is.0 in let high = is.1 in grind (arith, nat_tests)

prints-name : (w : List ℕ) → IsName w → Prints w 20
prints-name w is = record {
  solid = record { some = is.some; shown = list_all-from_AllPass shows w (All-weaker IsVisible (λ b. shows b ≡ true) byte-shows w is.visible) };
  short = let few = is.few in omega (arith, few);
}

hex-shows : (b : ℕ) → is_hex_digit b ≡ true → shows b ≡ true
hex-shows b is = grind (arith, nat_tests)

hex-all : (ds : List ℕ) → list_all is_hex_digit ds ≡ true → list_all shows ds ≡ true
hex-all [] is = refl
hex-all (d ∷ ds) is = let p = and_parts (is_hex_digit d) (list_all is_hex_digit ds) is in both (shows d) (list_all shows ds) (hex-shows d p.0) (hex-all ds p.1)

prints-hex : (w : List ℕ) → IsHexWord w → Prints w 510
prints-hex w is = record { solid = record { some = let some = is.some in omega (arith, some); shown = hex-all w is.digits }; short = is.few }

code-shows : (a : Alpha2) → IsCode a → (shows a.a ≡ true) × (shows a.b ≡ true)
code-shows a (inl (one, two)) = let l = one.0 in let h = one.1 in let m = two.0 in let i = two.1 in (grind (arith, nat_tests), grind (arith, nat_tests))
code-shows a (inr (one, two)) = (rw one refl, rw two refl)

prints-code : (a : Alpha2) → IsCode a → Prints (code_text a) 20
prints-code a is =
    let shown = code-shows a is in
    record { solid = record { some = omega arith; shown = both (shows a.a) (list_all shows (a.b ∷ [])) shown.0 (both (shows a.b) true shown.1 refl) }; short = omega arith }

width-small : (w : Width) → width_khz w / 1000 < 2 ^ 64
width-small Noht = omega arith
width-small W20 = omega arith
width-small W40 = omega arith
width-small W80 = omega arith
width-small W160 = omega arith
width-small W320 = omega arith

width-few : (mhz : ℕ) → is_width mhz ≡ true → mhz < 2 ^ 64
width-few mhz is = grind (arith, nat_tests)

radar-few : (mhz : ℕ) → (mhz == 0 || is_width mhz) ≡ true → mhz < 2 ^ 64
radar-few mhz is = grind (arith, nat_tests)

-- ---- at each slot

pub prints : (rules : List Rule) (t : Told) (s : Slot) → IsTold t → is_word_slot s ≡ true → Prints (text_at rules t s) (most s)
prints rules t (Fixed word) told is = prints-checked (fixed_text word) (checked-fixed word)
prints rules t Moment told is = prints-decimal t.moment told.moment
prints rules t Radio told is = prints-radio t.radio told.radio
prints rules t OfBands told is = prints-bands t.profile.bands.ghz2 t.profile.bands.ghz5 t.profile.bands.ghz6 told.profile.some_band
prints rules t OfWidth told is = prints-decimal t.profile.width_mhz (width-few t.profile.width_mhz told.profile.width)
prints rules t RadarWidth told is = prints-decimal t.profile.radar_mhz (radar-few t.profile.radar_mhz told.profile.radar)
prints rules t MostPower told is = prints-decimal t.profile.power_mbm (let fits = told.profile.power_fits in omega (arith, fits))
prints rules t Contexts told is = prints-decimal t.profile.contexts (let few = told.profile.few_contexts in omega (arith, few))
prints rules t Rules told is = absurd cc
prints rules t Hex told is = prints-hex t.digits told.digits
prints rules t Code told is = prints-code t.code told.code
prints rules t Mhz told is = prints-decimal (t.chan.control_khz / 1000) (let few = told.control.most in omega (arith, few))
prints rules t ChannelNo told is = absurd cc
prints rules t WordForm told is = prints-checked (codes "NOHT") refl
prints rules t Twenty told is = prints-checked (codes "20") refl
prints rules t Wide told is = prints-decimal (width_khz t.chan.width / 1000) (width-small t.chan.width)
prints rules t Centre told is = prints-decimal (t.chan.centre_khz / 1000) (let few = told.centre.most in omega (arith, few))
prints rules t Name told is = prints-name t.name told.name
prints rules t OfKind told is = prints-kind t.kind
prints rules t Power told is = prints-decimal t.power (let few = told.power in omega (arith, few))
prints rules t Ssid told is = prints-checked (codes "net") refl
prints rules t Interval told is = prints-checked (codes "100") refl
prints rules t Dtim told is = prints-checked (codes "2") refl
