-- The words that are printed at slots stand there, and tell what was printed.
use Rattle.std.proofs.Common.{◌≡◌, ◌≢◌, ℕ, ◌+◌, ◌*◌, ◌/◌, ◌%◌, ◌^◌, ◌<◌, ◌≤◌, ◌⊎◌, inl, inr, Bool, true, false, ◌&&◌, ◌||◌, List, [], ◌∷◌, ◌++◌, get_or, map, Some, refl, ap, ◌∙◌, sym, subst, arith}
use Rattle.std.specs.Prelude.{codes, decimal, nat_le, not, ◌==◌}
use Rattle.std.proofs.lemmas.Bool.{and_parts, cases_eq, le-leb, ne_eqb}
use Rattle.std.proofs.lemmas.Bool.Decides.{nat_tests}
use Rattle.std.proofs.lemmas.Fmt.{decimal_digit, decimal_step}
use Rattle.freq_range.specs.declared.rule.Rule.{Rule}
use Rattle.chan_def.specs.Covered.{IsInside, width_khz}
use Rattle.chan_def.specs.declared.iw_word.IwWord.TheVariants.{WithoutHt}
use Rattle.chan_def.specs.declared.kind.Kind.{Kind}
use Rattle.chan_def.specs.declared.kind.Kind.TheVariants.{Ap, Ibss, Mesh, Station, Monitor}
use Rattle.chan_def.specs.declared.width.Width.{Width}
use Rattle.chan_def.specs.declared.width.Width.TheVariants.{Noht, W20, W40, W80, W160, W320}
use Rattle.chan_flags.specs.Profiles.{Abilities, is_width}
use Rattle.rule_tables.specs.Code.{IsCode}
use Rattle.rule_tables.specs.declared.code.Alpha2.{Alpha2}
use Rattle.reg_journal.specs.Forms.{IsLineFrequency}
use Rattle.iw_dumps.specs.Spelling.{bands_text, code_text, kind_text, radio_text, whole_mhz_text}
use Rattle.line_forms.specs.Forms.{Leads}
use Rattle.line_forms.specs.Slots.{ByProfile, Fills, FillsProfile, fixed_text}
use Rattle.line_forms.specs.Spelling.{IsWordForm, bands_of_word, between, code_of_word, kind_of_word, noht, number_within, radio_of_word, width_of_word}
use Rattle.line_forms.specs.Told.{Told, as_wide, twenty, tell_chan, tell_code, tell_digits, tell_kind, tell_moment, tell_name, tell_power, tell_profile, tell_radio, with_bands, with_contexts, with_most_power, with_radar, with_width}
use Rattle.line_forms.specs.declared.slot.Slot.{Slot}
use Rattle.line_forms.specs.declared.slot.Slot.TheVariants.{Fixed, Moment, Radio, Bands as OfBands, Width as OfWidth, RadarWidth, MostPower, Contexts, Rules, Hex, Code, Mhz, ChannelNo, WordForm, Twenty, Wide, Centre, Name, OfKind, Power, Ssid, Interval, Dtim}
use Rattle.line_forms.proofs.Decided.{is_code-from}
use Rattle.line_forms.proofs.Numbers.{number_of-again}
use Rattle.line_printing.specs.Printed.{text_at}
use Rattle.line_printing.proofs.SlotTexts.{most}
use Rattle.line_printing.proofs.ToldParts.{IsTold}

-- ---- what a printed word tells

-- a width in MHz stands for a channel with HT
abbrev pub with_ht : Width → Width
with_ht Noht = W20
with_ht width = width

-- what the word that is printed at the slot tells
abbrev pub tell : Told → Slot → Told → Told
tell t (Fixed word) d = d
tell t Moment d = tell_moment t.moment d
tell t Radio d = tell_radio t.radio d
tell t OfBands d = tell_profile (with_bands t.profile.bands d.profile) d
tell t OfWidth d = tell_profile (with_width t.profile.width_mhz d.profile) d
tell t RadarWidth d = tell_profile (with_radar t.profile.radar_mhz d.profile) d
tell t MostPower d = tell_profile (with_most_power t.profile.power_mbm d.profile) d
tell t Contexts d = tell_profile (with_contexts t.profile.contexts d.profile) d
tell t Rules d = d
tell t Hex d = tell_digits t.digits d
tell t Code d = tell_code t.code d
tell t Mhz d = tell_chan (noht t.chan.control_khz) d
tell t ChannelNo d = d
tell t WordForm d = tell_chan (noht d.chan.control_khz) d
tell t Twenty d = tell_chan (twenty d.chan) d
tell t Wide d = tell_chan (as_wide (with_ht t.chan.width) d.chan) d
tell t Centre d = tell_chan (record { control_khz = d.chan.control_khz; width = d.chan.width; centre_khz = t.chan.centre_khz }) d
tell t Name d = tell_name t.name d
tell t OfKind d = tell_kind t.kind d
tell t Power d = tell_power t.power d
tell t Ssid d = d
tell t Interval d = d
tell t Dtim d = d

-- what all of them tell
abbrev pub tell_all : Told → List Slot → Told → Told
tell_all t [] d = d
tell_all t (s ∷ slots) d = tell_all t slots (tell t s d)

-- ---- which slots have a word in a printed line

-- a word of iw stands behind a frequency
abbrev pub may_stand : Bool → Slot → Bool
may_stand has WordForm = has
may_stand has Rules = false
may_stand has ChannelNo = false
may_stand has s = true

-- a frequency stands before what follows
abbrev pub has_after : Bool → Slot → Bool
has_after has Mhz = true
has_after has s = has

abbrev pub are_printed : Bool → List Slot → Bool
are_printed has [] = true
are_printed has (s ∷ slots) = may_stand has s && are_printed (has_after has s) slots

-- a fixed word stands first, and no comment begins with it
abbrev pub begins_word : List Slot → Bool
begins_word (Fixed word ∷ slots) = not (get_or (fixed_text word) 0 0 == 35)
begins_word slots = false

-- the most bytes of the words, each with a blank
abbrev pub room : List Slot → ℕ
room [] = 0
room (s ∷ slots) = most s + 1 + room slots

-- The slots are those of a printed line.
abbrev pub is_row : List Slot → Bool
is_row slots = are_printed false slots && begins_word slots && nat_le (room slots) 4096

-- ---- numbers

within : (least most n : ℕ) → least ≤ n → n ≤ most → between least most n ≡ Some n
within least most n low high = rw (le-leb least n low, le-leb n most high) refl

pub number-again : (least most n : ℕ) → n < 2 ^ 64 → least ≤ n → n ≤ most → number_within least most (decimal n) ≡ Some n
unfolding number_within
number-again least most n small low high = rw (number_of-again n small) (within least most n low high)

pub radio-again : (r : ℕ) → r ≤ 7 → radio_of_word (radio_text r) ≡ Some r
unfolding radio_of_word
radio-again r few = number-again 0 7 r (omega arith) (omega arith) few

-- ---- widths and words of a few values

width-cases : (n : ℕ) → is_width n ≡ true → (n ≡ 20) ⊎ ((n ≡ 40) ⊎ ((n ≡ 80) ⊎ ((n ≡ 160) ⊎ (n ≡ 320))))
width-cases n is = grind (arith, nat_tests)

-- numbers of one, two and three digits, as they are spelled
two-digits : (n : ℕ) → 10 ≤ n → n < 100 → decimal n ≡ (48 + n / 10) ∷ (48 + n % 10) ∷ []
two-digits n low high = decimal_step n low (omega arith) ∙ ap (λ (l : List ℕ). l ++ (48 + n % 10) ∷ []) (decimal_digit (n / 10) (omega arith))

three-digits : (n : ℕ) → 100 ≤ n → n < 1000 → decimal n ≡ (48 + n / 10 / 10) ∷ (48 + n / 10 % 10) ∷ (48 + n % 10) ∷ []
three-digits n low high = decimal_step n (omega arith) (omega arith) ∙ ap (λ (l : List ℕ). l ++ (48 + n % 10) ∷ []) (two-digits (n / 10) (omega arith) (omega arith))

spelled-0 : decimal 0 ≡ codes "0"
spelled-0 = decimal_digit 0 (omega arith)

spelled-2 : decimal 2 ≡ codes "2"
spelled-2 = decimal_digit 2 (omega arith)

spelled-20 : decimal 20 ≡ codes "20"
spelled-20 = two-digits 20 (omega arith) (omega arith)

spelled-40 : decimal 40 ≡ codes "40"
spelled-40 = two-digits 40 (omega arith) (omega arith)

spelled-80 : decimal 80 ≡ codes "80"
spelled-80 = two-digits 80 (omega arith) (omega arith)

spelled-100 : decimal 100 ≡ codes "100"
spelled-100 = three-digits 100 (omega arith) (omega arith)

spelled-160 : decimal 160 ≡ codes "160"
spelled-160 = three-digits 160 (omega arith) (omega arith)

spelled-320 : decimal 320 ≡ codes "320"
spelled-320 = three-digits 320 (omega arith) (omega arith)

width-by : (mhz : ℕ) → (mhz ≡ 20) ⊎ ((mhz ≡ 40) ⊎ ((mhz ≡ 80) ⊎ ((mhz ≡ 160) ⊎ (mhz ≡ 320)))) → (width : Width) × (width_of_word (decimal mhz) ≡ Some width) × (mhz ≡ width_khz width / 1000)
unfolding width_of_word
width-by mhz (inl e) = (W20, rw (e, spelled-20) refl, e)
width-by mhz (inr (inl e)) = (W40, rw (e, spelled-40) refl, e)
width-by mhz (inr (inr (inl e))) = (W80, rw (e, spelled-80) refl, e)
width-by mhz (inr (inr (inr (inl e)))) = (W160, rw (e, spelled-160) refl, e)
width-by mhz (inr (inr (inr (inr e)))) = (W320, rw (e, spelled-320) refl, e)

width-again : (mhz : ℕ) → is_width mhz ≡ true → (width : Width) × (width_of_word (decimal mhz) ≡ Some width) × (mhz ≡ width_khz width / 1000)
width-again mhz is = width-by mhz (width-cases mhz is)

wide-again : (w : Width) → width_of_word (decimal (width_khz w / 1000)) ≡ Some (with_ht w)
unfolding width_of_word
wide-again Noht = rw spelled-20 refl
wide-again W20 = rw spelled-20 refl
wide-again W40 = rw spelled-40 refl
wide-again W80 = rw spelled-80 refl
wide-again W160 = rw spelled-160 refl
wide-again W320 = rw spelled-320 refl

bands-again : (a b c : Bool) → (a || b || c) ≡ true → bands_of_word (bands_text (record { ghz2 = a; ghz5 = b; ghz6 = c })) ≡ Some (record { ghz2 = a; ghz5 = b; ghz6 = c })
unfolding bands_of_word
bands-again true true true some = refl
bands-again true true false some = refl
bands-again true false true some = refl
bands-again true false false some = refl
bands-again false true true some = refl
bands-again false true false some = refl
bands-again false false true some = refl
bands-again false false false some = absurd cc

kind-again : (k : Kind) → kind_of_word (kind_text k) ≡ Some k
unfolding kind_of_word
kind-again Ap = refl
kind-again Ibss = refl
kind-again Mesh = refl
kind-again Station = refl
kind-again Monitor = refl

code-again : (a : Alpha2) → IsCode a → code_of_word (code_text a) ≡ Some a
unfolding code_of_word
code-again a is = rw (is_code-from a is) refl

-- ---- parts of a profile

by_width : (t d : Told) → IsTold t → ByProfile OfWidth d (decimal t.profile.width_mhz) (tell t OfWidth d)
by_width t d told =
    let w = width-again t.profile.width_mhz told.profile.width in
    (with_width t.profile.width_mhz d.profile, (w.0, w.1, ap (λ n. with_width n d.profile) w.2), refl)

no-width : (mhz : ℕ) (w : Width) → width_of_word (decimal mhz) ≡ Some w → decimal mhz ≢ codes "0"
unfolding width_of_word
no-width mhz w e is = let none : width_of_word (codes "0") ≡ Some w = subst (λ l. width_of_word l ≡ Some w) is e in absurd cc

radar-filled : (n : ℕ) (p : Abilities) → (n == 0 || is_width n) ≡ true → FillsProfile RadarWidth p (decimal n) (with_radar n p)
radar-filled n p is = elim (cases_eq n 0) [
  | inl none ↦ inl (ap decimal none ∙ spelled-0, ap (λ m. with_radar m p) none)
  | inr some ↦
      let no : (n == 0) ≡ false = ne_eqb n 0 some in
      let w = width-again n (subst (λ b. (b || is_width n) ≡ true) no is) in
      inr (no-width n w.0 w.1, w.0, w.1, ap (λ m. with_radar m p) w.2)
]

by_radar : (t d : Told) → IsTold t → ByProfile RadarWidth d (decimal t.profile.radar_mhz) (tell t RadarWidth d)
by_radar t d told = (with_radar t.profile.radar_mhz d.profile, radar-filled t.profile.radar_mhz d.profile told.profile.radar, refl)

-- ---- parts of a channel

whole-mhz : (khz : ℕ) → IsLineFrequency khz → 1000 * (khz / 1000) ≡ khz
whole-mhz khz is = let whole = is.whole in omega (arith, whole)

mhz-again : (khz : ℕ) → IsLineFrequency khz → number_within 1 100000 (whole_mhz_text khz) ≡ Some (khz / 1000)
mhz-again khz is =
    let low = is.least in
    let high = is.most in
    number-again 1 100000 (khz / 1000) (omega (arith, high)) (omega (arith, low)) (omega (arith, high))

inside-control : (khz : ℕ) → IsInside 20000 khz khz
inside-control khz = (0, record { within = omega arith; at = omega arith })

without-ht : (khz : ℕ) → IsLineFrequency khz → IsWordForm khz (codes "NOHT") (noht khz)
without-ht khz is =
    let most = is.most in
    record {
      named = record { word = WithoutHt; spelled = refl; same_control = refl; as_wide = refl; there = record { placed = refl; covers_control = inside-control khz; fits = omega (arith, most) } };
      some = is.least;
      few = is.most;
    }

-- ---- a word at its slot

pub fills : (rules : List Rule) (t d : Told) (s : Slot) (has : Bool) → IsTold t → (has ≡ true → IsLineFrequency d.chan.control_khz) → may_stand has s ≡ true
    → Fills s d (text_at rules t s) (tell t s d)
fills rules t d (Fixed word) has told behind is = (refl, refl)
fills rules t d Moment has told behind is = (t.moment, number_of-again t.moment told.moment, refl)
fills rules t d Radio has told behind is = (t.radio, radio-again t.radio told.radio, refl)
fills rules t d OfBands has told behind is =
    (with_bands t.profile.bands d.profile, (t.profile.bands, bands-again t.profile.bands.ghz2 t.profile.bands.ghz5 t.profile.bands.ghz6 told.profile.some_band, refl), refl)
fills rules t d OfWidth has told behind is = by_width t d told
fills rules t d RadarWidth has told behind is = by_radar t d told
fills rules t d MostPower has told behind is =
    let fits = told.profile.power_fits in
    (with_most_power t.profile.power_mbm d.profile, (t.profile.power_mbm, number-again 0 65535 t.profile.power_mbm (omega (arith, fits)) (omega arith) (omega (arith, fits)), refl), refl)
fills rules t d Contexts has told behind is =
    let few = told.profile.few_contexts in
    (with_contexts t.profile.contexts d.profile, (t.profile.contexts, number-again 1 8 t.profile.contexts (omega (arith, few)) told.profile.some_context few, refl), refl)
fills rules t d Rules has told behind is = absurd cc
fills rules t d Hex has told behind is = (told.digits, refl)
fills rules t d Code has told behind is = (t.code, code-again t.code told.code, refl)
fills rules t d Mhz has told behind is =
    (noht t.chan.control_khz, (t.chan.control_khz / 1000, mhz-again t.chan.control_khz told.control, ap noht (sym (whole-mhz t.chan.control_khz told.control))), refl)
fills rules t d ChannelNo has told behind is = absurd cc
fills rules t d WordForm has told behind is = (noht d.chan.control_khz, without-ht d.chan.control_khz (behind is), refl)
fills rules t d Twenty has told behind is = (twenty d.chan, (refl, refl), refl)
fills rules t d Wide has told behind is = (as_wide (with_ht t.chan.width) d.chan, (with_ht t.chan.width, wide-again t.chan.width, refl), refl)
fills rules t d Centre has told behind is = (
  record { control_khz = d.chan.control_khz; width = d.chan.width; centre_khz = t.chan.centre_khz },
  (
    t.chan.centre_khz / 1000,
    mhz-again t.chan.centre_khz told.centre,
    ap (λ khz. record { control_khz = d.chan.control_khz; width = d.chan.width; centre_khz = khz }) (sym (whole-mhz t.chan.centre_khz told.centre)),
  ),
  refl,
)
fills rules t d Name has told behind is = (told.name, refl)
fills rules t d OfKind has told behind is = (t.kind, kind-again t.kind, refl)
fills rules t d Power has told behind is =
    let fits = told.power in
    (t.power, number-again 0 65535 t.power (omega (arith, fits)) (omega arith) (omega (arith, fits)), refl)
fills rules t d Ssid has told behind is = ((omega arith, omega arith), refl)
fills rules t d Interval has told behind is = ((100, subst (λ w. number_within 1 65535 w ≡ Some 100) spelled-100 (number-again 1 65535 100 (omega arith) (omega arith) (omega arith))), refl)
fills rules t d Dtim has told behind is = ((2, subst (λ w. number_within 1 65535 w ≡ Some 2) spelled-2 (number-again 1 65535 2 (omega arith) (omega arith) (omega arith))), refl)

-- ---- the walk

kept-control : (t d : Told) (s : Slot) (has : Bool) → IsTold t → (has ≡ true → IsLineFrequency d.chan.control_khz) → has_after has s ≡ true → IsLineFrequency (tell t s d).chan.control_khz
kept-control t d (Fixed word) has told behind is = behind is
kept-control t d Moment has told behind is = behind is
kept-control t d Radio has told behind is = behind is
kept-control t d OfBands has told behind is = behind is
kept-control t d OfWidth has told behind is = behind is
kept-control t d RadarWidth has told behind is = behind is
kept-control t d MostPower has told behind is = behind is
kept-control t d Contexts has told behind is = behind is
kept-control t d Rules has told behind is = behind is
kept-control t d Hex has told behind is = behind is
kept-control t d Code has told behind is = behind is
kept-control t d Mhz has told behind is = told.control
kept-control t d ChannelNo has told behind is = behind is
kept-control t d WordForm has told behind is = behind is
kept-control t d Twenty has told behind is = behind is
kept-control t d Wide has told behind is = behind is
kept-control t d Centre has told behind is = behind is
kept-control t d Name has told behind is = behind is
kept-control t d OfKind has told behind is = behind is
kept-control t d Power has told behind is = behind is
kept-control t d Ssid has told behind is = behind is
kept-control t d Interval has told behind is = behind is
kept-control t d Dtim has told behind is = behind is

pub walked : (rules : List Rule) (t d : Told) (slots : List Slot) (has : Bool) → IsTold t → (has ≡ true → IsLineFrequency d.chan.control_khz) → are_printed has slots ≡ true
    → Leads (map (text_at rules t) slots) slots d [] (tell_all t slots d)
walked rules t d [] has told behind is = (refl, refl)
walked rules t d (s ∷ slots) has told behind is =
    let parts = and_parts (may_stand has s) (are_printed (has_after has s) slots) is in (
      tell t s d,
      fills rules t d s has told behind parts.0,
      walked rules t (tell t s d) slots (has_after has s) told (kept-control t d s has told behind) parts.1,
    )
