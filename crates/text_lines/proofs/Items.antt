-- The items of WMM rules.
use Rattle.std.proofs.Common.{◌≡◌, ℕ, zero, suc, ◌+◌, ◌^◌, ◌<◌, ◌≤◌, List, [], ◌∷◌, ◌++◌, Bool, true, ◌&&◌, Option, Some, None, ◌⊎◌, inl, inr, refl, ap, ◌∙◌, sym, subst, arith, append_assoc, append-nil, lit<, leb, ltb}
use Rattle.std.proofs.Math.Nat.{one-le-pow, pow-le-pow_right}
use Rattle.std.specs.Prelude.{codes}
use Rattle.std.proofs.lemmas.Bool.{and_from, and_parts, cases_Bool, cases_eq, cases_order, leb-true, le-leb, lt-ltb, ltb-true}
use Rattle.std.proofs.lemmas.Nat.{pow-add}
use Rattle.std.proofs.lemmas.Option.{same_Some, some_pair_parts}
use Rattle.freq_range.specs.Valid.{IsValidEntry}
use Rattle.freq_range.specs.declared.wmm.WmmEntry.{WmmEntry}
use Rattle.text_lines.specs.declared.form.Item.{Item}
use Rattle.text_lines.specs.declared.wmm_reader.ItemNumbers.{ItemNumbers}
use Rattle.reg_base.specs.Texts.{◌>>=◌}
use Rattle.text_lines.specs.inner.Reading.{IsEntryOf, after_word, field_at, item_numbers, digits_at, numbers_of, value_within, whole_numbers}
use Rattle.text_lines.specs.Spelling.{IsItemLine, IsNumber, ItemText, item_name, item_text, value_of_digits}
use Rattle.text_lines.proofs.Digits.{NoDigit, number_at-again, number_at-reads}
use Rattle.text_lines.proofs.Values.{value_within-again, value_within-reads}
use Rattle.text_lines.proofs.Words.{after_word-again, after_word-reads, bind_some, known}

-- ---- one number

abbrev closed_field : List ℕ → ℕ → Option (ℕ × List ℕ)
closed_field rest value = Some (value, rest)

abbrev with_digits : ℕ → List ℕ × List ℕ → Option (ℕ × List ℕ)
with_digits most digits = value_within most digits.0 >>= closed_field digits.1

abbrev behind_word : ℕ → List ℕ → Option (ℕ × List ℕ)
behind_word most rest = digits_at rest >>= with_digits most

record ReadsField (word : List ℕ) (most : ℕ) (bs : List ℕ) (v : ℕ) (rest : List ℕ) : Type 0 where
  digits : List ℕ
  number : IsNumber digits
  parts : bs ≡ word ++ (digits ++ rest)
  value : v ≡ value_of_digits digits
  small : v ≤ most

field_at-reads : (word : List ℕ) (most : ℕ) (bs : List ℕ) (v : ℕ) (rest : List ℕ) → field_at word most bs ≡ Some (v, rest) → ReadsField word most bs v rest
unfolding field_at
field_at-reads word most bs v rest e =
    let one = bind_some (after_word word bs) (behind_word most) (v, rest) e in
    let two = bind_some (digits_at one.0) (with_digits most) (v, rest) one.2 in
    let three = bind_some (value_within most two.0.0) (closed_field two.0.1) (v, rest) two.2 in
    let p = some_pair_parts three.0 v two.0.1 rest three.2 in
    let number = number_at-reads one.0 two.0.0 two.0.1 two.1 in
    let value = value_within-reads most two.0.0 three.0 three.1 in
    record {
      digits = two.0.0;
      number = number.number;
      parts = after_word-reads word bs one.0 one.1 ∙ ap (λ (xs : List ℕ). word ++ xs) (number.parts ∙ ap (λ (xs : List ℕ). two.0.0 ++ xs) p.1);
      value = sym p.0 ∙ value.0;
      small = rw (← p.0) value.1;
    }

field_at-again : (word : List ℕ) (most : ℕ) (digits rest : List ℕ) → IsNumber digits → value_of_digits digits ≤ most → NoDigit rest → field_at word most (word ++ (digits ++ rest)) ≡ Some (value_of_digits digits, rest)
unfolding field_at
field_at-again word most digits rest number small none =
    rw (after_word-again word (digits ++ rest), number_at-again digits rest number none, value_within-again most digits small) refl

-- ---- four numbers

abbrev numbers_from : ℕ → ℕ → ℕ → ℕ → ItemNumbers
numbers_from cw_min cw_max aifsn cot = record { cw_min = cw_min; cw_max = cw_max; aifsn = aifsn; cot = cot }

abbrev with_cot : ℕ × List ℕ → ℕ × List ℕ → ℕ × List ℕ → ℕ × List ℕ → Option ItemNumbers
with_cot cw_min cw_max aifsn cot = whole_numbers (numbers_from cw_min.0 cw_max.0 aifsn.0 cot.0) cot.1

abbrev with_aifsn : ℕ × List ℕ → ℕ × List ℕ → ℕ × List ℕ → Option ItemNumbers
with_aifsn cw_min cw_max aifsn = field_at (codes ",cot=") 65535 aifsn.1 >>= with_cot cw_min cw_max aifsn

abbrev with_cw_max : ℕ × List ℕ → ℕ × List ℕ → Option ItemNumbers
with_cw_max cw_min cw_max = field_at (codes ",aifsn=") 255 cw_max.1 >>= with_aifsn cw_min cw_max

abbrev with_cw_min : ℕ × List ℕ → Option ItemNumbers
with_cw_min cw_min = field_at (codes ",cw_max=") 32767 cw_min.1 >>= with_cw_max cw_min

abbrev pub item_cells : List ℕ → ItemText → List ℕ
item_cells name t =
    name ++ (codes ":cw_min=" ++ (t.cw_min ++ (codes ",cw_max=" ++ (t.cw_max ++ (codes ",aifsn=" ++ (t.aifsn ++ (codes ",cot=" ++ (t.cot ++ []))))))))

pub item-cells : (item : Item) (t : ItemText) → item_text item t ≡ item_cells (item_name item) t
item-cells item t = from (item_name item)
  where
    from : (name : List ℕ) → name ++ codes ":cw_min=" ++ t.cw_min ++ codes ",cw_max=" ++ t.cw_max ++ codes ",aifsn=" ++ t.aifsn ++ codes ",cot=" ++ t.cot ≡ item_cells name t
    from name = simp (append_assoc, append-nil)

-- what is read of an item: its text, and the values of the four numbers
pub record ReadsItem (item : Item) (line : List ℕ) (numbers : ItemNumbers) : Type 0 where
  pub text : ItemText
  pub spelled : line ≡ item_text item text
  pub cw_min_number : IsNumber text.cw_min
  pub cw_max_number : IsNumber text.cw_max
  pub aifsn_number : IsNumber text.aifsn
  pub cot_number : IsNumber text.cot
  pub cw_min : numbers.cw_min ≡ value_of_digits text.cw_min
  pub cw_max : numbers.cw_max ≡ value_of_digits text.cw_max
  pub aifsn : numbers.aifsn ≡ value_of_digits text.aifsn
  pub cot : numbers.cot ≡ value_of_digits text.cot

ended : (made numbers : ItemNumbers) (rest : List ℕ) → whole_numbers made rest ≡ Some numbers → (rest ≡ []) × (made ≡ numbers)
ended made numbers [] e = (refl, same_Some made numbers e)
ended made numbers (b ∷ bs) e = absurd cc

item_joined : (line one two three four five : List ℕ) (name : List ℕ) (t : ItemText) → line ≡ name ++ one → one ≡ codes ":cw_min=" ++ (t.cw_min ++ two) → two ≡ codes ",cw_max=" ++ (t.cw_max ++ three) → three ≡ codes ",aifsn=" ++ (t.aifsn ++ four) → four ≡ codes ",cot=" ++ (t.cot ++ five) → five ≡ [] → line ≡ item_cells name t
item_joined line one two three four five name t a b c d e f = rw (a, b, c, d, e, f) refl

pub item_numbers-reads : (item : Item) (line : List ℕ) (numbers : ItemNumbers) → item_numbers item line ≡ Some numbers → ReadsItem item line numbers
unfolding item_numbers numbers_of
item_numbers-reads item line numbers e =
    let name = bind_some (after_word (item_name item) line) numbers_of numbers e in
    let one = bind_some (field_at (codes ":cw_min=") 32767 name.0) with_cw_min numbers name.2 in
    let two = bind_some (field_at (codes ",cw_max=") 32767 one.0.1) (with_cw_max one.0) numbers one.2 in
    let three = bind_some (field_at (codes ",aifsn=") 255 two.0.1) (with_aifsn one.0 two.0) numbers two.2 in
    let four = bind_some (field_at (codes ",cot=") 65535 three.0.1) (with_cot one.0 two.0 three.0) numbers three.2 in
    let end = ended (numbers_from one.0.0 two.0.0 three.0.0 four.0.0) numbers four.0.1 four.2 in
    let cw_min = field_at-reads (codes ":cw_min=") 32767 name.0 one.0.0 one.0.1 one.1 in
    let cw_max = field_at-reads (codes ",cw_max=") 32767 one.0.1 two.0.0 two.0.1 two.1 in
    let aifsn = field_at-reads (codes ",aifsn=") 255 two.0.1 three.0.0 three.0.1 three.1 in
    let cot = field_at-reads (codes ",cot=") 65535 three.0.1 four.0.0 four.0.1 four.1 in
    let text : ItemText = record { cw_min = cw_min.digits; cw_max = cw_max.digits; aifsn = aifsn.digits; cot = cot.digits } in
    let joined = item_joined line name.0 one.0.1 two.0.1 three.0.1 four.0.1 (item_name item) text (after_word-reads (item_name item) line name.0 name.1) cw_min.parts cw_max.parts aifsn.parts cot.parts end.0 in
    subst (ReadsItem item line) end.1 (record {
      text = text;
      spelled = joined ∙ sym (item-cells item text);
      cw_min_number = cw_min.number;
      cw_max_number = cw_max.number;
      aifsn_number = aifsn.number;
      cot_number = cot.number;
      cw_min = cw_min.value;
      cw_max = cw_max.value;
      aifsn = aifsn.value;
      cot = cot.value;
    })

numbers-again : (item : Item) (t : ItemText) → IsNumber t.cw_min → IsNumber t.cw_max → IsNumber t.aifsn → IsNumber t.cot → value_of_digits t.cw_min ≤ 32767 → value_of_digits t.cw_max ≤ 32767 → value_of_digits t.aifsn ≤ 255 → value_of_digits t.cot ≤ 65535 → item_numbers item (item_text item t) ≡ Some (numbers_from (value_of_digits t.cw_min) (value_of_digits t.cw_max) (value_of_digits t.aifsn) (value_of_digits t.cot))
unfolding item_numbers numbers_of
numbers-again item t p q r s i j k l =
    let four = codes ",cot=" ++ (t.cot ++ []) in
    let three = codes ",aifsn=" ++ (t.aifsn ++ four) in
    let two = codes ",cw_max=" ++ (t.cw_max ++ three) in
    let one = codes ":cw_min=" ++ (t.cw_min ++ two) in
    rw (
      item-cells item t,
      after_word-again (item_name item) one,
      field_at-again (codes ":cw_min=") 32767 t.cw_min two p i refl,
      field_at-again (codes ",cw_max=") 32767 t.cw_max three q j refl,
      field_at-again (codes ",aifsn=") 255 t.aifsn four r k refl,
      field_at-again (codes ",cot=") 65535 t.cot [] s l tt,
    ) refl

-- ---- the entry

-- a power of 2 has one exponent
pub exponent-unique : (a b : ℕ) → 2 ^ a ≡ 2 ^ b → a ≡ b
exponent-unique a b e =
    elim (cases_order a b) [
      | inl same ↦ same
      | inr (inl less) ↦ absurd (apart a b less e)
      | inr (inr more) ↦ absurd (apart b a more (sym e))
    ]
  where
    apart : (m n : ℕ) → m < n → 2 ^ m ≡ 2 ^ n → ⊥
    apart m n lt e =
        let above = pow-le-pow_right {n = 2} (lit< tt) {i = m + 1} {j = n} (omega (arith, lt)) in
        let double = pow-add 2 m 1 in
        let some = one-le-pow m 2 (lit< tt) in
        omega (arith, above, double, some, e)

small-window : (window e : ℕ) → window + 1 ≡ 2 ^ e → e ≤ 15 → window ≤ 32767
small-window window e is few = let below = pow-le-pow_right {n = 2} (lit< tt) {i = e} {j = 15} few in omega (arith, below, is)

pub entry-again : (item : Item) (line : List ℕ) (e : WmmEntry) → IsItemLine line item e → (numbers : ItemNumbers) × (item_numbers item line ≡ Some numbers) × IsEntryOf numbers e
entry-again item line e (t, spelled, means) =
    let order = means.valid.in_order in
    let fits = means.valid.window_fits in
    let aifsn_fits = means.valid.aifsn_fits in
    let cot_fits = means.valid.cot_fits in
    let aifsn = means.aifsn in
    let cot = means.cot in
    let read = numbers-again item t means.cw_min_number means.cw_max_number means.aifsn_number means.cot_number (small-window (value_of_digits t.cw_min) e.min_exp means.least_window (omega (arith, order, fits))) (small-window (value_of_digits t.cw_max) e.max_exp means.greatest_window fits) (rw aifsn (omega (arith, aifsn_fits))) (rw cot (omega (arith, cot_fits))) in (
      numbers_from (value_of_digits t.cw_min) (value_of_digits t.cw_max) (value_of_digits t.aifsn) (value_of_digits t.cot),
      ap (item_numbers item) spelled ∙ read,
      record { least_window = means.least_window; greatest_window = means.greatest_window; aifsn = aifsn; cot = cot; valid = means.valid },
    )

pub entry-reads : (item : Item) (line : List ℕ) (numbers : ItemNumbers) (e : WmmEntry) → item_numbers item line ≡ Some numbers → IsEntryOf numbers e → IsItemLine line item e
entry-reads item line numbers e read of =
    let r = item_numbers-reads item line numbers read in (
      r.text,
      r.spelled,
      record {
        cw_min_number = r.cw_min_number;
        cw_max_number = r.cw_max_number;
        aifsn_number = r.aifsn_number;
        cot_number = r.cot_number;
        least_window = rw (← r.cw_min) of.least_window;
        greatest_window = rw (← r.cw_max) of.greatest_window;
        aifsn = sym r.aifsn ∙ of.aifsn;
        cot = sym r.cot ∙ of.cot;
        valid = of.valid;
      },
    )

pub entry-none : (item : Item) (line : List ℕ) → item_numbers item line ≡ None → (e : WmmEntry) → IsItemLine line item e → ⊥
entry-none item line none e h = let again = entry-again item line e h in let read = again.1 in cc

pub entry-no_entry : (item : Item) (line : List ℕ) (numbers : ItemNumbers) → item_numbers item line ≡ Some numbers → ((e : WmmEntry) → IsEntryOf numbers e → ⊥) → (e : WmmEntry) → IsItemLine line item e → ⊥
entry-no_entry item line numbers read none e h =
    let again = entry-again item line e h in
    let same = same_Some numbers again.0 (sym read ∙ again.1) in
    none e (subst (λ (n : ItemNumbers). IsEntryOf n e) (sym same) again.2)

abbrev entry_from : ℕ → ℕ → ItemNumbers → WmmEntry
entry_from a b numbers = record { min_exp = a; max_exp = b; aifsn = numbers.aifsn; cot_ms = numbers.cot }

pub entry-is : (numbers : ItemNumbers) (a b : ℕ) (e : WmmEntry) → numbers.cw_min + 1 ≡ 2 ^ a → numbers.cw_max + 1 ≡ 2 ^ b → IsEntryOf numbers e → e ≡ entry_from a b numbers
entry-is numbers a b e p q of =
    let least = exponent-unique e.min_exp a (sym of.least_window ∙ p) in
    let greatest = exponent-unique e.max_exp b (sym of.greatest_window ∙ q) in
    λ i. record { min_exp = least i; max_exp = greatest i; aifsn = (sym of.aifsn) i; cot_ms = (sym of.cot) i }

pub entry-not_valid : (numbers : ItemNumbers) (a b : ℕ) → numbers.cw_min + 1 ≡ 2 ^ a → numbers.cw_max + 1 ≡ 2 ^ b → (IsValidEntry (entry_from a b numbers) → ⊥) → (e : WmmEntry) → IsEntryOf numbers e → ⊥
entry-not_valid numbers a b p q none e of = none (subst IsValidEntry (entry-is numbers a b e p q of) of.valid)

IsEntryOf-unique : (numbers : ItemNumbers) (d e : WmmEntry) → IsEntryOf numbers d → IsEntryOf numbers e → d ≡ e
IsEntryOf-unique numbers d e p q =
    entry-is numbers d.min_exp d.max_exp d p.least_window p.greatest_window p ∙ sym (entry-is numbers d.min_exp d.max_exp e p.least_window p.greatest_window q)

pub IsItemLine-unique : (line : List ℕ) (item : Item) (d e : WmmEntry) → IsItemLine line item d → IsItemLine line item e → d ≡ e
IsItemLine-unique line item d e p q =
    let one = entry-again item line d p in
    let other = entry-again item line e q in
    let same = same_Some one.0 other.0 (sym one.1 ∙ other.1) in
    IsEntryOf-unique one.0 d e one.2 (subst (λ (n : ItemNumbers). IsEntryOf n e) (sym same) other.2)

-- ---- whether there is an entry

exponent_below : (n k : ℕ) → ((e : ℕ) × (e < k) × (n ≡ 2 ^ e)) ⊎ ((e : ℕ) → e < k → n ≡ 2 ^ e → ⊥)
exponent_below n zero = inr (λ e lt is. omega (arith, lt))
exponent_below n (suc k) = here (cases_eq n (2 ^ k)) (exponent_below n k)
  where
    here : (n ≡ 2 ^ k) ⊎ (n ≡ 2 ^ k → ⊥) → ((e : ℕ) × (e < k) × (n ≡ 2 ^ e)) ⊎ ((e : ℕ) → e < k → n ≡ 2 ^ e → ⊥) → ((e : ℕ) × (e < suc k) × (n ≡ 2 ^ e)) ⊎ ((e : ℕ) → e < suc k → n ≡ 2 ^ e → ⊥)
    here (inl is) below = inl (k, omega arith, is)
    here (inr other) (inl (e, lt, is)) = inl (e, omega (arith, lt), is)
    here (inr other) (inr none) = inr (λ e lt is. elim (cases_eq e k) [ inl same ↦ other (is ∙ ap (λ j. 2 ^ j) same) | inr apart ↦ none e (omega (arith, lt, apart)) is ])

abbrev valid_test : WmmEntry → Bool
valid_test e = ltb e.min_exp e.max_exp && (leb e.max_exp 15 && (leb 1 e.aifsn && (ltb e.aifsn 256 && ltb e.cot_ms 65536)))

valid-reads : (e : WmmEntry) → valid_test e ≡ true → IsValidEntry e
valid-reads e t =
    let a = and_parts (ltb e.min_exp e.max_exp) (leb e.max_exp 15 && (leb 1 e.aifsn && (ltb e.aifsn 256 && ltb e.cot_ms 65536))) t in
    let b = and_parts (leb e.max_exp 15) (leb 1 e.aifsn && (ltb e.aifsn 256 && ltb e.cot_ms 65536)) a.1 in
    let c = and_parts (leb 1 e.aifsn) (ltb e.aifsn 256 && ltb e.cot_ms 65536) b.1 in
    let d = and_parts (ltb e.aifsn 256) (ltb e.cot_ms 65536) c.1 in
    record { in_order = ltb-true _ _ a.0; window_fits = leb-true _ _ b.0; waits = leb-true _ _ c.0; aifsn_fits = ltb-true _ _ d.0; cot_fits = ltb-true _ _ d.1 }

valid-again : (e : WmmEntry) → IsValidEntry e → valid_test e ≡ true
valid-again e h =
    and_from (ltb e.min_exp e.max_exp) (leb e.max_exp 15 && (leb 1 e.aifsn && (ltb e.aifsn 256 && ltb e.cot_ms 65536))) (lt-ltb _ _ h.in_order) (
    and_from (leb e.max_exp 15) (leb 1 e.aifsn && (ltb e.aifsn 256 && ltb e.cot_ms 65536)) (le-leb _ _ h.window_fits) (
    and_from (leb 1 e.aifsn) (ltb e.aifsn 256 && ltb e.cot_ms 65536) (le-leb _ _ h.waits) (
    and_from (ltb e.aifsn 256) (ltb e.cot_ms 65536) (lt-ltb _ _ h.aifsn_fits) (lt-ltb _ _ h.cot_fits))))

decide_valid : (numbers : ItemNumbers) (a b : ℕ) → numbers.cw_min + 1 ≡ 2 ^ a → numbers.cw_max + 1 ≡ 2 ^ b → ((e : WmmEntry) × IsEntryOf numbers e) ⊎ ((e : WmmEntry) → IsEntryOf numbers e → ⊥)
decide_valid numbers a b p q =
    elim (cases_Bool (valid_test (entry_from a b numbers))) [
      | inl passes ↦ inl (entry_from a b numbers, record { least_window = p; greatest_window = q; aifsn = refl; cot = refl; valid = valid-reads (entry_from a b numbers) passes })
      | inr no_entry ↦ inr (entry-not_valid numbers a b p q (λ valid. let t = valid-again (entry_from a b numbers) valid in cc))
    ]

decide_numbers : (numbers : ItemNumbers) → ((e : WmmEntry) × IsEntryOf numbers e) ⊎ ((e : WmmEntry) → IsEntryOf numbers e → ⊥)
decide_numbers numbers =
    elim (exponent_below (numbers.cw_min + 1) 16) [
      | inl (a, low, p) ↦
          elim (exponent_below (numbers.cw_max + 1) 16) [
            | inl (b, high, q) ↦ decide_valid numbers a b p q
            | inr none ↦ inr (λ e of. none e.max_exp (let fits = of.valid.window_fits in omega (arith, fits)) of.greatest_window)
          ]
      | inr none ↦ inr (λ e of. none e.min_exp (let fits = of.valid.window_fits in let order = of.valid.in_order in omega (arith, fits, order)) of.least_window)
    ]

pub decide_entry : (line : List ℕ) (item : Item) → ((e : WmmEntry) × IsItemLine line item e) ⊎ ((e : WmmEntry) → IsItemLine line item e → ⊥)
decide_entry line item = known (item_numbers item line) (λ none. inr (entry-none item line none)) (λ numbers read. judged numbers read (decide_numbers numbers))
  where
    judged : (numbers : ItemNumbers) → item_numbers item line ≡ Some numbers → ((e : WmmEntry) × IsEntryOf numbers e) ⊎ ((e : WmmEntry) → IsEntryOf numbers e → ⊥) → ((e : WmmEntry) × IsItemLine line item e) ⊎ ((e : WmmEntry) → IsItemLine line item e → ⊥)
    judged numbers read (inl (e, of)) = inl (e, entry-reads item line numbers e read of)
    judged numbers read (inr none) = inr (entry-no_entry item line numbers read none)
