-- What a further line changes of what the lines above it say.
use Rattle.std.proofs.Common.{◌≡◌, ◌≢◌, ℕ, ◌<◌, ◌⊎◌, true, false, List, [], ◌∷◌, length, Contains, Some, arith, refl, sym, subst, ◌∙◌, ap, inl, inr, eq-eqb}
use Rattle.std.proofs.lemmas.Bool.{cases_eq, ne_eqb}
use Rattle.std.proofs.lemmas.Option.{same_Some}
use Rattle.std.specs.List.{list_any}
use Rattle.freq_range.proofs.Members.{Contains-head, Contains-later, Contains-cases, Contains-nothing}
use Rattle.freq_range.specs.First.{IsFirst}
use Rattle.rule_tables.specs.declared.code.Alpha2.{Alpha2}
use Rattle.rule_tables.specs.declared.code.Region.{Region}
use Rattle.rule_tables.specs.Code.{is_same_code}
use Rattle.rule_text.specs.Forms.{Block, Form, NamesCode, block_of, form_at, is_of_code, rules_of}
use Rattle.rule_text.specs.Forms.Block.{NoBlock, OfCountries, OfName}
use Rattle.rule_text.specs.Forms.Form.{Country, Empty, ItemLine, RuleLine, WmmHeader}
use Rattle.text_lines.specs.Spelling.{AreCodes}
use Rattle.rule_text.specs.inner.State.{AreSound, IsHeaderAt}

-- ---- codes

pub is_same_code-itself : (code : Alpha2) → is_same_code code code ≡ true
is_same_code-itself code = rw (eq-eqb code.a code.a refl, eq-eqb code.b code.b refl) refl

same_bytes : (a a' b b' : ℕ) → a ≡ a' → b ≡ b' → ◌≡◌ {A = Alpha2} (record { a = a; b = b }) (record { a = a'; b = b' })
same_bytes a a' b b' p q = cc

-- two codes are one or not, and `is_same_code` tells
pub cases_code : (c d : Alpha2) → (c ≡ d) ⊎ ((c ≢ d) × (is_same_code c d ≡ false))
cases_code c d = elim (cases_eq c.a d.a) [
  | inr other ↦ inr (λ e. other (ap (λ (x : Alpha2). x.a) e), rw (ne_eqb c.a d.a other) refl)
  | inl first ↦ elim (cases_eq c.b d.b) [
    | inr other ↦ inr (λ e. other (ap (λ (x : Alpha2). x.b) e), rw (eq-eqb c.a d.a first, ne_eqb c.b d.b other) refl)
    | inl second ↦ inl (same_bytes c.a d.a c.b d.b first second)
  ]
]

pub is_same_code-true : (c d : Alpha2) → is_same_code c d ≡ true → c ≡ d
is_same_code-true c d is = elim (cases_code c d) [
  | inl same ↦ same
  | inr other ↦ absurd (let no = other.1 in cc)
]

pub is_same_code-apart : (c d : Alpha2) → c ≢ d → is_same_code c d ≡ false
is_same_code-apart c d apart = elim (cases_code c d) [
  | inl same ↦ absurd (apart same)
  | inr other ↦ other.1
]

-- whether a code is one of a list
pub cases_among : (code : Alpha2) (cs : List Alpha2)
    → (Contains cs code × (list_any (is_same_code code) cs ≡ true)) ⊎ ((Contains cs code → ⊥) × (list_any (is_same_code code) cs ≡ false))
cases_among code [] = inr (λ has. Contains-nothing code has, refl)
cases_among code (c ∷ cs) = elim (cases_code code c) [
  | inl same ↦ inl (subst (Contains (c ∷ cs)) (sym same) (Contains-head c cs), rw (ap (is_same_code code) (sym same) ∙ is_same_code-itself code) refl)
  | inr apart ↦ elim (cases_among code cs) [
    | inl among ↦ inl (Contains-later c cs code among.0, rw (apart.1, among.1) refl)
    | inr none ↦ inr (
      λ has. elim (Contains-cases c cs code has) [
        | inl here ↦ apart.0 (sym here)
        | inr later ↦ none.0 later
      ],
      rw (apart.1, none.1) refl,
    )
  ]
]

pub among_true : (code : Alpha2) (cs : List Alpha2) → Contains cs code → list_any (is_same_code code) cs ≡ true
among_true code cs has = elim (cases_among code cs) [
  | inl among ↦ among.1
  | inr none ↦ absurd (none.0 has)
]

pub among_false : (code : Alpha2) (cs : List Alpha2) → (Contains cs code → ⊥) → list_any (is_same_code code) cs ≡ false
among_false code cs lacks = elim (cases_among code cs) [
  | inl among ↦ absurd (lacks among.0)
  | inr none ↦ none.1
]

-- ---- places of lines

pub form_at_within : (forms : List Form) (k : ℕ) (form : Form) → form_at forms k ≡ Some form → k < length forms
form_at_within [] k form is = cc
form_at_within (first ∷ above) k form is = elim (cases_eq k (length above)) [
  | inl same ↦ omega arith
  | inr other ↦ let below = form_at_within above k form (rw (ne_eqb k (length above) other) at is) in omega arith
]

pub form_at_top : (form : Form) (above : List Form) → form_at (form ∷ above) (length above) ≡ Some form
form_at_top form above = rw (eq-eqb (length above) (length above) refl) refl

pub form_at_more : (form first : Form) (above : List Form) (k : ℕ) → form_at above k ≡ Some form → form_at (first ∷ above) k ≡ Some form
form_at_more form first above k is =
    let below = form_at_within above k form is in
    rw (ne_eqb k (length above) (λ same. omega (arith, same))) is

-- a line is the last one or one above it
pub form_at_cases : (form first : Form) (above : List Form) (k : ℕ) → form_at (first ∷ above) k ≡ Some form
    → ((k ≡ length above) × (first ≡ form)) ⊎ (form_at above k ≡ Some form)
form_at_cases form first above k is = elim (cases_eq k (length above)) [
  | inl same ↦ inl (same, same_Some _ _ (rw (eq-eqb k (length above) same) at is))
  | inr other ↦ inr (rw (ne_eqb k (length above) other) at is)
]

pub form_at_contains : (forms : List Form) (k : ℕ) (form : Form) → form_at forms k ≡ Some form → Contains forms form
form_at_contains [] k form is = cc
form_at_contains (first ∷ above) k form is = elim (form_at_cases form first above k is) [
  | inl top ↦ subst (λ f. Contains (f ∷ above) form) (sym top.1) (Contains-head form above)
  | inr later ↦ Contains-later first above form (form_at_contains above k form later)
]

-- ---- headers

pub same_header : (cs ds : List Alpha2) (r s : Region) → Country cs r ≡ Country ds s → (cs ≡ ds) × (r ≡ s)
same_header cs ds r s e = (cc, cc)

pub Names-later : (form : Form) (above : List Form) (code : Alpha2) (region : Region) → NamesCode above code region → NamesCode (form ∷ above) code region
Names-later form above code region named = (named.0, Contains-later form above (Country named.0 region) named.1, named.2)

pub Names-top : (cs : List Alpha2) (region : Region) (above : List Form) (code : Alpha2) → Contains cs code → NamesCode (Country cs region ∷ above) code region
Names-top cs region above code has = (cs, Contains-head (Country cs region) above, has)

-- a code is named by the last line or above it
pub Names-cases : (form : Form) (above : List Form) (code : Alpha2) (region : Region) → NamesCode (form ∷ above) code region
    → ((cs : List Alpha2) × (form ≡ Country cs region) × Contains cs code) ⊎ NamesCode above code region
Names-cases form above code region named = elim (Contains-cases form above (Country named.0 region) named.1) [
  | inl top ↦ inl (named.0, top, named.2)
  | inr later ↦ inr (named.0, later, named.2)
]

pub Names-top_cases : (cs : List Alpha2) (r : Region) (above : List Form) (code : Alpha2) (region : Region) → NamesCode (Country cs r ∷ above) code region
    → (Contains cs code × (r ≡ region)) ⊎ NamesCode above code region
Names-top_cases cs r above code region named = elim (Names-cases (Country cs r) above code region named) [
  | inl top ↦ let same = same_header cs top.0 r region top.1 in inl (subst (λ xs. Contains xs code) (sym same.0) top.2, same.1)
  | inr later ↦ inr later
]

-- a header at a place above the last line
pub HeaderAt-above : (form : Form) (above : List Form) (code : Alpha2) (k : ℕ) → k < length above → IsHeaderAt (form ∷ above) code k → IsHeaderAt above code k
HeaderAt-above form above code k below (cs, region, at, has) = elim (form_at_cases (Country cs region) form above k at) [
  | inl top ↦ absurd (omega (arith, top.0))
  | inr later ↦ (cs, region, later, has)
]

pub HeaderAt-more : (form : Form) (above : List Form) (code : Alpha2) (k : ℕ) → IsHeaderAt above code k → IsHeaderAt (form ∷ above) code k
HeaderAt-more form above code k (cs, region, at, has) = (cs, region, form_at_more (Country cs region) form above k at, has)

pub HeaderAt-within : (forms : List Form) (code : Alpha2) (k : ℕ) → IsHeaderAt forms code k → k < length forms
HeaderAt-within forms code k (cs, region, at, has) = form_at_within forms k (Country cs region) at

pub HeaderAt-names : (forms : List Form) (code : Alpha2) (k : ℕ) → IsHeaderAt forms code k → (region : Region) × NamesCode forms code region
HeaderAt-names forms code k (cs, region, at, has) = (region, (cs, form_at_contains forms k (Country cs region) at, has))

-- the first header of a code stays the first
pub first_header-more : (form : Form) (above : List Form) (code : Alpha2) (k : ℕ) → IsFirst (IsHeaderAt above code) k → IsFirst (IsHeaderAt (form ∷ above) code) k
first_header-more form above code k first = record {
  here = HeaderAt-more form above code k first.here;
  none_before = λ j less at.
      let within = HeaderAt-within above code k first.here in
      first.none_before j less (HeaderAt-above form above code j (omega (arith, less, within)) at);
}

-- ---- the last header

-- the codes of the last header are named
pub block_named_by : (forms : List Form) (cs : List Alpha2) (code : Alpha2) → block_of forms ≡ OfCountries cs → Contains cs code
    → (region : Region) × NamesCode forms code region
block_named_by [] cs code is has = absurd cc
block_named_by (Empty ∷ above) cs code is has = let n = block_named_by above cs code is has in (n.0, Names-later Empty above code n.0 n.1)
block_named_by (Country ds region ∷ above) cs code is has =
    let same : ds ≡ cs = cc in
    (region, Names-top ds region above code (subst (λ xs. Contains xs code) (sym same) has))
block_named_by (WmmHeader name ∷ above) cs code is has = absurd cc
block_named_by (ItemLine item e ∷ above) cs code is has =
    let n = block_named_by above cs code is has in (n.0, Names-later (ItemLine item e) above code n.0 n.1)
block_named_by (RuleLine rule name ∷ above) cs code is has =
    let n = block_named_by above cs code is has in (n.0, Names-later (RuleLine rule name) above code n.0 n.1)

pub block_codes : (forms : List Form) (cs : List Alpha2) → AreSound forms → block_of forms ≡ OfCountries cs → AreCodes cs
block_codes [] cs sound is = absurd cc
block_codes (Empty ∷ above) cs sound is = block_codes above cs sound is
block_codes (Country ds region ∷ above) cs sound is = let same : ds ≡ cs = cc in subst AreCodes same sound.1
block_codes (WmmHeader name ∷ above) cs sound is = absurd cc
block_codes (ItemLine item e ∷ above) cs sound is = block_codes above cs sound is
block_codes (RuleLine rule name ∷ above) cs sound is = block_codes above cs sound is

-- a block of another kind isn't the code's; one of countries is where the code is among them
pub unnamed_block : (forms : List Form) (code : Alpha2) → ((region : Region) → NamesCode forms code region → ⊥) → is_of_code code (block_of forms) ≡ false
unnamed_block forms code fresh = by_block (block_of forms) refl
  where
    by_block : (block : Block) → block_of forms ≡ block → is_of_code code block ≡ false
    by_block NoBlock is = refl
    by_block (OfName name) is = refl
    by_block (OfCountries cs) is = among_false code cs (λ has. let n = block_named_by forms cs code is has in fresh n.0 n.1)

-- ---- rules

-- the code of no header has no rules
pub rules_of-unnamed : (forms : List Form) (code : Alpha2) → ((region : Region) → NamesCode forms code region → ⊥) → rules_of code forms ≡ []
rules_of-unnamed [] code fresh = refl
rules_of-unnamed (Empty ∷ above) code fresh = rules_of-unnamed above code (λ r named. fresh r (Names-later Empty above code r named))
rules_of-unnamed (Country cs region ∷ above) code fresh = rules_of-unnamed above code (λ r named. fresh r (Names-later (Country cs region) above code r named))
rules_of-unnamed (WmmHeader name ∷ above) code fresh = rules_of-unnamed above code (λ r named. fresh r (Names-later (WmmHeader name) above code r named))
rules_of-unnamed (ItemLine item e ∷ above) code fresh = rules_of-unnamed above code (λ r named. fresh r (Names-later (ItemLine item e) above code r named))
rules_of-unnamed (RuleLine rule name ∷ above) code fresh =
    let later : (region : Region) → NamesCode above code region → ⊥ = λ r named. fresh r (Names-later (RuleLine rule name) above code r named) in
    rw (unnamed_block above code later) (rules_of-unnamed above code later)
