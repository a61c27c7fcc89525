-- What is kept of countries says what the lines say, a further line included.
use Rattle.std.proofs.Common.{◌≡◌, ◌≢◌, ℕ, ◌+◌, ◌<◌, false, List, [], ◌∷◌, ◌++◌, length, take, get_or, Contains, Option, Some, None, IfSome, All, arith, refl, sym, subst, ◌∙◌, inl, inr}
use Rattle.std.proofs.lemmas.Bool.{cases_eq}
use Rattle.std.proofs.lemmas.List.{take_more}
use Rattle.std.proofs.lemmas.List.Elements.{Contains-get_or, Contains-append_left, Contains-append_right, Contains-append_cases}
use Rattle.std.specs.BTreeMap.{get}
use Rattle.std.specs.Ordering.{nat_cmp}
use Rattle.freq_range.proofs.Members.{Contains-head, Contains-cases, Contains-nothing}
use Rattle.rule_tables.proofs.Inserted.{same_key}
use Rattle.rule_tables.specs.Code.{IsCode, key}
use Rattle.rule_tables.specs.FileFormat.{DropsRepeats}
use Rattle.rule_tables.specs.declared.code.Alpha2.{Alpha2}
use Rattle.rule_tables.specs.declared.code.Region.{Region}
use Rattle.rule_text.specs.declared.countries.Country.{Country as Kept}
use Rattle.text_lines.specs.declared.fault.LineStop.{LineStop}
use Rattle.text_lines.specs.declared.fault.LineStop.TheVariants.{Kind, OutOfMemory}
use Rattle.text_lines.specs.declared.fault.TextKind.TheVariants.{RegionDiffers}
use Rattle.rule_text.specs.Faults.{IsContradicted}
use Rattle.rule_text.specs.Forms.{Form, NamesCode, block_of, is_of_code, rules_of}
use Rattle.rule_text.specs.Forms.Form.{Country, Empty, ItemLine, RuleLine, WmmHeader}
use Rattle.rule_text.specs.inner.State.{AreCountries, Countries, IsCountryOf, IsHeaderAt, IsKeptCountry, IsOpenAllStop, IsOpenStop, IsOpened, OpensCountry, country_of}
use Rattle.rule_text.proofs.FormLaws.{HeaderAt-above, HeaderAt-more, HeaderAt-names, HeaderAt-within, Names-cases, Names-later, Names-top, Names-top_cases, cases_code, first_header-more, form_at_cases, form_at_more, form_at_top, rules_of-unnamed}

-- ---- lines that say nothing of a code

abbrev pub IsQuiet : Alpha2 → Form → List Form → Type 0
IsQuiet code (Country cs region) above = Contains cs code → ⊥
IsQuiet code (RuleLine rule name) above = is_of_code code (block_of above) ≡ false
IsQuiet code form above = Unit {0}

quiet_names : (code : Alpha2) (form : Form) (above : List Form) (region : Region) → IsQuiet code form above → NamesCode (form ∷ above) code region → NamesCode above code region
quiet_names code form above region quiet named = elim (Names-cases form above code region named) [
  | inl top ↦ absurd ((subst (λ f. IsQuiet code f above) top.1 quiet) top.2)
  | inr later ↦ later
]

quiet_rules : (code : Alpha2) (form : Form) (above : List Form) → IsQuiet code form above → rules_of code (form ∷ above) ≡ rules_of code above
quiet_rules code Empty above quiet = refl
quiet_rules code (Country cs region) above quiet = refl
quiet_rules code (WmmHeader name) above quiet = refl
quiet_rules code (ItemLine item e) above quiet = refl
quiet_rules code (RuleLine rule name) above quiet = rw quiet refl

pub quiet_country : (code : Alpha2) (form : Form) (above : List Form) (o : Option Kept) → IsQuiet code form above → IsCountryOf above code o → IsCountryOf (form ∷ above) code o
quiet_country code form above None quiet is = λ region named. is region (quiet_names code form above region quiet named)
quiet_country code form above (Some kept) quiet is = record {
  code_is = is.code_is;
  named = Names-later form above code kept.region is.named;
  one_region = λ region named. is.one_region region (quiet_names code form above region quiet named);
  first_header = (is.first_header.0, is.first_header.1, first_header-more form above code is.first_header.0 is.first_header.2);
  rules_are = rw (quiet_rules code form above quiet) is.rules_are;
  few = is.few;
}

-- a line that says nothing of any code
pub quiet_countries : (form : Form) (above : List Form) (countries : Countries) → ((code : Alpha2) → IsQuiet code form above) → AreCountries above countries → AreCountries (form ∷ above) countries
quiet_countries form above countries quiet are = record {
  each = λ code is_code. quiet_country code form above (country_of countries code) (quiet code) (are.each code is_code);
  keys = are.keys;
}

pub no_codes : (region : Region) (above : List Form) (countries : Countries) → AreCountries above countries → AreCountries (Country [] region ∷ above) countries
no_codes region above countries are = quiet_countries (Country [] region) above countries (λ code has. Contains-nothing code has) are

-- ---- a header

-- the header names the code with these codes as with those
other_codes : (cs ds : List Alpha2) (region : Region) (above : List Form) (code : Alpha2) (o : Option Kept) → (Contains cs code → Contains ds code) → (Contains ds code → Contains cs code)
    → IsCountryOf (Country cs region ∷ above) code o → IsCountryOf (Country ds region ∷ above) code o
other_codes cs ds region above code None to from is = λ r named. elim (Names-top_cases ds region above code r named) [
  | inl top ↦ is r (subst (λ x. NamesCode (Country cs region ∷ above) code x) top.1 (Names-top cs region above code (from top.0)))
  | inr later ↦ is r (Names-later (Country cs region) above code r later)
]
other_codes cs ds region above code (Some kept) to from is = record {
  code_is = is.code_is;
  named = elim (Names-top_cases cs region above code kept.region is.named) [
    | inl top ↦ subst (λ x. NamesCode (Country ds region ∷ above) code x) top.1 (Names-top ds region above code (to top.0))
    | inr later ↦ Names-later (Country ds region) above code kept.region later
  ];
  one_region = λ r named. elim (Names-top_cases ds region above code r named) [
    | inl top ↦ is.one_region r (subst (λ x. NamesCode (Country cs region ∷ above) code x) top.1 (Names-top cs region above code (from top.0)))
    | inr later ↦ is.one_region r (Names-later (Country cs region) above code r later)
  ];
  first_header = (
    is.first_header.0,
    is.first_header.1,
    record {
      here = turned cs ds to is.first_header.0 is.first_header.2.here;
      none_before = λ j less at. is.first_header.2.none_before j less (turned ds cs from j at);
    },
  );
  rules_are = is.rules_are;
  few = is.few;
}
  where
    turned : (xs ys : List Alpha2) → (Contains xs code → Contains ys code) → (k : ℕ) → IsHeaderAt (Country xs region ∷ above) code k → IsHeaderAt (Country ys region ∷ above) code k
    turned xs ys over k at = elim (form_at_cases (Country at.0 at.1) (Country xs region) above k at.2) [
      | inl top ↦
          let same : xs ≡ at.0 = let e = top.1 in cc in
          (ys, region, rw top.0 (form_at_top (Country ys region) above), over (subst (λ zs. Contains zs code) (sym same) at.3))
      | inr later ↦ (at.0, at.1, form_at_more (Country at.0 at.1) (Country ys region) above k later, at.3)
    ]

-- a country that is opened, or was opened with the same region
opened_here : (cs : List Alpha2) (region : Region) (above : List Form) (code : Alpha2) (old new : Option Kept) → IsCountryOf (Country cs region ∷ above) code old
    → IsOpened code region (length above + 1) old new → IsCountryOf (Country (cs ++ code ∷ []) region ∷ above) code new
opened_here cs region above code None new is opened = subst (IsCountryOf (Country (cs ++ code ∷ []) region ∷ above) code) (sym opened) (record {
  code_is = refl;
  named = Names-top (cs ++ code ∷ []) region above code (Contains-append_right cs (code ∷ []) code (Contains-head code []));
  one_region = λ r named. elim (Names-top_cases (cs ++ code ∷ []) region above code r named) [
    | inl top ↦ sym top.1
    | inr later ↦ absurd (is r (Names-later (Country cs region) above code r later))
  ];
  first_header = (
    length above,
    refl,
    record {
      here = (cs ++ code ∷ [], region, form_at_top (Country (cs ++ code ∷ []) region) above, Contains-append_right cs (code ∷ []) code (Contains-head code []));
      none_before = λ j less at.
          let n = HeaderAt-names above code j (HeaderAt-above (Country (cs ++ code ∷ []) region) above code j less at) in
          is n.0 (Names-later (Country cs region) above code n.0 n.1);
    },
  );
  rules_are = subst (λ rules. DropsRepeats rules []) (sym (rules_of-unnamed above code (λ r named. is r (Names-later (Country cs region) above code r named)))) refl;
  few = omega arith;
})
opened_here cs region above code (Some kept) new is opened = subst (IsCountryOf (Country (cs ++ code ∷ []) region ∷ above) code) (sym opened.0) (record {
  code_is = is.code_is;
  named = elim (Names-top_cases cs region above code kept.region is.named) [
    | inl top ↦ subst (λ x. NamesCode (Country (cs ++ code ∷ []) region ∷ above) code x) top.1
        (Names-top (cs ++ code ∷ []) region above code (Contains-append_left cs (code ∷ []) code top.0))
    | inr later ↦ Names-later (Country (cs ++ code ∷ []) region) above code kept.region later
  ];
  one_region = λ r named. elim (Names-top_cases (cs ++ code ∷ []) region above code r named) [
    | inl top ↦ sym (opened.1 ∙ top.1)
    | inr later ↦ is.one_region r (Names-later (Country cs region) above code r later)
  ];
  first_header = (
    is.first_header.0,
    is.first_header.1,
    record {
      here = elim (form_at_cases (Country is.first_header.2.here.0 is.first_header.2.here.1) (Country cs region) above is.first_header.0 is.first_header.2.here.2) [
        | inl top ↦ (
          cs ++ code ∷ [],
          region,
          rw top.0 (form_at_top (Country (cs ++ code ∷ []) region) above),
          Contains-append_right cs (code ∷ []) code (Contains-head code []),
        )
        | inr later ↦ (
          is.first_header.2.here.0,
          is.first_header.2.here.1,
          form_at_more (Country is.first_header.2.here.0 is.first_header.2.here.1) (Country (cs ++ code ∷ []) region) above is.first_header.0 later,
          is.first_header.2.here.3,
        )
      ];
      none_before = λ j less at.
          let within = HeaderAt-within (Country cs region ∷ above) code is.first_header.0 is.first_header.2.here in
          is.first_header.2.none_before j less (HeaderAt-more (Country cs region) above code j
          (HeaderAt-above (Country (cs ++ code ∷ []) region) above code j (omega (arith, less, within)) at));
    },
  );
  rules_are = is.rules_are;
  few = is.few;
})

pub keys_after : (code : Alpha2) (old new : Countries) (P : ℕ → Kept → Type 0) → ((q : ℕ) → q ≢ key code → get nat_cmp new q ≡ get nat_cmp old q)
    → ((q : ℕ) → IfSome (get nat_cmp old q) (P q)) → IfSome (get nat_cmp new (key code)) (P (key code)) → (q : ℕ) → IfSome (get nat_cmp new q) (P q)
keys_after code old new P others was here q = elim (cases_eq q (key code)) [
  | inl same ↦ rw same here
  | inr apart ↦ subst (λ o. IfSome o (P q)) (sym (others q apart)) (was q)
]

other_key : (code other : Alpha2) → IsCode code → IsCode other → other ≢ code → key other ≢ key code
other_key code other is_code is_other apart = λ e. apart (same_key other code is_other is_code e)

-- each code's country behind a change at one code
pub each_after : (code : Alpha2) (old new : Countries) (before after : Alpha2 → List Form) → IsCode code → ((q : ℕ) → q ≢ key code → get nat_cmp new q ≡ get nat_cmp old q)
    → ((other : Alpha2) (o : Option Kept) → other ≢ code → IsCountryOf (before other) other o → IsCountryOf (after other) other o)
    → ((other : Alpha2) → IsCode other → IsCountryOf (before other) other (country_of old other))
    → IsCountryOf (after code) code (country_of new code)
    → (other : Alpha2) → IsCode other → IsCountryOf (after other) other (country_of new other)
each_after code old new before after is_code others carry was here other is_other = elim (cases_code other code) [
  | inl same ↦ subst (λ c. IsCountryOf (after c) c (country_of new c)) (sym same) here
  | inr apart ↦ carry other (country_of new other) apart.0
      (subst (IsCountryOf (before other) other) (sym (others (key other) (other_key code other is_code is_other apart.0))) (was other is_other))
]

opened_key : (code : Alpha2) (region : Region) (line : ℕ) (old new : Option Kept) → IsCode code → IsOpened code region line old new
    → IfSome old (λ kept. IsCode kept.alpha2 × (key code ≡ key kept.alpha2)) → IfSome new (λ kept. IsCode kept.alpha2 × (key code ≡ key kept.alpha2))
opened_key code region line None new is_code opened was = subst (λ o. IfSome o (λ kept. IsCode kept.alpha2 × (key code ≡ key kept.alpha2))) (sym opened) (is_code, refl)
opened_key code region line (Some kept) new is_code opened was = subst (λ o. IfSome o (λ kept. IsCode kept.alpha2 × (key code ≡ key kept.alpha2))) (sym opened.0) was

-- one more code of a header
pub opened_more : (cs : List Alpha2) (region : Region) (above : List Form) (line : ℕ) (code : Alpha2) (old new : Countries) → IsCode code → line ≡ length above + 1
    → AreCountries (Country cs region ∷ above) old → OpensCountry code region line old new → AreCountries (Country (cs ++ code ∷ []) region ∷ above) new
opened_more cs region above line code old new is_code at are opens = record {
  each = each_after code old new (λ other. Country cs region ∷ above) (λ other. Country (cs ++ code ∷ []) region ∷ above) is_code opens.others
      (λ other o apart is. other_codes cs (cs ++ code ∷ []) region above other o (Contains-append_left cs (code ∷ []) other)
      (λ has. elim (Contains-append_cases cs (code ∷ []) other has) [
        | inl early ↦ early
        | inr late ↦ elim (Contains-cases code [] other late) [
          | inl here ↦ absurd (apart (sym here))
          | inr none ↦ absurd (Contains-nothing other none)
        ]
      ]) is)
      are.each
      (opened_here cs region above code (country_of old code) (country_of new code) (are.each code is_code)
      (subst (λ n. IsOpened code region n (country_of old code) (country_of new code)) at opens.here));
  keys = keys_after code old new (λ q kept. IsCode kept.alpha2 × (q ≡ key kept.alpha2)) opens.others are.keys
      (opened_key code region line (country_of old code) (country_of new code) is_code opens.here (are.keys (key code)));
}

kept_here : (forms : List Form) (code : Alpha2) (o : Option Kept) (kept : Kept) → o ≡ Some kept → IsCountryOf forms code o → IsKeptCountry forms code kept
kept_here forms code o kept is country = subst (IsCountryOf forms code) is country

-- a country with another region contradicts the header
pub contradicts : (cs all : List Alpha2) (region : Region) (above : List Form) (code : Alpha2) (countries : Countries) (kept : Kept) → IsCode code → Contains all code
    → AreCountries (Country cs region ∷ above) countries → country_of countries code ≡ Some kept → kept.region ≢ region → IsContradicted above all region
contradicts cs all region above code countries kept is_code has are is apart =
    let country = kept_here (Country cs region ∷ above) code (country_of countries code) kept is (are.each code is_code) in
    elim (Names-top_cases cs region above code kept.region country.named) [
      | inl top ↦ absurd (apart (sym top.1))
      | inr later ↦ (code, kept.region, has, later, apart)
    ]

pub named_country : (forms : List Form) (code : Alpha2) (o : Option Kept) (region : Region) → IsCountryOf forms code o → NamesCode forms code region → (kept : Kept) × (o ≡ Some kept) × IsKeptCountry forms code kept
named_country forms code None region is named = absurd (is region named)
named_country forms code (Some kept) region is named = (kept, refl, is)

-- a header whose countries are kept isn't contradicted
pub uncontradicted : (cs : List Alpha2) (region : Region) (above : List Form) (countries : Countries) → AreCountries (Country cs region ∷ above) countries
    → ((code : Alpha2) → Contains cs code → IsCode code) → IsContradicted above cs region → ⊥
uncontradicted cs region above countries are is_code (code, other, has, named, apart) =
    let forms = Country cs region ∷ above in
    let top = Names-top cs region above code has in
    let kept = named_country forms code (country_of countries code) region (are.each code (is_code code has)) top in
    let one = kept.2.one_region region top in
    let two = kept.2.one_region other (Names-later (Country cs region) above code other named) in
    apart (two ∙ sym one)

-- ---- the codes one after another

pub opened_step : (cs : List Alpha2) (i : ℕ) (region : Region) (above : List Form) (line : ℕ) (old new : Countries) → i < length cs → line ≡ length above + 1 → All IsCode cs
    → AreCountries (Country (take i cs) region ∷ above) old → OpensCountry (get_or cs i (record { a = 0; b = 0 })) region line old new
    → AreCountries (Country (take (i + 1) cs) region ∷ above) new
opened_step cs i region above line old new in_range at codes are opens =
    let code = get_or cs i (record { a = 0; b = 0 }) in
    subst (λ xs. AreCountries (Country xs region ∷ above) new) (sym (take_more cs i (record { a = 0; b = 0 }) in_range))
    (opened_more (take i cs) region above line code old new (codes i (record { a = 0; b = 0 }) in_range) at are opens)

pub open_all_stop : (cs : List Alpha2) (i : ℕ) (region : Region) (above : List Form) (old : Countries) (stop : LineStop) → i < length cs → All IsCode cs
    → AreCountries (Country (take i cs) region ∷ above) old → IsOpenStop (get_or cs i (record { a = 0; b = 0 })) region old stop → IsOpenAllStop above cs region stop
open_all_stop cs i region above old (Kind RegionDiffers) in_range codes are (kept, is, apart) =
    let code = get_or cs i (record { a = 0; b = 0 }) in
    contradicts (take i cs) cs region above code old kept (codes i (record { a = 0; b = 0 }) in_range) (Contains-get_or cs i (record { a = 0; b = 0 }) in_range) are is apart
open_all_stop cs i region above old OutOfMemory in_range codes are stop = tt
open_all_stop cs i region above old (Kind kind) in_range codes are stop = absurd stop
