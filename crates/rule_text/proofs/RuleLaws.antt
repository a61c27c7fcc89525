-- What is kept of countries says what the lines say, the line of a rule included.
use Rattle.std.proofs.Common.{◌≡◌, ◌≢◌, ℕ, ◌+◌, ◌<◌, ◌≤◌, true, List, [], ◌∷◌, ◌++◌, length, take, get_or, Contains, Option, Some, None, IfSome, All, arith, refl, sym, subst, ap, inl, inr, if◌then◌else◌}
use Rattle.std.proofs.lemmas.List.{length-append, take_all, take_more}
use Rattle.std.proofs.lemmas.List.Elements.{Contains-get_or, Contains-append_right}
use Rattle.std.specs.List.{list_any}
use Rattle.freq_range.proofs.Members.{Contains-head}
use Rattle.freq_range.specs.declared.rule.Rule.{Rule}
use Rattle.rule_tables.proofs.Dropped.{DropsRepeats-keeps, DropsRepeats-only, DropsRepeats-unique}
use Rattle.rule_tables.specs.Code.{IsCode, key, is_same_code}
use Rattle.rule_tables.specs.FileFormat.{DropsRepeats}
use Rattle.rule_tables.specs.declared.code.Alpha2.{Alpha2}
use Rattle.rule_tables.specs.declared.code.Region.{Region}
use Rattle.rule_text.specs.declared.countries.Country.{Country as Kept}
use Rattle.text_lines.specs.declared.fault.LineStop.{LineStop}
use Rattle.text_lines.specs.declared.fault.LineStop.TheVariants.{Kind, OutOfMemory}
use Rattle.text_lines.specs.declared.fault.TextKind.TheVariants.{TooManyRules}
use Rattle.rule_text.specs.Faults.{HasTooManyRules}
use Rattle.rule_text.specs.Forms.{Form, NamesCode, block_of, is_of_code, rules_of, with_named}
use Rattle.rule_text.specs.Forms.Block.{OfCountries}
use Rattle.rule_text.specs.Forms.Form.{RuleLine}
use Rattle.rule_text.specs.inner.State.{AddsRule, AddsTo, AreCountries, AreRuled, Countries, IsAddAllStop, IsAddToStop, IsAdded, IsCountryOf, IsKeptCountry, country_of, forms_at}
use Rattle.rule_text.proofs.CountryLaws.{each_after, keys_after, named_country, quiet_country}
use Rattle.rule_text.proofs.FormLaws.{Names-cases, Names-later, among_true, block_named_by, cases_among, first_header-more, is_same_code-apart}

-- the rules of a code whose block is open, with one more line
pub open_rules : (code : Alpha2) (rule : Rule) (name : Option (List ℕ)) (above : List Form) → is_of_code code (block_of above) ≡ true
    → rules_of code (RuleLine rule name ∷ above) ≡ with_named above rule name ∷ rules_of code above
open_rules code rule name above is = rw is refl

-- the line of a rule names no code
pub rule_names : (code : Alpha2) (rule : Rule) (name : Option (List ℕ)) (above : List Form) (region : Region) → NamesCode (RuleLine rule name ∷ above) code region → NamesCode above code region
rule_names code rule name above region named = elim (Names-cases (RuleLine rule name) above code region named) [
  | inl top ↦ absurd (let e = top.1 in cc)
  | inr later ↦ later
]

-- a country with the rule, where it wasn't added before
ruled_country : (code : Alpha2) (rule full : Rule) (name : Option (List ℕ)) (above : List Form) (old new : Kept) → full ≡ with_named above rule name
    → is_of_code code (block_of above) ≡ true → IsKeptCountry above code old → AddsRule full old new → IsKeptCountry (RuleLine rule name ∷ above) code new
ruled_country code rule full name above old new is_full is_open is (inl same) = subst (IsKeptCountry (RuleLine rule name ∷ above) code) (sym same.1) (record {
  code_is = is.code_is;
  named = Names-later (RuleLine rule name) above code old.region is.named;
  one_region = λ r named. is.one_region r (rule_names code rule name above r named);
  first_header = (is.first_header.0, is.first_header.1, first_header-more (RuleLine rule name) above code is.first_header.0 is.first_header.2);
  rules_are = subst (λ rules. DropsRepeats rules old.rules) (sym (open_rules code rule name above is_open))
      (old.rules, is.rules_are, inl (DropsRepeats-only (rules_of code above) old.rules (with_named above rule name) is.rules_are (subst (Contains old.rules) is_full same.0), refl));
  few = is.few;
})
ruled_country code rule full name above old new is_full is_open is (inr added) = subst (IsKeptCountry (RuleLine rule name ∷ above) code) (sym added.2) (record {
  code_is = is.code_is;
  named = Names-later (RuleLine rule name) above code old.region is.named;
  one_region = λ r named. is.one_region r (rule_names code rule name above r named);
  first_header = (is.first_header.0, is.first_header.1, first_header-more (RuleLine rule name) above code is.first_header.0 is.first_header.2);
  rules_are = subst (λ rules. DropsRepeats rules (old.rules ++ full ∷ [])) (sym (open_rules code rule name above is_open)) (
    old.rules,
    is.rules_are,
    inr (
      λ has. added.0 (subst (Contains old.rules) (sym is_full) (DropsRepeats-keeps (rules_of code above) old.rules (with_named above rule name) is.rules_are has)),
      ap (λ r. old.rules ++ r ∷ []) is_full,
    ),
  );
  few = let len = length-append old.rules (full ∷ []) in omega (arith, len, added.1);
})

-- a country that has the rule already stays as it is
has_rule : (code : Alpha2) (rule full : Rule) (name : Option (List ℕ)) (above : List Form) (kept : Kept) → full ≡ with_named above rule name
    → is_of_code code (block_of above) ≡ true → IsKeptCountry (RuleLine rule name ∷ above) code kept → Contains kept.rules full
has_rule code rule full name above kept is_full is_open is =
    DropsRepeats-keeps (rules_of code (RuleLine rule name ∷ above)) kept.rules full is.rules_are
    (subst (λ rules. Contains rules full) (sym (open_rules code rule name above is_open))
    (subst (λ r. Contains (r ∷ rules_of code above) full) is_full (Contains-head full (rules_of code above))))

same_country : (code : Alpha2) (rule full : Rule) (name : Option (List ℕ)) (above : List Form) (old new : Kept) → full ≡ with_named above rule name
    → is_of_code code (block_of above) ≡ true → IsKeptCountry (RuleLine rule name ∷ above) code old → AddsRule full old new → IsKeptCountry (RuleLine rule name ∷ above) code new
same_country code rule full name above old new is_full is_open is (inl same) = subst (IsKeptCountry (RuleLine rule name ∷ above) code) (sym same.1) is
same_country code rule full name above old new is_full is_open is (inr added) = absurd (added.0 (has_rule code rule full name above old is_full is_open is))

-- ---- the codes one after another

any_more : (code c : Alpha2) (done : List Alpha2) → c ≢ code → list_any (is_same_code code) (done ++ c ∷ []) ≡ list_any (is_same_code code) done
any_more code c [] apart = rw (is_same_code-apart code c (λ e. apart (sym e))) refl
any_more code c (d ∷ done) apart = rw (any_more code c done apart) refl

any_last : (code : Alpha2) (done : List Alpha2) → list_any (is_same_code code) (done ++ code ∷ []) ≡ true
any_last code done = among_true code (done ++ code ∷ []) (Contains-append_right done (code ∷ []) code (Contains-head code []))

-- the country of a code with the rule
pub added_here : (code : Alpha2) (rule full : Rule) (name : Option (List ℕ)) (above : List Form) (done cs : List Alpha2) (old new : Option Kept) → full ≡ with_named above rule name
    → block_of above ≡ OfCountries cs → Contains cs code → IsCountryOf (forms_at code done (RuleLine rule name) above) code old → IsAdded full old new
    → IsCountryOf (RuleLine rule name ∷ above) code new
added_here code rule full name above done cs old new is_full block has is added =
    let named = block_named_by above cs code block has in
    let is_open : is_of_code code (block_of above) ≡ true = rw block (among_true code cs has) in
    elim (cases_among code done) [
      | inl among ↦
          let country = named_country (RuleLine rule name ∷ above) code old named.0
          (subst (λ t. IsCountryOf (if t then RuleLine rule name ∷ above else above) code old) among.1 is)
          (Names-later (RuleLine rule name) above code named.0 named.1) in
          let change = subst (λ o. IsAdded full o new) country.1 added in
          subst (IsCountryOf (RuleLine rule name ∷ above) code) (sym change.1) (same_country code rule full name above country.0 change.0 is_full is_open country.2 change.2)
      | inr none ↦
          let country = named_country above code old named.0 (subst (λ t. IsCountryOf (if t then RuleLine rule name ∷ above else above) code old) none.1 is) named.1 in
          let change = subst (λ o. IsAdded full o new) country.1 added in
          subst (IsCountryOf (RuleLine rule name ∷ above) code) (sym change.1) (ruled_country code rule full name above country.0 change.0 is_full is_open country.2 change.2)
    ]

added_key : (q : ℕ) (rule : Rule) (old new : Option Kept) → IsAdded rule old new → IfSome old (λ kept. IsCode kept.alpha2 × (q ≡ key kept.alpha2))
    → IfSome new (λ kept. IsCode kept.alpha2 × (q ≡ key kept.alpha2))
added_key q rule None new added was = subst (λ o. IfSome o (λ kept. IsCode kept.alpha2 × (q ≡ key kept.alpha2))) (sym added) tt
added_key q rule (Some kept) new (changed, is, inl same) was =
    subst (λ o. IfSome o (λ k. IsCode k.alpha2 × (q ≡ key k.alpha2))) (sym is) (subst (λ (k : Kept). IsCode k.alpha2 × (q ≡ key k.alpha2)) (sym same.1) was)
added_key q rule (Some kept) new (changed, is, inr more) was =
    subst (λ o. IfSome o (λ k. IsCode k.alpha2 × (q ≡ key k.alpha2))) (sym is) (subst (λ (k : Kept). IsCode k.alpha2 × (q ≡ key k.alpha2)) (sym more.2) was)

pub ruled_more : (rule full : Rule) (name : Option (List ℕ)) (above : List Form) (done cs : List Alpha2) (code : Alpha2) (old new : Countries) → full ≡ with_named above rule name
    → block_of above ≡ OfCountries cs → Contains cs code → IsCode code → AreRuled above rule name done old → AddsTo code full old new → AreRuled above rule name (done ++ code ∷ []) new
ruled_more rule full name above done cs code old new is_full block has is_code are adds = record {
  each = each_after code old new (λ other. forms_at other done (RuleLine rule name) above) (λ other. forms_at other (done ++ code ∷ []) (RuleLine rule name) above) is_code adds.others
      (λ other o apart is. subst (λ t. IsCountryOf (if t then RuleLine rule name ∷ above else above) other o) (sym (any_more other code done (λ e. apart (sym e)))) is)
      are.each
      (subst (λ t. IsCountryOf (if t then RuleLine rule name ∷ above else above) code (country_of new code)) (sym (any_last code done))
      (added_here code rule full name above done cs (country_of old code) (country_of new code) is_full block has (are.each code is_code) adds.here));
  keys = keys_after code old new (λ q kept. IsCode kept.alpha2 × (q ≡ key kept.alpha2)) adds.others are.keys
      (added_key (key code) full (country_of old code) (country_of new code) adds.here (are.keys (key code)));
}

pub ruled_start : (rule : Rule) (name : Option (List ℕ)) (above : List Form) (countries : Countries) → AreCountries above countries → AreRuled above rule name [] countries
ruled_start rule name above countries are = record { each = are.each; keys = are.keys }

pub ruled_end : (rule : Rule) (name : Option (List ℕ)) (above : List Form) (cs : List Alpha2) (countries : Countries) → block_of above ≡ OfCountries cs
    → AreRuled above rule name cs countries → AreCountries (RuleLine rule name ∷ above) countries
ruled_end rule name above cs countries block are = record {
  each = λ code is_code. elim (cases_among code cs) [
    | inl among ↦ subst (λ t. IsCountryOf (if t then RuleLine rule name ∷ above else above) code (country_of countries code)) among.1 (are.each code is_code)
    | inr none ↦ quiet_country code (RuleLine rule name) above (country_of countries code) (rw block none.1)
        (subst (λ t. IsCountryOf (if t then RuleLine rule name ∷ above else above) code (country_of countries code)) none.1 (are.each code is_code))
  ];
  keys = are.keys;
}

-- ---- the 129th rule

pub makes_too_many : (rule full : Rule) (name : Option (List ℕ)) (above : List Form) (done cs : List Alpha2) (code : Alpha2) (countries : Countries) (kept : Kept) → full ≡ with_named above rule name
    → block_of above ≡ OfCountries cs → Contains cs code → IsCode code → AreRuled above rule name done countries → country_of countries code ≡ Some kept
    → (Contains kept.rules full → ⊥) → 128 ≤ length kept.rules → HasTooManyRules (RuleLine rule name ∷ above) code
makes_too_many rule full name above done cs code countries kept is_full block has is_code are is lacks many =
    let is_open : is_of_code code (block_of above) ≡ true = rw block (among_true code cs has) in
    let here = subst (IsCountryOf (forms_at code done (RuleLine rule name) above) code) is (are.each code is_code) in
    elim (cases_among code done) [
      | inl among ↦ absurd (lacks (has_rule code rule full name above kept is_full is_open
          (subst (λ t. IsKeptCountry (if t then RuleLine rule name ∷ above else above) code kept) among.1 here)))
      | inr none ↦
          let country = subst (λ t. IsKeptCountry (if t then RuleLine rule name ∷ above else above) code kept) none.1 here in
          let len = length-append kept.rules (full ∷ []) in (
            kept.rules ++ full ∷ [],
            subst (λ rules. DropsRepeats rules (kept.rules ++ full ∷ [])) (sym (open_rules code rule name above is_open)) (
              kept.rules,
              country.rules_are,
              inr (
                λ earlier. lacks (subst (Contains kept.rules) (sym is_full) (DropsRepeats-keeps (rules_of code above) kept.rules (with_named above rule name) country.rules_are earlier)),
                ap (λ r. kept.rules ++ r ∷ []) is_full,
              ),
            ),
            omega (arith, len, many),
          )
    ]

-- no country that is kept has too many rules
pub not_too_many : (forms : List Form) (countries : Countries) (code : Alpha2) (region : Region) → AreCountries forms countries → IsCode code → NamesCode forms code region → HasTooManyRules forms code → ⊥
not_too_many forms countries code region are is_code named (kept, drops, many) =
    let country = named_country forms code (country_of countries code) region (are.each code is_code) named in
    let few = country.2.few in
    let same = ap length (DropsRepeats-unique (rules_of code forms) kept country.0.rules drops country.2.rules_are) in
    omega (arith, many, few, same)

-- ---- the codes one after another

pub ruled_step : (rule full : Rule) (name : Option (List ℕ)) (above : List Form) (cs : List Alpha2) (i : ℕ) (old new : Countries) → i < length cs → full ≡ with_named above rule name
    → block_of above ≡ OfCountries cs → All IsCode cs → AreRuled above rule name (take i cs) old → AddsTo (get_or cs i (record { a = 0; b = 0 })) full old new
    → AreRuled above rule name (take (i + 1) cs) new
ruled_step rule full name above cs i old new in_range is_full block codes are adds =
    let code = get_or cs i (record { a = 0; b = 0 }) in
    subst (λ xs. AreRuled above rule name xs new) (sym (take_more cs i (record { a = 0; b = 0 }) in_range))
    (ruled_more rule full name above (take i cs) cs code old new is_full block (Contains-get_or cs i (record { a = 0; b = 0 }) in_range) (codes i (record { a = 0; b = 0 }) in_range) are adds)

pub ruled_all : (rule : Rule) (name : Option (List ℕ)) (above : List Form) (cs : List Alpha2) (i : ℕ) (countries : Countries) → length cs ≤ i → block_of above ≡ OfCountries cs
    → AreRuled above rule name (take i cs) countries → AreCountries (RuleLine rule name ∷ above) countries
ruled_all rule name above cs i countries past block are =
    ruled_end rule name above cs countries block (subst (λ xs. AreRuled above rule name xs countries) (take_all i cs past) are)

pub add_all_stop : (rule full : Rule) (name : Option (List ℕ)) (above : List Form) (cs : List Alpha2) (i : ℕ) (old : Countries) (stop : LineStop) → i < length cs
    → full ≡ with_named above rule name → block_of above ≡ OfCountries cs → All IsCode cs → AreRuled above rule name (take i cs) old
    → IsAddToStop (get_or cs i (record { a = 0; b = 0 })) full old stop → IsAddAllStop (RuleLine rule name ∷ above) cs stop
add_all_stop rule full name above cs i old (Kind TooManyRules) in_range is_full block codes are (kept, is, lacks) =
    let code = get_or cs i (record { a = 0; b = 0 }) in (
      code,
      Contains-get_or cs i (record { a = 0; b = 0 }) in_range,
      makes_too_many rule full name above (take i cs) cs code old kept is_full block (Contains-get_or cs i (record { a = 0; b = 0 }) in_range) (codes i (record { a = 0; b = 0 }) in_range) are is lacks.0 lacks.1,
    )
add_all_stop rule full name above cs i old OutOfMemory in_range is_full block codes are stop = tt
add_all_stop rule full name above cs i old (Kind kind) in_range is_full block codes are stop = absurd stop.2
