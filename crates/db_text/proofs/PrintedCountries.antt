-- The printed lines of countries give each its rules.
use Rattle.std.proofs.Common.{◌≡◌, ◌≢◌, ℕ, ◌+◌, ◌<◌, ◌≤◌, true, false, List, [], ◌∷◌, ◌++◌, length, get_or, map, flat_map, All, AllPairs, Contains, Option, Some, None, option_map, arith, refl, sym, subst, ap, ◌∙◌, inl, inr, append_assoc, append-nil}
use Rattle.std.specs.Prelude.{codes}
use Rattle.std.proofs.lemmas.List.{get_or_append_left, get_or_at, length-append, length_push}
use Rattle.std.proofs.lemmas.List.Elements.{All-head, All-push, All-tail, All-weaker, Contains-append_left, Contains-get_or, Contains-push}
use Rattle.freq_range.proofs.Members.{Contains-cases, Contains-head, Contains-nothing}
use Rattle.freq_range.specs.Valid.{IsValidRule}
use Rattle.freq_range.specs.declared.rule.Rule.{Rule}
use Rattle.freq_range.specs.declared.wmm.Wmm.{Wmm}
use Rattle.rule_tables.proofs.Dropped.{DropsRepeats-few}
use Rattle.rule_tables.specs.Code.{key}
use Rattle.rule_tables.specs.Databases.{IsDomain}
use Rattle.rule_tables.specs.declared.code.Alpha2.{Alpha2}
use Rattle.rule_tables.specs.declared.code.Region.{Region}
use Rattle.rule_tables.specs.declared.domain.Domain.{Domain}
use Rattle.rule_text.specs.Faults.{HasTooManyRules, IsContradicted}
use Rattle.rule_text.specs.Forms.{Form, NamesCode, block_of, is_of_code, named_wmm, rules_of, wmm_of_name}
use Rattle.rule_text.specs.Forms.Block.{OfCountries}
use Rattle.rule_text.specs.Forms.Form.{Country, RuleLine}
use Rattle.db_text.specs.Printed.{country_line, country_lines, name_among, rule_line}
use Rattle.db_text.specs.PrintedRules.{printed_rule}
use Rattle.text_lines.specs.Spelling.{codes_text, region_name}
use Rattle.rule_text.proofs.FormLaws.{Names-later, Names-top, Names-top_cases, among_false, among_true, rules_of-unnamed}
use Rattle.rule_text.proofs.GoodLines.{few_rules, good_header, good_rule, has_wmm}
use Rattle.db_text.proofs.PlainLines.{joined}
use Rattle.db_text.proofs.PrintedLines.{AreFine, behind, behind-append, country_is, country_prints, fine_line}
use Rattle.db_text.proofs.PrintedRuleLines.{bare_rule, printed_rule_line, prints_rule, squeezed_rule}
use Rattle.db_text.proofs.PrintedWords.{IsNamed}
use Rattle.rule_text.proofs.RuleLaws.{open_rules, rule_names}

-- ---- rules whose WMM rules are named above

pub record IsResolved (above : List Form) (r : Rule) (name : Option (List ℕ)) : Type 0 where
  pub named : IsNamed name
  pub there : (n : List ℕ) → name ≡ Some n → wmm_of_name n above ≢ None
  pub is : named_wmm above name ≡ r.wmm

-- a rule that can be printed below these lines
pub record IsPrintable (above : List Form) (ws : List Wmm) (r : Rule) : Type 0 where
  pub valid : IsValidRule r
  pub no_time : r.cac_s ≡ 0
  pub resolved : IsResolved above r (option_map (name_among ws) r.wmm)

named_same : (above forms : List Form) → ((n : List ℕ) → wmm_of_name n forms ≡ wmm_of_name n above) → (name : Option (List ℕ)) → named_wmm forms name ≡ named_wmm above name
named_same above forms same None = refl
named_same above forms same (Some n) = same n

resolved_along : (above forms : List Form) (r : Rule) (name : Option (List ℕ)) → ((n : List ℕ) → wmm_of_name n forms ≡ wmm_of_name n above) → IsResolved above r name → IsResolved forms r name
resolved_along above forms r name same is = record {
  named = is.named;
  there = λ n e none. is.there n e (sym (same n) ∙ none);
  is = named_same above forms same name ∙ is.is;
}

-- with the WMM rule that is named, the rule of the line is the rule
restored : (r : Rule) (o : Option Wmm) → o ≡ r.wmm → ◌≡◌ {A = Rule} (record (bare_rule r) { wmm = o }) r
restored r o e = λ i. record r { wmm = e i }

-- ---- the rules of one country

-- The last header is that of the country, with these rules so far; the lines up to it are these.
record IsRuled (above : List Form) (code : Alpha2) (done : List Rule) (lines : List (List ℕ)) (forms : List Form) : Type 0 where
  fine : AreFine lines forms
  block : block_of forms ≡ OfCountries (code ∷ [])
  rules : rules_of code forms ≡ behind done []
  others : (other : Alpha2) → other ≢ code → rules_of other forms ≡ rules_of other above
  wmms : (n : List ℕ) → wmm_of_name n forms ≡ wmm_of_name n above
  names : (c : Alpha2) (r : Region) → NamesCode forms c r → NamesCode above c r
  kept : (c : Alpha2) (r : Region) → NamesCode above c r → NamesCode forms c r

length-behind : (xs acc : List Rule) → length (behind xs acc) ≡ length xs + length acc
length-behind [] acc = omega arith
length-behind (x ∷ xs) acc = let rest = length-behind xs (x ∷ acc) in omega (arith, rest)

is_open : (code : Alpha2) (forms : List Form) → block_of forms ≡ OfCountries (code ∷ []) → is_of_code code (block_of forms) ≡ true
is_open code forms block = rw block (among_true code (code ∷ []) (Contains-head code []))

not_open : (other code : Alpha2) (forms : List Form) → block_of forms ≡ OfCountries (code ∷ []) → other ≢ code → is_of_code other (block_of forms) ≡ false
not_open other code forms block apart = rw block (among_false other (code ∷ []) (λ has. elim (Contains-cases code [] other has) [
  | inl same ↦ apart (sym same)
  | inr none ↦ Contains-nothing other none
]))

-- the rules with one more
more_rules : (above forms : List Form) (code : Alpha2) (done : List Rule) (lines : List (List ℕ)) (r : Rule) (name : Option (List ℕ)) → IsRuled above code done lines forms → IsResolved above r name
    → rules_of code (RuleLine (bare_rule r) name ∷ forms) ≡ behind (done ++ r ∷ []) []
more_rules above forms code done lines r name are is =
    open_rules code (bare_rule r) name forms (is_open code forms are.block)
    ∙ ap (λ x. x ∷ rules_of code forms) (restored r (named_wmm forms name) (named_same above forms are.wmms name ∙ is.is))
    ∙ ap (λ xs. r ∷ xs) are.rules ∙ sym (behind-append done (r ∷ []) [])

not_many : (forms : List Form) (code : Alpha2) (done : List Rule) (r : Rule) (name : Option (List ℕ)) → rules_of code (RuleLine (bare_rule r) name ∷ forms) ≡ behind (done ++ r ∷ []) [] → length done < 128
    → (c : Alpha2) → Contains (code ∷ []) c → HasTooManyRules (RuleLine (bare_rule r) name ∷ forms) c → ⊥
not_many forms code done r name is few c has many = elim (Contains-cases code [] c has) [
  | inr none ↦ Contains-nothing c none
  | inl same ↦
      let drops = subst (λ x. HasTooManyRules (RuleLine (bare_rule r) name ∷ forms) x) (sym same) many in
      let less = DropsRepeats-few (rules_of code (RuleLine (bare_rule r) name ∷ forms)) drops.0 drops.1 in
      let long = ap length is ∙ length-behind (done ++ r ∷ []) [] in
      let one = length_push done r in
      let above = drops.2 in
      omega (arith, less, long, one, few, above)
]

rule_step : (above forms : List Form) (ws : List Wmm) (code : Alpha2) (done : List Rule) (lines : List (List ℕ)) (r : Rule) → IsRuled above code done lines forms → IsPrintable above ws r
    → length done < 128 → IsRuled above code (done ++ r ∷ []) (rule_line ws r ∷ lines) (RuleLine (bare_rule r) (option_map (name_among ws) r.wmm) ∷ forms)
unfolding rule_line
rule_step above forms ws code done lines r are ready few =
    let name = option_map (name_among ws) r.wmm in
    let rules = more_rules above forms code done lines r name are ready.resolved in
    let is = printed_rule_line r name ready.valid ready.no_time ready.resolved.named in
    let there = resolved_along above forms r name are.wmms ready.resolved in
    record {
      fine = fine_line lines forms (codes "\t" ++ printed_rule r name) (squeezed_rule r name) (RuleLine (bare_rule r) name) 201 are.fine
          (joined (codes "\t") (printed_rule r name) [] (squeezed_rule r name) 1 200 201 (record { plain = refl; solid = refl; short = omega arith }) (prints_rule r name ready.valid ready.resolved.named) (omega arith))
          (omega arith) is
          (good_rule forms (squeezed_rule r name) (bare_rule r) name (code ∷ []) are.block is (has_wmm forms (squeezed_rule r name) (bare_rule r) name is there.there)
          (few_rules forms (squeezed_rule r name) (bare_rule r) name (code ∷ []) are.block is (not_many forms code done r name rules few)));
      block = are.block;
      rules = rules;
      others = λ other apart. rw (not_open other code forms are.block apart) (are.others other apart);
      wmms = are.wmms;
      names = λ c region named. are.names c region (rule_names c (bare_rule r) name forms region named);
      kept = λ c region named. Names-later (RuleLine (bare_rule r) name) forms c region (are.kept c region named);
    }

ruled_all : (rest done : List Rule) (above forms : List Form) (ws : List Wmm) (code : Alpha2) (lines : List (List ℕ)) → IsRuled above code done lines forms → All (IsPrintable above ws) rest
    → length done + length rest ≤ 128 → (after : List Form) × IsRuled above code (done ++ rest) (behind (map (rule_line ws) rest) lines) after
ruled_all [] done above forms ws code lines are ready few = (forms, subst (λ rs. IsRuled above code rs lines forms) (sym (append-nil done)) are)
ruled_all (r ∷ rest) done above forms ws code lines are ready few =
    let name = option_map (name_among ws) r.wmm in
    let one = rule_step above forms ws code done lines r are (All-head (IsPrintable above ws) r rest ready) (omega (arith, few)) in
    let long = length_push done r in
    let more = ruled_all rest (done ++ r ∷ []) above (RuleLine (bare_rule r) name ∷ forms) ws code (rule_line ws r ∷ lines) one (All-tail (IsPrintable above ws) r rest ready) (omega (arith, few, long)) in
    (more.0, subst (λ rs. IsRuled above code rs (behind (map (rule_line ws) rest) (rule_line ws r ∷ lines)) more.0) (append_assoc done (r ∷ []) rest) more.1)

-- ---- countries one after another

-- what the lines give to a country
pub record HasRules (forms : List Form) (d : Domain) : Type 0 where
  pub named : NamesCode forms d.alpha2 d.region
  pub rules : rules_of d.alpha2 forms ≡ behind d.rules []

-- some of these countries has the code and the region
abbrev pub IsAmong : List Domain → Alpha2 → Region → Type 0
IsAmong done code region = (d : Domain) × Contains done d × (d.alpha2 ≡ code) × (d.region ≡ region)

-- the lines give these countries their rules, and no others any
pub record ArePrinted (above : List Form) (done : List Domain) (lines : List (List ℕ)) (forms : List Form) : Type 0 where
  pub fine : AreFine lines forms
  pub wmms : (n : List ℕ) → wmm_of_name n forms ≡ wmm_of_name n above
  pub named : (code : Alpha2) (region : Region) → NamesCode forms code region → IsAmong done code region
  pub each : All (HasRules forms) done

-- a country that can be printed below these lines
pub record IsReady (above : List Form) (ws : List Wmm) (d : Domain) : Type 0 where
  pub is : IsDomain d
  pub rules : All (IsPrintable above ws) d.rules

printable_along : (above forms : List Form) (ws : List Wmm) (rules : List Rule) → ((n : List ℕ) → wmm_of_name n forms ≡ wmm_of_name n above) → All (IsPrintable above ws) rules → All (IsPrintable forms ws) rules
printable_along above forms ws rules same each =
    All-weaker (IsPrintable above ws) (IsPrintable forms ws) (λ r ready. record {
      valid = ready.valid;
      no_time = ready.no_time;
      resolved = resolved_along above forms r (option_map (name_among ws) r.wmm) same ready.resolved;
    }) rules each

uncontradicted : (above : List Form) (done : List Domain) (lines : List (List ℕ)) (forms : List Form) (d : Domain) → ArePrinted above done lines forms
    → ((c : Domain) → Contains done c → c.alpha2 ≢ d.alpha2) → IsContradicted forms (d.alpha2 ∷ []) d.region → ⊥
uncontradicted above done lines forms d are fresh (code, other, has, named, differ) =
    let c = are.named code other named in
    elim (Contains-cases d.alpha2 [] code has) [
      | inl same ↦ fresh c.0 c.1 (c.2 ∙ sym same)
      | inr none ↦ Contains-nothing code none
    ]

unnamed_code : (above : List Form) (done : List Domain) (lines : List (List ℕ)) (forms : List Form) (d : Domain) → ArePrinted above done lines forms
    → ((c : Domain) → Contains done c → c.alpha2 ≢ d.alpha2) → (region : Region) → NamesCode forms d.alpha2 region → ⊥
unnamed_code above done lines forms d are fresh region named = let c = are.named d.alpha2 region named in fresh c.0 c.1 c.2

country_start : (above : List Form) (done : List Domain) (lines : List (List ℕ)) (forms : List Form) (d : Domain) → ArePrinted above done lines forms → IsDomain d
    → ((c : Domain) → Contains done c → c.alpha2 ≢ d.alpha2)
    → IsRuled (Country (d.alpha2 ∷ []) d.region ∷ forms) d.alpha2 [] (country_line d ∷ lines) (Country (d.alpha2 ∷ []) d.region ∷ forms)
country_start above done lines forms d are is fresh = record {
  fine = fine_line lines forms (country_line d) (codes "country" ++ codes_text (d.alpha2 ∷ []) ++ codes ":" ++ region_name d.region) (Country (d.alpha2 ∷ []) d.region) 20 are.fine
      (country_prints d is.code) (omega arith) (country_is d is.code)
      (good_header forms (codes "country" ++ codes_text (d.alpha2 ∷ []) ++ codes ":" ++ region_name d.region) (d.alpha2 ∷ []) d.region (country_is d is.code)
      (uncontradicted above done lines forms d are fresh));
  block = refl;
  rules = rules_of-unnamed forms d.alpha2 (unnamed_code above done lines forms d are fresh);
  others = λ other apart. refl;
  wmms = λ n. refl;
  names = λ c r named. named;
  kept = λ c r named. named;
}

pub country_step : (above : List Form) (ws : List Wmm) (done : List Domain) (lines : List (List ℕ)) (forms : List Form) (d : Domain) → ArePrinted above done lines forms → IsReady above ws d
    → ((c : Domain) → Contains done c → c.alpha2 ≢ d.alpha2) → (after : List Form) × ArePrinted above (done ++ d ∷ []) (behind (country_lines ws d) lines) after
country_step above ws done lines forms d are ready fresh =
    let top = Country (d.alpha2 ∷ []) d.region ∷ forms in
    let few = ready.is.rules.few in
    let all = ruled_all d.rules [] top top ws d.alpha2 (country_line d ∷ lines) (country_start above done lines forms d are ready.is fresh) (printable_along above top ws d.rules are.wmms ready.rules)
    (omega (arith, few)) in
    let after = all.0 in
    let ruled = all.1 in (
      after,
      record {
        fine = ruled.fine;
        wmms = λ n. ruled.wmms n ∙ are.wmms n;
        named = λ code region named. elim (Names-top_cases (d.alpha2 ∷ []) d.region forms code region (ruled.names code region named)) [
          | inl here ↦ (d, Contains-push done d, one_code d.alpha2 code here.0, here.1)
          | inr later ↦ let c = are.named code region later in (c.0, Contains-append_left done (d ∷ []) c.0 c.1, c.2, c.3)
        ];
        each = All-push (HasRules after) done d (λ j c less.
            let old = are.each j c less in
            record {
              named = ruled.kept _ _ (Names-later (Country (d.alpha2 ∷ []) d.region) forms _ _ old.named);
              rules = ruled.others _ (fresh (get_or done j c) (Contains-get_or done j c less)) ∙ old.rules;
            })
            (record { named = ruled.kept d.alpha2 d.region (Names-top (d.alpha2 ∷ []) d.region forms d.alpha2 (Contains-head d.alpha2 [])); rules = ruled.rules });
      },
    )
  where
    one_code : (a code : Alpha2) → Contains (a ∷ []) code → a ≡ code
    one_code a code has = elim (Contains-cases a [] code has) [
      | inl same ↦ same
      | inr none ↦ absurd (Contains-nothing code none)
    ]

-- an earlier domain has another code
earlier_apart : (done rest : List Domain) (d c : Domain) → AllPairs (λ x y. key x.alpha2 < key y.alpha2) (done ++ d ∷ rest) → Contains done c → c.alpha2 ≢ d.alpha2
earlier_apart done rest d c ascending (j, less, is) same =
    let long = length-append done (d ∷ rest) in
    let pair = ascending j (length done) c less (omega (arith, long)) in
    let left = get_or_append_left done (d ∷ rest) c j less ∙ is in
    let right = get_or_at done d rest c (length done) refl in
    let below : key c.alpha2 < key d.alpha2 = subst (λ x. key x.alpha2 < key d.alpha2) left (subst (λ y. key (get_or (done ++ d ∷ rest) j c).alpha2 < key y.alpha2) right pair) in
    let e : key c.alpha2 ≡ key d.alpha2 = ap key same in
    omega (arith, below, e)

pub country_all : (rest done : List Domain) (above : List Form) (ws : List Wmm) (lines : List (List ℕ)) (forms : List Form) → ArePrinted above done lines forms → All (IsReady above ws) rest
    → AllPairs (λ x y. key x.alpha2 < key y.alpha2) (done ++ rest) → (after : List Form) × ArePrinted above (done ++ rest) (behind (flat_map (country_lines ws) rest) lines) after
country_all [] done above ws lines forms are ready ascending = (forms, subst (λ ds. ArePrinted above ds lines forms) (sym (append-nil done)) are)
country_all (d ∷ rest) done above ws lines forms are ready ascending =
    let one = country_step above ws done lines forms d are (All-head (IsReady above ws) d rest ready) (λ c has. earlier_apart done rest d c ascending has) in
    let turned = append_assoc done (d ∷ []) rest in
    let more = country_all rest (done ++ d ∷ []) above ws (behind (country_lines ws d) lines) one.0 one.1 (All-tail (IsReady above ws) d rest ready)
    (subst (AllPairs (λ x y. key x.alpha2 < key y.alpha2)) (sym turned) ascending) in (
      more.0,
      subst (λ ls. ArePrinted above (done ++ d ∷ rest) ls more.0) (sym (behind-append (country_lines ws d) (flat_map (country_lines ws) rest) lines))
          (subst (λ ds. ArePrinted above ds (behind (flat_map (country_lines ws) rest) (behind (country_lines ws d) lines)) more.0) turned more.1),
    )
