-- Accepted lines that leave no header short stand for a database.
use Rattle.std.proofs.Common.{◌≡◌, ◌≢◌, ℕ, zero, suc, ◌/◌, ◌%◌, ◌<◌, ◌⊎◌, true, false, List, [], ◌∷◌, ◌++◌, length, get_or, All, AllPairs, Contains, Option, Some, None, IfSome, option_map, arith, refl, sym, subst, ◌∙◌, ap, inl, inr}
use Rattle.std.proofs.lemmas.Bool.{cases_Bool, cases_eq}
use Rattle.std.proofs.lemmas.List.Elements.{All-contains, All-nil, All-push, All-weaker, Contains-append_left, Contains-get_or, Contains-push}
use Rattle.std.proofs.lemmas.List.Quantifiers.{all_pairs_push}
use Rattle.freq_range.proofs.Members.{Contains-cases, Contains-head, Contains-nothing}
use Rattle.freq_range.specs.Valid.{IsValidRule, IsValidWmm}
use Rattle.freq_range.specs.declared.rule.Rule.{Rule}
use Rattle.freq_range.specs.declared.wmm.Wmm.{Wmm}
use Rattle.freq_range.proofs.ToldRules.{told_wmm}
use Rattle.rule_tables.proofs.Dropped.{DropsRepeats-keeps, DropsRepeats-only, dropped, dropped_distinct}
use Rattle.rule_tables.specs.Code.{IsCode, key}
use Rattle.rule_tables.specs.Databases.{HasCode, IsDomain}
use Rattle.rule_tables.specs.Domains.{AreRules}
use Rattle.rule_tables.specs.FileFormat.{DropsRepeats}
use Rattle.rule_tables.specs.declared.code.Alpha2.{Alpha2}
use Rattle.rule_tables.specs.declared.code.Region.{Region}
use Rattle.rule_tables.specs.declared.domain.Domain.{Domain}
use Rattle.text_lines.specs.declared.fault.TextKind.{TextKind}
use Rattle.text_lines.specs.declared.fault.TextKind.TheVariants.{NoRules, WmmShort}
use Rattle.rule_text.specs.Faults.{AreAccepted}
use Rattle.reg_base.specs.Texts.{same_bytes}
use Rattle.rule_text.specs.Forms.{Form, NamesCode, block_of, form_at, is_of_name, rules_of, with_entry, wmm_of_name}
use Rattle.rule_text.specs.Forms.Form.{Country, Empty, ItemLine, RuleLine, WmmHeader}
use Rattle.text_lines.specs.Spelling.{AreCodes}
use Rattle.rule_text.specs.inner.State.{AreSound}
use Rattle.rule_text.specs.TextOf.{IsDomainOf, IsShortAt, FormsStandFor}
use Rattle.rule_text.proofs.Contexts.{told_named}
use Rattle.rule_text.proofs.FormLaws.{form_at_more, form_at_top, same_header}
use Rattle.rule_text.proofs.Unique.{sound_from_accepted}
use Rattle.rule_text.proofs.ValidRules.{IsEnded, few_rules, rules_sound}
use Rattle.rule_text.proofs.WmmLaws.{same_bytes-true}

-- ---- headers

-- a form of the lines is that of some line
at_some_line : (forms : List Form) (form : Form) → Contains forms form → (k : ℕ) × (form_at forms k ≡ Some form)
at_some_line [] form has = absurd (Contains-nothing form has)
at_some_line (first ∷ above) form has = elim (Contains-cases first above form has) [
  | inl here ↦ (length above, subst (λ f. form_at (first ∷ above) (length above) ≡ Some f) here (form_at_top first above))
  | inr later ↦ let there = at_some_line above form later in (there.0, form_at_more form first above there.0 there.1)
]

-- a name with a WMM rule has a header
named_at : (forms : List Form) (name : List ℕ) → wmm_of_name name forms ≢ None → (k : ℕ) × (form_at forms k ≡ Some (WmmHeader name))
named_at [] name some = absurd (some refl)
named_at (WmmHeader other ∷ above) name some = by_test (cases_Bool (same_bytes other name)) (named_at above name)
  where
    by_test : (same_bytes other name ≡ true) ⊎ (same_bytes other name ≡ false) → (wmm_of_name name above ≢ None → (k : ℕ) × (form_at above k ≡ Some (WmmHeader name)))
        → (k : ℕ) × (form_at (WmmHeader other ∷ above) k ≡ Some (WmmHeader name))
    by_test (inl same) rest =
        (length above, subst (λ n. form_at (WmmHeader other ∷ above) (length above) ≡ Some (WmmHeader n)) (same_bytes-true other name same) (form_at_top (WmmHeader other) above))
    by_test (inr apart) rest =
        let there = rest (λ none. some (rw apart none)) in
        (there.0, form_at_more (WmmHeader name) (WmmHeader other) above there.0 there.1)
named_at (ItemLine item e ∷ above) name some = by_test (cases_Bool (is_of_name name (block_of above))) (named_at above name)
  where
    by_test : (is_of_name name (block_of above) ≡ true) ⊎ (is_of_name name (block_of above) ≡ false)
        → (wmm_of_name name above ≢ None → (k : ℕ) × (form_at above k ≡ Some (WmmHeader name)))
        → (k : ℕ) × (form_at (ItemLine item e ∷ above) k ≡ Some (WmmHeader name))
    by_test (inl here) rest =
        let there = rest (λ none. some (rw here (ap (option_map (with_entry item e)) none))) in
        (there.0, form_at_more (WmmHeader name) (ItemLine item e) above there.0 there.1)
    by_test (inr apart) rest =
        let there = rest (λ none. some (rw apart none)) in
        (there.0, form_at_more (WmmHeader name) (ItemLine item e) above there.0 there.1)
named_at (form ∷ above) name some =
    let there = named_at above name some in
    (there.0, form_at_more (WmmHeader name) form above there.0 there.1)

pub sound_header : (forms : List Form) (cs : List Alpha2) (region : Region) → AreSound forms → Contains forms (Country cs region) → AreCodes cs
sound_header [] cs region sound has = absurd (Contains-nothing (Country cs region) has)
sound_header (Country ds r ∷ above) cs region sound has = elim (Contains-cases (Country ds r) above (Country cs region) has) [
  | inl here ↦ subst AreCodes (same_header ds cs r region here).0 sound.1
  | inr later ↦ sound_header above cs region sound.0 later
]
sound_header (Empty ∷ above) cs region sound has = elim (Contains-cases Empty above (Country cs region) has) [
  | inl here ↦ absurd cc
  | inr later ↦ sound_header above cs region sound later
]
sound_header (WmmHeader name ∷ above) cs region sound has = elim (Contains-cases (WmmHeader name) above (Country cs region) has) [
  | inl here ↦ absurd cc
  | inr later ↦ sound_header above cs region sound later
]
sound_header (ItemLine item e ∷ above) cs region sound has = elim (Contains-cases (ItemLine item e) above (Country cs region) has) [
  | inl here ↦ absurd cc
  | inr later ↦ sound_header above cs region sound later
]
sound_header (RuleLine rule name ∷ above) cs region sound has = elim (Contains-cases (RuleLine rule name) above (Country cs region) has) [
  | inl here ↦ absurd cc
  | inr later ↦ sound_header above cs region sound later
]

pub sound_code : (forms : List Form) (code : Alpha2) (region : Region) → AreSound forms → NamesCode forms code region → IsCode code
sound_code forms code region sound named = All-contains IsCode named.0 code (sound_header forms named.0 region sound named.1).each named.2

-- ---- the domain of a code

-- the lines are accepted, and no header is left short
pub record IsWhole (lines : List (List ℕ)) (forms : List Form) : Type 0 where
  pub accepted : AreAccepted lines forms
  pub none_short : (k : ℕ) (kind : TextKind) → IsShortAt forms k kind → ⊥

some_kept : (rules kept : List Rule) → DropsRepeats rules kept → rules ≢ [] → 0 < length kept
some_kept [] kept drops some = absurd (some refl)
some_kept (rule ∷ earlier) kept drops some =
    let has = DropsRepeats-keeps (rule ∷ earlier) kept rule drops (Contains-head rule earlier) in
    let in_range = has.1 in
    omega (arith, in_range)

-- the WMM rule of a rule is whole
whole_wmm : (lines : List (List ℕ)) (forms : List Form) (o : Option Wmm) → IsWhole lines forms → IfSome o (λ w. (name : List ℕ) × IsEnded forms name w) → IfSome o IsValidWmm
whole_wmm lines forms None whole ended = tt
whole_wmm lines forms (Some w) whole ended = elim (told_wmm w) [
  | inl valid ↦ valid
  | inr short ↦
      let header = named_at forms ended.0 (λ none. let at = ended.1.0 in cc) in
      absurd (whole.none_short header.0 WmmShort (ended.0, header.1, w, ended.1.0, short))
]

pub valid_rule : (lines : List (List ℕ)) (forms : List Form) (code : Alpha2) (r : Rule) → IsWhole lines forms → Contains (rules_of code forms) r → IsValidRule r
valid_rule lines forms code r whole has =
    let sound = rules_sound lines forms whole.accepted code r has in
    sound.valid (whole_wmm lines forms r.wmm whole sound.ended)

has_rules : (lines : List (List ℕ)) (forms : List Form) (code : Alpha2) (region : Region) → IsWhole lines forms → NamesCode forms code region → rules_of code forms ≢ []
has_rules lines forms code region whole named none =
    let header = at_some_line forms (Country named.0 region) named.1 in
    whole.none_short header.0 NoRules (named.0, region, header.1, code, named.2, none)

kept_rules : (lines : List (List ℕ)) (forms : List Form) (code : Alpha2) (region : Region) (kept : List Rule) → IsWhole lines forms → NamesCode forms code region
    → DropsRepeats (rules_of code forms) kept → AreRules kept
kept_rules lines forms code region kept whole named drops = record {
  some = some_kept (rules_of code forms) kept drops (has_rules lines forms code region whole named);
  few = few_rules lines forms whole.accepted code kept drops;
  each = λ k d in_range. valid_rule lines forms code (get_or kept k d) whole (DropsRepeats-only (rules_of code forms) kept (get_or kept k d) drops (Contains-get_or kept k d in_range));
}

-- the domain of a code that a header names
record IsDomainFor (forms : List Form) (code : Alpha2) (d : Domain) : Type 0 where
  code_is : d.alpha2 ≡ code
  is_of : IsDomainOf forms d
  is_domain : IsDomain d

domain_for : (lines : List (List ℕ)) (forms : List Form) (code : Alpha2) (region : Region) → IsWhole lines forms → NamesCode forms code region → (d : Domain) × IsDomainFor forms code d
domain_for lines forms code region whole named =
    let kept = dropped (rules_of code forms) in (
      record { alpha2 = code; region = region; rules = kept.0 },
      record {
        code_is = refl;
        is_of = record { named = named; rules = kept.1 };
        is_domain = record {
          code = sound_code forms code region (sound_from_accepted lines forms whole.accepted) named;
          distinct = dropped_distinct (rules_of code forms) kept.0 kept.1;
          rules = kept_rules lines forms code region kept.0 whole named kept.1;
        };
      },
    )

-- ---- the domains of all codes, by the codes' keys

-- the domains of the codes with keys below n
record IsBelow (forms : List Form) (n : ℕ) (ds : List Domain) : Type 0 where
  ascending : AllPairs (λ c d. key c.alpha2 < key d.alpha2) ds
  domains : All IsDomain ds
  each : All (IsDomainOf forms) ds
  below : All (λ d. key d.alpha2 < n) ds
  all : (code : Alpha2) (region : Region) → NamesCode forms code region → key code < n → HasCode ds code

-- the code of a key
abbrev code_at : ℕ → Alpha2
code_at n = record { a = n / 256; b = n % 256 }

equal_codes : (a a' b b' : ℕ) → a ≡ a' → b ≡ b' → ◌≡◌ {A = Alpha2} (record { a = a; b = b }) (record { a = a'; b = b' })
equal_codes a a' b b' p q = cc

code_back : (c : Alpha2) (n : ℕ) → IsCode c → key c ≡ n → c ≡ code_at n
code_back c n (inl letters) same = let low = letters.1 in equal_codes c.a (n / 256) c.b (n % 256) (omega (arith, low, same)) (omega (arith, low, same))
code_back c n (inr zeros) same = let low = zeros.1 in equal_codes c.a (n / 256) c.b (n % 256) (omega (arith, low, same)) (omega (arith, low, same))

none_below : (forms : List Form) → IsBelow forms 0 []
none_below forms = record {
  ascending = λ i j d less in_range. absurd (omega (arith, in_range));
  domains = All-nil IsDomain;
  each = All-nil (IsDomainOf forms);
  below = All-nil (λ d. key d.alpha2 < 0);
  all = λ code region named less. absurd (omega (arith, less));
}

-- no header names the next code
unnamed_next : (forms : List Form) (n : ℕ) (ds : List Domain) → AreSound forms → ((r : Region) → NamesCode forms (code_at n) r → ⊥)
    → IsBelow forms n ds → IsBelow forms (suc n) ds
unnamed_next forms n ds sound none is = record {
  ascending = is.ascending;
  domains = is.domains;
  each = is.each;
  below = All-weaker (λ d. key d.alpha2 < n) (λ d. key d.alpha2 < suc n) (λ d less. omega (arith, less)) ds is.below;
  all = λ code region named less. elim (cases_eq (key code) n) [
    | inl same ↦ absurd (none region (subst (λ c. NamesCode forms c region) (code_back code n (sound_code forms code region sound named) same) named))
    | inr other ↦ is.all code region named (omega (arith, less, other))
  ];
}

-- a header names the next code
named_next : (forms : List Form) (n : ℕ) (ds : List Domain) (d : Domain) → AreSound forms → IsDomainFor forms (code_at n) d
    → IsBelow forms n ds → IsBelow forms (suc n) (ds ++ d ∷ [])
named_next forms n ds d sound for is =
    let at : key d.alpha2 ≡ n = ap key for.code_is ∙ omega arith in
    let wider = All-weaker (λ e. key e.alpha2 < n) (λ e. key e.alpha2 < suc n) (λ e less. omega (arith, less)) ds is.below in
    record {
      ascending = all_pairs_push (λ c e. key c.alpha2 < key e.alpha2) ds d is.ascending (λ k e in_range. let less = is.below k e in_range in omega (arith, less, at));
      domains = All-push IsDomain ds d is.domains for.is_domain;
      each = All-push (IsDomainOf forms) ds d is.each for.is_of;
      below = All-push (λ e. key e.alpha2 < suc n) ds d wider (omega (arith, at));
      all = λ code region named less. elim (cases_eq (key code) n) [
        | inl same ↦ (d, Contains-push ds d, for.code_is ∙ sym (code_back code n (sound_code forms code region sound named) same))
        | inr other ↦
            let has = is.all code region named (omega (arith, less, other)) in
            (has.0, Contains-append_left ds (d ∷ []) has.0 has.1, has.2)
      ];
    }

domains_below : (lines : List (List ℕ)) (forms : List Form) → IsWhole lines forms → (n : ℕ) → (ds : List Domain) × IsBelow forms n ds
domains_below lines forms whole zero = ([], none_below forms)
domains_below lines forms whole (suc n) =
    let rest = domains_below lines forms whole n in
    let sound = sound_from_accepted lines forms whole.accepted in
    elim (told_named forms (code_at n)) [
      | inl found ↦
          let next = domain_for lines forms (code_at n) found.0 whole found.1 in
          (rest.0 ++ next.0 ∷ [], named_next forms n rest.0 next.0 sound next.1 rest.1)
      | inr none ↦ (rest.0, unnamed_next forms n rest.0 sound none rest.1)
    ]

key_below : (c : Alpha2) → IsCode c → key c < 65536
key_below c (inl letters) = let a = letters.0 in let b = letters.1 in omega (arith, a, b)
key_below c (inr zeros) = let a = zeros.0 in let b = zeros.1 in omega (arith, a, b)

pub stands_for_some : (lines : List (List ℕ)) (forms : List Form) → IsWhole lines forms → (ds : List Domain) × FormsStandFor forms ds
stands_for_some lines forms whole =
    let built = domains_below lines forms whole 65536 in
    let is = built.1 in (
      built.0,
      record {
        db = record { ascending = is.ascending; each = is.domains };
        each = is.each;
        all = λ code region named. is.all code region named (key_below code (sound_code forms code region (sound_from_accepted lines forms whole.accepted) named));
        none_short = whole.none_short;
      },
    )
