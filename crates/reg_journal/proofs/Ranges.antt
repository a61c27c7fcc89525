-- A check's length fits its field: no rule that applies has a check time above that of its field.
use Rattle.std.proofs.Common.{◌≡◌, ℕ, zero, suc, ◌^◌, ◌<◌, ◌==◌, List, [], ◌∷◌, ◌++◌, All, Contains, find, Option, Some, None, option_and_then, arith, refl, ap, subst, ◌∙◌, inl, inr, eq-eqb, ne_eqb}
use Rattle.std.specs.List.{filter_map}
use Rattle.std.specs.Option.{option_map, option_to_list}
use Rattle.std.proofs.lemmas.Bool.{cases_Bool, cases_eq}
use Rattle.std.proofs.lemmas.List.Elements.{All-contains, All-nil, All-weaker, Contains-append_cases}
use Rattle.std.proofs.lemmas.Option.{get_or_from_slice_get, none-some, same_Some, slice_get_within}
use Rattle.freq_range.specs.Valid.{IsValidRule}
use Rattle.freq_range.specs.declared.rule.Rule.{Rule}
use Rattle.freq_range.proofs.Members.{Contains-cases, Contains-head, Contains-later, Contains-nothing}
use Rattle.rule_tables.specs.Code.{is_same_code}
use Rattle.rule_tables.specs.Databases.{IsDb, IsDomain}
use Rattle.rule_tables.specs.World.{custom_domain, world, world_domain}
use Rattle.rule_tables.specs.declared.code.Alpha2.{Alpha2}
use Rattle.rule_tables.specs.declared.domain.Domain.{Domain}
use Rattle.chan_def.specs.declared.definition.ChanDef.{ChanDef}
use Rattle.rule_intersect.specs.Tuples.{check_ms}
use Rattle.reg_journal.specs.Applicable.{applies, custom_domains, driver_code_of, driver_domains, find_domain, hints_of, is_self_managed, or_nothing, or_world, shared_domains}
use Rattle.radio_drv.specs.Names.{IsName}
use Rattle.reg_journal.specs.Facts.{Fact, Journal, made, rules_are}
use Rattle.reg_journal.specs.Permits.{IsLengthOf}
use Rattle.reg_journal.specs.Present.{Iface, custom_rules_of}
use Rattle.reg_journal.proofs.Listed.{Contains-find}

-- each rule's check time fits its field
abbrev pub HasShortChecks : Domain → Type 0
HasShortChecks d = All (λ rule. rule.cac_s < 2 ^ 16) d.rules

-- custom rules carry no check time, and a new interface has a name
abbrev pub IsPlain : Fact → Type 0
IsPlain (rules_are r rules) = All (λ rule. rule.cac_s ≡ 0) rules
IsPlain (made i name r kind) = IsName name
IsPlain f = Unit {0}

abbrev pub ArePlain : Journal → Type 0
ArePlain [] = Unit {0}
ArePlain (f ∷ J) = IsPlain f × ArePlain J

-- ---- domains

short_valid : (d : Domain) → IsDomain d → HasShortChecks d
short_valid d is = All-weaker IsValidRule (λ rule. rule.cac_s < 2 ^ 16) (λ rule valid. valid.check_fits) d.rules is.rules.each

short_world : HasShortChecks world_domain
short_world zero d in_range = omega arith
short_world (suc zero) d in_range = omega arith
short_world (suc (suc zero)) d in_range = omega arith
short_world (suc (suc (suc k))) d in_range = absurd (omega (arith, in_range))

short_found : (db : List Domain) (a : Alpha2) (d : Domain) → IsDb db → find_domain db a ≡ Some d → HasShortChecks d
short_found db a d is found = by (find (λ e. is_same_code e.alpha2 a) db) refl found
  where
    by : (o : Option Domain) → find (λ e. is_same_code e.alpha2 a) db ≡ o → or_world a o ≡ Some d → HasShortChecks d
    by (Some e) at same =
        subst HasShortChecks (same_Some e d same) (short_valid e (All-contains IsDomain db e is.each (Contains-find (λ e. is_same_code e.alpha2 a) db e at)))
    by None at same = elim (cases_Bool (is_same_code a world)) [
      | inl here ↦ subst HasShortChecks (same_Some world_domain d (rw here at same)) short_world
      | inr other ↦ absurd (none-some d (rw other at same))
    ]

pub contains_filter_map : {X Y : Type 0} (g : X → Option Y) (xs : List X) (y : Y) → Contains (filter_map g xs) y → (x : X) × Contains xs x × (g x ≡ Some y)
contains_filter_map g [] y has = absurd (Contains-nothing y has)
contains_filter_map {X} {Y} g (x ∷ xs) y has = by (g x) refl (contains_filter_map g xs y)
  where
    by : (o : Option Y) → g x ≡ o → (Contains (filter_map g xs) y → (z : X) × Contains xs z × (g z ≡ Some y)) → (z : X) × Contains (x ∷ xs) z × (g z ≡ Some y)
    by None is rest = let found = rest (rw is at has) in (found.0, Contains-later x xs found.0 found.1, found.2)
    by (Some z) is rest = elim (Contains-cases z (filter_map g xs) y (rw is at has)) [
      | inl same ↦ (x, Contains-head x xs, is ∙ ap Some same)
      | inr later ↦ let found = rest later in (found.0, Contains-later x xs found.0 found.1, found.2)
    ]

pub of_option : {X : Type 0} (o : Option X) (x : X) → Contains (option_to_list o) x → o ≡ Some x
of_option None x has = absurd (Contains-nothing x has)
of_option (Some y) x has = elim (Contains-cases y [] x has) [ inl same ↦ ap Some same | inr none ↦ absurd (Contains-nothing x none) ]

plain_rules : (J : Journal) (r : ℕ) (rules : List Rule) → ArePlain J → custom_rules_of J r ≡ Some rules → All (λ rule. rule.cac_s ≡ 0) rules
plain_rules [] r rules plain is = absurd (none-some rules is)
plain_rules (rules_are q own ∷ J) r rules plain is = elim (cases_eq r q) [
  | inl same ↦ subst (λ l. All (λ rule. rule.cac_s ≡ 0) l) (same_Some own rules (rw (eq-eqb r q same) at is)) plain.0
  | inr other ↦ plain_rules J r rules plain.1 (rw (ne_eqb r q other) at is)
]
plain_rules (f ∷ J) r rules plain is = plain_rules J r rules plain.1 is

-- each domain that applies
short_applies : (db : List Domain) (J : Journal) (r : ℕ) (d : Domain) → IsDb db → ArePlain J → Contains (applies db J r) d → HasShortChecks d
short_applies db J r d is plain has = whole (shared_domains db J r ++ custom_domains J r ++ driver_domains db J r) listed has
  where
    shared : Contains (shared_domains db J r) d → HasShortChecks d
    shared in_shared = elim (cases_Bool (is_self_managed J r)) [
      | inl own ↦ absurd (Contains-nothing d (rw own at in_shared))
      | inr not ↦ let found = contains_filter_map (find_domain db) (hints_of J).global d (rw not at in_shared) in short_found db found.0 d is found.2
    ]

    custom : (o : Option (List Rule)) → custom_rules_of J r ≡ o → option_map custom_domain o ≡ Some d → HasShortChecks d
    custom None at none = absurd (none-some d none)
    custom (Some rules) at some = subst HasShortChecks (same_Some (custom_domain rules) d some)
        (All-weaker (λ rule. rule.cac_s ≡ 0) (λ rule. rule.cac_s < 2 ^ 16) (λ rule none. omega (arith, none)) rules (plain_rules J r rules plain at))

    driver : (o : Option Alpha2) → option_and_then (find_domain db) o ≡ Some d → HasShortChecks d
    driver None none = absurd (none-some d none)
    driver (Some a) some = short_found db a d is some

    listed : Contains (shared_domains db J r ++ custom_domains J r ++ driver_domains db J r) d → HasShortChecks d
    listed in_all = elim (Contains-append_cases (shared_domains db J r ++ custom_domains J r) (driver_domains db J r) d in_all) [
      | inr last ↦ driver (driver_code_of J r) (of_option (option_and_then (find_domain db) (driver_code_of J r)) d last)
      | inl front ↦ elim (Contains-append_cases (shared_domains db J r) (custom_domains J r) d front) [
        | inl first ↦ shared first
        | inr own ↦ custom (custom_rules_of J r) refl (of_option (option_map custom_domain (custom_rules_of J r)) d own)
      ]
    ]

    whole : (list : List Domain) → (Contains list d → HasShortChecks d) → Contains (or_nothing list) d → HasShortChecks d
    whole [] each in_list = elim (Contains-cases (custom_domain []) [] d in_list) [
      | inl same ↦ subst HasShortChecks same (All-nil (λ rule. rule.cac_s < 2 ^ 16))
      | inr none ↦ absurd (Contains-nothing d none)
    ]
    whole (e ∷ list) each in_list = each in_list

-- ---- lengths

check_fits : (rule : Rule) → rule.cac_s < 2 ^ 16 → check_ms rule < 2 ^ 32
check_fits rule small = elim (cases_Bool rule.flags.dfs) [
  | inr none ↦ rw none (omega arith)
  | inl dfs ↦ elim (cases_Bool (rule.cac_s == 0)) [
    | inl unsaid ↦ rw (dfs, unsaid) (omega arith)
    | inr said ↦ rw (dfs, said) (omega (arith, small))
  ]
]

pub length_fits : (db : List Domain) (J : Journal) (x : Iface) (c : ChanDef) (length : ℕ) → IsDb db → ArePlain J → IsLengthOf db J x c length → length < 2 ^ 32
length_fits db J x c length is plain longest = elim longest.greatest [
  | inl none ↦ omega (arith, none)
  | inr (s, covered, (d, has, g, governs, (dfs, same))) ↦
      let short = short_applies db J x.radio d is plain has in
      let here : g.rule.cac_s < 2 ^ 16 = subst (λ (rule : Rule). rule.cac_s < 2 ^ 16) (get_or_from_slice_get d.rules g.number g.rule g.rule governs.0.rule)
      (short g.number g.rule (slice_get_within d.rules g.number g.rule governs.0.rule)) in
      let fits = check_fits g.rule here in
      omega (arith, fits, same)
]
