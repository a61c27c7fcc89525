-- Whether the lists of domains that apply have too many rows, and that they have rows.
use Rattle.std.proofs.Common.{◌≡◌, ℕ, zero, suc, ◌<◌, ◌≤◌, ◌⊎◌, Bool, true, false, List, [], ◌∷◌, ◌++◌, length, All, Contains, find, Option, Some, None, IsSome, option_and_then, if◌then◌else◌, arith, refl, sym, ap, subst, inl, inr, eq-eqb, ne_eqb, append-nil, append_assoc}
use Rattle.std.specs.List.{cons_option, filter_map}
use Rattle.std.specs.Option.{option_map}
use Rattle.std.proofs.lemmas.Bool.{cases_Bool, cases_eq}
use Rattle.std.proofs.lemmas.List.{length-append}
use Rattle.std.proofs.lemmas.List.Elements.{All-contains, All-nil, Contains-append_cases, filter_map-append}
use Rattle.std.proofs.lemmas.Option.{none-some, same_Some}
use Rattle.freq_range.specs.First.{IsFirst}
use Rattle.freq_range.specs.Valid.{IsValidRule}
use Rattle.freq_range.specs.declared.rule.Rule.{Rule}
use Rattle.freq_range.proofs.Deciding.{Told}
use Rattle.freq_range.proofs.Members.{Contains-head, Contains-later, Contains-nothing}
use Rattle.rule_tables.specs.Code.{is_same_code}
use Rattle.rule_tables.specs.Databases.{IsDb, IsDomain}
use Rattle.rule_tables.specs.Domains.{AreRules}
use Rattle.rule_tables.specs.World.{custom_domain, world, world_domain}
use Rattle.rule_tables.specs.declared.code.Alpha2.{Alpha2}
use Rattle.rule_tables.specs.declared.domain.Domain.{Domain}
use Rattle.rule_intersect.specs.Tables.{AreRows, IsTooMany}
use Rattle.rule_intersect.specs.declared.row.Row.{Row}
use Rattle.rule_intersect.proofs.Answered.{table_or_too_many}
use Rattle.rule_intersect.proofs.Extended.{AreRows-more}
use Rattle.rule_intersect.proofs.OneTable.{no_table_of_too_many}
use Rattle.rule_intersect.proofs.Ordered.{All-from_members}
use Rattle.rule_intersect.proofs.OwnRows.{some_own_rows}
use Rattle.rule_intersect.proofs.Resolved.{IsTableOf-first}
use Rattle.reg_hints.specs.Table.{Own, State, Treated, after_hint, as_last, hinted_code, is_drivers, left_by, treatment}
use Rattle.reg_hints.specs.declared.hint.Hint.{Hint}
use Rattle.reg_hints.specs.declared.hint.Treatment.{Treatment}
use Rattle.reg_hints.specs.declared.hint.Treatment.TheVariants.{Replace, Intersect, Already, Ignore}
use Rattle.reg_journal.specs.Applicable.{applies, custom_domains, driver_code_of, driver_domains, find_domain, global_domains, hints_of, is_self_managed, or_nothing, or_world, shared_domains}
use Rattle.reg_journal.specs.Due.{EachMayFollow}
use Rattle.reg_journal.specs.Facts.{Journal, hinted, rules_are}
use Rattle.reg_journal.specs.Present.{custom_rules_of}
use Rattle.reg_journal.specs.Refusals.{HasTooManyRows, IsTooLongAt, RowCauses}
use Rattle.reg_journal.specs.declared.refusal.Refusal.{Refusal}
use Rattle.reg_journal.specs.declared.refusal.Refusal.TheVariants.{TooManyRows}
use Rattle.reg_journal.proofs.Listed.{Contains-find}
use Rattle.reg_journal.proofs.Ranges.{contains_filter_map, of_option}

-- ---- each domain that applies has rules, or there is one without

abbrev pub HasRules : Domain → Type 0
HasRules d = AreRules d.rules

world_valid : All IsValidRule world_domain.rules
world_valid zero d in_range = record { above_zero = omega arith; in_order = omega arith; wide_enough = omega arith; wmm = tt; end_fits = omega arith; power_fits = omega arith; check_fits = omega arith }
world_valid (suc zero) d in_range = record { above_zero = omega arith; in_order = omega arith; wide_enough = omega arith; wmm = tt; end_fits = omega arith; power_fits = omega arith; check_fits = omega arith }
world_valid (suc (suc zero)) d in_range = record { above_zero = omega arith; in_order = omega arith; wide_enough = omega arith; wmm = tt; end_fits = omega arith; power_fits = omega arith; check_fits = omega arith }
world_valid (suc (suc (suc k))) d in_range = absurd (omega (arith, in_range))

rules_found : (db : List Domain) (a : Alpha2) (d : Domain) → IsDb db → find_domain db a ≡ Some d → HasRules d
rules_found db a d is found = by (find (λ e. is_same_code e.alpha2 a) db) refl found
  where
    by : (o : Option Domain) → find (λ e. is_same_code e.alpha2 a) db ≡ o → or_world a o ≡ Some d → HasRules d
    by (Some e) at same = subst HasRules (same_Some e d same) (All-contains IsDomain db e is.each (Contains-find (λ e. is_same_code e.alpha2 a) db e at)).rules
    by None at same = elim (cases_Bool (is_same_code a world)) [
      | inl here ↦ subst HasRules (same_Some world_domain d (rw here at same)) (record { some = omega arith; few = omega arith; each = world_valid })
      | inr other ↦ absurd (none-some d (rw other at same))
    ]

-- custom rules are rules
abbrev pub HasCustomRules : Journal → ℕ → Type 0
HasCustomRules J r = (rules : List Rule) → custom_rules_of J r ≡ Some rules → AreRules rules

pub custom_are : (db : List Domain) (J : Journal) (r : ℕ) → EachMayFollow db J → HasCustomRules J r
custom_are db [] r due rules is = absurd (none-some rules is)
custom_are db (rules_are q own ∷ J) r due rules is = elim (cases_eq r q) [
  | inl same ↦ subst AreRules (same_Some own rules (rw (eq-eqb r q same) at is)) (record { some = due.0.1; few = (let few = due.0.2 in omega (arith, few)); each = due.0.3 })
  | inr other ↦ custom_are db J r due.1 rules (rw (ne_eqb r q other) at is)
]
custom_are db (f ∷ J) r due rules is = custom_are db J r due.1 rules is

pub global_rules : (db : List Domain) (J : Journal) (d : Domain) → IsDb db → Contains (global_domains db J) d → HasRules d
global_rules db J d is has = let found = contains_filter_map (find_domain db) (hints_of J).global d has in rules_found db found.0 d is found.2

-- each domain of the list has rules, or the list is the one that permits nothing
abbrev pub IsSound : List Domain → Type 0
IsSound ds = ((d : Domain) → Contains ds d → HasRules d) ⊎ (ds ≡ custom_domain [] ∷ [])

pub applies_sound : (db : List Domain) (J : Journal) (r : ℕ) → IsDb db → HasCustomRules J r → IsSound (applies db J r)
applies_sound db J r is customs = whole (shared_domains db J r ++ custom_domains J r ++ driver_domains db J r) listed
  where
    shared : (d : Domain) → Contains (shared_domains db J r) d → HasRules d
    shared d in_shared = elim (cases_Bool (is_self_managed J r)) [
      | inl own ↦ absurd (Contains-nothing d (rw own at in_shared))
      | inr not ↦ global_rules db J d is (rw not at in_shared)
    ]

    custom : (d : Domain) (o : Option (List Rule)) → custom_rules_of J r ≡ o → option_map custom_domain o ≡ Some d → HasRules d
    custom d None at none = absurd (none-some d none)
    custom d (Some rules) at some = subst HasRules (same_Some (custom_domain rules) d some) (customs rules at)

    driver : (d : Domain) (o : Option Alpha2) → option_and_then (find_domain db) o ≡ Some d → HasRules d
    driver d None none = absurd (none-some d none)
    driver d (Some a) some = rules_found db a d is some

    listed : (d : Domain) → Contains (shared_domains db J r ++ custom_domains J r ++ driver_domains db J r) d → HasRules d
    listed d in_all = elim (Contains-append_cases (shared_domains db J r ++ custom_domains J r) (driver_domains db J r) d in_all) [
      | inr last ↦ driver d (driver_code_of J r) (of_option (option_and_then (find_domain db) (driver_code_of J r)) d last)
      | inl front ↦ elim (Contains-append_cases (shared_domains db J r) (custom_domains J r) d front) [
        | inl first ↦ shared d first
        | inr own ↦ custom d (custom_rules_of J r) refl (of_option (option_map custom_domain (custom_rules_of J r)) d own)
      ]
    ]

    whole : (list : List Domain) → ((d : Domain) → Contains list d → HasRules d) → IsSound (or_nothing list)
    whole [] each = inr refl
    whole (e ∷ list) each = inl each

-- ---- too many rows

-- whether the list has too many rows
pub told_many : (ds : List Domain) → IsSound ds → Told ((rows : ℕ) × HasTooManyRows ds rows)
told_many [] sound = inr (λ (rows, (after, many)). let some = many.some in let within = many.within in omega (arith, some, within))
told_many (d ∷ ds) (inl each) = elim (table_or_too_many (d ∷ ds) (omega arith)
    (All-from_members (λ (e : Domain). All IsValidRule e.rules) (d ∷ ds) (λ e has. (each e has).each))
    (All-from_members (λ (e : Domain). length e.rules ≤ 128) (d ∷ ds) (λ e has. (each e has).few))) [
      | inl (table, is) ↦ inr (λ (rows, (after, many)). no_table_of_too_many (d ∷ ds) table after rows is many)
      | inr (after, rows, many) ↦ inl (rows, (after, many))
    ]
told_many (d ∷ ds) (inr nothing) = inr (λ (rows, (after, many)).
    let own = some_own_rows [] in
    no_table_of_too_many (custom_domain [] ∷ []) (record { rows = own.0; domains = 1 }) after rows
    (IsTableOf-first (custom_domain []) own.0 (All-nil IsValidRule) (omega arith) own.1)
    (subst (λ l. IsTooMany l after rows) nothing many))

-- the first list that has too many, or none has
pub first_too_long : (lists : List (List Domain)) → ((ds : List Domain) → Contains lists ds → IsSound ds)
    → ((k : ℕ) × IsFirst (IsTooLongAt lists) k) ⊎ ((k : ℕ) → IsTooLongAt lists k → ⊥)
first_too_long [] sound = inr (λ k (l, at, many). none-some l at)
first_too_long (ds ∷ lists) sound = elim (told_many ds (sound ds (Contains-head ds lists))) [
  | inl many ↦ inl (0, record { here = (ds, refl, many); none_before = λ j less is. omega (arith, less) })
  | inr few ↦ elim (first_too_long lists (λ l has. sound l (Contains-later ds lists l has))) [
    | inl (k, first) ↦ inl (suc k, record { here = first.here; none_before = λ j less is. before few k first j less is })
    | inr none ↦ inr (λ k is. nowhere few none k is)
  ]
]
  where
    here_few : (((rows : ℕ) × HasTooManyRows ds rows) → ⊥) → IsTooLongAt (ds ∷ lists) 0 → ⊥
    here_few few (l, at, many) = few (subst (λ x. (rows : ℕ) × HasTooManyRows x rows) (sym (same_Some ds l at)) many)

    before : (((rows : ℕ) × HasTooManyRows ds rows) → ⊥) → (k : ℕ) → IsFirst (IsTooLongAt lists) k → (j : ℕ) → j < suc k → IsTooLongAt (ds ∷ lists) j → ⊥
    before few k first zero less is = here_few few is
    before few k first (suc j) less is = first.none_before j (omega (arith, less)) is

    nowhere : (((rows : ℕ) × HasTooManyRows ds rows) → ⊥) → ((k : ℕ) → IsTooLongAt lists k → ⊥) → (k : ℕ) → IsTooLongAt (ds ∷ lists) k → ⊥
    nowhere few none zero is = here_few few is
    nowhere few none (suc k) is = none k is

-- whether some list of these has too many
pub some_rows_or_none : (lists : List (List Domain)) → ((ds : List Domain) → Contains lists ds → IsSound ds) → ((e : Refusal) × RowCauses lists e) ⊎ ((e : Refusal) → RowCauses lists e → ⊥)
some_rows_or_none lists sound = elim (first_too_long lists sound) [
  | inl (k, first) ↦
      let here = first.here in
      inl (TooManyRows here.2.0, (k, first, here.0, here.1, here.2.0, here.2.1, refl))
  | inr none ↦ inr (λ e cause. none cause.0 cause.1.here)
]

-- ---- rows

-- a list of domains that have rules has rows
rows_on : (front rest : List Domain) (rows : List Row) → 0 < length front → AreRows front rows → (all : List Row) × AreRows (front ++ rest) all
rows_on front [] rows some are = (rows, subst (λ ds. AreRows ds rows) (sym (append-nil front)) are)
rows_on front (d ∷ rest) rows some are =
    let own = some_own_rows d.rules in
    let more = AreRows-more front d rows own.0 some are own.1 in
    let len = length-append front (d ∷ []) in
    let found = rows_on (front ++ d ∷ []) rest _ (omega (arith, some, len)) more in
    (found.0, subst (λ ds. AreRows ds found.0) (append_assoc front (d ∷ []) rest) found.1)

pub some_rows : (d : Domain) (ds : List Domain) → HasRules d → (rows : List Row) × AreRows (d ∷ ds) rows
some_rows d ds rules =
    let own = some_own_rows d.rules in
    let table = IsTableOf-first d own.0 rules.each rules.few own.1 in
    rows_on (d ∷ []) ds own.0 (omega arith) table.rows

-- ---- the global list is never empty

found_some : (db : List Domain) (a : Alpha2) (codes : List Alpha2) → IsSome (find_domain db a) → 0 < length (filter_map (find_domain db) (a ∷ codes))
found_some db a codes known = by (find_domain db a) known
  where
    by : (found : Option Domain) → IsSome found → 0 < length (cons_option found (filter_map (find_domain db) codes))
    by None known = absurd cc
    by (Some d) known = omega arith

global_after : (db : List Domain) (s : State) (h : Hint) → IsSome (find_domain db (hinted_code h)) → 0 < length (filter_map (find_domain db) s.global)
    → 0 < length (filter_map (find_domain db) (after_hint h s).global)
global_after db s h known some = by (treatment s h)
  where
    by_driver : (drivers : Bool) → 0 < length (filter_map (find_domain db) (if drivers then (record { last = as_last h false; global = s.global }) else s).global)
    by_driver true = some
    by_driver false = some

    by : (t : Treatment) → 0 < length (filter_map (find_domain db) (left_by t h s).global)
    by Replace = found_some db (hinted_code h) [] known
    by Intersect =
        let same = ap (λ (l : List Domain). length l) (filter_map-append (find_domain db) s.global (hinted_code h ∷ [])) in
        let both = length-append (filter_map (find_domain db) s.global) (filter_map (find_domain db) (hinted_code h ∷ [])) in
        omega (arith, same, both, some)
    by Already = by_driver (is_drivers h)
    by Ignore = some

pub global_some : (db : List Domain) (J : Journal) → EachMayFollow db J → 0 < length (global_domains db J)
global_some db [] due = by (find (λ d. is_same_code d.alpha2 world) db)
  where
    by : (found : Option Domain) → 0 < length (cons_option (or_world world found) [])
    by None = omega arith
    by (Some d) = omega arith
global_some db (hinted (Treated h) ∷ J) due = global_after db (hints_of J) h due.0.0.0 (global_some db J due.1)
global_some db (hinted (Own r a) ∷ J) due = global_some db J due.1
global_some db (f ∷ J) due = global_some db J due.1
