-- In a regular journal no list of domains has more than 1,024 rows.
use Rattle.std.proofs.Common.{◌≡◌, ℕ, zero, suc, ◌<◌, ◌≤◌, Bool, true, false, List, [], ◌∷◌, ◌++◌, length, map, take, Contains, All, Option, Some, None, IfSome, IsSome, MatchOption, is_some, slice_get, option_map, option_and_then, if◌then◌else◌, arith, refl, sym, ap, subst, ◌∙◌, inl, inr, eq-eqb, ne_eqb, ◌==◌, append-nil}
use Rattle.std.specs.List.{cons_option}
use Rattle.std.specs.Option.{option_to_list}
use Rattle.std.proofs.lemmas.Bool.{cases_eq, false≢true, or_parts, true≢false}
use Rattle.std.proofs.lemmas.List.{length-map, take_all}
use Rattle.std.proofs.lemmas.List.Elements.{All-nil}
use Rattle.freq_range.specs.Valid.{IsValidRule}
use Rattle.freq_range.specs.declared.rule.Rule.{Rule}
use Rattle.freq_range.proofs.Members.{Contains-cases, Contains-head, Contains-later, Contains-nothing}
use Rattle.rule_tables.specs.Databases.{IsDb}
use Rattle.rule_tables.specs.World.{custom_domain, world}
use Rattle.rule_tables.specs.declared.domain.Domain.{Domain}
use Rattle.rule_intersect.specs.Tables.{HasFewRows}
use Rattle.rule_intersect.specs.declared.row.Row.{Row}
use Rattle.rule_intersect.specs.declared.table.TheConstants.{MOST_ROWS}
use Rattle.rule_intersect.proofs.Answered.{table_or_too_many}
use Rattle.rule_intersect.proofs.OneTable.{AreRows-unique, no_table_of_too_many}
use Rattle.rule_intersect.proofs.Ordered.{All-from_members}
use Rattle.rule_intersect.proofs.OwnRows.{some_own_rows}
use Rattle.rule_intersect.proofs.Resolved.{IsTableOf-first}
use Rattle.chan_flags.specs.Profiles.{Abilities}
use Rattle.reg_hints.specs.Table.{Hinted, Own, Treated}
use Rattle.reg_hints.specs.declared.hint.Hint.TheVariants.{Driver, Element, User}
use Rattle.reg_journal.specs.Applicable.{applies, driver_code_of, driver_domains, find_domain, global_domains, is_self_managed, or_nothing, shared_domains}
use Rattle.reg_journal.specs.Causes.{IsFree}
use Rattle.reg_journal.specs.Due.{EachMayFollow}
use Rattle.reg_journal.specs.Dumps.{AreShown, row_as_is, row_shown}
use Rattle.reg_journal.specs.Facts.{Fact, Journal, after, moment_is, radio_added, radio_removed, rules_are, hinted, indoor_is, radar_met, made, ended, typed, set_to, started, stopped, powered, check_begun, check_dropped}
use Rattle.reg_journal.specs.Present.{Check, Iface, Operation, check_of, custom_rules_of, is_used, operation_of, profile_of, radios_of}
use Rattle.reg_journal.specs.Refusals.{HasTooManyRows, RowCauses, all_lists}
use Rattle.reg_journal.specs.declared.refusal.Refusal.TheVariants.{TooManyRows}
use Rattle.reg_journal.specs.Sweep.{AreSwept, Becomes, CheckBecomes, OperationBecomes}
use Rattle.reg_journal.proofs.Keeping.{leaves-added, leaves-removed}
use Rattle.reg_journal.proofs.Lasting.{Contains-kept}
use Rattle.reg_journal.proofs.Listed.{Contains-map}
use Rattle.reg_journal.proofs.Operating.{there_small}
use Rattle.reg_journal.proofs.Resolving.{HasRules, IsSound, applies_sound, custom_are, first_too_long, global_rules}
use Rattle.reg_journal.proofs.RulesGo.{leaves-rules}

-- it doesn't have too many rows
abbrev pub IsShort : List Domain → Type 0
IsShort ds = (rows : ℕ) → HasTooManyRows ds rows → ⊥

-- neither the global list does, nor that of a radio that is there
pub record AreShort (db : List Domain) (J : Journal) : Type 0 where
  pub global : IsShort (global_domains db J)
  pub radios : (r : ℕ) → IsSome (profile_of J r) → IsShort (applies db J r)

-- ---- short lists

single_short : (d : Domain) → All IsValidRule d.rules → length d.rules ≤ 128 → IsShort (d ∷ [])
single_short d valid few rows (after_these, many) =
    let own = some_own_rows d.rules in
    no_table_of_too_many (d ∷ []) (record { rows = own.0; domains = 1 }) after_these rows (IsTableOf-first d own.0 valid few own.1) many

nothing_short : IsShort (custom_domain [] ∷ [])
nothing_short = single_short (custom_domain []) (All-nil IsValidRule) (omega arith)

empty_short : IsShort []
empty_short rows (after_these, many) = let some = many.some in let within = many.within in omega (arith, some, within)

-- the list, or the one that permits nothing
or_nothing_short : (ds : List Domain) → IsShort ds → IsShort (or_nothing (ds ++ [] ++ []))
or_nothing_short [] short = nothing_short
or_nothing_short (d ∷ ds) short = let same : ds ++ [] ++ [] ≡ ds = append-nil (ds ++ []) ∙ append-nil ds in subst (λ l. IsShort (d ∷ l)) (sym same) short

-- the rows that are shown of a short list are few
pub few_of_short : (ds : List Domain) (rows : List Row) → IsSound ds → IsShort ds → AreShown ds rows → length rows ≤ MOST_ROWS
few_of_short [] rows sound short are = absurd are
few_of_short (d ∷ []) rows (inl each) short are =
    let few = (each d (Contains-head d [])).few in
    let same = ap (λ (l : List Row). length l) are in
    let mapped = length-map d.rules row_as_is in
    omega (arith, few, same, mapped)
few_of_short (d ∷ []) rows (inr nothing) short are =
    let none : length d.rules ≡ 0 = ap (λ (l : List Domain). sum_of l) nothing in
    let same = ap (λ (l : List Row). length l) are in
    let mapped = length-map d.rules row_as_is in
    omega (arith, none, same, mapped)
  where
    sum_of : List Domain → ℕ
    sum_of [] = 0
    sum_of (e ∷ l) = length e.rules
few_of_short (d ∷ e ∷ ds) rows (inr nothing) short are = absurd (let same = ap (λ (l : List Domain). length l) nothing in omega (arith, same))
few_of_short (d ∷ e ∷ ds) rows (inl each) short (joined, are, shown) = elim (table_or_too_many (d ∷ e ∷ ds) (omega arith)
    (All-from_members (λ (x : Domain). All IsValidRule x.rules) (d ∷ e ∷ ds) (λ x has. (each x has).each))
    (All-from_members (λ (x : Domain). length x.rules ≤ 128) (d ∷ e ∷ ds) (λ x has. (each x has).few))) [
      | inr (after_these, many_rows, many) ↦ absurd (short many_rows (after_these, many))
      | inl (table, is) ↦
          let whole : take (length (d ∷ e ∷ ds)) (d ∷ e ∷ ds) ≡ d ∷ e ∷ ds = take_all (length (d ∷ e ∷ ds)) (d ∷ e ∷ ds) (omega arith) in
          let few = subst HasFewRows whole (is.few (length (d ∷ e ∷ ds)) (omega arith) (omega arith)) in
          let counted = few.1.2 in
          let one = ap (λ (l : List Row). length l) (AreRows-unique (d ∷ e ∷ ds) joined few.1.0 are few.1.1) in
          let same = ap (λ (l : List Row). length l) shown in
          let mapped = length-map joined row_shown in
          let most = few.2 in
          omega (arith, counted, one, same, mapped, most)
    ]

-- ---- lists that rows don't refuse

contained_at : {X : Type 0} (xs : List X) (x : X) → Contains xs x → (k : ℕ) × (slice_get xs k ≡ Some x)
contained_at [] x has = absurd (Contains-nothing x has)
contained_at (y ∷ xs) x has = elim (Contains-cases y xs x has) [
  | inl same ↦ (0, ap Some same)
  | inr later ↦ let found = contained_at xs x later in (suc found.0, found.1)
]

short_of_free : (lists : List (List Domain)) → ((ds : List Domain) → Contains lists ds → IsSound ds) → IsFree (RowCauses lists) → (ds : List Domain) → Contains lists ds → IsShort ds
short_of_free lists sound free ds has rows many = elim (first_too_long lists sound) [
  | inl (k, first) ↦
      let here = first.here in
      free (TooManyRows here.2.0) (k, first, here.0, here.1, here.2.0, here.2.1, refl)
  | inr none ↦ let at = contained_at lists ds has in none at.0 (ds, at.1, (rows, many))
]

mapped : {X Y : Type 0} (g : X → Y) (xs : List X) (x : X) → Contains xs x → Contains (map g xs) (g x)
mapped g [] x has = absurd (Contains-nothing x has)
mapped g (y ∷ xs) x has = elim (Contains-cases y xs x has) [
  | inl same ↦ subst (λ z. Contains (g y ∷ map g xs) (g z)) same (Contains-head (g y) (map g xs))
  | inr later ↦ Contains-later (g y) (map g xs) (g x) (mapped g xs x later)
]

one_of_eight : (r : ℕ) → r < 8 → Contains (0 ∷ 1 ∷ 2 ∷ 3 ∷ 4 ∷ 5 ∷ 6 ∷ 7 ∷ []) r
one_of_eight zero small = (0, omega arith, refl)
one_of_eight (suc zero) small = (1, omega arith, refl)
one_of_eight (suc (suc zero)) small = (2, omega arith, refl)
one_of_eight (suc (suc (suc zero))) small = (3, omega arith, refl)
one_of_eight (suc (suc (suc (suc zero)))) small = (4, omega arith, refl)
one_of_eight (suc (suc (suc (suc (suc zero))))) small = (5, omega arith, refl)
one_of_eight (suc (suc (suc (suc (suc (suc zero)))))) small = (6, omega arith, refl)
one_of_eight (suc (suc (suc (suc (suc (suc (suc zero))))))) small = (7, omega arith, refl)
one_of_eight (suc (suc (suc (suc (suc (suc (suc (suc n)))))))) small = absurd (omega (arith, small))

radio_there : (db : List Domain) (J : Journal) (r : ℕ) → EachMayFollow db J → IsSome (profile_of J r) → Contains (radios_of J) r
radio_there db J r due there =
    Contains-kept (λ r. is_some (profile_of J r)) (0 ∷ 1 ∷ 2 ∷ 3 ∷ 4 ∷ 5 ∷ 6 ∷ 7 ∷ []) r (one_of_eight r (there_small db J r due there)) there

-- ---- facts that leave the lists, or take one away

abbrev pub LeavesLists : Fact → Type 0
LeavesLists (radio_added r profile) = ⊥
LeavesLists (rules_are r rules) = ⊥
LeavesLists (hinted hint) = ⊥
LeavesLists f = Unit {0}

abbrev pub EachLeavesLists : List Fact → Type 0
EachLeavesLists [] = Unit {0}
EachLeavesLists (f ∷ facts) = LeavesLists f × EachLeavesLists facts

removed_short : (db : List Domain) (J : Journal) (q : ℕ) → AreShort db J → AreShort db (radio_removed q ∷ J)
removed_short db J q short = record {
  global = short.global;
  radios = λ r there. elim (cases_eq r q) [
    | inl same ↦ absurd (false≢true (rw (eq-eqb r q same) at there))
    | inr other ↦
        let leaves = leaves-removed db J q r other in
        subst IsShort (sym leaves.domains) (short.radios r (subst (λ o. IsSome o) leaves.profile there))
  ];
}

left_short : (db : List Domain) (f : Fact) (J : Journal) → LeavesLists f → AreShort db J → AreShort db (f ∷ J)
left_short db (moment_is moment) J leaves short = record { global = short.global; radios = short.radios }
left_short db (radio_removed q) J leaves short = removed_short db J q short
left_short db (indoor_is on) J leaves short = record { global = short.global; radios = short.radios }
left_short db (radar_met q c) J leaves short = record { global = short.global; radios = short.radios }
left_short db (made i name q kind) J leaves short = record { global = short.global; radios = short.radios }
left_short db (ended i) J leaves short = record { global = short.global; radios = short.radios }
left_short db (typed i kind) J leaves short = record { global = short.global; radios = short.radios }
left_short db (set_to i setting) J leaves short = record { global = short.global; radios = short.radios }
left_short db (started i c power) J leaves short = record { global = short.global; radios = short.radios }
left_short db (stopped i) J leaves short = record { global = short.global; radios = short.radios }
left_short db (powered i power) J leaves short = record { global = short.global; radios = short.radios }
left_short db (check_begun i c n) J leaves short = record { global = short.global; radios = short.radios }
left_short db (check_dropped i) J leaves short = record { global = short.global; radios = short.radios }
left_short db f J leaves short = absurd leaves

pub all_left_short : (db : List Domain) (facts : List Fact) (J : Journal) → EachLeavesLists facts → AreShort db J → AreShort db (after facts J)
all_left_short db [] J each short = short
all_left_short db (f ∷ facts) J (first, each) short = all_left_short db facts (f ∷ J) each (left_short db f J first short)

becomes_leaves : (db : List Domain) (J : Journal) (x : Iface) (fact : Option Fact) → Becomes db J x fact → IfSome fact LeavesLists
becomes_leaves db J x fact becomes = by (operation_of J x.index) (check_of J x.index) fact becomes
  where
    by : (o : Option Operation) (k : Option Check) (fact : Option Fact)
        → MatchOption o (MatchOption k (fact ≡ None) (λ k. CheckBecomes db J x k fact)) (λ o. OperationBecomes db J x o fact) → IfSome fact LeavesLists
    by None None fact none = subst (λ o. IfSome o LeavesLists) (sym none) tt
    by None (Some k) None becomes = tt
    by None (Some k) (Some (check_dropped i)) becomes = tt
    by None (Some k) (Some f) becomes = absurd becomes
    by (Some o) k None becomes = tt
    by (Some o) k (Some (stopped i)) becomes = tt
    by (Some o) k (Some (powered i power)) becomes = tt
    by (Some o) k (Some f) becomes = absurd becomes

pub swept_leave : (db : List Domain) (J : Journal) (xs : List Iface) (facts : List Fact) → AreSwept db J xs facts → EachLeavesLists facts
swept_leave db J [] facts none = subst EachLeavesLists (sym none) tt
swept_leave db J (x ∷ xs) facts (None, rest, becomes, swept, are) = subst EachLeavesLists (sym are) (swept_leave db J xs rest swept)
swept_leave db J (x ∷ xs) facts (Some f, rest, becomes, swept, are) = subst EachLeavesLists (sym are) (becomes_leaves db J x (Some f) becomes, swept_leave db J xs rest swept)

-- ---- a radio that comes

profile_used : (J : Journal) (r : ℕ) → IsSome (profile_of J r) → is_used J r ≡ true
profile_used [] r there = absurd (false≢true there)
profile_used (radio_added q profile ∷ J) r there = elim (cases_eq r q) [
  | inl same ↦ rw (eq-eqb r q same) refl
  | inr other ↦ rw (ne_eqb r q other) (profile_used J r (rw (ne_eqb r q other) at there))
]
profile_used (radio_removed q ∷ J) r there = elim (cases_eq r q) [
  | inl same ↦ absurd (false≢true (rw (eq-eqb r q same) at there))
  | inr other ↦ profile_used J r (rw (ne_eqb r q other) at there)
]
profile_used (f ∷ J) r there = profile_used J r there

other_radio : (J : Journal) (r q : ℕ) → is_used J r ≡ false → IsSome (profile_of J q) → r ≡ q → ⊥
other_radio J r q unused there same = true≢false (sym (profile_used J q there) ∙ ap (is_used J) (sym same) ∙ unused)

no_rules : (db : List Domain) (J : Journal) (r : ℕ) → EachMayFollow db J → is_used J r ≡ false → custom_rules_of J r ≡ None
no_rules db [] r due unused = refl
no_rules db (radio_added q profile ∷ J) r due unused = no_rules db J r due.1 (or_parts (r == q) (is_used J r) unused).1
no_rules db (rules_are q rules ∷ J) r due unused = rw (ne_eqb r q (other_radio J r q unused due.0.0)) (no_rules db J r due.1 unused)
no_rules db (f ∷ J) r due unused = no_rules db J r due.1 unused

no_driver : (db : List Domain) (J : Journal) (r : ℕ) → EachMayFollow db J → is_used J r ≡ false → driver_code_of J r ≡ None
no_driver db [] r due unused = refl
no_driver db (radio_added q profile ∷ J) r due unused = no_driver db J r due.1 (or_parts (r == q) (is_used J r) unused).1
no_driver db (hinted (Own q a) ∷ J) r due unused = rw (ne_eqb r q (other_radio J r q unused due.0.1.0)) (no_driver db J r due.1 unused)
no_driver db (hinted (Treated (Driver q a)) ∷ J) r due unused = rw (ne_eqb r q (other_radio J r q unused due.0.1.0)) (no_driver db J r due.1 unused)
no_driver db (hinted (Treated (User a)) ∷ J) r due unused = no_driver db J r due.1 unused
no_driver db (hinted (Treated (Element q a deaf)) ∷ J) r due unused = no_driver db J r due.1 unused
no_driver db (f ∷ J) r due unused = no_driver db J r due.1 unused

pub added_short : (db : List Domain) (J : Journal) (q : ℕ) (profile : Abilities) → EachMayFollow db J → is_used J q ≡ false → AreShort db J → AreShort db (radio_added q profile ∷ J)
added_short db J q profile due unused short = record {
  global = short.global;
  radios = λ r there. elim (cases_eq r q) [
    | inl same ↦ subst (λ n. IsShort (applies db (radio_added q profile ∷ J) n)) (sym same) here
    | inr other ↦
        let leaves = leaves-added db J q r profile other in
        subst IsShort (sym leaves.domains) (short.radios r (subst (λ o. IsSome o) leaves.profile there))
  ];
}
  where
    next : Journal
    next = radio_added q profile ∷ J

    by : (own : Bool) → IsShort (or_nothing ((if own then [] else global_domains db J) ++ [] ++ []))
    by true = nothing_short
    by false = or_nothing_short (global_domains db J) short.global

    here : IsShort (applies db next q)
    here =
        subst (λ o. IsShort (or_nothing (shared_domains db next q ++ option_to_list (option_map custom_domain o) ++ driver_domains db next q))) (sym (no_rules db J q due unused))
        (subst (λ o. IsShort (or_nothing (shared_domains db next q ++ [] ++ option_to_list (option_and_then (find_domain db) o)))) (sym (no_driver db J q due unused))
        (by (is_self_managed next q)))

-- ---- custom rules and hints

pub rules_short : (db : List Domain) (J : Journal) (q : ℕ) (rules : List Rule) → IsDb db → EachMayFollow db (rules_are q rules ∷ J) → IsFree (RowCauses (applies db (rules_are q rules ∷ J) q ∷ []))
    → AreShort db J → AreShort db (rules_are q rules ∷ J)
rules_short db J q rules is_db due free short = record {
  global = short.global;
  radios = λ r there. elim (cases_eq r q) [
    | inl same ↦ subst (λ n. IsShort (applies db next n)) (sym same) (short_of_free (applies db next q ∷ []) sound free (applies db next q) (Contains-head (applies db next q) []))
    | inr other ↦ subst IsShort (sym (leaves-rules db J q r rules other).domains) (short.radios r there)
  ];
}
  where
    next : Journal
    next = rules_are q rules ∷ J

    sound : (ds : List Domain) → Contains (applies db next q ∷ []) ds → IsSound ds
    sound ds has = elim (Contains-cases (applies db next q) [] ds has) [
      | inl same ↦ subst IsSound same (applies_sound db next q is_db (custom_are db next q due))
      | inr none ↦ absurd (Contains-nothing ds none)
    ]

pub hinted_short : (db : List Domain) (J : Journal) (hint : Hinted) → IsDb db → EachMayFollow db (hinted hint ∷ J) → IsFree (RowCauses (all_lists db (hinted hint ∷ J)))
    → AreShort db (hinted hint ∷ J)
hinted_short db J hint is_db due free = record {
  global = short_of_free (all_lists db next) sound free (global_domains db next) (Contains-head (global_domains db next) (map (applies db next) (radios_of next)));
  radios = λ r there. short_of_free (all_lists db next) sound free (applies db next r)
      (Contains-later (global_domains db next) (map (applies db next) (radios_of next)) (applies db next r) (mapped (applies db next) (radios_of next) r (radio_there db next r due there)));
}
  where
    next : Journal
    next = hinted hint ∷ J

    sound : (ds : List Domain) → Contains (all_lists db next) ds → IsSound ds
    sound ds has = elim (Contains-cases (global_domains db next) (map (applies db next) (radios_of next)) ds has) [
      | inl same ↦ subst IsSound same (inl (λ d there. global_rules db next d is_db there))
      | inr later ↦
          let from = Contains-map (applies db next) (radios_of next) ds later in
          subst IsSound from.2 (applies_sound db next from.0 is_db (custom_are db next from.0 due))
    ]

-- ---- at first

pub short_at_first : (db : List Domain) → IsDb db → AreShort db []
short_at_first db is_db = record { global = by (global_domains db []) one (λ d. global_rules db [] d is_db); radios = λ r there. absurd (false≢true there) }
  where
    one : length (global_domains db []) ≤ 1
    one = few (find_domain db world)
      where
        few : (o : Option Domain) → length (cons_option o []) ≤ 1
        few None = omega arith
        few (Some d) = omega arith

    by : (ds : List Domain) → length ds ≤ 1 → ((d : Domain) → Contains ds d → HasRules d) → IsShort ds
    by [] small each = empty_short
    by (d ∷ []) small each = let rules = each d (Contains-head d []) in single_short d rules.each rules.few
    by (d ∷ e ∷ ds) small each = absurd (omega (arith, small))
