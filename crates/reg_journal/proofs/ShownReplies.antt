-- What each reply carries can be shown.
use Rattle.std.proofs.Common.{◌≡◌, ℕ, ◌≤◌, List, [], ◌∷◌, ◌++◌, length, map, filter, find, All, Contains, Option, Some, None, IsSome, IsTrue, option_map, option_and_then, arith, refl, sym, ap, subst, inl, inr, ◌==◌, eq-eqb, ne_eqb, unwrap_or, is_some}
use Rattle.std.specs.List.{AllZip}
use Rattle.std.proofs.lemmas.Bool.{cases_Bool, cases_eq, false≢true}
use Rattle.std.proofs.lemmas.List.Elements.{All-contains, All-map, Contains-append_cases}
use Rattle.std.proofs.lemmas.Option.{none-some, same_Some}
use Rattle.freq_range.specs.Channels.{IsCentre, IsChannel}
use Rattle.freq_range.specs.declared.channel.Band.{Band}
use Rattle.freq_range.specs.declared.channel.Band.TheVariants.{Ghz2, Ghz5, Ghz6}
use Rattle.freq_range.specs.declared.rule.Rule.{Rule}
use Rattle.freq_range.proofs.Members.{Contains-cases, Contains-head, Contains-later, Contains-nothing}
use Rattle.rule_tables.specs.Code.{IsCode, is_same_code}
use Rattle.rule_tables.specs.Databases.{IsDb, IsDomain}
use Rattle.rule_tables.specs.World.{custom_domain, world, world_domain}
use Rattle.rule_tables.specs.declared.code.Alpha2.{Alpha2}
use Rattle.rule_tables.specs.declared.code.Region.{Region}
use Rattle.rule_tables.specs.declared.domain.Domain.{Domain}
use Rattle.rule_intersect.specs.declared.row.Row.{Row}
use Rattle.rule_intersect.proofs.Ordered.{All-from_members}
use Rattle.chan_def.specs.declared.kind.Kind.{Kind}
use Rattle.chan_flags.specs.Lists.{IsRadioChannel}
use Rattle.chan_flags.specs.Profiles.{Abilities, IsProfile, has_band}
use Rattle.chan_flags.specs.declared.profile.Bands.{Bands}
use Rattle.chan_flags.specs.declared.record.Chan.{Chan}
use Rattle.dfs_states.specs.declared.dfs.Dfs.{Dfs}
use Rattle.radio_drv.specs.Names.{IsName}
use Rattle.reg_journal.specs.Applicable.{applies, custom_domains, driver_code_of, driver_domains, find_domain, global_domains, hints_of, is_self_managed, or_nothing, or_world, shared_domains}
use Rattle.reg_journal.specs.Due.{EachMayFollow}
use Rattle.reg_journal.specs.Dumps.{AreSections, AreShown, AreShownChannels, IsSection, IsRadioSection, IsShownChannel, code_of_list, has_own_list, row_as_is, row_shown, shown_iface, state_of}
use Rattle.reg_journal.specs.Effects.{effect_of, effects_of}
use Rattle.reg_journal.specs.Facts.{Fact, Journal, radio_added, radio_removed, stopped, powered, check_dropped}
use Rattle.reg_journal.specs.Forms.{IsShownCode, IsShownEffect, IsShownSection, IsShownState}
use Rattle.reg_journal.specs.Present.{Check, Iface, Operation, abilities_of, check_of, custom_rules_of, ifaces_of, ifaces_on, indexed, no_abilities, operation_of, profile_of, radios_of}
use Rattle.reg_journal.specs.declared.effects.Effect.{Effect}
use Rattle.reg_journal.specs.declared.effects.Effect.TheVariants.{Stopped, Dropped, Power}
use Rattle.reg_journal.specs.declared.report.Section.{Section}
use Rattle.reg_journal.proofs.FewRows.{AreShort, IsShort, few_of_short}
use Rattle.reg_journal.proofs.Resolving.{IsSound, applies_sound, custom_are, global_rules}
use Rattle.reg_journal.proofs.Listed.{Contains-filter, Contains-find}
use Rattle.reg_journal.proofs.Ranges.{ArePlain, contains_filter_map, of_option}
use Rattle.reg_journal.proofs.Wholes.{check_valid, iface_named, operation_valid, whole_channel}

-- ---- effects

indexed_named : (J : Journal) (i : ℕ) (x : Iface) → ArePlain J → indexed J i ≡ Some x → IsName x.name
indexed_named J i x plain found = iface_named J x plain (Contains-find (λ y. y.index == i) (ifaces_of J) x found)

effect_named : (J : Journal) (i : ℕ) (make : List ℕ → Effect) (e : Effect) → ArePlain J → ((name : List ℕ) → IsName name → IsShownEffect (make name))
    → option_map (λ x. make x.name) (indexed J i) ≡ Some e → IsShownEffect e
effect_named J i make e plain each is = by (indexed J i) refl is
  where
    by : (o : Option Iface) → indexed J i ≡ o → option_map (λ (x : Iface). make x.name) o ≡ Some e → IsShownEffect e
    by None at none = absurd (none-some e none)
    by (Some x) at some = subst IsShownEffect (same_Some (make x.name) e some) (each x.name (indexed_named J i x plain at))

effect_shown : (J : Journal) (f : Fact) (e : Effect) → ArePlain J → effect_of J f ≡ Some e → IsShownEffect e
effect_shown J (stopped i) e plain is = effect_named J i Stopped e plain (λ name named. named) is
effect_shown J (check_dropped i) e plain is = effect_named J i Dropped e plain (λ name named. named) is
effect_shown J (powered i power) e plain is = effect_named J i (λ name. Power name power) e plain (λ name named. named) is
effect_shown J f e plain is = absurd (none-some e is)

pub effects_shown : (J : Journal) (facts : List Fact) → ArePlain J → All IsShownEffect (effects_of J facts)
effects_shown J facts plain = All-from_members IsShownEffect (effects_of J facts)
    (λ e has. let found = contains_filter_map (effect_of J) facts e has in effect_shown J found.0 e plain found.2)

-- ---- sections

pub shown_code : (a : Alpha2) → IsCode a → IsShownCode a
shown_code a (inl (first, second)) = (inl first, inl second)
shown_code a (inr (first, second)) = (inr (omega (arith, first), omega (arith, first)), inr (omega (arith, second), omega (arith, second)))

-- the code of each domain
abbrev pub HasShownCode : Domain → Type 0
HasShownCode d = IsShownCode d.alpha2

digits : (a : Alpha2) → a.a ≡ 57 → 48 ≤ a.b → a.b ≤ 57 → IsShownCode a
digits a first from to = (inr (omega (arith, first), omega (arith, first)), inr (from, to))

found_code : (db : List Domain) (a : Alpha2) (d : Domain) → IsDb db → find_domain db a ≡ Some d → HasShownCode d
found_code db a d is found = by (find (λ e. is_same_code e.alpha2 a) db) refl found
  where
    by : (o : Option Domain) → find (λ e. is_same_code e.alpha2 a) db ≡ o → or_world a o ≡ Some d → HasShownCode d
    by (Some e) at same = subst HasShownCode (same_Some e d same) (shown_code e.alpha2 (All-contains IsDomain db e is.each (Contains-find (λ e. is_same_code e.alpha2 a) db e at)).code)
    by None at same = elim (cases_Bool (is_same_code a world)) [
      | inl here ↦ subst HasShownCode (same_Some world_domain d (rw here at same)) (inr (omega arith, omega arith), inr (omega arith, omega arith))
      | inr other ↦ absurd (none-some d (rw other at same))
    ]

global_code : (db : List Domain) (J : Journal) (d : Domain) → IsDb db → Contains (global_domains db J) d → HasShownCode d
global_code db J d is has = let found = contains_filter_map (find_domain db) (hints_of J).global d has in found_code db found.0 d is found.2

custom_code_shown : (rules : List Rule) → HasShownCode (custom_domain rules)
custom_code_shown rules = digits (custom_domain rules).alpha2 refl (omega arith) (omega arith)

applies_code : (db : List Domain) (J : Journal) (r : ℕ) (d : Domain) → IsDb db → Contains (applies db J r) d → HasShownCode d
applies_code db J r d is has = whole (shared_domains db J r ++ custom_domains J r ++ driver_domains db J r) listed has
  where
    shared : Contains (shared_domains db J r) d → HasShownCode d
    shared in_shared = elim (cases_Bool (is_self_managed J r)) [
      | inl own ↦ absurd (Contains-nothing d (rw own at in_shared))
      | inr not ↦ global_code db J d is (rw not at in_shared)
    ]

    custom : (o : Option (List Rule)) → option_map custom_domain o ≡ Some d → HasShownCode d
    custom None none = absurd (none-some d none)
    custom (Some rules) some = subst HasShownCode (same_Some (custom_domain rules) d some) (custom_code_shown rules)

    driver : (o : Option Alpha2) → option_and_then (find_domain db) o ≡ Some d → HasShownCode d
    driver None none = absurd (none-some d none)
    driver (Some a) some = found_code db a d is some

    listed : Contains (shared_domains db J r ++ custom_domains J r ++ driver_domains db J r) d → HasShownCode d
    listed in_all = elim (Contains-append_cases (shared_domains db J r ++ custom_domains J r) (driver_domains db J r) d in_all) [
      | inr last ↦ driver (driver_code_of J r) (of_option (option_and_then (find_domain db) (driver_code_of J r)) d last)
      | inl front ↦ elim (Contains-append_cases (shared_domains db J r) (custom_domains J r) d front) [
        | inl first ↦ shared first
        | inr own ↦ custom (custom_rules_of J r) (of_option (option_map custom_domain (custom_rules_of J r)) d own)
      ]
    ]

    whole : (list : List Domain) → (Contains list d → HasShownCode d) → Contains (or_nothing list) d → HasShownCode d
    whole [] each in_list = elim (Contains-cases (custom_domain []) [] d in_list) [
      | inl same ↦ subst HasShownCode same (custom_code_shown [])
      | inr none ↦ absurd (Contains-nothing d none)
    ]
    whole (e ∷ list) each in_list = each in_list

list_code : (ds : List Domain) → ((d : Domain) → Contains ds d → HasShownCode d) → IsShownCode (code_of_list ds)
list_code [] each = digits (code_of_list []) refl (omega arith) (omega arith)
list_code (d ∷ []) each = each d (Contains-head d [])
list_code (d ∷ e ∷ ds) each = digits (code_of_list (d ∷ e ∷ ds)) refl (omega arith) (omega arith)

-- rows are shown without the lengths of their checks
unchecked_rows : (ds : List Domain) (rows : List Row) → AreShown ds rows → All (λ (row : Row). row.check_ms ≡ 0) rows
unchecked_rows [] rows are = absurd are
unchecked_rows (d ∷ []) rows are = subst (All (λ (row : Row). row.check_ms ≡ 0)) (sym are) (All-map (λ (row : Row). row.check_ms ≡ 0) row_as_is d.rules (λ k d in_range. refl))
unchecked_rows (d ∷ e ∷ ds) rows (joined, are, same) = subst (All (λ (row : Row). row.check_ms ≡ 0)) (sym same) (All-map (λ (row : Row). row.check_ms ≡ 0) row_shown joined (λ k d in_range. refl))

section_shown : (radio : Option ℕ) (ds : List Domain) (region : Region) (section : Section) → ((d : Domain) → Contains ds d → HasShownCode d) → IsSound ds → IsShort ds
    → IsSection radio ds region section → IsShownSection section
section_shown radio ds region section each sound short is = record {
  code = subst IsShownCode (sym is.code) (list_code ds each);
  few = few_of_short ds section.rows sound short is.rows;
  unchecked = unchecked_rows ds section.rows is.rows;
}

-- each of the second list is beside one of the first
pub zip_from : {X Y : Type 0} (R : X → Y → Type 0) (xs : List X) (ys : List Y) → AllZip R xs ys → (y : Y) → Contains ys y → (x : X) × Contains xs x × R x y
zip_from R [] [] are y has = absurd (Contains-nothing y has)
zip_from R [] (z ∷ ys) are y has = absurd are
zip_from R (x ∷ xs) [] are y has = absurd are
zip_from R (x ∷ xs) (z ∷ ys) (first, rest) y has = elim (Contains-cases z ys y has) [
  | inl same ↦ (x, Contains-head x xs, subst (R x) same first)
  | inr later ↦ let found = zip_from R xs ys rest y later in (found.0, Contains-later x xs found.0 found.1, found.2)
]

pub sections_shown : (db : List Domain) (J : Journal) (sections : List Section) → IsDb db → EachMayFollow db J → AreShort db J → AreSections db J sections
    → (1 ≤ length sections) × All IsShownSection sections
sections_shown db J [] is due short are = absurd are
sections_shown db J (section ∷ sections) is due short (first, rest) = (
  omega arith,
  All-from_members IsShownSection (section ∷ sections) (λ s has. elim (Contains-cases section sections s has) [
    | inl same ↦ subst IsShownSection same (section_shown None (global_domains db J) _ section (λ d. global_code db J d is) (inl (λ d there. global_rules db J d is there)) short.global first)
    | inr later ↦
        let from = zip_from (IsRadioSection db J) (filter (has_own_list J) (radios_of J)) sections rest s later in
        let there = (Contains-filter (λ r. is_some (profile_of J r)) (0 ∷ 1 ∷ 2 ∷ 3 ∷ 4 ∷ 5 ∷ 6 ∷ 7 ∷ []) from.0 (Contains-filter (has_own_list J) (radios_of J) from.0 from.1).1).0 in
        section_shown (Some from.0) (applies db J from.0) _ s (λ d. applies_code db J from.0 d is) (applies_sound db J from.0 is (custom_are db J from.0 due)) (short.radios from.0 there) from.2
  ]),
)

-- ---- channels

-- the profile of a radio that is there
profile_is : (db : List Domain) (J : Journal) (r : ℕ) (p : Abilities) → EachMayFollow db J → profile_of J r ≡ Some p → IsProfile p
profile_is db [] r p due is = absurd (none-some p is)
profile_is db (radio_added q profile ∷ J) r p due is = elim (cases_eq r q) [
  | inl same ↦ subst IsProfile (same_Some profile p (rw (eq-eqb r q same) at is)) due.0.2
  | inr other ↦ profile_is db J r p due.1 (rw (ne_eqb r q other) at is)
]
profile_is db (radio_removed q ∷ J) r p due is = elim (cases_eq r q) [
  | inl same ↦ absurd (none-some p (rw (eq-eqb r q same) at is))
  | inr other ↦ profile_is db J r p due.1 (rw (ne_eqb r q other) at is)
]
profile_is db (f ∷ J) r p due is = profile_is db J r p due.1 is

-- each band has a channel
first_channel : (band : Band) → (n : ℕ) × (khz : ℕ) × IsChannel band n khz
first_channel Ghz2 = (1, 2412000, inl (omega arith, omega arith, refl))
first_channel Ghz5 = (36, 5180000, (inl (record { from_first = omega arith; to_last = omega arith; by_four = refl }), refl))
first_channel Ghz6 = (1, 5955000, (record { from_first = omega arith; to_last = omega arith; by_four = refl }, refl))

channel_of_band : (bands : Bands) (band : Band) → IsTrue (has_band bands band) → (khz : ℕ) × IsRadioChannel bands khz
channel_of_band bands band has = let first = first_channel band in (first.1, (band, first.0, first.2, has))

some_band : (bands : Bands) (p : Abilities) → p.bands ≡ bands → IsProfile p → (khz : ℕ) × IsRadioChannel bands khz
some_band bands p same is = elim (cases_Bool bands.ghz2) [
  | inl has ↦ channel_of_band bands Ghz2 has
  | inr no2 ↦ elim (cases_Bool bands.ghz5) [
    | inl has ↦ channel_of_band bands Ghz5 has
    | inr no5 ↦ elim (cases_Bool bands.ghz6) [
      | inl has ↦ channel_of_band bands Ghz6 has
      | inr no6 ↦ absurd (false≢true (rw (same, no2, no5, no6) at is.some_band))
    ]
  ]
]

nonempty : {X : Type 0} (x : X) (xs : List X) → Contains xs x → 1 ≤ length xs
nonempty x [] has = absurd (Contains-nothing x has)
nonempty x (y ∷ xs) has = omega arith

zip_length : {X Y : Type 0} (R : X → Y → Type 0) (xs : List X) (ys : List Y) → AllZip R xs ys → length ys ≡ length xs
zip_length R [] [] are = refl
zip_length R [] (y ∷ ys) are = absurd are
zip_length R (x ∷ xs) [] are = absurd are
zip_length R (x ∷ xs) (y ∷ ys) (first, rest) = let same = zip_length R xs ys rest in omega (arith, same)

pub channels_shown : (db : List Domain) (J : Journal) (r : ℕ) (list : List (Chan × Dfs)) → EachMayFollow db J → IsSome (profile_of J r) → AreShownChannels db J r list
    → (1 ≤ length list) × All (λ (c : Chan × Dfs). IsCentre c.0.khz) list
channels_shown db J r list due there (centres, are, each) = (
  (
      let found = some (profile_of J r) refl there in
      let filled = nonempty found.0 centres (are.all found.0 found.1) in
      let same = zip_length (IsShownChannel db J r) centres list each in
      omega (arith, filled, same)
      ),
  All-from_members (λ (c : Chan × Dfs). IsCentre c.0.khz) list
      (zipped_with centres are.only list each),
)
  where
    some : (o : Option Abilities) → profile_of J r ≡ o → IsSome o → (khz : ℕ) × IsRadioChannel (abilities_of J r).bands khz
    some None at there = absurd (false≢true there)
    some (Some p) at there = some_band (abilities_of J r).bands p (sym (ap (λ o. (unwrap_or o no_abilities).bands) at)) (profile_is db J r p due at)

    zipped_with : (centres : List ℕ) → All (IsRadioChannel (abilities_of J r).bands) centres → (list : List (Chan × Dfs)) → AllZip (IsShownChannel db J r) centres list
        → (c : Chan × Dfs) → Contains list c → IsCentre c.0.khz
    zipped_with centres only list each c has =
        let from = zip_from (IsShownChannel db J r) centres list each c has in
        let channel = All-contains (IsRadioChannel (abilities_of J r).bands) centres from.0 only from.1 in
        subst IsCentre (sym from.2.centre) (channel.0, channel.1, channel.2)

-- ---- radios and interfaces

pub radio_ifaces_named : (J : Journal) (r : ℕ) → ArePlain J → All (λ (x : List ℕ × ℕ × Kind). IsName x.0) (map shown_iface (ifaces_on J r))
radio_ifaces_named J r plain = All-map (λ (x : List ℕ × ℕ × Kind). IsName x.0) shown_iface (ifaces_on J r)
    (All-from_members (λ (x : Iface). IsName x.name) (ifaces_on J r) (λ x has. iface_named J x plain (Contains-filter (λ x. x.radio == r) (ifaces_of J) x has).1))

pub state_shown : (db : List Domain) (J : Journal) (i : ℕ) → EachMayFollow db J → IsShownState (state_of (operation_of J i) (check_of J i))
state_shown db J i due = by (operation_of J i) (check_of J i) refl refl
  where
    by : (o : Option Operation) (k : Option Check) → operation_of J i ≡ o → check_of J i ≡ k → IsShownState (state_of o k)
    by (Some o) k at_o at_k = whole_channel o.chan (operation_valid db J i o due at_o)
    by None (Some k) at_o at_k = whole_channel k.chan (check_valid db J i k due at_k)
    by None None at_o at_k = tt
