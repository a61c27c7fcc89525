-- There is what a request shows: sections, channels, radios and interfaces.
use Rattle.std.proofs.Common.{◌≡◌, ℕ, zero, suc, ◌+◌, ◌*◌, ◌<◌, ◌≤◌, ◌⊎◌, List, [], ◌∷◌, ◌++◌, length, map, filter, get_or, Option, Some, None, IsTrue, arith, refl, sym, ap, subst, ◌∙◌, inl, inr}
use Rattle.std.specs.List.{AllZip}
use Rattle.std.specs.Option.{option_map}
use Rattle.std.proofs.lemmas.Bool.{cases_Bool, true≢false}
use Rattle.freq_range.specs.Ascending.{AreAllAscending}
use Rattle.freq_range.specs.Channels.{IsCentre, IsChannel}
use Rattle.freq_range.specs.declared.channel.Band.{Band}
use Rattle.freq_range.specs.declared.channel.Band.TheVariants.{Ghz2, Ghz5, Ghz6}
use Rattle.freq_range.specs.inner.Places.{IsChannelBefore, place}
use Rattle.freq_range.proofs.Deciding.{Told}
use Rattle.freq_range.proofs.Listed.{listed-all, listed-none, listed-nothing, listed-push}
use Rattle.freq_range.proofs.Members.{Contains-head, Contains-later}
use Rattle.freq_range.proofs.Picked.{IsPicked, picked-all, picked-keep, picked-leave, picked-nothing}
use Rattle.rule_tables.specs.Databases.{IsDb}
use Rattle.rule_tables.specs.declared.code.Region.{Region}
use Rattle.rule_tables.specs.declared.domain.Domain.{Domain}
use Rattle.rule_intersect.specs.Subchannels.{AreGoverning, SomeLacksRule}
use Rattle.rule_intersect.specs.Tuples.{Choice}
use Rattle.rule_intersect.specs.declared.row.Row.{Row}
use Rattle.chan_flags.specs.Lists.{AreChannels, IsRadioChannel}
use Rattle.chan_flags.specs.Profiles.{has_band}
use Rattle.chan_flags.specs.Records.{IsRecord, fit_of}
use Rattle.chan_flags.specs.declared.profile.Bands.{Bands}
use Rattle.chan_flags.specs.declared.record.Chan.{Chan}
use Rattle.chan_flags.specs.declared.record.Fit.{Fit}
use Rattle.chan_flags.proofs.Existing.{governing_or_none}
use Rattle.chan_flags.proofs.Told.{told_channel}
use Rattle.dfs_states.specs.declared.dfs.Dfs.{Dfs}
use Rattle.reg_journal.specs.Applicable.{applies, global_domains, global_region, or_nothing, region_of, shared_domains, custom_domains, driver_domains}
use Rattle.reg_journal.specs.Due.{EachMayFollow}
use Rattle.reg_journal.specs.Dumps.{AreSections, AreShown, AreShownChannels, IsIfaceReport, IsRadioReport, IsRadioSection, IsSection, IsShownChannel, code_of_list, fit_shown, has_own_list, row_as_is, row_shown, shown_iface, state_of}
use Rattle.reg_journal.specs.Facts.{Journal}
use Rattle.reg_journal.specs.Present.{Iface, abilities_of, check_of, ifaces_on, operation_of, radios_of}
use Rattle.reg_journal.specs.declared.report.IfaceReport.{IfaceReport}
use Rattle.reg_journal.specs.declared.report.RadioReport.{RadioReport}
use Rattle.reg_journal.specs.declared.report.Section.{Section}
use Rattle.reg_journal.proofs.Resolving.{IsSound, applies_sound, custom_are, global_rules, global_some, some_rows}
use Rattle.reg_journal.proofs.ToldStates.{some_state}

some_zip : {A B : Type 0} (R : A → B → Type 0) → ((x : A) → (y : B) × R x y) → (xs : List A) → (ys : List B) × AllZip R xs ys
some_zip R each [] = ([], tt)
some_zip R each (x ∷ xs) = let first = each x in let rest = some_zip R each xs in (first.0 ∷ rest.0, (first.1, rest.1))

-- ---- sections

some_shown : (ds : List Domain) → 0 < length ds → IsSound ds → (rows : List Row) × AreShown ds rows
some_shown [] some sound = absurd (omega (arith, some))
some_shown (d ∷ []) some sound = (map row_as_is d.rules, refl)
some_shown (d ∷ e ∷ ds) some (inl each) = let rows = some_rows d (e ∷ ds) (each d (Contains-head d (e ∷ ds))) in (map row_shown rows.0, (rows.0, rows.1, refl))
some_shown (d ∷ e ∷ ds) some (inr nothing) = absurd (let longer = ap (λ (l : List Domain). length l) nothing in omega (arith, longer))

some_section : (radio : Option ℕ) (ds : List Domain) (region : Region) → 0 < length ds → IsSound ds → (section : Section) × IsSection radio ds region section
some_section radio ds region some sound =
    let rows = some_shown ds some sound in
    (record { radio = radio; alpha2 = code_of_list ds; region = region; rows = rows.0 }, record { of_radio = refl; code = refl; of_region = refl; rows = rows.1 })

applies_some : (db : List Domain) (J : Journal) (r : ℕ) → 0 < length (applies db J r)
applies_some db J r = by (shared_domains db J r ++ custom_domains J r ++ driver_domains db J r)
  where
    by : (list : List Domain) → 0 < length (or_nothing list)
    by [] = omega arith
    by (d ∷ list) = omega arith

pub some_sections : (db : List Domain) (J : Journal) → IsDb db → EachMayFollow db J → (list : List Section) × AreSections db J list
some_sections db J is due =
    let first = some_section None (global_domains db J) (global_region db J) (global_some db J due) (inl (λ d has. global_rules db J d is has)) in
    let rest = some_zip (IsRadioSection db J) (λ r. some_section (Some r) (applies db J r) (region_of db J r) (applies_some db J r) (applies_sound db J r is (custom_are db J r due)))
    (filter (has_own_list J) (radios_of J)) in
    (first.0 ∷ rest.0, (first.1, rest.1))

-- ---- channels

-- the band has a channel of this number, or none
centre_or_none : (band : Band) (n : ℕ) → ((khz : ℕ) × IsChannel band n khz) ⊎ ((khz : ℕ) → IsChannel band n khz → ⊥)
centre_or_none Ghz2 n = elim (told_channel Ghz2 n (2407000 + 5000 * n)) [
  | inl is ↦ inl (2407000 + 5000 * n, is)
  | inr never ↦ elim (told_channel Ghz2 n 2484000) [
    | inl is ↦ inl (2484000, is)
    | inr neither ↦ inr (λ khz is. elim is [ inl low ↦ never (inl (low.0, low.1, refl)) | inr high ↦ neither (inr (high.0, refl)) ])
  ]
]
centre_or_none Ghz5 n = elim (told_channel Ghz5 n (5000000 + 5000 * n)) [
  | inl is ↦ inl (5000000 + 5000 * n, is)
  | inr never ↦ inr (λ khz is. never (is.0, refl))
]
centre_or_none Ghz6 n = elim (told_channel Ghz6 n (5950000 + 5000 * n)) [
  | inl is ↦ inl (5950000 + 5000 * n, is)
  | inr never ↦ inr (λ khz is. never (is.0, refl))
]

-- the list of all channels before a place
abbrev SomeBefore : ℕ → Type 0
SomeBefore end = (list : List ℕ) × AreAllAscending (IsChannelBefore end) list

channels_up : (band : Band) (n : ℕ) → n ≤ 234 → SomeBefore (place band 0) → SomeBefore (place band n)
channels_up band zero few start = start
channels_up band (suc n) few start =
    let below = channels_up band n (omega (arith, few)) start in
    let next : n + 1 ≡ suc n = omega arith in
    elim (centre_or_none band n) [
      | inl (khz, is) ↦ (below.0 ++ khz ∷ [], subst (λ m. AreAllAscending (IsChannelBefore (place band m)) (below.0 ++ khz ∷ [])) next (listed-push band n khz below.0 is below.1))
      | inr none ↦ (below.0, subst (λ m. AreAllAscending (IsChannelBefore (place band m)) below.0) next (listed-none band n below.0 (omega (arith, few)) none below.1))
    ]

all_centres : (list : List ℕ) × AreAllAscending IsCentre list
all_centres =
    let all = channels_up Ghz6 234 (omega arith) (channels_up Ghz5 234 (omega arith) (channels_up Ghz2 234 (omega arith) ([], listed-nothing))) in
    (all.0, listed-all all.0 all.1)

-- where the band's first and last channel lie
abbrev first_khz : Band → ℕ
first_khz Ghz2 = 2412000
first_khz Ghz5 = 5180000
first_khz Ghz6 = 5955000

abbrev last_khz : Band → ℕ
last_khz Ghz2 = 2484000
last_khz Ghz5 = 5885000
last_khz Ghz6 = 7115000

within : (band : Band) (n khz : ℕ) → IsChannel band n khz → (first_khz band ≤ khz) × (khz ≤ last_khz band)
within Ghz2 n khz (inl is) = let from = is.0 in let to = is.1 in let at = is.2 in (omega (arith, from, at), omega (arith, to, at))
within Ghz2 n khz (inr is) = let at = is.1 in (omega (arith, at), omega (arith, at))
within Ghz5 n khz (inl step, at) = let from = step.from_first in let to = step.to_last in (omega (arith, from, at), omega (arith, to, at))
within Ghz5 n khz (inr (inl step), at) = let from = step.from_first in let to = step.to_last in (omega (arith, from, at), omega (arith, to, at))
within Ghz5 n khz (inr (inr step), at) = let from = step.from_first in let to = step.to_last in (omega (arith, from, at), omega (arith, to, at))
within Ghz6 n khz (step, at) = let from = step.from_first in let to = step.to_last in (omega (arith, from, at), omega (arith, to, at))

-- a centre is of one band
one_band : (b band : Band) (m n khz : ℕ) → IsChannel b m khz → IsChannel band n khz → b ≡ band
one_band Ghz2 Ghz2 m n khz one other = refl
one_band Ghz2 Ghz5 m n khz one other = let to = (within Ghz2 m khz one).1 in let from = (within Ghz5 n khz other).0 in absurd (omega (arith, to, from))
one_band Ghz2 Ghz6 m n khz one other = let to = (within Ghz2 m khz one).1 in let from = (within Ghz6 n khz other).0 in absurd (omega (arith, to, from))
one_band Ghz5 Ghz2 m n khz one other = let to = (within Ghz2 n khz other).1 in let from = (within Ghz5 m khz one).0 in absurd (omega (arith, to, from))
one_band Ghz5 Ghz5 m n khz one other = refl
one_band Ghz5 Ghz6 m n khz one other = let to = (within Ghz5 m khz one).1 in let from = (within Ghz6 n khz other).0 in absurd (omega (arith, to, from))
one_band Ghz6 Ghz2 m n khz one other = let to = (within Ghz2 n khz other).1 in let from = (within Ghz6 m khz one).0 in absurd (omega (arith, to, from))
one_band Ghz6 Ghz5 m n khz one other = let to = (within Ghz5 n khz other).1 in let from = (within Ghz6 m khz one).0 in absurd (omega (arith, to, from))
one_band Ghz6 Ghz6 m n khz one other = refl

-- whether a channel is one of the radio's
told_radio : (bands : Bands) (khz : ℕ) → IsCentre khz → Told (IsRadioChannel bands khz)
told_radio bands khz (band, n, is) = elim (cases_Bool (has_band bands band)) [
  | inl has ↦ inl (band, n, is, has)
  | inr lacks ↦ inr (λ (other, m, is_other, has). true≢false (sym (subst (λ b. IsTrue (has_band bands b)) (one_band other band m n khz is_other is) has) ∙ lacks))
]

-- those of the first i that are the radio's
pick : (bands : Bands) (all : List ℕ) → AreAllAscending IsCentre all → (i : ℕ) → i ≤ length all
    → (list : List ℕ) × AreAllAscending (IsPicked (IsRadioChannel bands) all i) list
pick bands all are zero in_range = ([], picked-nothing (IsRadioChannel bands) all)
pick bands all are (suc i) in_range =
    let before = pick bands all are i (omega (arith, in_range)) in
    let next : i + 1 ≡ suc i = omega arith in
    elim (told_radio bands (get_or all i 0) (are.only i 0 (omega (arith, in_range)))) [
      | inl is ↦ (
        before.0 ++ get_or all i 0 ∷ [],
        subst (λ m. AreAllAscending (IsPicked (IsRadioChannel bands) all m) (before.0 ++ get_or all i 0 ∷ [])) next
            (picked-keep IsCentre (IsRadioChannel bands) all i (get_or all i 0) before.0 are (omega (arith, in_range)) refl is before.1),
      )
      | inr lacks ↦ (
        before.0,
        subst (λ m. AreAllAscending (IsPicked (IsRadioChannel bands) all m) before.0) next
            (picked-leave (IsRadioChannel bands) all i (get_or all i 0) before.0 (omega (arith, in_range)) refl lacks before.1),
      )
    ]

picked_from : (bands : Bands) (all : List ℕ) → AreAllAscending IsCentre all → (list : List ℕ) × AreChannels bands list
picked_from bands all are =
    let picked = pick bands all are (length all) (omega arith) in
    (picked.0, picked-all IsCentre (IsRadioChannel bands) all (length all) picked.0 are (omega arith) (λ khz (band, n, is, has). (band, n, is)) picked.1)

some_channels : (bands : Bands) → (list : List ℕ) × AreChannels bands list
some_channels bands = let all = all_centres in picked_from bands all.0 all.1

governing_list : (ds : List Domain) (s : ℕ) → ((t : List Choice) × AreGoverning ds s t) ⊎ SomeLacksRule ds s
governing_list [] s = inl ([], tt)
governing_list (d ∷ ds) s = elim (governing_or_none d s) [
  | inr none ↦ inr (d, Contains-head d ds, none)
  | inl (g, is) ↦ elim (governing_list ds s) [
    | inl (t, are) ↦ inl (g ∷ t, (is, are))
    | inr (e, has, none) ↦ inr (e, Contains-later d ds e has, none)
  ]
]

some_record : (ds : List Domain) (s : ℕ) → (fit : Option Fit) × IsRecord ds s fit
some_record ds s = elim (governing_list ds s) [
  | inl (t, are) ↦ (Some (fit_of t), (t, are, refl))
  | inr lacks ↦ (None, lacks)
]

shown_channel : (db : List Domain) (J : Journal) (r s : ℕ) → (shown : Chan × Dfs) × IsShownChannel db J r s shown
shown_channel db J r s =
    let fit = some_record (applies db J r) s in
    let state = some_state db J r s in
    ((record { khz = s; fit = option_map (fit_shown (abilities_of J r).power_mbm) fit.0 }, state.0), record { centre = refl; fit = (fit.0, fit.1, refl); state = state.1 })

pub some_shown_channels : (db : List Domain) (J : Journal) (r : ℕ) → (list : List (Chan × Dfs)) × AreShownChannels db J r list
some_shown_channels db J r =
    let centres = some_channels (abilities_of J r).bands in
    let list = some_zip (IsShownChannel db J r) (shown_channel db J r) centres.0 in
    (list.0, (centres.0, centres.1, list.1))

-- ---- radios and interfaces

pub radio_report : (J : Journal) (r : ℕ) → (report : RadioReport) × IsRadioReport J r report
radio_report J r = (record { radio = r; profile = abilities_of J r; ifaces = map shown_iface (ifaces_on J r) }, record { radio = refl; profile = refl; ifaces = refl })

pub iface_report : (J : Journal) (x : Iface) → (report : IfaceReport) × IsIfaceReport J x report
iface_report J x = (
  record { name = x.name; index = x.index; radio = x.radio; kind = x.kind; setting = x.setting; state = state_of (operation_of J x.index) (check_of J x.index) },
  record { name = refl; index = refl; radio = refl; kind = refl; setting = refl; state = refl },
)
