-- The first row that holds a channel is that of the tuple of the first rule of every domain that holds it.
use Rattle.std.proofs.Common.{◌≡◌, ℕ, ◌+◌, ◌<◌, ◌≤◌, ◌⊎◌, List, [], ◌∷◌, Some, None, MatchOption, Option, length, map, get_or, slice_get, Contains, arith, sym, ap, ◌∙◌, subst, inl, inr}
use Rattle.std.proofs.lemmas.Bool.{cases_order}
use Rattle.std.proofs.lemmas.List.{length-map, get_or-map}
use Rattle.std.proofs.lemmas.List.Elements.{All-contains, All-cons, All-nil}
use Rattle.std.proofs.lemmas.Option.{slice_get_within, get_or_from_slice_get, slice_get-get_or}
use Rattle.freq_range.specs.declared.rule.Rule.{Rule}
use Rattle.freq_range.proofs.Members.{Contains-head, Contains-later, Contains-cases, Contains-nothing}
use Rattle.rule_tables.specs.Governing.{RuleHolds, HoldsAt, Governs, NoneGoverns}
use Rattle.rule_tables.specs.declared.domain.Domain.{Domain}
use Rattle.rule_tables.proofs.Governed.{first_or_none, governs_or_none, holds_or_not, HoldsAt-from_get}
use Rattle.rule_tables.proofs.Widths.{some_width}
use Rattle.rule_intersect.proofs.OwnRows.{element_at}
use Rattle.rule_intersect.specs.declared.row.Row.{Row}
use Rattle.rule_intersect.specs.Subchannels.{RowHolds, IsFirstRow, NoRowHolds, AreGoverning, IsGoverningRow, EachHasRule, SomeLacksRule}
use Rattle.rule_intersect.specs.Tables.{AreTuples, Joined, IsTableOf}
use Rattle.rule_intersect.specs.Tuples.{Choice, IsChoice, IsTuple, IsBefore, row_of, greatest_by, least_by}

-- each rule of the tuple holds the channel
abbrev pub EachHolds : ℕ → List Choice → Type 0
EachHolds centre [] = Unit {0}
EachHolds centre (c ∷ t) = RuleHolds centre c.rule × EachHolds centre t

starts_below : (centre : ℕ) (t : List Choice) → 10000 ≤ centre → EachHolds centre t → greatest_by (λ c. c.rule.start_khz) t + 10000 ≤ centre
starts_below centre [] high each = omega arith
starts_below centre (c ∷ t) high each =
    let here = each.0.from_start in
    let rest = starts_below centre t high each.1 in
    omega (arith, here, rest)

ends_above : (centre : ℕ) (c : Choice) (t : List Choice) → EachHolds centre (c ∷ t) → centre + 10000 ≤ least_by (λ c. c.rule.end_khz) (c ∷ t)
ends_above centre c [] each = each.0.to_end
ends_above centre c (e ∷ t) each =
    let here = each.0.to_end in
    let rest = ends_above centre e t each.1 in
    omega (arith, here, rest)

-- where each rule holds the channel, so does the common range
row_holds : (centre : ℕ) (c : Choice) (t : List Choice) → EachHolds centre (c ∷ t) → RowHolds centre (row_of (c ∷ t))
row_holds centre c t each = record {
  from_start = let here = each.0.from_start in starts_below centre (c ∷ t) (omega (arith, here)) each;
  to_end = ends_above centre c t each;
}

-- where the common range holds the channel, so does each rule
each_from_row : (centre : ℕ) (t : List Choice) → RowHolds centre (row_of t) → EachHolds centre t
each_from_row centre [] holds = tt
each_from_row centre (c ∷ []) holds =
    let low = holds.from_start in
    (record { from_start = omega (arith, low); to_end = holds.to_end }, tt)
each_from_row centre (c ∷ e ∷ t) holds =
    let low = holds.from_start in
    let high = holds.to_end in (
      record { from_start = omega (arith, low); to_end = omega (arith, high) },
      each_from_row centre (e ∷ t) (record { from_start = omega (arith, low); to_end = omega (arith, high) }),
    )

pub tuple_of_governing : (ds : List Domain) (centre : ℕ) (t : List Choice) → AreGoverning ds centre t → IsTuple ds t
tuple_of_governing [] centre [] are = tt
tuple_of_governing [] centre (c ∷ t) are = absurd are
tuple_of_governing (d ∷ ds) centre [] are = absurd are
tuple_of_governing (d ∷ ds) centre (c ∷ t) are = (are.0.0, tuple_of_governing ds centre t are.1)

holds_by_choice : (rules : List Rule) (centre : ℕ) (c : Choice) → IsChoice rules c → HoldsAt rules centre c.number → RuleHolds centre c.rule
holds_by_choice rules centre c choice holds = subst (RuleHolds centre) (get_or_from_slice_get rules c.number c.rule c.rule choice.rule) (holds.1 c.rule)

governing_hold : (ds : List Domain) (centre : ℕ) (t : List Choice) → AreGoverning ds centre t → EachHolds centre t
governing_hold [] centre [] are = tt
governing_hold [] centre (c ∷ t) are = absurd are
governing_hold (d ∷ ds) centre [] are = absurd are
governing_hold (d ∷ ds) centre (c ∷ t) are = (holds_by_choice d.rules centre c are.0.0 are.0.1.here, governing_hold ds centre t are.1)

-- no tuple that holds the channel stands before that of the governing rules
none_before : (ds : List Domain) (centre : ℕ) (t first : List Choice) → IsTuple ds t → EachHolds centre t → AreGoverning ds centre first → IsBefore t first → ⊥
none_before ds centre [] first is each are before = before
none_before ds centre (c ∷ t) [] is each are before = before
none_before [] centre (c ∷ t) (g ∷ first) is each are before = is
none_before (d ∷ ds) centre (c ∷ t) (g ∷ first) is each are (inl less) =
    are.0.1.none_before c.number less (HoldsAt-from_get d.rules centre c.number c.rule is.0.rule each.0)
none_before (d ∷ ds) centre (c ∷ t) (g ∷ first) is each are (inr (same, rest)) = none_before ds centre t first is.1 each.1 are.1 rest

-- either each domain has a governing rule, or some domain has none
each_or_lacks : (ds : List Domain) (centre : ℕ) → ((t : List Choice) × AreGoverning ds centre t) ⊎ SomeLacksRule ds centre
each_or_lacks [] centre = inl ([], tt)
each_or_lacks (d ∷ ds) centre = elim (governs_or_none d.rules centre) [
  | inr none ↦ inr (d, Contains-head d ds, none)
  | inl found ↦ elim (each_or_lacks ds centre) [
    | inl rest ↦ inl (chosen found ∷ rest.0, ((is_chosen found, found.1), rest.1))
    | inr lacks ↦ inr (lacks.0, Contains-later d ds lacks.0 lacks.1, lacks.2)
  ]
]
  where
    rule_at : (found : (k : ℕ) × Governs d.rules centre k) → (r : Rule) × (slice_get d.rules found.0 ≡ Some r)
    rule_at found = element_at d.rules found.0 found.1.here.0

    chosen : (found : (k : ℕ) × Governs d.rules centre k) → Choice
    chosen found = record { number = found.0; rule = (rule_at found).0; width_khz = (some_width d.rules found.0 (rule_at found).0 (rule_at found).1).0 }

    is_chosen : (found : (k : ℕ) × Governs d.rules centre k) → IsChoice d.rules (chosen found)
    is_chosen found = record { rule = (rule_at found).1; width = (some_width d.rules found.0 (rule_at found).0 (rule_at found).1).1 }

-- where each rule of a tuple holds the channel, no domain lacks such a rule
none_lacks : (ds : List Domain) (centre : ℕ) (t : List Choice) → IsTuple ds t → EachHolds centre t → SomeLacksRule ds centre → ⊥
none_lacks [] centre t is each lacks = Contains-nothing lacks.0 lacks.1
none_lacks (d ∷ ds) centre [] is each lacks = is
none_lacks (d ∷ ds) centre (c ∷ t) is each lacks = elim (Contains-cases d ds lacks.0 lacks.1) [
  | inl same ↦ not_here (subst (λ x. NoneGoverns x.rules centre) (sym same) lacks.2)
  | inr later ↦ none_lacks ds centre t is.1 each.1 (lacks.0, later, lacks.2)
]
  where
    not_here : NoneGoverns d.rules centre → ⊥
    not_here none =
        let in_range = slice_get_within d.rules c.number c.rule is.0.rule in
        none c.number c.rule in_range (subst (RuleHolds centre) (sym (get_or_from_slice_get d.rules c.number c.rule c.rule is.0.rule)) each.0)

-- the tuple of the governing rules has a row, and it holds the channel
governing_row : (ds : List Domain) (centre : ℕ) (ts : List (List Choice)) (t : List Choice) → 0 < length ds → AreTuples ds ts → AreGoverning ds centre t
    → RowHolds centre (row_of t) × Contains ts t
governing_row [] centre ts t some tuples are = absurd (omega arith)
governing_row (d ∷ ds) centre ts [] some tuples are = absurd are
governing_row (d ∷ ds) centre ts (c ∷ t) some tuples are =
    let holds = row_holds centre c t (governing_hold (d ∷ ds) centre (c ∷ t) are) in
    let low = holds.from_start in
    let high = holds.to_end in
    (holds, tuples.all (c ∷ t) (tuple_of_governing (d ∷ ds) centre (c ∷ t) are) (omega (arith, low, high)))

row_at : (ts : List (List Choice)) (centre k : ℕ) (t : List Choice) (d : Row) → k < length ts → RowHolds centre (get_or (map row_of ts) k d) → RowHolds centre (row_of (get_or ts k t))
row_at ts centre k t d in_range holds = subst (RowHolds centre) (get_or-map row_of ts k t d in_range) holds

first_is_governing : (ds : List Domain) (centre : ℕ) (ts : List (List Choice)) (k : ℕ) (t : List Choice) → 0 < length ds → AreTuples ds ts → AreGoverning ds centre t
    → IsFirstRow (map row_of ts) centre k → slice_get (map row_of ts) k ≡ Some (row_of t)
first_is_governing ds centre ts k t some tuples are first = elim (cases_order k has.0) [
  | inl same ↦ slice_get-get_or (map row_of ts) k (row_of t) first.here.0 ∙ ap Some (get_or-map row_of ts k t (row_of t) in_range ∙ ap row_of (ap (λ n. get_or ts n t) same ∙ has.2))
  | inr (inl earlier) ↦ absurd (not_earlier earlier)
  | inr (inr later) ↦ absurd (first.none_before has.0 later (let within = has.1 in omega (arith, len, within), λ d. subst (RowHolds centre) (sym (get_or-map row_of ts has.0 t d has.1 ∙ ap row_of has.2)) found.0))
]
  where
    found : RowHolds centre (row_of t) × Contains ts t
    found = governing_row ds centre ts t some tuples are

    has : Contains ts t
    has = found.1

    len : length (map row_of ts) ≡ length ts
    len = length-map ts row_of

    in_range : k < length ts
    in_range = let within = first.here.0 in omega (arith, len, within)

    not_earlier : k < has.0 → ⊥
    not_earlier earlier =
        let other = get_or ts k t in
        let is = (tuples.only k t in_range).0 in
        let each = each_from_row centre other (row_at ts centre k t (row_of t) in_range (first.here.1 (row_of t))) in
        let before = tuples.in_order k has.0 t earlier has.1 in
        none_before ds centre other t is each are (subst (λ x. IsBefore other x) has.2 before)

-- the tuple of a row that holds the channel
holding_tuple : (ds : List Domain) (centre : ℕ) (ts : List (List Choice)) (k : ℕ) → AreTuples ds ts → IsFirstRow (map row_of ts) centre k
    → (t : List Choice) × IsTuple ds t × EachHolds centre t
holding_tuple ds centre ts k tuples first =
    let len = length-map ts row_of in
    let within = first.here.0 in
    let in_range : k < length ts = omega (arith, len, within) in
    (get_or ts k [], (tuples.only k [] in_range).0, each_from_row centre (get_or ts k []) (row_at ts centre k [] (row_of []) in_range (first.here.1 (row_of []))))

first_governs : (ds : List Domain) (centre : ℕ) (ts : List (List Choice)) (k : ℕ) → 0 < length ds → AreTuples ds ts → IsFirstRow (map row_of ts) centre k
    → IsGoverningRow ds (map row_of ts) centre k
first_governs ds centre ts k some tuples first = elim (each_or_lacks ds centre) [
  | inl found ↦ (found.0, found.1, first_is_governing ds centre ts k found.0 some tuples found.1 first)
  | inr lacks ↦
      let holding = holding_tuple ds centre ts k tuples first in
      absurd (none_lacks ds centre holding.0 holding.1 holding.2 lacks)
]

none_governs : (ds : List Domain) (centre : ℕ) (ts : List (List Choice)) → 0 < length ds → AreTuples ds ts → NoRowHolds (map row_of ts) centre → SomeLacksRule ds centre
none_governs ds centre ts some tuples none = elim (each_or_lacks ds centre) [
  | inl found ↦ absurd (missing found.0 (governing_row ds centre ts found.0 some tuples found.1))
  | inr lacks ↦ lacks
]
  where
    missing : (t : List Choice) → RowHolds centre (row_of t) × Contains ts t → ⊥
    missing t (holds, has) =
        let len = length-map ts row_of in
        let within = has.1 in
        none has.0 (row_of t) (omega (arith, len, within)) (subst (RowHolds centre) (sym (get_or-map row_of ts has.0 t (row_of t) has.1 ∙ ap row_of has.2)) holds)

pub IsGoverningRow-first : (ds : List Domain) (table : Joined) (centre k : ℕ) → IsTableOf ds table → IsFirstRow table.rows centre k → IsGoverningRow ds table.rows centre k
IsGoverningRow-first ds table centre k is first =
    let same = is.rows.rows_of_tuples in
    subst (λ rows. IsGoverningRow ds rows centre k) (sym same)
    (first_governs ds centre is.rows.tuples k is.some is.rows.are_tuples (subst (λ rows. IsFirstRow rows centre k) same first))

pub SomeLacksRule-none : (ds : List Domain) (table : Joined) (centre : ℕ) → IsTableOf ds table → NoRowHolds table.rows centre → SomeLacksRule ds centre
SomeLacksRule-none ds table centre is none =
    none_governs ds centre is.rows.tuples is.some is.rows.are_tuples (subst (λ rows. NoRowHolds rows centre) is.rows.rows_of_tuples none)

pub answer_of_first : (ds : List Domain) (table : Joined) (centre : ℕ) (r : Option ℕ) → IsTableOf ds table
    → MatchOption r (NoRowHolds table.rows centre) (IsFirstRow table.rows centre) → MatchOption r (SomeLacksRule ds centre) (IsGoverningRow ds table.rows centre)
answer_of_first ds table centre None is answer = SomeLacksRule-none ds table centre is answer
answer_of_first ds table centre (Some k) is answer = IsGoverningRow-first ds table centre k is answer

-- the domains' governing rules, one by one
each_of_governing : (ds : List Domain) (centre : ℕ) (t : List Choice) → AreGoverning ds centre t → EachHasRule ds centre
each_of_governing [] centre t are = All-nil (λ d. (k : ℕ) × Governs d.rules centre k)
each_of_governing (d ∷ ds) centre [] are = absurd are
each_of_governing (d ∷ ds) centre (c ∷ t) are =
    All-cons (λ d. (k : ℕ) × Governs d.rules centre k) d ds (c.number, are.0.1) (each_of_governing ds centre t are.1)

pub EachHasRule-first : (ds : List Domain) (table : Joined) (centre k : ℕ) → IsTableOf ds table → IsFirstRow table.rows centre k → EachHasRule ds centre
EachHasRule-first ds table centre k is first =
    let row = IsGoverningRow-first ds table centre k is first in each_of_governing ds centre row.0 row.1

pub IsFirstRow-some : (ds : List Domain) (table : Joined) (centre : ℕ) → IsTableOf ds table → EachHasRule ds centre → (k : ℕ) × IsFirstRow table.rows centre k
IsFirstRow-some ds table centre is each = elim (first_or_none (RowHolds centre) (λ row. holds_or_not centre row.start_khz row.end_khz) table.rows) [
  | inl found ↦ found
  | inr none ↦ absurd (lacking (SomeLacksRule-none ds table centre is none))
]
  where
    lacking : SomeLacksRule ds centre → ⊥
    lacking (d, has, none) =
        let found = All-contains (λ d. (k : ℕ) × Governs d.rules centre k) ds d each has in
        let rule = element_at d.rules found.0 found.1.here.0 in
        none found.0 rule.0 found.1.here.0 (found.1.here.1 rule.0)
