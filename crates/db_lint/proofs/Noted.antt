-- The least channel of a kind, and the notes on rules.
use Rattle.std.proofs.Common.{◌≡◌, ℕ, ◌+◌, ◌<◌, ◌≤◌, List, [], ◌∷◌, ◌++◌, length, get_or, slice_get, take, Contains, Option, Some, None, arith, refl, sym, ap, ◌∙◌, subst, inl, inr, IsTrue, nat_lt, Bool, true, ◌↔◌}
use Rattle.std.specs.Prelude.{MatchOption}
use Rattle.std.proofs.lemmas.Bool.Decides.{nat_tests}
use Rattle.std.proofs.lemmas.Option.{get_or_from_slice_get, slice_get_within}
use Rattle.std.proofs.lemmas.Bool.{cases_lt}
use Rattle.std.proofs.lemmas.List.{append_assoc, append-nil, get_or_append_left, get_or_at, get_or_default, length-append, take_more}
use Rattle.freq_range.specs.Ascending.{AreAllAscending}
use Rattle.freq_range.specs.Channels.{IsCentre}
use Rattle.freq_range.specs.declared.rule.Rule.{Rule}
use Rattle.rule_tables.specs.Governing.{Governs, NoneGoverns, RuleHolds}
use Rattle.rule_tables.specs.Width.{IsAllowedWidth}
use Rattle.rule_tables.specs.declared.domain.Domain.{Domain}
use Rattle.db_lint.specs.Notes.{AreFirstNotes, AreNotes, IsHiddenBy, IsLeastChannel, IsNote}
use Rattle.db_lint.specs.inner.Held.{HeldByOne}
use Rattle.db_lint.specs.declared.notes.RuleNote.{RuleNote}

-- ---- governing rules

pub none_governs : (rules : List Rule) (khz k : ℕ) → NoneGoverns rules khz → Governs rules khz k → ⊥
none_governs [] khz k none is = let in_range = is.here.0 in omega (arith, in_range)
none_governs (rule ∷ rules) khz k none is = none k rule is.here.0 (is.here.1 rule)

-- the rule that governs a channel which one of the rules holds
pub hides : (rules : List Rule) (khz : ℕ) (o : Option ℕ) → HeldByOne rules (Some khz) → MatchOption o (NoneGoverns rules khz) (Governs rules khz) → IsHiddenBy rules None (Some khz) o
hides rules khz None (k, rule, at, least) none =
    none k rule (slice_get_within rules k rule at) (subst (RuleHolds khz) (sym (get_or_from_slice_get rules k rule rule at)) least.here)
hides rules khz (Some j) held governs = governs

-- ---- the least channel

-- none of the first i of the list has P
abbrev pub NoneOfFirst : (ℕ → Type 0) → List ℕ → ℕ → Type 0
NoneOfFirst P list i = (j : ℕ) → j < i → P (get_or list j 0) → ⊥

-- where a number of the list stands
listed : (list : List ℕ) (n : ℕ) → Contains list n → (j : ℕ) × (j < length list) × (get_or list j 0 ≡ n)
listed list n (j, in_range, is) = (j, in_range, get_or_default list j 0 n in_range ∙ is)

pub least_found : (P : ℕ → Type 0) (list : List ℕ) (i khz : ℕ) → AreAllAscending IsCentre list → i < length list → khz ≡ get_or list i 0 → P khz
    → NoneOfFirst P list i → IsLeastChannel P (Some khz)
least_found P list i khz are below is here none = record {
  centre = subst IsCentre (sym is) (are.only i 0 below);
  here = here;
  none_below = λ other less centre has.
      let place = listed list other (are.all other centre) in
      elim (cases_lt place.0 i) [
        | inl before ↦ none place.0 before (subst P (sym place.2) has)
        | inr past ↦ above place.0 other place.1 place.2 past less
      ];
}
  where
    above : (j other : ℕ) → j < length list → get_or list j 0 ≡ other → i ≤ j → other < khz → ⊥
    above j other in_range at past less = elim (cases_lt i j) [
      | inl behind ↦ let up = are.ascending i j 0 behind in_range in omega (arith, up, is, at, less)
      | inr upto ↦ let same : j ≡ i = omega (arith, upto, past) in let e = ap (λ k. get_or list k 0) same in omega (arith, e, is, at, less)
    ]

pub least_none : (P : ℕ → Type 0) (list : List ℕ) (i : ℕ) → AreAllAscending IsCentre list → length list ≤ i → NoneOfFirst P list i → IsLeastChannel P None
least_none P list i are past none khz centre has =
    let place = listed list khz (are.all khz centre) in
    none place.0 (let in_range = place.1 in omega (arith, in_range, past)) (subst P (sym place.2) has)

-- ---- notes

pub note_is : (d : Domain) (k : ℕ) (rule : Rule) (width : ℕ) (least held by : Option ℕ) (idle : Bool) → slice_get d.rules k ≡ Some rule → IsAllowedWidth d.rules k width
    → IsLeastChannel (λ khz. Governs d.rules khz k) least → IsLeastChannel (λ khz. RuleHolds khz rule) held → IsHiddenBy d.rules least held by
    → (IsTrue idle ↔ (IsTrue rule.flags.auto_bw × (width ≤ rule.max_bw_khz)))
    → IsNote d k (record { alpha2 = d.alpha2; rule = k; least = least; held = held; by = by; narrow = nat_lt width 20000; idle_auto = idle })
note_is d k rule width least held by idle rule_is width_is least_is held_is by_is idle_is = record {
  rule = rule;
  width = width;
  rule_is = rule_is;
  width_is = width_is;
  code = refl;
  number = refl;
  least = least_is;
  held = held_is;
  by = by_is;
  narrow = (λ test. less_from_test width 20000 test, λ less. test_from_less width 20000 less);
  idle_auto = idle_is;
}
  where
    less_from_test : (m n : ℕ) → nat_lt m n ≡ true → m < n
    less_from_test m n test = grind (arith, nat_tests)

    test_from_less : (m n : ℕ) → m < n → nat_lt m n ≡ true
    test_from_less m n less = grind (arith, nat_tests)

pub notes_none : (d : Domain) → AreFirstNotes d 0 []
notes_none d = record { count = refl; each = λ k other below. absurd (omega arith) }

pub notes_push : (d : Domain) (n : ℕ) (notes : List RuleNote) (note : RuleNote) → AreFirstNotes d n notes → IsNote d n note → AreFirstNotes d (n + 1) (notes ++ note ∷ [])
notes_push d n notes note are is = record {
  count = let len = length-append notes (note ∷ []) in let count = are.count in omega (arith, len, count);
  each = λ k other below. elim (cases_lt k n) [
    | inl before ↦ subst (IsNote d k) (sym (get_or_append_left notes (note ∷ []) other k (let count = are.count in omega (arith, before, count)))) (are.each k other before)
    | inr past ↦
        let same : n ≡ k = omega (arith, past, below) in
        subst (IsNote d k) (sym (get_or_at notes note [] other k (are.count ∙ same))) (subst (λ i. IsNote d i note) same is)
  ];
}

pub notes_more : (ds : List Domain) (d : Domain) (notes own : List RuleNote) → AreNotes ds notes → AreFirstNotes d (length d.rules) own → AreNotes (ds ++ d ∷ []) (notes ++ own)
notes_more [] d notes own none are = (own, [], ap (λ xs. xs ++ own) none ∙ sym (append-nil own), are, refl)
notes_more (c ∷ ds) d notes own (front, rest, parts, front_are, rest_are) are = (
  front,
  rest ++ own,
  ap (λ xs. xs ++ own) parts ∙ append_assoc front rest own,
  front_are,
  notes_more ds d rest own rest_are are,
)

-- one domain more
pub notes_step : (ds : List Domain) (i : ℕ) (d : Domain) (old new own : List RuleNote) → i < length ds → d ≡ get_or ds i d → new ≡ old ++ own → AreNotes (take i ds) old
    → AreFirstNotes d (length d.rules) own → AreNotes (take (i + 1) ds) new
notes_step ds i d old new own below is grown are own_are =
    subst (λ xs. AreNotes xs new) (sym (take_more ds i d below)) (subst (λ (x : Domain). AreNotes (take i ds ++ x ∷ []) new) is
    (subst (AreNotes (take i ds ++ d ∷ [])) (sym grown) (notes_more (take i ds) d old own are own_are)))
