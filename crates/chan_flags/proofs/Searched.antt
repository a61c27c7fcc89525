-- A search by halves among channels that ascend finds what a walk from the front finds.
use Rattle.std.proofs.Common.{◌≡◌, ◌==◌, ℕ, zero, suc, ◌<◌, ◌≤◌, cond, Some, None, Result, Ok, Err, MatchResult, List, [], ◌∷◌, length, get_or, slice_get, All, arith, refl, sym, subst, ap, ◌∙◌, inl, inr}
use Rattle.std.specs.List.Sorted.{IsSearchInRange, IsBinarySearchResult, IsNonDecreasingBy}
use Rattle.std.specs.Ordering.{nat_cmp, ordering_index}
use Rattle.std.proofs.lemmas.Bool.{cases_Bool, cases_lt, cases_order, eqb-true, eq-eqb}
use Rattle.std.proofs.lemmas.Bool.Decides.{nat_tests}
use Rattle.std.proofs.lemmas.Cmp.{ranked}
use Rattle.std.proofs.lemmas.List.{length-map, get_or-map}
use Rattle.std.proofs.lemmas.List.Elements.{All-head, All-tail}
use Rattle.chan_flags.specs.inner.Listing.{AreAscending}
use Rattle.chan_flags.specs.ByRecords.{chan_with_centre}
use Rattle.chan_flags.specs.declared.record.Chan.{Chan}

khz_below : (chans : List Chan) → AreAscending chans → (i j : ℕ) (d : Chan) → i < j → j < length chans → (get_or chans i d).khz < (get_or chans j d).khz
khz_below chans up i j d below in_range =
    let len = length-map chans (λ c. c.khz) in
    let low = get_or-map (λ c. c.khz) chans i d d.khz (omega (arith, below, in_range)) in
    let high = get_or-map (λ c. c.khz) chans j d d.khz in_range in
    let less = up i j d.khz below (omega (arith, len, in_range)) in
    omega (arith, low, high, less)

index_rises : (a b k : ℕ) → a ≤ b → ordering_index (nat_cmp a k) ≤ ordering_index (nat_cmp b k)
index_rises a b k up = grind (arith, nat_tests)

comparisons_rise : (chans : List Chan) (k : ℕ) → AreAscending chans → IsNonDecreasingBy (λ c. ordering_index (nat_cmp c.khz k)) chans
comparisons_rise chans k up i j d order in_range = index_rises (get_or chans i d).khz (get_or chans j d).khz k rises
  where
    rises : (get_or chans i d).khz ≤ (get_or chans j d).khz
    rises = elim (cases_order i j) [
      | inl same ↦ subst (λ n. (get_or chans i d).khz ≤ (get_or chans n d).khz) same (omega arith)
      | inr (inl less) ↦ let below = khz_below chans up i j d less in_range in omega (arith, below)
      | inr (inr more) ↦ absurd (omega (arith, order, more))
    ]

skip : (c : Chan) (chans : List Chan) (s : ℕ) → (c.khz ≡ s → ⊥) → chan_with_centre (c ∷ chans) s ≡ chan_with_centre chans s
skip c chans s other = elim (cases_Bool (c.khz == s)) [
  | inl same ↦ absurd (other (eqb-true c.khz s same))
  | inr differs ↦ ap (λ b. cond b (Some c) (chan_with_centre chans s)) differs
]

channel_at-here : (chans : List Chan) (s i : ℕ) → ((k : ℕ) (d : Chan) → k < i → (get_or chans k d).khz ≡ s → ⊥) → i < length chans → ((d : Chan) → (get_or chans i d).khz ≡ s)
    → chan_with_centre chans s ≡ slice_get chans i
channel_at-here [] s i none in_range here = absurd (omega arith)
channel_at-here (c ∷ chans) s zero none in_range here = ap (λ b. cond b (Some c) (chan_with_centre chans s)) (eq-eqb c.khz s (here c))
channel_at-here (c ∷ chans) s (suc i) none in_range here =
    skip c chans s (none 0 c (omega arith)) ∙ channel_at-here chans s i (λ k d below. none (suc k) d (omega (arith, below))) (omega arith) here

channel_at-nowhere : (chans : List Chan) (s : ℕ) → All (λ c. c.khz ≡ s → ⊥) chans → chan_with_centre chans s ≡ None
channel_at-nowhere [] s none = refl
channel_at-nowhere (c ∷ chans) s none =
    skip c chans s (All-head (λ x. x.khz ≡ s → ⊥) c chans none) ∙ channel_at-nowhere chans s (All-tail (λ x. x.khz ≡ s → ⊥) c chans none)

pub searched : (chans : List Chan) (s : ℕ) (r : Result ℕ ℕ) → AreAscending chans → IsSearchInRange r (length chans) → IsBinarySearchResult (λ c. nat_cmp c.khz s) chans r
    → MatchResult r (λ i. chan_with_centre chans s ≡ slice_get chans i) (λ _. chan_with_centre chans s ≡ None)
searched chans s (Ok i) up in_range equal = channel_at-here chans s i earlier in_range here
  where
    here : (d : Chan) → (get_or chans i d).khz ≡ s
    here d = ranked _ s _ (sym (equal d))

    earlier : (k : ℕ) (d : Chan) → k < i → (get_or chans k d).khz ≡ s → ⊥
    earlier k d below same =
        let less = khz_below chans up k i d below in_range in
        let found = here d in
        omega (arith, less, found, same)
searched chans s (Err i) up in_range parted = channel_at-nowhere chans s apart
  where
    apart : All (λ c. c.khz ≡ s → ⊥) chans
    apart k d within same = elim (cases_lt k i) [
      | inl below ↦ let less = ranked (get_or chans k d).khz s _ (sym ((parted (comparisons_rise chans s up)).0 k d (omega arith) below)) in omega (arith, less, same)
      | inr past ↦ let more = ranked (get_or chans k d).khz s _ (sym ((parted (comparisons_rise chans s up)).1 k d past within)) in omega (arith, more, same)
    ]
