-- The list of all channels as it grows.
use Rattle.std.proofs.Common.{◌≡◌, ℕ, ◌+◌, ◌<◌, ◌≤◌, ◌⊎◌, List, [], ◌∷◌, ◌++◌, Contains, arith, refl, subst, inl, inr}
use Rattle.std.proofs.lemmas.Bool.{cases_lt}
use Rattle.std.proofs.lemmas.List.Elements.{All-nil, All-push, All-weaker, Contains-append_left, Contains-push}
use Rattle.std.proofs.lemmas.List.Quantifiers.{all_pairs_push}
use Rattle.freq_range.specs.Ascending.{AreAllAscending}
use Rattle.freq_range.specs.Channels.{IsCentre, IsChannel, IsStepOfFour}
use Rattle.freq_range.specs.declared.channel.Band.{Band}
use Rattle.freq_range.specs.declared.channel.Band.TheVariants.{Ghz2, Ghz5, Ghz6}
use Rattle.freq_range.specs.inner.Places.{place, IsChannelBefore}

ghz5_most : (n : ℕ) → IsStepOfFour 36 64 n ⊎ (IsStepOfFour 100 144 n ⊎ IsStepOfFour 149 177 n) → n ≤ 177
ghz5_most n (inl step) = let last = step.to_last in omega (arith, last)
ghz5_most n (inr (inl step)) = let last = step.to_last in omega (arith, last)
ghz5_most n (inr (inr step)) = step.to_last

pub number_small : (band : Band) (n khz : ℕ) → IsChannel band n khz → n < 234
number_small Ghz2 n khz (inl is) = let most = is.1 in omega (arith, most)
number_small Ghz2 n khz (inr is) = let most = is.0 in omega (arith, most)
number_small Ghz5 n khz is = let most = ghz5_most n is.0 in omega (arith, most)
number_small Ghz6 n khz is = let most = is.0.to_last in omega (arith, most)

one_centre : (band : Band) (n khz other : ℕ) → IsChannel band n khz → IsChannel band n other → khz ≡ other
one_centre Ghz2 n khz other (inl a) (inl b) = let p = a.2 in let q = b.2 in omega (arith, p, q)
one_centre Ghz2 n khz other (inl a) (inr b) = let p = a.1 in let q = b.0 in omega (arith, p, q)
one_centre Ghz2 n khz other (inr a) (inl b) = let p = a.0 in let q = b.1 in omega (arith, p, q)
one_centre Ghz2 n khz other (inr a) (inr b) = let p = a.1 in let q = b.1 in omega (arith, p, q)
one_centre Ghz5 n khz other a b = let p = a.1 in let q = b.1 in omega (arith, p, q)
one_centre Ghz6 n khz other a b = let p = a.1 in let q = b.1 in omega (arith, p, q)

-- the number of a place
one_number : (b band : Band) (m n : ℕ) → m < 234 → n < 234 → place b m ≡ place band n → (b ≡ band) × (m ≡ n)
one_number Ghz2 Ghz2 m n a b same = (refl, same)
one_number Ghz2 Ghz5 m n a b same = absurd (omega arith)
one_number Ghz2 Ghz6 m n a b same = absurd (omega arith)
one_number Ghz5 Ghz2 m n a b same = absurd (omega arith)
one_number Ghz5 Ghz5 m n a b same = (refl, omega arith)
one_number Ghz5 Ghz6 m n a b same = absurd (omega arith)
one_number Ghz6 Ghz2 m n a b same = absurd (omega arith)
one_number Ghz6 Ghz5 m n a b same = absurd (omega arith)
one_number Ghz6 Ghz6 m n a b same = (refl, omega arith)

ghz2_most : (n khz : ℕ) → IsChannel Ghz2 n khz → khz ≤ 2484000
ghz2_most n khz (inl is) = let most = is.1 in let e = is.2 in omega (arith, most, e)
ghz2_most n khz (inr is) = let e = is.1 in omega (arith, e)

-- a channel at a later place has a higher centre
rising : (b band : Band) (m n low high : ℕ) → IsChannel b m low → IsChannel band n high → place b m < place band n → low < high
rising Ghz2 Ghz2 m n low high (inl a) (inl b) less = let p = a.2 in let q = b.2 in omega (arith, p, q, less)
rising Ghz2 Ghz2 m n low high (inl a) (inr b) less = let p = a.2 in let most = a.1 in let q = b.1 in omega (arith, p, q, most)
rising Ghz2 Ghz2 m n low high (inr a) (inl b) less = let p = a.0 in let most = b.1 in absurd (omega (arith, p, most, less))
rising Ghz2 Ghz2 m n low high (inr a) (inr b) less = let p = a.0 in let q = b.0 in absurd (omega (arith, p, q, less))
rising Ghz2 Ghz5 m n low high a b less = let most = ghz2_most m low a in let q = b.1 in omega (arith, most, q)
rising Ghz2 Ghz6 m n low high a b less = let most = ghz2_most m low a in let q = b.1 in omega (arith, most, q)
rising Ghz5 Ghz2 m n low high a b less = let most = number_small Ghz2 n high b in absurd (omega (arith, most, less))
rising Ghz5 Ghz5 m n low high a b less = let p = a.1 in let q = b.1 in omega (arith, p, q, less)
rising Ghz5 Ghz6 m n low high a b less = let p = a.1 in let q = b.1 in let most = ghz5_most m a.0 in omega (arith, p, q, most)
rising Ghz6 Ghz2 m n low high a b less = let most = number_small Ghz2 n high b in absurd (omega (arith, most, less))
rising Ghz6 Ghz5 m n low high a b less = let most = number_small Ghz5 n high b in absurd (omega (arith, most, less))
rising Ghz6 Ghz6 m n low high a b less = let p = a.1 in let q = b.1 in omega (arith, p, q, less)

-- there is no channel from one place up to another
abbrev NoneBetween : ℕ → ℕ → Type 0
NoneBetween start end = (band : Band) (n khz : ℕ) → IsChannel band n khz → start ≤ place band n → place band n < end → ⊥

more_places : (start end : ℕ) (xs : List ℕ) → start ≤ end → NoneBetween start end → AreAllAscending (IsChannelBefore start) xs → AreAllAscending (IsChannelBefore end) xs
more_places start end xs up none are = record {
  all = λ khz (band, n, is, below). elim (cases_lt (place band n) start) [
    | inl before ↦ are.all khz (band, n, is, before)
    | inr past ↦ absurd (none band n khz is past below)
  ];
  only = All-weaker (IsChannelBefore start) (IsChannelBefore end) (λ khz (band, n, is, below). (band, n, is, omega arith)) xs are.only;
  ascending = are.ascending;
}

place-more : (band : Band) (n : ℕ) → place band (n + 1) ≡ place band n + 1
place-more Ghz2 n = omega arith
place-more Ghz5 n = omega arith
place-more Ghz6 n = omega arith

-- a number that no channel has
pub listed-none : (band : Band) (n : ℕ) (xs : List ℕ) → n < 234 → ((khz : ℕ) → IsChannel band n khz → ⊥) → AreAllAscending (IsChannelBefore (place band n)) xs
    → AreAllAscending (IsChannelBefore (place band (n + 1))) xs
listed-none band n xs small none are =
    let next = place-more band n in
    more_places (place band n) (place band (n + 1)) xs (omega (arith, next)) between are
  where
    between : NoneBetween (place band n) (place band (n + 1))
    between b m khz is from to =
        let next = place-more band n in
        let same = one_number b band m n (number_small b m khz is) small (omega (arith, next, from, to)) in
        none khz (subst (λ k. IsChannel band k khz) same.1 (subst (λ x. IsChannel x m khz) same.0 is))

-- a number of a channel
pub listed-push : (band : Band) (n khz : ℕ) (xs : List ℕ) → IsChannel band n khz → AreAllAscending (IsChannelBefore (place band n)) xs
    → AreAllAscending (IsChannelBefore (place band (n + 1))) (xs ++ khz ∷ [])
listed-push band n khz xs is are = record {
  all = λ other (b, m, is_other, below). elim (cases_lt (place b m) (place band n)) [
    | inl before ↦ Contains-append_left xs (khz ∷ []) other (are.all other (b, m, is_other, before))
    | inr past ↦ subst (λ x. Contains (xs ++ khz ∷ []) x) (here b m other is_other past below) (Contains-push xs khz)
  ];
  only = All-push (IsChannelBefore (place band (n + 1))) xs khz
      (All-weaker (IsChannelBefore (place band n)) (IsChannelBefore (place band (n + 1))) (λ x (b, m, is_x, below). (b, m, is_x, omega (arith, next, below))) xs are.only)
      (band, n, is, omega (arith, next));
  ascending = all_pairs_push (λ low high. low < high) xs khz are.ascending
      (λ k d in_range. let before = are.only k d in_range in rising before.0 band before.1 n _ khz before.2 is before.3);
}
  where
    next : place band (n + 1) ≡ place band n + 1
    next = place-more band n

    here : (b : Band) (m other : ℕ) → IsChannel b m other → place band n ≤ place b m → place b m < place band (n + 1) → khz ≡ other
    here b m other is_other past below =
        let same = one_number b band m n (number_small b m other is_other) (number_small band n khz is) (omega (arith, next, past, below)) in
        one_centre band n khz other is (subst (λ k. IsChannel band k other) same.1 (subst (λ x. IsChannel x m other) same.0 is_other))

pub listed-nothing : AreAllAscending (IsChannelBefore 0) []
listed-nothing = record {
  all = λ khz (band, n, is, below). absurd (omega arith);
  only = All-nil (IsChannelBefore 0);
  ascending = λ i j d below in_range. absurd (omega arith);
}

pub listed-all : (xs : List ℕ) → AreAllAscending (IsChannelBefore (place Ghz6 234)) xs → AreAllAscending IsCentre xs
listed-all xs are = record {
  all = λ khz (band, n, is). are.all khz (band, n, is, within band n (number_small band n khz is));
  only = All-weaker (IsChannelBefore (place Ghz6 234)) IsCentre (λ khz (band, n, is, below). (band, n, is)) xs are.only;
  ascending = are.ascending;
}
  where
    within : (band : Band) (n : ℕ) → n < 234 → place band n < place Ghz6 234
    within Ghz2 n small = omega arith
    within Ghz5 n small = omega arith
    within Ghz6 n small = omega arith
