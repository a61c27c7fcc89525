-- What the parser holds behind the last line: all countries, all WMM rules, and the first header that is left short.
use Rattle.std.proofs.Common.{◌≡◌, ◌≢◌, ℕ, ◌<◌, Bool, List, [], ◌∷◌, length, map, get_or, Contains, Option, Some, None, IfSome, arith, refl, sym, subst, ◌∙◌, ap, inl, inr}
use Rattle.std.proofs.lemmas.Bool.{cases_Bool}
use Rattle.std.proofs.lemmas.Cmp.{nat_cmp_total}
use Rattle.std.proofs.lemmas.List.{length-map, get_or-map}
use Rattle.std.proofs.lemmas.List.Elements.{All-map}
use Rattle.std.proofs.lemmas.Option.{same_Some}
use Rattle.std.proofs.lemmas.Map.Keys.{below_from_sorted}
use Rattle.std.proofs.lemmas.Map.Lookups.{exact_unsigned}
use Rattle.std.proofs.lemmas.Map.Views.{All-found, btree_map_get_iff}
use Rattle.std.specs.BTreeMap.{IsOrdered, get, is_at, keys, values}
use Rattle.std.specs.Cmp.{IsTotalOrder}
use Rattle.std.specs.Cmp.Lexicographic.{on_texts, slice_cmp}
use Rattle.std.specs.Map.{lookup}
use Rattle.std.specs.declared.alloc.Global.{Global}
use Rattle.std.specs.declared.vec.Vec.{Vec}
use Rattle.std.specs.Ordering.{nat_cmp}
use Rattle.freq_range.proofs.Members.{Contains-head, Contains-later}
use Rattle.rule_tables.specs.Code.{IsCode, key}
use Rattle.rule_text.specs.declared.countries.Country.{Country as Kept}
use Rattle.rule_text.specs.Forms.{Form, wmm_of_name}
use Rattle.rule_text.specs.declared.wmm_rules.WmmBlock.{WmmBlock}
use Rattle.rule_text.specs.inner.State.{AreAllBlocks, AreAllCountries, AreBlocks, AreCountries, Blocks, Countries, IsBlockOf, IsCountryOf, IsKeptCountry, block_named, country_of}
use Rattle.rule_text.proofs.CountryLaws.{named_country}

-- ---- the countries of a map

-- an entry is kept at its key
entry_kept : (forms : List Form) (m : Countries) (q : ℕ) (kept : Kept) → AreCountries forms m → get nat_cmp m q ≡ Some kept → IsCode kept.alpha2 × IsKeptCountry forms kept.alpha2 kept
entry_kept forms m q kept are is =
    let at = subst (λ o. IfSome o (λ k. IsCode k.alpha2 × (q ≡ key k.alpha2))) is (are.keys q) in
    (at.0, subst (IsCountryOf forms kept.alpha2) (ap (get nat_cmp m) (sym at.1) ∙ is) (are.each kept.alpha2 at.0))

contains_value : (es : List (ℕ × Kept)) (q : ℕ) (kept : Kept) → Contains es (q, kept) → Contains (map (λ e. e.1) es) kept
contains_value es q kept (k, in_range, is) =
    (k, rw length-map in_range, get_or-map (λ (e : ℕ × Kept). e.1) es k (q, kept) kept in_range ∙ ap (λ (e : ℕ × Kept). e.1) is)

entry_key : (forms : List Form) (m : Countries) (q : ℕ) (kept : Kept) → AreCountries forms m → get nat_cmp m q ≡ Some kept → q ≡ key kept.alpha2
entry_key forms m q kept are is = (subst (λ o. IfSome o (λ k. IsCode k.alpha2 × (q ≡ key k.alpha2))) is (are.keys q)).1

rising : (forms : List Form) (m : Countries) → IsOrdered nat_cmp m → AreCountries forms m → (i j : ℕ) (d : Kept) → i < j → j < length (values m)
    → key (get_or (values m) i d).alpha2 < key (get_or (values m) j d).alpha2
rising forms m ordered are i j d less in_range =
    let es = m.entries in
    let len_v : length (values m) ≡ length es = length-map es (λ (e : ℕ × Kept). e.1) in
    let len_k : length (keys m) ≡ length es = length-map es (λ (e : ℕ × Kept). e.0) in
    let at_i : i < length es = omega (arith, less, in_range, len_v) in
    let at_j : j < length es = omega (arith, in_range, len_v) in
    let first = get_or es i (0, d) in
    let second = get_or es j (0, d) in
    let key_i = get_or-map (λ (e : ℕ × Kept). e.0) es i (0, d) 0 at_i ∙ entry_key forms m first.0 first.1 are (All-found nat_cmp_total m ordered i (0, d) at_i) in
    let key_j = get_or-map (λ (e : ℕ × Kept). e.0) es j (0, d) 0 at_j ∙ entry_key forms m second.0 second.1 are (All-found nat_cmp_total m ordered j (0, d) at_j) in
    let value_i = ap (λ (k : Kept). key k.alpha2) (get_or-map (λ (e : ℕ × Kept). e.1) es i (0, d) d at_i) in
    let value_j = ap (λ (k : Kept). key k.alpha2) (get_or-map (λ (e : ℕ × Kept). e.1) es j (0, d) d at_j) in
    let below = below_from_sorted (keys m) i j 0 ordered less (omega (arith, at_j, len_k)) in
    omega (arith, key_i, key_j, value_i, value_j, below)

pub all_countries : (forms : List Form) (m : Countries) (cs : List Kept) → cs ≡ values m → IsOrdered nat_cmp m → AreCountries forms m → AreAllCountries forms cs
all_countries forms m cs is ordered are = subst (AreAllCountries forms) (sym is) (record {
  each = All-map (λ kept. IsCode kept.alpha2 × IsKeptCountry forms kept.alpha2 kept) (λ (e : ℕ × Kept). e.1) m.entries
      (λ k d in_range. let e = get_or m.entries k d in entry_kept forms m e.0 e.1 are (All-found nat_cmp_total m ordered k d in_range));
  all = λ code region is_code named.
      let kept = named_country forms code (country_of m code) region (are.each code is_code) named in
      (kept.0, contains_value m.entries (key code) kept.0 ((btree_map_get_iff nat_cmp_total exact_unsigned m ordered (key code) kept.0).0 kept.1), kept.2.code_is);
  ascending = rising forms m ordered are;
})

-- ---- the WMM rules of a map

-- a name's WMM rule is among the values
found_value : (es : List (Vec ℕ Global × WmmBlock)) (test : Vec ℕ Global → Bool) (block : WmmBlock) → lookup test es ≡ Some block → Contains (map (λ e. e.1) es) block
found_value [] test block is = absurd cc
found_value (e ∷ es) test block is = elim (cases_Bool (test e.0)) [
  | inl here ↦ let same : e.1 ≡ block = same_Some _ _ (rw here at is) in subst (Contains (e.1 ∷ map (λ x. x.1) es)) same (Contains-head e.1 (map (λ x. x.1) es))
  | inr other ↦ Contains-later e.1 (map (λ x. x.1) es) block (found_value es test block (rw other at is))
]

pub all_blocks : (forms : List Form) (m : Blocks) (bs : List WmmBlock) → bs ≡ values m → IsOrdered (λ (x y : Vec ℕ Global). slice_cmp nat_cmp x.items y.items) m → AreBlocks forms m
    → AreAllBlocks forms bs
all_blocks forms m bs is ordered are = subst (AreAllBlocks forms) (sym is) (record {
  each = All-map (λ block. (name : List ℕ) × IsBlockOf forms name (Some block)) (λ (e : Vec ℕ Global × WmmBlock). e.1) m.entries
      (λ k d in_range. let e = get_or m.entries k d in
      (e.0.items, subst (IsBlockOf forms e.0.items) (All-found vec_total m ordered k d in_range) (are e.0.items)));
  all = λ name some. by_option name (block_named m name) refl some (are name);
})
  where
    vec_total : IsTotalOrder (λ (x y : Vec ℕ Global). slice_cmp nat_cmp x.items y.items)
    vec_total = on_texts (λ (x : Vec ℕ Global). x.items)

    by_option : (name : List ℕ) (o : Option WmmBlock) → block_named m name ≡ o → wmm_of_name name forms ≢ None → IsBlockOf forms name o
        → (block : WmmBlock) × Contains (values m) block × IsBlockOf forms name (Some block)
    by_option name None e some none = absurd (some none)
    by_option name (Some block) e some here = (block, found_value m.entries (is_at (λ (k : Vec ℕ Global). slice_cmp nat_cmp name k.items)) block e, here)
