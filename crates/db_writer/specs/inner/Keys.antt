-- To compare records is to compare their keys, and a key tells its record.
use Rattle.std.specs.Prelude.{◌≡◌, ℕ, List, [], ◌∷◌, get_or, drop, Option, Some, None, option_to_list}
use Rattle.std.proofs.Common.{Ordering, Less, Equal, Greater, refl, sym, ap, ◌∙◌}
use Rattle.std.specs.Ordering.{nat_cmp, ordering_then}
use Rattle.std.specs.Cmp.Lexicographic.{slice_cmp}
use Rattle.std.specs.Option.{option_cmp}
use Rattle.db_writer.specs.Records.{rule_key, collection_key}
use Rattle.db_writer.specs.declared.records.CollectionRecord.{CollectionRecord}
use Rattle.db_writer.specs.declared.records.RuleRecord.{RuleRecord}

then_equal : (o : Ordering) → o ≡ ordering_then o Equal
then_equal Less = refl
then_equal Equal = refl
then_equal Greater = refl

-- a place or none is compared as the list of it
options_by_list : (w v : Option ℕ) → option_cmp nat_cmp w v ≡ slice_cmp nat_cmp (option_to_list w) (option_to_list v)
options_by_list None None = refl
options_by_list None (Some b) = refl
options_by_list (Some a) None = refl
options_by_list (Some a) (Some b) = then_equal (nat_cmp a b)

pub rule_by_key : (x y : RuleRecord) →
    ordering_then (nat_cmp x.start_khz y.start_khz) (ordering_then (nat_cmp x.end_khz y.end_khz) (ordering_then (nat_cmp x.max_bw_khz y.max_bw_khz)
    (ordering_then (nat_cmp x.flags y.flags) (ordering_then (nat_cmp x.eirp_mbm y.eirp_mbm) (ordering_then (nat_cmp x.cac_s y.cac_s) (option_cmp nat_cmp x.wmm y.wmm))))))
    ≡ slice_cmp nat_cmp (rule_key x) (rule_key y)
unfolding rule_key
rule_by_key x y =
    ap (λ o. ordering_then (nat_cmp x.start_khz y.start_khz) (ordering_then (nat_cmp x.end_khz y.end_khz) (ordering_then (nat_cmp x.max_bw_khz y.max_bw_khz)
    (ordering_then (nat_cmp x.flags y.flags) (ordering_then (nat_cmp x.eirp_mbm y.eirp_mbm) (ordering_then (nat_cmp x.cac_s y.cac_s) o))))))
    (options_by_list x.wmm y.wmm)

abbrev first_of : List ℕ → Option ℕ
first_of [] = None
first_of (x ∷ xs) = Some x

first_back : (w : Option ℕ) → first_of (option_to_list w) ≡ w
first_back None = refl
first_back (Some x) = refl

pub rule_told_by_key : (x y : RuleRecord) → rule_key x ≡ rule_key y → x ≡ y
unfolding rule_key
rule_told_by_key x y e =
    let wmm : x.wmm ≡ y.wmm = sym (first_back x.wmm) ∙ ap (λ xs. first_of (drop 6 xs)) e ∙ first_back y.wmm in
    λ i. record {
      start_khz = ap (λ xs. get_or xs 0 0) e i;
      end_khz = ap (λ xs. get_or xs 1 0) e i;
      max_bw_khz = ap (λ xs. get_or xs 2 0) e i;
      flags = ap (λ xs. get_or xs 3 0) e i;
      eirp_mbm = ap (λ xs. get_or xs 4 0) e i;
      cac_s = ap (λ xs. get_or xs 5 0) e i;
      wmm = wmm i;
    }

pub collection_by_key : (x y : CollectionRecord) →
    ordering_then (nat_cmp x.region y.region) (slice_cmp nat_cmp x.rules y.rules) ≡ slice_cmp nat_cmp (collection_key x) (collection_key y)
unfolding collection_key
collection_by_key x y = refl

pub collection_told_by_key : (x y : CollectionRecord) → collection_key x ≡ collection_key y → x ≡ y
unfolding collection_key
collection_told_by_key x y e = λ i. record {
  region = ap (λ xs. get_or xs 0 0) e i;
  rules = ap (drop 1) e i;
}
