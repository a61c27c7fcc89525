-- Bytes say at most one database.
use Rattle.std.proofs.Common.{◌≡◌, ℕ, ◌+◌, ◌*◌, ◌<◌, List, [], ◌∷◌, length, get_or, reverse, Contains, Option, Some, None, arith, refl, sym, ◌∙◌, ap, subst}
use Rattle.std.proofs.lemmas.List.{ext_get_or}
use Rattle.std.proofs.lemmas.List.Elements.{All-contains}
use Rattle.freq_range.specs.declared.rule.Rule.{Rule}
use Rattle.freq_range.specs.declared.wmm.Wmm.{Wmm}
use Rattle.freq_range.specs.declared.wmm.WmmEntry.{WmmEntry}
use Rattle.rule_tables.proofs.Ascending.{same_from_elements}
use Rattle.rule_tables.proofs.Dropped.{DropsRepeats-unique}
use Rattle.rule_tables.specs.Code.{key}
use Rattle.rule_tables.specs.Regions.{region_number}
use Rattle.rule_tables.specs.FileFormat.{AreEntries, CollectionAt, DropsRepeats, EndsAt, EntryAt, NamesWmm, ReadsAs, RuleAt, RulesAt, WmmAt, WmmEntryAt, entry_place, pointers_of, target_at}
use Rattle.rule_tables.specs.declared.code.Region.{Region}
use Rattle.rule_tables.specs.declared.code.Region.TheVariants.{Unset, Fcc, Etsi, Jp}
use Rattle.rule_tables.specs.declared.domain.Domain.{Domain}
use Rattle.freq_range.proofs.Firsts.{IsFirst-unique}
use Rattle.db_reader.proofs.Records.{code_is}

-- ---- rules

WmmEntryAt-unique : (b : List ℕ) (i : ℕ) (d e : WmmEntry) → WmmEntryAt b i d → WmmEntryAt b i e → d ≡ e
WmmEntryAt-unique b i d e p q = λ n. record {
  min_exp = (p.least_window ∙ sym q.least_window) n;
  max_exp = (p.greatest_window ∙ sym q.greatest_window) n;
  aifsn = (p.aifsn ∙ sym q.aifsn) n;
  cot_ms = (p.cot ∙ sym q.cot) n;
}

pub WmmAt-unique : (b : List ℕ) (i : ℕ) (v w : Wmm) → WmmAt b i v → WmmAt b i w → v ≡ w
WmmAt-unique b i v w p q = λ n. record {
  vo_c = WmmEntryAt-unique b i v.vo_c w.vo_c p.vo_c q.vo_c n;
  vi_c = WmmEntryAt-unique b (i + 4) v.vi_c w.vi_c p.vi_c q.vi_c n;
  be_c = WmmEntryAt-unique b (i + 8) v.be_c w.be_c p.be_c q.be_c n;
  bk_c = WmmEntryAt-unique b (i + 12) v.bk_c w.bk_c p.bk_c q.bk_c n;
  vo_ap = WmmEntryAt-unique b (i + 16) v.vo_ap w.vo_ap p.vo_ap q.vo_ap n;
  vi_ap = WmmEntryAt-unique b (i + 20) v.vi_ap w.vi_ap p.vi_ap q.vi_ap n;
  be_ap = WmmEntryAt-unique b (i + 24) v.be_ap w.be_ap p.be_ap q.be_ap n;
  bk_ap = WmmEntryAt-unique b (i + 28) v.bk_ap w.bk_ap p.bk_ap q.bk_ap n;
}

NamesWmm-unique : (b : List ℕ) (i : ℕ) (o p : Option Wmm) → NamesWmm b i o → NamesWmm b i p → o ≡ p
NamesWmm-unique b i None None short short' = refl
NamesWmm-unique b i None (Some w) short long = let is = long.0 in absurd (omega (arith, short, is))
NamesWmm-unique b i (Some v) None long short = let is = long.0 in absurd (omega (arith, short, is))
NamesWmm-unique b i (Some v) (Some w) one other = ap Some (WmmAt-unique b (target_at b (i + 18)) v w one.1 other.1)

RuleAt-unique : (b : List ℕ) (i : ℕ) (r s : Rule) → RuleAt b i r → RuleAt b i s → r ≡ s
RuleAt-unique b i r s p q = λ n. record {
  start_khz = (p.start ∙ sym q.start) n;
  end_khz = (p.end ∙ sym q.end) n;
  max_bw_khz = (p.width ∙ sym q.width) n;
  flags = (p.flags ∙ sym q.flags) n;
  eirp_mbm = (p.eirp ∙ sym q.eirp) n;
  cac_s = (p.check_time ∙ sym q.check_time) n;
  wmm = NamesWmm-unique b i r.wmm s.wmm p.wmm q.wmm n;
}

RulesAt-unique : (b : List ℕ) (i : ℕ) (rs ss : List Rule) → length rs ≡ length ss → RulesAt b i rs → RulesAt b i ss → (d : Rule) → rs ≡ ss
RulesAt-unique b i rs ss same p q d =
    ext_get_or d rs ss same (λ k within. RuleAt-unique b (target_at b (i + 2 * k)) (get_or rs k d) (get_or ss k d) (p k d within) (q k d (omega (arith, within, same))))

-- ---- collections

same_region : (r s : Region) → region_number r ≡ region_number s → r ≡ s
same_region Unset Unset e = refl
same_region Fcc Fcc e = refl
same_region Etsi Etsi e = refl
same_region Jp Jp e = refl
same_region Unset Fcc e = absurd (omega (arith, e))
same_region Unset Etsi e = absurd (omega (arith, e))
same_region Unset Jp e = absurd (omega (arith, e))
same_region Fcc Unset e = absurd (omega (arith, e))
same_region Fcc Etsi e = absurd (omega (arith, e))
same_region Fcc Jp e = absurd (omega (arith, e))
same_region Etsi Unset e = absurd (omega (arith, e))
same_region Etsi Fcc e = absurd (omega (arith, e))
same_region Etsi Jp e = absurd (omega (arith, e))
same_region Jp Unset e = absurd (omega (arith, e))
same_region Jp Fcc e = absurd (omega (arith, e))
same_region Jp Etsi e = absurd (omega (arith, e))

-- a list as long as one that isn't empty has an element to name
read_rules-unique : (b : List ℕ) (i n : ℕ) (rs ss : List Rule) → 0 < n → length rs ≡ n → length ss ≡ n → RulesAt b i rs → RulesAt b i ss → rs ≡ ss
read_rules-unique b i n [] ss some many many' p q = absurd (omega (arith, some, many))
read_rules-unique b i n (r ∷ rs) ss some many many' p q = RulesAt-unique b i (r ∷ rs) ss (many ∙ sym many') p q r

kept_rules-unique : (b : List ℕ) (i : ℕ) (r s : Region) (rules others : List Rule) → CollectionAt b i r rules → CollectionAt b i s others → rules ≡ others
kept_rules-unique b i r s rules others p q =
    let (read, many, are, drops) = p.rules_read in
    let (read', many', are', drops') = q.rules_read in
    let same = read_rules-unique b (pointers_of b i) _ read read' p.some many many' are are' in
    DropsRepeats-unique (reverse read') rules others (subst (λ rs. DropsRepeats (reverse rs) rules) same drops) drops'

-- ---- entries

EntryAt-unique : (b : List ℕ) (i : ℕ) (d e : Domain) → EntryAt b i d → EntryAt b i e → d ≡ e
EntryAt-unique b i d e p q = λ n. record {
  alpha2 = (code_is b i d p ∙ sym (code_is b i e q)) n;
  region = same_region d.region e.region (sym p.collection.region_byte ∙ q.collection.region_byte) n;
  rules = kept_rules-unique b (target_at b (i + 2)) d.region e.region d.rules e.rules p.collection q.collection n;
}

in_other : (b : List ℕ) (n : ℕ) (ds es : List Domain) → AreEntries b n ds → AreEntries b n es → (d : Domain) → Contains ds d → Contains es d
in_other b n ds es p q d has =
    let (k, below, entry) = All-contains (λ x. (j : ℕ) × (j < n) × EntryAt b (entry_place j) x) ds d p.all has in
    let (e, among, entry') = q.each k below in
    subst (Contains es) (EntryAt-unique b (entry_place k) e d entry' entry) among

pub ReadsAs-unique : (b : List ℕ) (ds es : List Domain) → ReadsAs b ds → ReadsAs b es → ds ≡ es
ReadsAs-unique b ds es p q =
    let (m, ends, are) = p.entries in
    let (n, ends', are') = q.entries in
    let there = subst (λ k. AreEntries b k es) (sym (IsFirst-unique (EndsAt b) m n ends ends')) are' in
    let up_d = p.db in
    let up_e = q.db in
    same_from_elements (λ (d : Domain). key d.alpha2) ds es up_d.ascending up_e.ascending (in_other b m ds es are there) (in_other b m es ds there are)
