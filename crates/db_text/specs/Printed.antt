-- The one text of a database: the WMM rules in use, in order of their first use, and then the countries, each with its
-- rules.
use Rattle.std.specs.Prelude.{◌≡◌, ℕ, ◌+◌, ◌-◌, ◌^◌, ◌<◌, Bool, not, nat_eq, List, [], ◌∷◌, ◌++◌, length, map, flat_map, filter, All, option_map, option_to_list, slice_index_or, codes, decimal}
use Rattle.std.specs.Cmp.Lexicographic.{pointwise}
use Rattle.std.specs.List.{position_or_len}
use Rattle.freq_range.specs.First.{IsFirst}
use Rattle.freq_range.specs.declared.rule.Rule.{Rule}
use Rattle.freq_range.specs.declared.wmm.Wmm.{Wmm}
use Rattle.freq_range.specs.declared.wmm.WmmEntry.{WmmEntry}
use Rattle.rule_tables.specs.declared.code.Alpha2.{Alpha2}
use Rattle.rule_tables.specs.declared.domain.Domain.{Domain}
use Rattle.text_lines.specs.declared.form.Item.{Item}
use Rattle.text_lines.specs.declared.form.Item.TheVariants.{VoC, ViC, BeC, BkC, VoAp, ViAp, BeAp, BkAp}
use Rattle.db_text.specs.declared.print_fault.PrintFault.{PrintFault}
use Rattle.db_text.specs.declared.print_fault.PrintFault.TheVariants.{CacTime, OutOfMemory}
use Rattle.db_text.specs.PrintedRules.{printed_rule}
use Rattle.text_lines.specs.Spelling.{item_name, region_name}

-- ---- which WMM rules are printed

-- the four numbers of each of the eight items of a WMM rule
abbrev pub entry_numbers : WmmEntry → List ℕ
entry_numbers e = e.min_exp ∷ e.max_exp ∷ e.aifsn ∷ e.cot_ms ∷ []

-- a WMM rule's eight entries, in the order in which they are printed
abbrev pub entries_of : Wmm → List WmmEntry
entries_of w = w.vo_c ∷ w.vi_c ∷ w.be_c ∷ w.bk_c ∷ w.vo_ap ∷ w.vi_ap ∷ w.be_ap ∷ w.bk_ap ∷ []

-- all numbers of a WMM rule
unfoldable pub wmm_numbers : Wmm → List ℕ
wmm_numbers w = flat_map entry_numbers (entries_of w)

-- two WMM rules are one where all their numbers are the same
abbrev pub same_wmm : Wmm → Wmm → Bool
same_wmm w other = pointwise nat_eq (wmm_numbers w) (wmm_numbers other)

-- the WMM rules that a rule, rules and domains use, one after another
abbrev pub wmm_in_rule : Rule → List Wmm
wmm_in_rule rule = option_to_list rule.wmm

-- the WMM rules that the rules name, in their order, with repeats
abbrev pub wmm_in_rules : List Rule → List Wmm
wmm_in_rules rules = flat_map wmm_in_rule rules

-- the WMM rules that the domains name, in their order, with repeats
abbrev pub wmm_in : List Domain → List Wmm
wmm_in ds = flat_map (λ d. wmm_in_rules d.rules) ds

-- each of them once, where it is used first
abbrev pub first_uses : List Wmm → List Wmm
first_uses [] = []
first_uses (w ∷ ws) = w ∷ filter (λ other. not (same_wmm w other)) (first_uses ws)

-- ---- names

-- `w0`, `w1` and so on
unfoldable pub wmm_name : ℕ → List ℕ
wmm_name k = codes "w" ++ decimal k

-- the name of a WMM rule: its place among those that are printed
abbrev pub name_among : List Wmm → Wmm → List ℕ
name_among ws w = wmm_name (position_or_len (same_wmm w) ws)

-- ---- lines

-- an item of a WMM rule; the windows are 2^e - 1
unfoldable pub item_line : Item → WmmEntry → List ℕ
item_line item e =
    codes "\t" ++ item_name item ++ codes ": cw_min=" ++ decimal (2 ^ e.min_exp - 1) ++ codes ", cw_max=" ++ decimal (2 ^ e.max_exp - 1)
    ++ codes ", aifsn=" ++ decimal e.aifsn ++ codes ", cot=" ++ decimal e.cot_ms

-- the header and the items of a WMM rule
unfoldable pub wmm_lines : ℕ → Wmm → List (List ℕ)
wmm_lines k w =
    (codes "wmmrule " ++ wmm_name k ++ codes ":")
    ∷ item_line VoC w.vo_c ∷ item_line ViC w.vi_c ∷ item_line BeC w.be_c ∷ item_line BkC w.bk_c
    ∷ item_line VoAp w.vo_ap ∷ item_line ViAp w.vi_ap ∷ item_line BeAp w.be_ap ∷ item_line BkAp w.bk_ap ∷ []

-- the lines of WMM rules, of which the first has this number
abbrev pub wmm_lines_from : ℕ → List Wmm → List (List ℕ)
wmm_lines_from k [] = []
wmm_lines_from k (w ∷ ws) = wmm_lines k w ++ wmm_lines_from (k + 1) ws

-- the region behind a blank, where there is one
abbrev pub region_part : List ℕ → List ℕ
region_part [] = []
region_part (b ∷ bs) = codes " " ++ b ∷ bs

-- the header of a country
unfoldable pub country_line : Domain → List ℕ
country_line d = codes "country " ++ (d.alpha2.a ∷ d.alpha2.b ∷ []) ++ codes ":" ++ region_part (region_name d.region)

-- a rule of a country, with the name of its WMM rule
unfoldable pub rule_line : List Wmm → Rule → List ℕ
rule_line ws rule = codes "\t" ++ printed_rule rule (option_map (name_among ws) rule.wmm)

-- the header of a country, and a line for each of its rules
abbrev pub country_lines : List Wmm → Domain → List (List ℕ)
country_lines ws d = country_line d ∷ map (rule_line ws) d.rules

-- ---- the text

-- each line ends with a newline
abbrev pub ended : List ℕ → List ℕ
ended line = line ++ codes "\n"

-- each line with its newline
abbrev pub text_of_lines : List (List ℕ) → List ℕ
text_of_lines lines = flat_map ended lines

-- the lines of a database that prints these WMM rules
abbrev pub printed_lines : List Wmm → List Domain → List (List ℕ)
printed_lines ws ds = wmm_lines_from 0 ws ++ flat_map (country_lines ws) ds

-- The text of the database.
unfoldable pub printed : List Domain → List ℕ
printed ds = text_of_lines (printed_lines (first_uses (wmm_in ds)) ds)

-- ---- what can't be printed

-- no rule has a check time, which a text can't write
abbrev pub LacksTimes : List Rule → Type 0
LacksTimes rules = All (λ (rule : Rule). rule.cac_s ≡ 0) rules

-- no rule of the domains has a check time
abbrev pub LackTimes : List Domain → Type 0
LackTimes ds = All (λ d. LacksTimes d.rules) ds

-- the rule at place k has a check time
abbrev pub HasTimeAt : List Rule → ℕ → Type 0
HasTimeAt rules k = (k < length rules) × ((r : Rule) → 0 < (slice_index_or rules k r).cac_s)

-- The first rule with a check time, countries and rules in order, is this one of this country.
pub record IsFirstTime (ds : List Domain) (country : Alpha2) (k : ℕ) : Type 0 where
  pub place : ℕ
  pub in_range : place < length ds
  pub none_before : (j : ℕ) (d : Domain) → j < place → LacksTimes (slice_index_or ds j d).rules
  pub code : (d : Domain) → (slice_index_or ds place d).alpha2 ≡ country
  pub rule : (d : Domain) → IsFirst (HasTimeAt (slice_index_or ds place d).rules) k

-- why a database has no text; memory is asked for only where each rule can be printed
abbrev pub IsPrintFault : List Domain → PrintFault → Type 0
IsPrintFault ds (CacTime country k) = IsFirstTime ds country k
IsPrintFault ds OutOfMemory = LackTimes ds
