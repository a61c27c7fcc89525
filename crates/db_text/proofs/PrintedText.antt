-- A printed text stands for its database.
use Rattle.std.proofs.Common.{◌≡◌, ℕ, ◌^◌, ◌<◌, List, [], ◌∷◌, ◌++◌, length, get_or, flat_map, reverse, All, Contains, Option, Some, None, option_map, arith, refl, sym, subst, ap, ◌∙◌, inl, inr, append-nil}
use Rattle.std.proofs.lemmas.List.{get_or_append_left, get_or_push, length-append, reverse-append, reverse-reverse}
use Rattle.std.proofs.lemmas.List.Elements.{All-contains, All-nil, Contains-get_or}
use Rattle.std.proofs.lemmas.Option.{none-some, same_Some}
use Rattle.std.specs.List.{position_or_len}
use Rattle.freq_range.proofs.Members.{Contains-reverse}
use Rattle.freq_range.specs.Valid.{IsValidRule}
use Rattle.freq_range.specs.declared.rule.Rule.{Rule}
use Rattle.freq_range.specs.declared.wmm.Wmm.{Wmm}
use Rattle.rule_tables.specs.Databases.{IsDb, IsDomain}
use Rattle.rule_tables.specs.Domains.{AreDistinct}
use Rattle.rule_tables.specs.FileFormat.{DropsRepeats}
use Rattle.rule_tables.specs.declared.code.Alpha2.{Alpha2}
use Rattle.rule_tables.specs.declared.code.Region.{Region}
use Rattle.rule_tables.specs.declared.domain.Domain.{Domain}
use Rattle.text_lines.specs.declared.fault.TextKind.{TextKind}
use Rattle.text_lines.specs.declared.fault.TextKind.TheVariants.{WmmShort, NoRules}
use Rattle.text_lines.specs.LineFaults.{IsTextOfRule}
use Rattle.rule_text.specs.Faults.{AreAccepted}
use Rattle.rule_text.specs.Forms.{Form, NamesCode, rules_of, wmm_of_name}
use Rattle.rule_text.specs.Forms.Form.{Country, Empty}
use Rattle.db_text.specs.Printed.{LackTimes, country_lines, first_uses, name_among, printed, printed_lines, same_wmm, wmm_in, wmm_lines_from}
use Rattle.db_text.specs.PrintedRules.{printed_rule}
use Rattle.text_lines.specs.Spelling.{IsRuleLine}
use Rattle.rule_text.specs.TextOf.{IsShortAt, FormsStandFor, TextOf}
use Rattle.text_lines.proofs.BareRules.{bare-rule}
use Rattle.rule_text.proofs.EmptyLines.{empty_good}
use Rattle.db_text.proofs.FewDomains.{few_uses}
use Rattle.rule_text.proofs.FormLaws.{Names-cases, Names-later, form_at_contains}
use Rattle.db_text.proofs.PlainLines.{bare_plain, utf8_plain}
use Rattle.db_text.proofs.PrintedCountries.{ArePrinted, HasRules, IsReady, IsResolved, country_all}
use Rattle.db_text.proofs.PrintedLines.{AreFine, IsOneLine, all_behind, behind, behind-append, behind-is, fine_line, lines_back}
use Rattle.db_text.proofs.PrintedRuleLines.{bare_rule, printed_rule_line, prints_rule, squeezed_rule, wmm_name-is, wmm_name-prints}
use Rattle.db_text.proofs.PrintedWmm.{AreNamed, named_all, named_none}
use Rattle.db_text.proofs.Uses.{placed, used_here, valid_uses}

-- ---- rules without repeats

-- what stands in front of a list without repeats has none
front_distinct : (rs ss : List Rule) → AreDistinct (rs ++ ss) → AreDistinct rs
front_distinct rs ss distinct i j d lt within =
    let len = length-append rs ss in
    rw (get_or_append_left rs ss d i (omega arith), get_or_append_left rs ss d j within) at (distinct i j d lt (omega (arith, len)))

-- the last rule of a list without repeats isn't among those before it
last_fresh : (rs : List Rule) (r : Rule) → AreDistinct (rs ++ r ∷ []) → Contains rs r → ⊥
last_fresh rs r distinct (k, within, is) =
    let len = length-append rs (r ∷ []) in
    distinct k (length rs) r within (omega (arith, len)) (get_or_append_left rs (r ∷ []) r k within ∙ is ∙ sym (get_or_push rs r r (length rs) refl))

keeps_back : (earlier : List Rule) → AreDistinct (reverse earlier) → DropsRepeats earlier (reverse earlier)
keeps_back [] distinct = refl
keeps_back (r ∷ earlier) distinct =
    let turned = reverse-append (r ∷ []) earlier in
    let apart : AreDistinct (reverse earlier ++ r ∷ []) = rw turned at distinct in (
      reverse earlier,
      keeps_back earlier (front_distinct (reverse earlier) (r ∷ []) apart),
      inr (λ h. last_fresh (reverse earlier) r apart (Contains-reverse earlier r h), turned),
    )

-- nothing is dropped of rules without repeats
keeps_all : (rs : List Rule) → AreDistinct rs → DropsRepeats (behind rs []) rs
keeps_all rs distinct =
    let turned = reverse-reverse rs in
    let back : behind rs [] ≡ reverse rs = behind-is rs [] ∙ append-nil (reverse rs) in
    subst (λ xs. DropsRepeats xs rs) (sym back)
    (subst (λ kept. DropsRepeats (reverse rs) kept) turned (keeps_back (reverse rs) (subst AreDistinct (sym turned) distinct)))

-- ---- the names of the WMM rules in use

name_placed : (ws : List Wmm) (forms : List Form) (lines : List (List ℕ)) (w : Wmm) → AreNamed lines forms ws → Contains ws w → wmm_of_name (name_among ws w) forms ≡ Some w
name_placed ws forms lines w are has =
    let at = placed ws w has in
    are.here (position_or_len (same_wmm w) ws) w at.below ∙ ap Some at.is

resolved : (ws : List Wmm) (forms : List Form) (lines : List (List ℕ)) (r : Rule) (o : Option Wmm) → AreNamed lines forms ws → length ws < 2 ^ 64 → r.wmm ≡ o
    → ((w : Wmm) → r.wmm ≡ Some w → Contains ws w) → IsResolved forms r (option_map (name_among ws) o)
resolved ws forms lines r None are small is has = record { named = tt; there = λ n e. absurd (none-some n e); is = sym is }
resolved ws forms lines r (Some w) are small is has =
    let at = placed ws w (has w is) in
    let here = name_placed ws forms lines w are (has w is) in
    let below = at.below in
    record {
      named = (wmm_name-is (position_or_len (same_wmm w) ws) (omega (arith, below, small)), wmm_name-prints (position_or_len (same_wmm w) ws) (omega (arith, below, small)));
      there = λ n e none. none-some w (sym none ∙ subst (λ x. wmm_of_name x forms ≡ Some w) (same_Some (name_among ws w) n e) here);
      is = here ∙ sym is;
    }

ready_domains : (ds : List Domain) (forms : List Form) (lines : List (List ℕ)) → IsDb ds → LackTimes ds → AreNamed lines forms (first_uses (wmm_in ds)) → All (IsReady forms (first_uses (wmm_in ds))) ds
ready_domains ds forms lines db no_times are k d less =
    let ws = first_uses (wmm_in ds) in
    let one = get_or ds k d in
    let few = few_uses ds db in
    let is = db.each k d less in
    record {
      is = is;
      rules = λ j r below.
          let rule = get_or one.rules j r in
          record {
            valid = is.rules.each j r below;
            no_time = no_times k d less j r below;
            resolved = resolved ws forms lines rule rule.wmm are (omega (arith, few)) refl
                (λ w e. used_here ds one rule w (Contains-get_or ds k d less) (Contains-get_or one.rules j r below) e);
          };
    }

-- ---- the whole text

-- the lines of the text
read_back : (ws : List Wmm) (ds : List Domain) (forms : List Form) → AreFine (behind (flat_map (country_lines ws) ds) (behind (wmm_lines_from 0 ws) [])) forms
    → AreAccepted (reverse (printed_lines ws ds ++ [] ∷ [])) (Empty ∷ forms) × All IsOneLine (printed_lines ws ds)
read_back ws ds forms fine =
    let lines = printed_lines ws ds in
    let turned : behind (flat_map (country_lines ws) ds) (behind (wmm_lines_from 0 ws) []) ≡ behind lines [] = sym (behind-append (wmm_lines_from 0 ws) (flat_map (country_lines ws) ds) []) in
    let all : AreFine (behind lines []) forms = subst (λ ls. AreFine ls forms) turned fine in
    let last : AreFine ([] ∷ behind lines []) (Empty ∷ forms) =
    fine_line (behind lines []) forms [] [] Empty 0 all (record { plain = refl; solid = refl; short = omega arith }) (omega arith) refl (empty_good forms) in
    let back : [] ∷ behind lines [] ≡ reverse (lines ++ [] ∷ []) = ap (λ ls. [] ∷ ls) (behind-is lines [] ∙ append-nil (reverse lines)) ∙ sym (reverse-append lines ([] ∷ [])) in
    (subst (λ ls. AreAccepted ls (Empty ∷ forms)) back last.accepted, (all_behind IsOneLine lines [] all.each).0)

later_names : (forms : List Form) (code : Alpha2) (region : Region) → NamesCode (Empty ∷ forms) code region → NamesCode forms code region
later_names forms code region named = elim (Names-cases Empty forms code region named) [
  | inl top ↦ absurd (let e = top.1 in cc)
  | inr later ↦ later
]

some_rules : (forms : List Form) (ds : List Domain) (d : Domain) → IsDb ds → All (HasRules forms) ds → Contains ds d → rules_of d.alpha2 forms ≡ [] → ⊥
some_rules forms ds d db each has none =
    let is = All-contains (HasRules forms) ds d each has in
    let rules = All-contains IsDomain ds d db.each has in
    let some = rules.rules.some in
    by_rules d.rules some (sym is.rules ∙ none)
  where
    last_some : (rs : List Rule) (r : Rule) (acc : List Rule) → behind rs (r ∷ acc) ≡ [] → ⊥
    last_some [] r acc e = cc
    last_some (s ∷ rs) r acc e = last_some rs s (r ∷ acc) e

    by_rules : (rs : List Rule) → 0 < length rs → behind rs [] ≡ [] → ⊥
    by_rules [] some e = omega (arith, some)
    by_rules (r ∷ rs) some e = last_some rs r [] e

none_short : (base forms : List Form) (ds : List Domain) (lines below : List (List ℕ)) (ws : List Wmm) → IsDb ds → AreNamed below base ws → ArePrinted base ds lines forms
    → (k : ℕ) (kind : TextKind) → IsShortAt (Empty ∷ forms) k kind → ⊥
none_short base forms ds lines below ws db named are k WmmShort (name, at, w, is, short) = short (named.valid name w (sym (are.wmms name) ∙ is))
none_short base forms ds lines below ws db named are k NoRules (cs, region, at, code, has, none) =
    let names = later_names forms code region (cs, form_at_contains (Empty ∷ forms) k (Country cs region) at, has) in
    let d = are.named code region names in
    some_rules forms ds d.0 db are.each d.1 (subst (λ c. rules_of c forms ≡ []) (sym d.2) none)
none_short base forms ds lines below ws db named are k kind short = short

stands : (base forms : List Form) (ds : List Domain) (lines below : List (List ℕ)) (ws : List Wmm) → IsDb ds → AreNamed below base ws → ArePrinted base ds lines forms → FormsStandFor (Empty ∷ forms) ds
stands base forms ds lines below ws db named are = record {
  db = db;
  each = λ k d less.
      let has = are.each k d less in
      let is = db.each k d less in
      record {
        named = Names-later Empty forms _ _ has.named;
        rules = subst (λ rs. DropsRepeats rs (get_or ds k d).rules) (sym has.rules) (keeps_all (get_or ds k d).rules is.distinct);
      };
  all = λ code region names. let d = are.named code region (later_names forms code region names) in (d.0, d.1, d.2);
  none_short = none_short base forms ds lines below ws db named are;
}

pub printed_reads : (ds : List Domain) → IsDb ds → LackTimes ds → TextOf (printed ds) ds
unfolding printed
printed_reads ds db no_times =
    let ws = first_uses (wmm_in ds) in
    let few = few_uses ds db in
    let named = named_all ws [] [] [] named_none (valid_uses ds db) (omega (arith, few)) in
    let below = behind (wmm_lines_from 0 ws) [] in
    let start : ArePrinted named.0 [] below named.0 = record {
      fine = named.1.fine;
      wmms = λ n. refl;
      named = λ code region names. absurd (named.1.no_country code region names);
      each = All-nil (HasRules named.0);
    } in
    let all = country_all ds [] named.0 ws below named.0 start (ready_domains ds named.0 below db no_times named.1) db.ascending in
    let read = read_back ws ds all.0 all.1.fine in (
      Empty ∷ all.0,
      subst (λ ls. AreAccepted (reverse ls) (Empty ∷ all.0)) (sym (lines_back (printed_lines ws ds) read.1)) read.0,
      stands named.0 all.0 ds (behind (flat_map (country_lines ws) ds) below) below ws db named.1 all.1,
    )

-- ---- one rule

same_rule : (r : Rule) → r.wmm ≡ None → bare_rule r ≡ r
same_rule r none = λ i. record r { wmm = sym none i }

pub printed_rule_reads : (rule : Rule) → IsValidRule rule → rule.cac_s ≡ 0 → rule.wmm ≡ None → IsTextOfRule (printed_rule rule None) rule
printed_rule_reads rule valid no_time no_wmm =
    let prints = prints_rule rule None valid tt in
    let is = printed_rule_line rule None valid no_time tt in
    let squeezed = bare_plain (printed_rule rule None) (squeezed_rule rule None) 200 prints in
    let short = prints.short in
    subst (IsTextOfRule (printed_rule rule None)) (same_rule rule no_wmm)
    (bare-rule (printed_rule rule None) (bare_rule rule) (record { short = omega (arith, short); utf8 = utf8_plain (printed_rule rule None) (squeezed_rule rule None) 200 prints })
    (record { is = subst (λ line. IsRuleLine line (bare_rule rule) None) (sym squeezed) is }))
