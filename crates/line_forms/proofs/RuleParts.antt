-- The rules that a text between `;` says.
use Rattle.std.proofs.Common.{◌≡◌, ℕ, ◌+◌, ◌-◌, ◌<◌, ◌≤◌, zero, suc, List, [], ◌∷◌, ◌++◌, Bool, true, false, eqb, length, get_or, take, drop, Option, Some, None, MatchOption, refl, ap, ◌∙◌, sym, subst, arith, append_assoc}
use Rattle.std.specs.List.{AllZip, position_or_len}
use Rattle.std.proofs.lemmas.List.{take_rest}
use Rattle.std.proofs.lemmas.List.Elements.{All-from_get_or}
use Rattle.std.proofs.lemmas.List.Splits.{slice_split_first, slice_split_none}
use Rattle.std.proofs.lemmas.List.Sums.{position_or_len_is}
use Rattle.memchr.specs.Find.{IsFirstByte, is_byte}
use Rattle.freq_range.specs.declared.rule.Rule.{Rule}
use Rattle.text_lines.specs.LineFaults.{IsRuleTextFault, IsTextOfRule}
use Rattle.text_lines.specs.declared.fault.TextKind.{TextKind}
use Rattle.text_lines.proofs.OneRule.{one_rule_only, rule_and_kind}
use Rattle.reg_base.specs.Texts.{same_bytes}
use Rattle.std.specs.Prelude.{codes}
use Rattle.std.proofs.lemmas.Option.{some_pair_parts}
use Rattle.std.proofs.lemmas.Slice.Eq.{bytes_eq-Decides}
use Rattle.line_forms.specs.Forms.{AreRulesOfText, BeginsRules, rule_parts}
use Rattle.line_forms.specs.Spelling.{radio_of_word}
use Rattle.line_forms.specs.inner.Cursor.{next_word}
use Rattle.line_forms.specs.declared.rules.TheConstants.{MOST_RULES}

-- ---- parts

is_false : (b : Bool) → (b ≡ true → ⊥) → b ≡ false
is_false true h = absurd (h refl)
is_false false h = refl

-- the first `;` ends the first part
pub parts-cut : (text : List ℕ) (r : Option ℕ) → IsFirstByte (is_byte 59) text r
    → MatchOption r (rule_parts text ≡ text ∷ []) (λ k. rule_parts text ≡ take k text ∷ rule_parts (take (length text - (k + 1)) (drop (k + 1) text)))
parts-cut text None none = slice_split_none (λ b. eqb b 59) text (All-from_get_or (λ b. eqb b 59 ≡ false) text 0 (λ k lt. is_false _ (none k (omega arith) lt)))
parts-cut text (Some k) h =
    let lt : k < length text = h.0.high in
    let place : position_or_len (λ b. eqb b 59) text ≡ k =
    position_or_len_is (λ b. eqb b 59) text k 0 (omega arith) (λ j below. is_false _ (h.0.before j (omega arith) below)) (λ _. h.1) in
    let within : position_or_len (λ b. eqb b 59) text < length text = omega (arith, place) in
    let parts : rule_parts text ≡ take k text ∷ rule_parts (drop (k + 1) text) = rw place at (slice_split_first (λ b. eqb b 59) text 0 within) in
    rw take_rest parts

pub ruleset part_steps = (parts-cut)

-- ---- what was read, and what is left

pub record RulesSoFar (text left : List ℕ) (rules : List Rule) : Type 0 where
  pub to : (more : List Rule) → AllZip IsTextOfRule (rule_parts left) more → AllZip IsTextOfRule (rule_parts text) (rules ++ more)
  pub from : (all : List Rule) → AllZip IsTextOfRule (rule_parts text) all → (more : List Rule) × (all ≡ rules ++ more) × AllZip IsTextOfRule (rule_parts left) more

pub so_far-none : (text : List ℕ) → RulesSoFar text text []
so_far-none text = record { to = λ more h. h; from = λ all h. (all, refl, h) }

head-rule : (part : List ℕ) (parts : List (List ℕ)) (rule : Rule) (more : List Rule) → IsTextOfRule part rule → AllZip IsTextOfRule (part ∷ parts) more
    → (rest : List Rule) × (more ≡ rule ∷ rest) × AllZip IsTextOfRule parts rest
head-rule part parts rule [] is h = absurd h
head-rule part parts rule (r ∷ rest) is h = (rest, ap (λ x. x ∷ rest) (one_rule_only part r rule h.0 is), h.1)

pub so_far-more : (text left rest part : List ℕ) (rules : List Rule) (rule : Rule) → RulesSoFar text left rules → rule_parts left ≡ part ∷ rule_parts rest → IsTextOfRule part rule
    → RulesSoFar text rest (rules ++ rule ∷ [])
so_far-more text left rest part rules rule so parts is = record {
  to = λ more h. subst (λ l. AllZip IsTextOfRule (rule_parts text) l) (sym (append_assoc rules (rule ∷ []) more))
      (so.to (rule ∷ more) (subst (λ l. AllZip IsTextOfRule l (rule ∷ more)) (sym parts) (is, h)));
  from = λ all h.
      let f = so.from all h in
      let g = head-rule part (rule_parts rest) rule f.0 is (subst (λ l. AllZip IsTextOfRule l f.0) parts f.2) in
      (g.0, f.1 ∙ ap (λ l. rules ++ l) g.1 ∙ sym (append_assoc rules (rule ∷ []) g.0), g.2);
}

-- ---- the end

nothing-else : (rest : List Rule) → AllZip IsTextOfRule [] rest → rest ≡ []
nothing-else [] h = refl
nothing-else (r ∷ rs) h = absurd h

whole : (text left part : List ℕ) (rules : List Rule) (rule : Rule) → RulesSoFar text left rules → rule_parts left ≡ part ∷ [] → IsTextOfRule part rule → AllZip IsTextOfRule (rule_parts text) (rules ++ rule ∷ [])
whole text left part rules rule so parts is = so.to (rule ∷ []) (subst (λ l. AllZip IsTextOfRule l (rule ∷ [])) (sym parts) (is, tt))

all-read : (text left part : List ℕ) (rules : List Rule) (rule : Rule) (all : List Rule) → RulesSoFar text left rules → rule_parts left ≡ part ∷ [] → IsTextOfRule part rule
    → AllZip IsTextOfRule (rule_parts text) all → all ≡ rules ++ rule ∷ []
all-read text left part rules rule all so parts is h =
    let f = so.from all h in
    let g = head-rule part [] rule f.0 is (subst (λ l. AllZip IsTextOfRule l f.0) parts f.2) in
    f.1 ∙ ap (λ l. rules ++ l) (g.1 ∙ ap (λ l. rule ∷ l) (nothing-else g.0 g.2))

pub read-last : (text left part : List ℕ) (rules new : List Rule) (rule : Rule) (found : Option (List Rule)) → RulesSoFar text left rules → rule_parts left ≡ part ∷ [] → IsTextOfRule part rule
    → new ≡ rules ++ rule ∷ [] → MatchOption found (MOST_RULES < length new) (λ few. (few ≡ new) × (length new ≤ MOST_RULES))
    → MatchOption found ((all : List Rule) → AreRulesOfText text all → ⊥) (λ all. AreRulesOfText text all)
read-last text left part rules new rule None so parts is same many = λ all h.
    let e : all ≡ new = all-read text left part rules rule all so parts is h.each ∙ sym same in
    let few : length new ≤ MOST_RULES = subst (λ l. length l ≤ MOST_RULES) e h.few in
    absurd (omega arith)
read-last text left part rules new rule (Some few) so parts is same (e, most) =
    record { few = subst (λ l. length l ≤ MOST_RULES) (sym e) most; each = subst (λ l. AllZip IsTextOfRule (rule_parts text) l) (sym (e ∙ same)) (whole text left part rules rule so parts is) }

pub bad-part : (text left part : List ℕ) (rest : List (List ℕ)) (rules : List Rule) (kind : TextKind) → RulesSoFar text left rules → rule_parts left ≡ part ∷ rest → IsRuleTextFault part kind
    → (all : List Rule) → AreRulesOfText text all → ⊥
bad-part text left part rest rules kind so parts bad all h =
    let f = so.from all h.each in
    on f.0 (subst (λ l. AllZip IsTextOfRule l f.0) parts f.2)
  where
    on : (more : List Rule) → AllZip IsTextOfRule (part ∷ rest) more → ⊥
    on [] h = h
    on (r ∷ rs) h = rule_and_kind part r kind h.0 bad

-- ---- rules may be asked for

pub askable : (parts : List (List ℕ)) (rules : List Rule) → AllZip IsTextOfRule parts rules → (k : ℕ) (d : Rule) → k < length rules → ((get_or rules k d).cac_s ≡ 0) × ((get_or rules k d).wmm ≡ None)
askable [] [] h k d lt = absurd (omega arith)
askable [] (r ∷ rs) h k d lt = absurd h
askable (p ∷ parts) [] h k d lt = absurd h
askable (p ∷ parts) (r ∷ rs) h zero d lt = (h.0.is.is.check_time, h.0.is.is.wmm)
askable (p ∷ parts) (r ∷ rs) h (suc k) d lt = askable parts rs h.1 k d (omega arith)

-- ---- how a line of rules begins

stands : (ws rest : List (List ℕ)) (w : List ℕ) → next_word ws ≡ Some (w, rest) → ws ≡ w ∷ rest
stands [] rest w e = absurd cc
stands (v ∷ vs) rest w e = let p = some_pair_parts v w vs rest e in rw (p.0, p.1) refl

pub begins-rules : (ws ws1 ws2 rest : List (List ℕ)) (a b w : List ℕ) (radio : ℕ) → next_word ws ≡ Some (a, ws1) → next_word ws1 ≡ Some (b, ws2) → next_word ws2 ≡ Some (w, rest)
    → same_bytes a (codes "radio") ≡ true → same_bytes b (codes "rules") ≡ true → Some radio ≡ radio_of_word w → BeginsRules ws radio rest
begins-rules ws ws1 ws2 rest a b w radio one two three is_radio is_rules number = record {
  word = w;
  spelled = stands ws ws1 a one ∙ ap (λ u. u ∷ ws1) ((bytes_eq-Decides a (codes "radio")).0 is_radio)
      ∙ ap (λ l. codes "radio" ∷ l) (stands ws1 ws2 b two ∙ ap (λ u. u ∷ ws2) ((bytes_eq-Decides b (codes "rules")).0 is_rules) ∙ ap (λ l. codes "rules" ∷ l) (stands ws2 rest w three));
  number = sym number;
}
