-- A printed line is accepted below the lines above it.
use Rattle.std.proofs.Common.{◌≡◌, ℕ, ◌+◌, ◌-◌, ◌^◌, ◌<◌, ◌≤◌, ◌==◌, false, List, [], ◌∷◌, ◌++◌, All, reverse, arith, refl, sym, subst, ap, ◌∙◌, append_assoc, inl, inr, lit<}
use Rattle.std.specs.Prelude.{codes}
use Rattle.std.specs.Fmt.{decimal}
use Rattle.std.specs.List.{slice_split}
use Rattle.std.proofs.Math.Nat.{one-le-pow, pow-le-pow_right}
use Rattle.std.proofs.lemmas.List.{reverse-append}
use Rattle.std.proofs.lemmas.List.Elements.{All-cons, All-head, All-nil, All-tail}
use Rattle.std.proofs.lemmas.List.Splits.{slice_split_at}
use Rattle.freq_range.specs.Valid.{IsValidEntry}
use Rattle.freq_range.specs.declared.wmm.WmmEntry.{WmmEntry}
use Rattle.rule_tables.specs.Code.{IsCode}
use Rattle.rule_tables.specs.declared.code.Alpha2.{Alpha2}
use Rattle.rule_tables.specs.declared.code.Region.{Region}
use Rattle.rule_tables.specs.declared.code.Region.TheVariants.{Unset, Fcc, Etsi, Jp}
use Rattle.rule_tables.specs.declared.domain.Domain.{Domain}
use Rattle.text_lines.specs.declared.form.Item.{Item}
use Rattle.text_lines.specs.declared.form.Item.TheVariants.{VoC, ViC, BeC, BkC, VoAp, ViAp, BeAp, BkAp}
use Rattle.rule_text.specs.Faults.{AreAccepted}
use Rattle.rule_text.specs.Forms.{Form, IsForm}
use Rattle.db_text.specs.Printed.{country_line, item_line, region_part, text_of_lines, wmm_name}
use Rattle.text_lines.specs.Spelling.{IsHeader, IsItemLine, IsWmmHeader, ItemText, codes_text, item_name, item_text, region_name}
use Rattle.rule_text.proofs.GoodLines.{IsRight}
use Rattle.db_text.proofs.PlainLines.{IsSolid, Prints, bare_plain, joined, one_line, prints_digits, prints_solid, utf8_plain}
use Rattle.db_text.proofs.PrintedDigits.{decimal_digits, decimal_number, decimal_short, decimal_value}
use Rattle.db_text.proofs.PrintedRuleLines.{wmm_name-is, wmm_name-prints}
use Rattle.rule_text.proofs.WholeLine.{readable_good}

-- ---- lines that are accepted

-- a line without a newline
abbrev pub IsOneLine : List ℕ → Type 0
IsOneLine line = All (λ b. (b == 10) ≡ false) line

-- lines of these forms, the last one first
pub record AreFine (lines : List (List ℕ)) (forms : List Form) : Type 0 where
  pub accepted : AreAccepted lines forms
  pub each : All IsOneLine lines

pub fine_none : AreFine [] []
fine_none = record { accepted = tt; each = All-nil IsOneLine }

pub fine_line : (lines : List (List ℕ)) (forms : List Form) (line squeezed : List ℕ) (form : Form) (n : ℕ) → AreFine lines forms → Prints line squeezed n → n ≤ 4096
    → IsForm squeezed form → IsRight forms squeezed → AreFine (line ∷ lines) (form ∷ forms)
fine_line lines forms line squeezed form n fine prints few is right =
    let same = bare_plain line squeezed n prints in
    let short = prints.short in
    record {
      accepted = (
        fine.accepted,
        readable_good forms line form (record { short = omega (arith, short, few); utf8 = utf8_plain line squeezed n prints })
            (subst (λ l. IsForm l form) (sym same) is) (subst (IsRight forms) (sym same) right),
      );
      each = All-cons IsOneLine line lines (one_line line squeezed n prints) fine.each;
    }

-- ---- lists turned round

-- the elements of a list before those of another, the last one first
abbrev pub behind : {X : Type 0} → List X → List X → List X
behind [] acc = acc
behind (x ∷ xs) acc = behind xs (x ∷ acc)

pub behind-append : {X : Type 0} (xs ys acc : List X) → behind (xs ++ ys) acc ≡ behind ys (behind xs acc)
behind-append [] ys acc = refl
behind-append (x ∷ xs) ys acc = behind-append xs ys (x ∷ acc)

pub behind-is : {X : Type 0} (xs acc : List X) → behind xs acc ≡ reverse xs ++ acc
behind-is [] acc = refl
behind-is (x ∷ xs) acc = behind-is xs (x ∷ acc) ∙ sym (ap (λ ys. ys ++ acc) (reverse-append (x ∷ []) xs) ∙ append_assoc (reverse xs) (x ∷ []) acc)

pub all_behind : {X : Type 0} (P : X → Type 0) (xs acc : List X) → All P (behind xs acc) → All P xs × All P acc
all_behind P [] acc each = (All-nil P, each)
all_behind P (x ∷ xs) acc each =
    let rest = all_behind P xs (x ∷ acc) each in
    (All-cons P x xs (All-head P x acc rest.1) rest.0, All-tail P x acc rest.1)

-- the lines of a text of lines, and one without bytes behind the last newline
pub lines_back : (lines : List (List ℕ)) → All IsOneLine lines → slice_split (λ b. b == 10) (text_of_lines lines) ≡ lines ++ [] ∷ []
lines_back [] each = refl
lines_back (line ∷ lines) each =
    ap (slice_split (λ b. b == 10)) (append_assoc line (codes "\n") (text_of_lines lines))
    ∙ slice_split_at (λ b. b == 10) line 10 (text_of_lines lines) (All-head IsOneLine line lines each) refl
    ∙ ap (λ ls. line ∷ ls) (lines_back lines (All-tail IsOneLine line lines each))

-- ---- the header of a WMM rule

pub wmm_header_prints : (k : ℕ) → k < 2 ^ 64 → Prints (codes "wmmrule " ++ wmm_name k ++ codes ":") (codes "wmmrule" ++ wmm_name k ++ codes ":") 30
wmm_header_prints k small =
    let one = joined (codes "wmmrule ") (wmm_name k) (codes "wmmrule") (wmm_name k) 8 21 29 (record { plain = refl; solid = refl; short = omega arith }) (wmm_name-prints k small) (omega arith) in
    joined (codes "wmmrule " ++ wmm_name k) (codes ":") (codes "wmmrule" ++ wmm_name k) (codes ":") 29 1 30 one (record { plain = refl; solid = refl; short = omega arith }) (omega arith)

pub wmm_header_is : (k : ℕ) → k < 2 ^ 64 → IsWmmHeader (codes "wmmrule" ++ wmm_name k ++ codes ":") (wmm_name k)
wmm_header_is k small = record { is_name = wmm_name-is k small; spelled = refl }

-- ---- the items of a WMM rule

abbrev pub text_of_entry : WmmEntry → ItemText
text_of_entry e = record { cw_min = decimal (2 ^ e.min_exp - 1); cw_max = decimal (2 ^ e.max_exp - 1); aifsn = decimal e.aifsn; cot = decimal e.cot_ms }

prints_item_name : (item : Item) → Prints (item_name item) (item_name item) 5
prints_item_name VoC = record { plain = refl; solid = refl; short = omega arith }
prints_item_name ViC = record { plain = refl; solid = refl; short = omega arith }
prints_item_name BeC = record { plain = refl; solid = refl; short = omega arith }
prints_item_name BkC = record { plain = refl; solid = refl; short = omega arith }
prints_item_name VoAp = record { plain = refl; solid = refl; short = omega arith }
prints_item_name ViAp = record { plain = refl; solid = refl; short = omega arith }
prints_item_name BeAp = record { plain = refl; solid = refl; short = omega arith }
prints_item_name BkAp = record { plain = refl; solid = refl; short = omega arith }

window_fits : (e : ℕ) → e ≤ 15 → (2 ^ e - 1 < 2 ^ 64) × (2 ^ e - 1 + 1 ≡ 2 ^ e)
window_fits e low =
    let most = pow-le-pow_right {n = 2} (lit< tt) {i = e} {j = 15} low in
    let least = one-le-pow e 2 (lit< tt) in
    (omega (arith, most), omega (arith, least))

prints_number : (n : ℕ) → n < 2 ^ 64 → Prints (decimal n) (decimal n) 20
prints_number n small = prints_digits (decimal n) 20 (decimal_digits n small) (decimal_short n small)

item_pieces : (name a b c d : List ℕ) → Prints name name 5 → Prints a a 20 → Prints b b 20 → Prints c c 20 → Prints d d 20
    → Prints (codes "\t" ++ name ++ codes ": cw_min=" ++ a ++ codes ", cw_max=" ++ b ++ codes ", aifsn=" ++ c ++ codes ", cot=" ++ d)
    (name ++ codes ":cw_min=" ++ a ++ codes ",cw_max=" ++ b ++ codes ",aifsn=" ++ c ++ codes ",cot=" ++ d) 118
item_pieces name a b c d zero one two three four =
    let s1 = joined (codes "\t") name [] name 1 5 6 (record { plain = refl; solid = refl; short = omega arith }) zero (omega arith) in
    let s2 = joined _ (codes ": cw_min=") _ (codes ":cw_min=") 6 9 15 s1 (record { plain = refl; solid = refl; short = omega arith }) (omega arith) in
    let s3 = joined _ a _ a 15 20 35 s2 one (omega arith) in
    let s4 = joined _ (codes ", cw_max=") _ (codes ",cw_max=") 35 9 44 s3 (record { plain = refl; solid = refl; short = omega arith }) (omega arith) in
    let s5 = joined _ b _ b 44 20 64 s4 two (omega arith) in
    let s6 = joined _ (codes ", aifsn=") _ (codes ",aifsn=") 64 8 72 s5 (record { plain = refl; solid = refl; short = omega arith }) (omega arith) in
    let s7 = joined _ c _ c 72 20 92 s6 three (omega arith) in
    let s8 = joined _ (codes ", cot=") _ (codes ",cot=") 92 6 98 s7 (record { plain = refl; solid = refl; short = omega arith }) (omega arith) in
    joined _ d _ d 98 20 118 s8 four (omega arith)

pub item_prints : (item : Item) (e : WmmEntry) → IsValidEntry e → Prints (item_line item e) (item_text item (text_of_entry e)) 118
unfolding item_line
item_prints item e valid =
    let order = valid.in_order in
    let fits = valid.window_fits in
    let aifsn = valid.aifsn_fits in
    let cot = valid.cot_fits in
    item_pieces (item_name item) (decimal (2 ^ e.min_exp - 1)) (decimal (2 ^ e.max_exp - 1)) (decimal e.aifsn) (decimal e.cot_ms) (prints_item_name item)
    (prints_number (2 ^ e.min_exp - 1) (window_fits e.min_exp (omega (arith, order, fits))).0) (prints_number (2 ^ e.max_exp - 1) (window_fits e.max_exp fits).0)
    (prints_number e.aifsn (omega (arith, aifsn))) (prints_number e.cot_ms (omega (arith, cot)))

pub item_is : (item : Item) (e : WmmEntry) → IsValidEntry e → IsItemLine (item_text item (text_of_entry e)) item e
item_is item e valid =
    let order = valid.in_order in
    let fits = valid.window_fits in
    let aifsn = valid.aifsn_fits in
    let cot = valid.cot_fits in
    let least = window_fits e.min_exp (omega (arith, order, fits)) in
    let greatest = window_fits e.max_exp fits in (
      text_of_entry e,
      refl,
      record {
        cw_min_number = decimal_number (2 ^ e.min_exp - 1) least.0;
        cw_max_number = decimal_number (2 ^ e.max_exp - 1) greatest.0;
        aifsn_number = decimal_number e.aifsn (omega (arith, aifsn));
        cot_number = decimal_number e.cot_ms (omega (arith, cot));
        least_window = ap (λ n. n + 1) (decimal_value (2 ^ e.min_exp - 1) least.0) ∙ least.1;
        greatest_window = ap (λ n. n + 1) (decimal_value (2 ^ e.max_exp - 1) greatest.0) ∙ greatest.1;
        aifsn = decimal_value e.aifsn (omega (arith, aifsn));
        cot = decimal_value e.cot_ms (omega (arith, cot));
        valid = valid;
      },
    )

-- ---- the header of a country

prints_region : (region : Region) → Prints (region_part (region_name region)) (region_name region) 9
prints_region Unset = record { plain = refl; solid = refl; short = omega arith }
prints_region Fcc = record { plain = refl; solid = refl; short = omega arith }
prints_region Etsi = record { plain = refl; solid = refl; short = omega arith }
prints_region Jp = record { plain = refl; solid = refl; short = omega arith }

prints_code : (c : Alpha2) → IsCode c → Prints (c.a ∷ c.b ∷ []) (c.a ∷ c.b ∷ []) 2
prints_code c is = prints_solid (c.a ∷ c.b ∷ []) 2 (All-cons IsSolid c.a (c.b ∷ []) (both is).0 (All-cons IsSolid c.b [] (both is).1 (All-nil IsSolid))) (omega arith)
  where
    both : IsCode c → IsSolid c.a × IsSolid c.b
    both (inl capitals) = ((omega (arith, capitals), omega (arith, capitals)), (omega (arith, capitals), omega (arith, capitals)))
    both (inr zeros) = ((omega (arith, zeros), omega (arith, zeros)), (omega (arith, zeros), omega (arith, zeros)))

pub country_prints : (d : Domain) → IsCode d.alpha2 → Prints (country_line d) (codes "country" ++ codes_text (d.alpha2 ∷ []) ++ codes ":" ++ region_name d.region) 20
unfolding country_line
country_prints d is =
    let s1 = joined (codes "country ") (d.alpha2.a ∷ d.alpha2.b ∷ []) (codes "country") (d.alpha2.a ∷ d.alpha2.b ∷ []) 8 2 10 (record { plain = refl; solid = refl; short = omega arith })
    (prints_code d.alpha2 is) (omega arith) in
    let s2 = joined _ (codes ":") _ (codes ":") 10 1 11 s1 (record { plain = refl; solid = refl; short = omega arith }) (omega arith) in
    joined _ (region_part (region_name d.region)) _ (region_name d.region) 11 9 20 s2 (prints_region d.region) (omega arith)

pub country_is : (d : Domain) → IsCode d.alpha2 → IsHeader (codes "country" ++ codes_text (d.alpha2 ∷ []) ++ codes ":" ++ region_name d.region) (d.alpha2 ∷ []) d.region
country_is d is = record {
  are = record { some = omega arith; each = All-cons IsCode d.alpha2 [] is (All-nil IsCode) };
  spelled = refl;
}
