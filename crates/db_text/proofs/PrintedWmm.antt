-- The printed lines of WMM rules give each its name.
use Rattle.std.proofs.Common.{◌≡◌, ◌≢◌, ℕ, ◌+◌, ◌^◌, ◌<◌, ◌≤◌, List, [], ◌∷◌, ◌++◌, length, get_or, drop, All, Some, None, option_map, arith, refl, sym, subst, ap, ◌∙◌, inl, inr, append_assoc, append-nil}
use Rattle.std.specs.Prelude.{codes}
use Rattle.std.proofs.lemmas.Bool.{cases_eq}
use Rattle.std.proofs.lemmas.Fmt.{decimal_injective}
use Rattle.std.proofs.lemmas.List.{get_or_append_left, get_or_push, length_push}
use Rattle.std.proofs.lemmas.List.Elements.{All-head, All-tail}
use Rattle.std.proofs.lemmas.Option.{none-some, same_Some}
use Rattle.freq_range.proofs.Members.{Contains-nothing}
use Rattle.freq_range.specs.Valid.{IsValidEntry, IsValidWmm}
use Rattle.freq_range.specs.declared.wmm.Wmm.{Wmm}
use Rattle.freq_range.specs.declared.wmm.WmmEntry.{WmmEntry}
use Rattle.rule_tables.specs.declared.code.Alpha2.{Alpha2}
use Rattle.rule_tables.specs.declared.code.Region.{Region}
use Rattle.text_lines.specs.declared.form.Item.{Item}
use Rattle.text_lines.specs.declared.form.Item.TheVariants.{VoC, ViC, BeC, BkC, VoAp, ViAp, BeAp, BkAp}
use Rattle.rule_text.specs.Faults.{HasItem}
use Rattle.rule_text.specs.Forms.{Form, NamesCode, block_of, item_entry, no_items, unnamed, with_entry, wmm_of_name}
use Rattle.rule_text.specs.Forms.Block.{OfName}
use Rattle.rule_text.specs.Forms.Form.{Country, ItemLine, WmmHeader}
use Rattle.db_text.specs.Printed.{item_line, wmm_lines, wmm_lines_from, wmm_name}
use Rattle.text_lines.specs.Spelling.{item_text}
use Rattle.rule_text.proofs.FormLaws.{Names-cases}
use Rattle.rule_text.proofs.GoodLines.{good_item, good_name}
use Rattle.db_text.proofs.PrintedLines.{AreFine, behind, behind-append, fine_line, fine_none, item_is, item_prints, text_of_entry, wmm_header_is, wmm_header_prints}
use Rattle.rule_text.proofs.WmmLaws.{cases_name, is_of_name-apart, is_of_name-here, same_bytes-apart, same_bytes-itself}

-- ---- one WMM rule

-- The last header is that of the name, with the items of w so far; the lines above it are these.
record IsOpened (above : List Form) (name : List ℕ) (lines : List (List ℕ)) (forms : List Form) (w : Wmm) : Type 0 where
  fine : AreFine lines forms
  block : block_of forms ≡ OfName name
  here : wmm_of_name name forms ≡ Some w
  others : (other : List ℕ) → other ≢ name → wmm_of_name other forms ≡ wmm_of_name other above
  names : (code : Alpha2) (r : Region) → NamesCode forms code r → NamesCode above code r

never_unnamed : IsValidEntry unnamed → ⊥
never_unnamed valid = let waits = valid.waits in omega (arith, waits)

lacks_item : (above forms : List Form) (name : List ℕ) (lines : List (List ℕ)) (w : Wmm) (item : Item) → IsOpened above name lines forms w → item_entry item w ≡ unnamed → HasItem forms item → ⊥
lacks_item above forms name lines w item is none has =
    let same : has.0 ≡ name = let e = sym has.1 ∙ is.block in cc in
    let one = same_Some w has.2 (sym is.here ∙ subst (λ n. wmm_of_name n forms ≡ Some has.2) same has.3) in
    never_unnamed (subst IsValidEntry (ap (item_entry item) (sym one) ∙ none) has.4)

item_step : (above forms : List Form) (name : List ℕ) (lines : List (List ℕ)) (w : Wmm) (item : Item) (e : WmmEntry) → IsOpened above name lines forms w → item_entry item w ≡ unnamed → IsValidEntry e
    → IsOpened above name (item_line item e ∷ lines) (ItemLine item e ∷ forms) (with_entry item e w)
item_step above forms name lines w item e is none valid = record {
  fine = fine_line lines forms (item_line item e) (item_text item (text_of_entry e)) (ItemLine item e) 118 is.fine (item_prints item e valid) (omega arith) (item_is item e valid)
      (good_item forms (item_text item (text_of_entry e)) item e (name, is.block) (item_is item e valid) (lacks_item above forms name lines w item is none));
  block = is.block;
  here = rw (is_of_name-here name (block_of forms) is.block) (ap (option_map (with_entry item e)) is.here);
  others = λ other apart. rw (is_of_name-apart name other (block_of forms) is.block apart) (is.others other apart);
  names = λ code r named. elim (Names-cases (ItemLine item e) forms code r named) [
    | inl top ↦ absurd (let f = top.1 in cc)
    | inr later ↦ is.names code r later
  ];
}

header_step : (above : List Form) (lines : List (List ℕ)) (k : ℕ) → AreFine lines above → k < 2 ^ 64 → wmm_of_name (wmm_name k) above ≡ None
    → IsOpened above (wmm_name k) ((codes "wmmrule " ++ wmm_name k ++ codes ":") ∷ lines) (WmmHeader (wmm_name k) ∷ above) no_items
header_step above lines k fine small fresh = record {
  fine = fine_line lines above (codes "wmmrule " ++ wmm_name k ++ codes ":") (codes "wmmrule" ++ wmm_name k ++ codes ":") (WmmHeader (wmm_name k)) 30 fine (wmm_header_prints k small) (omega arith)
      (wmm_header_is k small) (good_name above (codes "wmmrule" ++ wmm_name k ++ codes ":") (wmm_name k) (wmm_header_is k small) fresh);
  block = refl;
  here = rw (same_bytes-itself (wmm_name k)) refl;
  others = λ other apart. rw (same_bytes-apart (wmm_name k) other (λ e. apart (sym e))) refl;
  names = λ code r named. elim (Names-cases (WmmHeader (wmm_name k)) above code r named) [
    | inl top ↦ absurd (let f = top.1 in cc)
    | inr later ↦ later
  ];
}

-- the forms of the lines of a WMM rule
abbrev block_forms : ℕ → Wmm → List Form → List Form
block_forms k w above =
    ItemLine BkAp w.bk_ap ∷ ItemLine BeAp w.be_ap ∷ ItemLine ViAp w.vi_ap ∷ ItemLine VoAp w.vo_ap
    ∷ ItemLine BkC w.bk_c ∷ ItemLine BeC w.be_c ∷ ItemLine ViC w.vi_c ∷ ItemLine VoC w.vo_c ∷ WmmHeader (wmm_name k) ∷ above

block_step : (above : List Form) (lines : List (List ℕ)) (k : ℕ) (w : Wmm) → AreFine lines above → k < 2 ^ 64 → wmm_of_name (wmm_name k) above ≡ None → IsValidWmm w
    → IsOpened above (wmm_name k) (behind (wmm_lines k w) lines) (block_forms k w above) w
unfolding wmm_lines
block_step above lines k w fine small fresh valid =
    let name = wmm_name k in
    let o0 = header_step above lines k fine small fresh in
    let o1 = item_step above _ name _ no_items VoC w.vo_c o0 refl valid.vo_c in
    let o2 = item_step above _ name _ _ ViC w.vi_c o1 refl valid.vi_c in
    let o3 = item_step above _ name _ _ BeC w.be_c o2 refl valid.be_c in
    let o4 = item_step above _ name _ _ BkC w.bk_c o3 refl valid.bk_c in
    let o5 = item_step above _ name _ _ VoAp w.vo_ap o4 refl valid.vo_ap in
    let o6 = item_step above _ name _ _ ViAp w.vi_ap o5 refl valid.vi_ap in
    let o7 = item_step above _ name _ _ BeAp w.be_ap o6 refl valid.be_ap in
    item_step above _ name _ _ BkAp w.bk_ap o7 refl valid.bk_ap

-- ---- WMM rules one after another

-- the lines give these WMM rules the names of their places, and there are no other lines
pub record AreNamed (lines : List (List ℕ)) (forms : List Form) (ws : List Wmm) : Type 0 where
  pub fine : AreFine lines forms
  pub here : (j : ℕ) (d : Wmm) → j < length ws → wmm_of_name (wmm_name j) forms ≡ Some (get_or ws j d)
  pub fresh : (j : ℕ) → length ws ≤ j → j < 2 ^ 64 → wmm_of_name (wmm_name j) forms ≡ None
  pub valid : (name : List ℕ) (w : Wmm) → wmm_of_name name forms ≡ Some w → IsValidWmm w
  pub no_country : (code : Alpha2) (r : Region) → NamesCode forms code r → ⊥

name_apart : (j k : ℕ) → j < 2 ^ 64 → k < 2 ^ 64 → j ≢ k → wmm_name j ≢ wmm_name k
unfolding wmm_name
name_apart j k small fits apart same = apart (decimal_injective j k small fits (ap (drop 1) same))

named_step : (lines : List (List ℕ)) (forms : List Form) (ws : List Wmm) (w : Wmm) → AreNamed lines forms ws → IsValidWmm w → length ws < 2 ^ 64
    → AreNamed (behind (wmm_lines (length ws) w) lines) (block_forms (length ws) w forms) (ws ++ w ∷ [])
named_step lines forms ws w are valid small =
    let k = length ws in
    let opened = block_step forms lines k w are.fine small (are.fresh k (omega arith) small) valid in
    let long = length_push ws w in
    record {
      fine = opened.fine;
      here = λ j d less. elim (cases_eq j k) [
        | inl same ↦ subst (λ i. wmm_of_name (wmm_name i) (block_forms k w forms) ≡ Some (get_or (ws ++ w ∷ []) i d)) (sym same) (opened.here ∙ ap Some (sym (get_or_push ws w d k refl)))
        | inr apart ↦
            let low : j < k = omega (arith, less, apart, long) in
            opened.others (wmm_name j) (name_apart j k (omega (arith, low, small)) small apart) ∙ are.here j d low ∙ ap Some (sym (get_or_append_left ws (w ∷ []) d j low))
      ];
      fresh = λ j above fits.
          opened.others (wmm_name j) (name_apart j k fits small (omega (arith, above, long))) ∙ are.fresh j (omega (arith, above, long)) fits;
      valid = λ name v is. elim (cases_name name (wmm_name k)) [
        | inl same ↦ subst IsValidWmm (same_Some w v (sym opened.here ∙ subst (λ n. wmm_of_name n (block_forms k w forms) ≡ Some v) same is)) valid
        | inr apart ↦ are.valid name v (sym (opened.others name apart) ∙ is)
      ];
      no_country = λ code r named. are.no_country code r (opened.names code r named);
    }

pub named_none : AreNamed [] [] []
named_none = record {
  fine = fine_none;
  here = λ j d less. absurd (omega (arith, less));
  fresh = λ j above fits. refl;
  valid = λ name w is. absurd (none-some w is);
  no_country = λ code r named. Contains-nothing (Country named.0 r) named.1;
}

pub named_all : (rest ws : List Wmm) (lines : List (List ℕ)) (forms : List Form) → AreNamed lines forms ws → All IsValidWmm rest → length ws + length rest < 2 ^ 64
    → (after : List Form) × AreNamed (behind (wmm_lines_from (length ws) rest) lines) after (ws ++ rest)
named_all [] ws lines forms are valid small = (forms, subst (AreNamed lines forms) (sym (append-nil ws)) are)
named_all (w ∷ rest) ws lines forms are valid small =
    let k = length ws in
    let one = named_step lines forms ws w are (All-head IsValidWmm w rest valid) (omega (arith, small)) in
    let long = length_push ws w in
    let more = named_all rest (ws ++ w ∷ []) (behind (wmm_lines k w) lines) (block_forms k w forms) one (All-tail IsValidWmm w rest valid) (omega (arith, small, long)) in
    let turned : behind (wmm_lines_from (length (ws ++ w ∷ [])) rest) (behind (wmm_lines k w) lines) ≡ behind (wmm_lines_from k (w ∷ rest)) lines =
    ap (λ n. behind (wmm_lines_from n rest) (behind (wmm_lines k w) lines)) long ∙ sym (behind-append (wmm_lines k w) (wmm_lines_from (k + 1) rest) lines) in
    (more.0, subst (λ ls. AreNamed ls more.0 (ws ++ w ∷ rest)) turned (subst (AreNamed _ more.0) (append_assoc ws (w ∷ []) rest) more.1))
