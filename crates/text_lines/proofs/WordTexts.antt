-- Words behind a power: what is read is spelled so, and what is spelled so is read.
use Rattle.std.proofs.Common.{◌≡◌, ℕ, List, true, Option, Some, None, refl, subst, not}
use Rattle.std.specs.Prelude.{codes, ◌==◌}
use Rattle.std.specs.List.{list_all}
use Rattle.std.proofs.lemmas.List.Elements.{All-append}
use Rattle.std.proofs.lemmas.Option.{cond_some, same_Some}
use Rattle.text_lines.specs.declared.form.Flag.{Flag}
use Rattle.text_lines.specs.declared.form.Flag.TheVariants.{NoOfdm, NoOutdoor, Dfs, NoIr, AutoBw, NoCck, NoIndoor, PtpOnly, PtmpOnly}
use Rattle.reg_base.specs.Texts.{same_bytes}
use Rattle.text_lines.specs.inner.Reading.{after_byte, after_word, flag_of, flag_or_name, is_wmm_name, name_word, word_of}
use Rattle.text_lines.specs.Spelling.{IsWmmName, IsWord, Word, flag_name, word_text}
use Rattle.text_lines.specs.Spelling.Word.{OfFlag, OfName}
use Rattle.text_lines.proofs.Lists.{Lacks, lacks-by}
use Rattle.text_lines.proofs.Names.{is_name-again, is_name-reads, name-lacks, no_comma}
use Rattle.text_lines.proofs.Words.{after_word-reads, bind_some, chosen, same_bytes-reads}

flag_of-reads : (bs : List ℕ) (flag : Flag) → flag_of bs ≡ Some flag → bs ≡ flag_name flag
unfolding flag_of
flag_of-reads bs flag =
    let P : Flag → Type 0 = λ flag. bs ≡ flag_name flag in
    chosen P (same_bytes bs (codes "NO-OFDM")) NoOfdm _ flag (same_bytes-reads bs (codes "NO-OFDM")) (
    chosen P (same_bytes bs (codes "NO-OUTDOOR")) NoOutdoor _ flag (same_bytes-reads bs (codes "NO-OUTDOOR")) (
    chosen P (same_bytes bs (codes "DFS")) Dfs _ flag (same_bytes-reads bs (codes "DFS")) (
    chosen P (same_bytes bs (codes "NO-IR")) NoIr _ flag (same_bytes-reads bs (codes "NO-IR")) (
    chosen P (same_bytes bs (codes "AUTO-BW")) AutoBw _ flag (same_bytes-reads bs (codes "AUTO-BW")) (
    chosen P (same_bytes bs (codes "NO-CCK")) NoCck _ flag (same_bytes-reads bs (codes "NO-CCK")) (
    chosen P (same_bytes bs (codes "NO-INDOOR")) NoIndoor _ flag (same_bytes-reads bs (codes "NO-INDOOR")) (
    chosen P (same_bytes bs (codes "PTP-ONLY")) PtpOnly _ flag (same_bytes-reads bs (codes "PTP-ONLY")) (
    chosen P (same_bytes bs (codes "PTMP-ONLY")) PtmpOnly None flag (same_bytes-reads bs (codes "PTMP-ONLY")) (λ e. absurd cc)))))))))

or_name-reads : (bs : List ℕ) (o : Option Flag) (word : Word) → ((flag : Flag) → o ≡ Some flag → bs ≡ flag_name flag) → flag_or_name o bs ≡ Some word → IsWord word × (bs ≡ word_text word)
or_name-reads bs (Some flag) word h e = subst (λ (w : Word). IsWord w × (bs ≡ word_text w)) (same_Some (OfFlag flag) word e) (tt, h flag refl)
or_name-reads bs None word h e =
    let one = bind_some (after_word (codes "wmmrule=") bs) name_word word e in
    let t = cond_some (is_wmm_name one.0) (OfName one.0) word one.2 in
    subst (λ (w : Word). IsWord w × (bs ≡ word_text w)) t.1 (is_name-reads one.0 t.0, after_word-reads (codes "wmmrule=") bs one.0 one.1)

pub word_of-reads : (bs : List ℕ) (word : Word) → word_of bs ≡ Some word → IsWord word × (bs ≡ word_text word)
unfolding word_of
word_of-reads bs word e = or_name-reads bs (flag_of bs) word (flag_of-reads bs) e

named-again : (name : List ℕ) → IsWmmName name → name_word name ≡ Some (OfName name)
named-again name h = rw (is_name-again name h) refl

pub word_of-again : (word : Word) → IsWord word → word_of (word_text word) ≡ Some word
unfolding word_of flag_of after_word after_byte
word_of-again (OfFlag NoOfdm) h = refl
word_of-again (OfFlag NoOutdoor) h = refl
word_of-again (OfFlag Dfs) h = refl
word_of-again (OfFlag NoIr) h = refl
word_of-again (OfFlag AutoBw) h = refl
word_of-again (OfFlag NoCck) h = refl
word_of-again (OfFlag NoIndoor) h = refl
word_of-again (OfFlag PtpOnly) h = refl
word_of-again (OfFlag PtmpOnly) h = refl
word_of-again (OfName name) h = named-again name h

-- no word has a comma
flag-lacks : (flag : Flag) → list_all (λ b. not (b == 44)) (flag_name flag) ≡ true
flag-lacks NoOfdm = refl
flag-lacks NoOutdoor = refl
flag-lacks Dfs = refl
flag-lacks NoIr = refl
flag-lacks AutoBw = refl
flag-lacks NoCck = refl
flag-lacks NoIndoor = refl
flag-lacks PtpOnly = refl
flag-lacks PtmpOnly = refl

pub word-lacks : (word : Word) → IsWord word → Lacks 44 (word_text word)
word-lacks (OfFlag flag) h = lacks-by 44 (flag_name flag) (flag-lacks flag)
word-lacks (OfName name) h = All-append (λ b. b ≡ 44 → ⊥) (codes "wmmrule=") name (lacks-by 44 (codes "wmmrule=") refl) (name-lacks 44 name no_comma h.each)
