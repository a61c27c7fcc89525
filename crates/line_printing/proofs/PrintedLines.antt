-- Each printed line asks its request.
use Rattle.std.proofs.Common.{◌≡◌, ◌≢◌, ℕ, ◌≤◌, inl, inr, Bool, true, false, ◌&&◌, List, [], ◌∷◌, ◌++◌, length, get_or, map, All, refl, ap, ◌∙◌, sym, subst, arith}
use Rattle.std.specs.Prelude.{codes, nat_le, ◌==◌, Option, Some, Result, Ok}
use Rattle.std.specs.List.{flat_map}
use Rattle.std.proofs.lemmas.Bool.{and_parts, leb-true}
use Rattle.std.proofs.lemmas.List.{length-append}
use Rattle.reg_base.specs.declared.limits.TheConstants.{MOST_LINE_BYTES}
use Rattle.freq_range.specs.declared.rule.Rule.{Rule}
use Rattle.iw_dumps.specs.Spelling.{radio_text}
use Rattle.reg_journal.specs.Forms.{IsLineRequest}
use Rattle.reg_journal.specs.Requests.{IsTyped}
use Rattle.reg_journal.specs.declared.request.Request.{Request}
use Rattle.reg_journal.specs.declared.request.Request.TheVariants.{At as AskAt, RadioAdd as AskRadioAdd, RadioDel as AskRadioDel, RadioRules as AskRadioRules, Element as AskElement, DriverHint as AskDriverHint, UserHint as AskUserHint, Radar as AskRadar, Indoor as AskIndoor, IfaceAdd as AskIfaceAdd, IfaceDel as AskIfaceDel, SetType as AskSetType, SetPower as AskSetPower, Start as AskStart, Stop as AskStop, Check as AskCheck, GetReg as AskGetReg, Channels as AskChannels, RadioInfo as AskRadioInfo, IfaceInfo as AskIfaceInfo}
use Rattle.line_forms.specs.Forms.{AreRulesOfText, FormOf, Spells}
use Rattle.line_forms.specs.Lines.{AreSilent, Asks, IsLineByte, Says}
use Rattle.line_forms.specs.Rows.{slots}
use Rattle.line_forms.specs.Words.{words_of}
use Rattle.line_forms.specs.Told.{Told}
use Rattle.line_forms.specs.Slots.{fixed_text}
use Rattle.line_forms.specs.declared.fault.LineFault.{LineFault}
use Rattle.line_forms.specs.declared.slot.Slot.{Slot}
use Rattle.line_forms.specs.declared.slot.Slot.TheVariants.{Fixed, Rules, ChannelNo, WordForm}
use Rattle.line_forms.proofs.Saying.{one_meaning}
use Rattle.line_printing.specs.Printed.{form_of, line_text, rules_line, printed_rules_of, text_at, line_told}
use Rattle.line_printing.proofs.JoinedWords.{AreSolid, IsSolid, append-none, joined, joined-bytes, words-again}
use Rattle.line_printing.proofs.RequestsAgain.{GivesNoRules, asked-again, can-tell, printed-by}
use Rattle.line_printing.proofs.RuleLines.{prints-rules}
use Rattle.line_printing.proofs.SlotLines.{slots_joined}
use Rattle.line_printing.proofs.SlotTexts.{is_word_slot, prints, prints-radio}
use Rattle.line_printing.proofs.SlotWalks.{are_printed, begins_word, has_after, is_row, may_stand, radio-again, room}
use Rattle.line_printing.proofs.TidyTexts.{parted}
use Rattle.line_printing.proofs.ToldParts.{IsTold}

-- ---- from words to a line

asks : (line word : List ℕ) (words : List (List ℕ)) (q : Request) → line ≡ joined (word ∷ words) → IsSolid word → AreSolid words → get_or word 0 0 ≢ 35 → length line ≤ MOST_LINE_BYTES
    → Spells (word ∷ words) q → Asks line q
asks line word words q e is are no_hash short spelled =
    let again : words_of line ≡ word ∷ words = ap words_of e ∙ words-again word words is are in
    record {
      permitted = record { short = short; each = subst (λ l. All IsLineByte l) (sym e) (joined-bytes word words is are) };
      heard = λ silent. no-comment (subst AreSilent again silent);
      spelled = subst (λ ws. Spells ws q) (sym again) spelled;
    }
  where
    no-comment : AreSilent (word ∷ words) → ⊥
    no-comment (comment, begins) = no_hash (ap (λ (l : List ℕ). get_or l 0 0) begins)

-- ---- the words at slots

word-slot : (has : Bool) (s : Slot) → may_stand has s ≡ true → is_word_slot s ≡ true
word-slot has WordForm is = refl
word-slot has Rules is = absurd cc
word-slot has ChannelNo is = absurd cc
word-slot has s is = refl

are-solid : (rules : List Rule) (t : Told) (has : Bool) (slots : List Slot) → IsTold t → are_printed has slots ≡ true → AreSolid (map (text_at rules t) slots)
are-solid rules t has [] told is = tt
are-solid rules t has (s ∷ slots) told is =
    let parts = and_parts (may_stand has s) (are_printed (has_after has s) slots) is in
    ((prints rules t s told (word-slot has s parts.0)).solid, are-solid rules t (has_after has s) slots told parts.1)

are-short : (rules : List Rule) (t : Told) (has : Bool) (slots : List Slot) → IsTold t → are_printed has slots ≡ true → length (flat_map (λ next. 32 ∷ next) (map (text_at rules t) slots)) ≤ room slots
are-short rules t has [] told is = omega arith
are-short rules t has (s ∷ slots) told is =
    let parts = and_parts (may_stand has s) (are_printed (has_after has s) slots) is in
    let here = (prints rules t s told (word-slot has s parts.0)).short in
    let rest = are-short rules t (has_after has s) slots told parts.1 in
    let len = length-append (text_at rules t s) (flat_map (λ next. 32 ∷ next) (map (text_at rules t) slots)) in
    omega (arith, here, rest, len)

first-byte : (rules : List Rule) (t : Told) (s : Slot) (slots : List Slot) → begins_word (s ∷ slots) ≡ true → get_or (text_at rules t s) 0 0 ≢ 35
first-byte rules t (Fixed word) slots is = λ e. let same : (get_or (fixed_text word) 0 0 == 35) ≡ true = rw e refl in absurd cc
first-byte rules t s slots is = absurd cc

row-asks : (rules : List Rule) (t : Told) (slots : List Slot) (q : Request) → IsTold t → is_row slots ≡ true → FormOf (map (text_at rules t) slots) q → Asks (joined (map (text_at rules t) slots)) q
row-asks rules t [] q told is form = absurd cc
row-asks rules t (s ∷ slots) q told is form =
    let one = and_parts (are_printed false (s ∷ slots) && begins_word (s ∷ slots)) (nat_le (room (s ∷ slots)) 4096) is in
    let two = and_parts (are_printed false (s ∷ slots)) (begins_word (s ∷ slots)) one.0 in
    let solid = are-solid rules t false (s ∷ slots) told two.0 in
    let short = are-short rules t false (s ∷ slots) told two.0 in
    let fits = leb-true (room (s ∷ slots)) 4096 one.1 in
    asks (joined (map (text_at rules t) (s ∷ slots))) (text_at rules t s) (map (text_at rules t) slots) q refl solid.0 solid.1 (first-byte rules t s slots two.1) (omega (arith, short, fits)) (inl form)

-- ---- lines of rules

rules-ask : (r : ℕ) (rules : List Rule) → IsTyped (AskRadioRules r rules) → IsLineRequest (AskRadioRules r rules) → Asks (line_text (AskRadioRules r rules)) (AskRadioRules r rules)
rules-ask r rules typed line =
    let printed = prints-rules rules line.0 line.1 line.2 in
    let parts = parted true (rules_line rules) printed.tidy in
    let radio = prints-radio r typed.0 in
    let words : List (List ℕ) = codes "rules" ∷ radio_text r ∷ parts.front ∷ parts.words in
    asks (line_text (AskRadioRules r rules)) (codes "radio") words (AskRadioRules r rules)
    (spelled r (rules_line rules) (joined (parts.front ∷ parts.words)) parts.spelled)
    (record { some = omega arith; shown = refl })
    (record { some = omega arith; shown = refl }, (radio.solid, (record { some = parts.some refl; shown = parts.shown }, parts.are)))
    (λ e. absurd (omega arith))
    (length-of r (rules_line rules) radio.short printed.short)
    (inr (record {
      radio = r;
      rest = parts.front ∷ parts.words;
      rules = rules;
      begins = record { word = radio_text r; spelled = refl; number = radio-again r typed.0 };
      some = omega arith;
      are = subst (λ text. AreRulesOfText (32 ∷ text) rules) parts.spelled printed.says;
      asked = refl;
    }))
  where
    spelled : (r : ℕ) (text whole : List ℕ) → text ≡ whole → joined (codes "radio" ∷ codes "rules" ∷ radio_text r ∷ text ∷ []) ≡ codes "radio rules " ++ (radio_text r ++ 32 ∷ whole)
    spelled r text whole e = ap (λ l. codes "radio rules " ++ (radio_text r ++ 32 ∷ l)) (append-none text ∙ e)

    length-of : (r : ℕ) (text : List ℕ) → length (radio_text r) ≤ 20 → length text ≤ 3040 → length (joined (codes "radio" ∷ codes "rules" ∷ radio_text r ∷ text ∷ [])) ≤ MOST_LINE_BYTES
    length-of r text one two =
        let len = length-append (radio_text r) (32 ∷ (text ++ [])) in
        let last = length-append text [] in
        omega (arith, one, two, len, last)

-- ---- each request

without-rules : (q : Request) → GivesNoRules q → IsTyped q → IsLineRequest q → Asks (line_text q) q
without-rules q plain typed line =
    subst (λ l. Asks l q) (sym (slots_joined (printed_rules_of q) (line_told q) (slots (form_of q))))
    (row-asks (printed_rules_of q) (line_told q) (slots (form_of q)) q (can-tell q typed line) (printed-by q plain typed line).printed (asked-again q plain typed line))

pub printed-line-asks : (q : Request) → IsTyped q → IsLineRequest q → Asks (line_text q) q
printed-line-asks (AskAt moment) typed line = without-rules (AskAt moment) tt typed line
printed-line-asks (AskRadioAdd r p) typed line = without-rules (AskRadioAdd r p) tt typed line
printed-line-asks (AskRadioDel r) typed line = without-rules (AskRadioDel r) tt typed line
printed-line-asks (AskRadioRules r rules) typed line = rules-ask r rules typed line
printed-line-asks (AskElement r body) typed line = without-rules (AskElement r body) tt typed line
printed-line-asks (AskDriverHint r a) typed line = without-rules (AskDriverHint r a) tt typed line
printed-line-asks (AskUserHint a) typed line = without-rules (AskUserHint a) tt typed line
printed-line-asks (AskRadar r c) typed line = without-rules (AskRadar r c) tt typed line
printed-line-asks (AskIndoor on) typed line = without-rules (AskIndoor on) tt typed line
printed-line-asks (AskIfaceAdd r name kind) typed line = without-rules (AskIfaceAdd r name kind) tt typed line
printed-line-asks (AskIfaceDel name) typed line = without-rules (AskIfaceDel name) tt typed line
printed-line-asks (AskSetType name kind) typed line = without-rules (AskSetType name kind) tt typed line
printed-line-asks (AskSetPower name s) typed line = without-rules (AskSetPower name s) tt typed line
printed-line-asks (AskStart name kind c) typed line = without-rules (AskStart name kind c) tt typed line
printed-line-asks (AskStop name kind) typed line = without-rules (AskStop name kind) tt typed line
printed-line-asks (AskCheck name c) typed line = without-rules (AskCheck name c) tt typed line
printed-line-asks AskGetReg typed line = without-rules AskGetReg tt typed line
printed-line-asks (AskChannels r) typed line = without-rules (AskChannels r) tt typed line
printed-line-asks (AskRadioInfo r) typed line = without-rules (AskRadioInfo r) tt typed line
printed-line-asks (AskIfaceInfo name) typed line = without-rules (AskIfaceInfo name) tt typed line

pub printed-line-says : (q : Request) → IsTyped q → IsLineRequest q → Says (line_text q) (Ok (Some q))
printed-line-says q typed line = printed-line-asks q typed line

pub printed-line-only : (q : Request) (other : Result (Option Request) LineFault) → IsTyped q → IsLineRequest q → Says (line_text q) other → other ≡ Ok (Some q)
printed-line-only q other typed line says = one_meaning (line_text q) other (Ok (Some q)) says (printed-line-says q typed line)
