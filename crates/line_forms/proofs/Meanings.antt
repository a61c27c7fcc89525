-- Words ask one request.
use Rattle.std.proofs.Common.{◌≡◌, ℕ, inl, inr, List, [], ◌∷◌, drop, get_or, refl, ap, ◌∙◌, sym, subst}
use Rattle.std.specs.List.{AllZip}
use Rattle.std.proofs.lemmas.Option.{same_Some}
use Rattle.freq_range.specs.declared.rule.Rule.{Rule}
use Rattle.text_lines.specs.LineFaults.{IsTextOfRule}
use Rattle.text_lines.proofs.OneRule.{one_rule_only}
use Rattle.reg_journal.specs.declared.request.Request.{Request}
use Rattle.reg_journal.specs.declared.request.Request.TheVariants.{RadioRules}
use Rattle.line_forms.specs.Forms.{AreRulesOfText, FormOf, HasForm, Leads, RulesOf, Spells, request_of, rules_text}
use Rattle.line_forms.specs.Rows.{slots}
use Rattle.line_forms.specs.Spelling.{radio_of_word}
use Rattle.line_forms.specs.Told.{Told, nothing}
use Rattle.line_forms.specs.declared.slot.Slot.{Slot}
use Rattle.line_forms.proofs.Apart.{one-form, rules-apart}
use Rattle.line_forms.proofs.FillsOne.{fills-one}

-- ---- of a form

pub leads-one : (ws : List (List ℕ)) (slots rest rest' : List Slot) (d x y : Told) → Leads ws slots d rest x → Leads ws slots d rest' y → x ≡ y
leads-one [] slots rest rest' d x y h h' = sym h.1 ∙ h'.1
leads-one (w ∷ ws) [] rest rest' d x y h h' = absurd h
leads-one (w ∷ ws) (s ∷ slots) rest rest' d x y (e, fills, leads) (e', fills', leads') =
    let same : e' ≡ e = fills-one s d w e' e fills' fills in
    leads-one ws slots rest rest' e x y leads (subst (λ t. Leads ws slots t rest' y) same leads')

one-asked : (ws : List (List ℕ)) (q other : Request) → FormOf ws q → FormOf ws other → q ≡ other
one-asked ws q other h h' =
    let form : h.form ≡ h'.form = one-form h.form h'.form ws h.told h'.told h.tells h'.tells in
    let told : h.told ≡ h'.told = leads-one ws (slots h'.form) [] [] nothing h.told h'.told (subst (λ f. HasForm ws f h.told) form h.tells) h'.tells in
    h.asked ∙ ap (λ f. request_of f h.told) form ∙ ap (λ t. request_of h'.form t) told ∙ sym h'.asked

-- ---- of rules

rules-one : (parts : List (List ℕ)) (rules others : List Rule) → AllZip IsTextOfRule parts rules → AllZip IsTextOfRule parts others → rules ≡ others
rules-one [] [] [] h h' = refl
rules-one [] [] (r ∷ rs) h h' = absurd h'
rules-one [] (r ∷ rs) others h h' = absurd h
rules-one (p ∷ parts) [] others h h' = absurd h
rules-one (p ∷ parts) (r ∷ rs) [] h h' = absurd h'
rules-one (p ∷ parts) (r ∷ rs) (o ∷ os) (is, rest) (is', rest') = ap (λ x. x ∷ rs) (one_rule_only p r o is is') ∙ ap (λ l. o ∷ l) (rules-one parts rs os rest rest')

behind-one : (u u' v v' w w' : List ℕ) (rest rest' : List (List ℕ)) → u ∷ v ∷ w ∷ rest ≡ u' ∷ v' ∷ w' ∷ rest' → (w ≡ w') × (rest ≡ rest')
behind-one u u' v v' w w' rest rest' e = (ap (λ l. get_or l 2 w) e, ap (λ l. drop 3 l) e)

one-rules : (ws : List (List ℕ)) (q other : Request) → RulesOf ws q → RulesOf ws other → q ≡ other
one-rules ws q other h h' =
    let p = behind-one _ _ _ _ h.begins.word h'.begins.word h.rest h'.rest (sym h.begins.spelled ∙ h'.begins.spelled) in
    let radio : h.radio ≡ h'.radio = same_Some h.radio h'.radio (sym h.begins.number ∙ ap radio_of_word p.0 ∙ h'.begins.number) in
    let are = subst (λ r. AreRulesOfText (rules_text r) h.rules) p.1 h.are in
    let rules : h.rules ≡ h'.rules = rules-one _ h.rules h'.rules are.each h'.are.each in
    h.asked ∙ ap (λ r. RadioRules r h.rules) radio ∙ ap (λ rs. RadioRules h'.radio rs) rules ∙ sym h'.asked

pub one-request : (ws : List (List ℕ)) (q other : Request) → Spells ws q → Spells ws other → q ≡ other
one-request ws q other (inl h) (inl h') = one-asked ws q other h h'
one-request ws q other (inl h) (inr h') = absurd (rules-apart h.form ws h.told h'.radio h'.rest h'.some h'.begins h.tells)
one-request ws q other (inr h) (inl h') = absurd (rules-apart h'.form ws h'.told h.radio h.rest h.some h.begins h'.tells)
one-request ws q other (inr h) (inr h') = one-rules ws q other h h'
