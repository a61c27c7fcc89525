-- No line has two forms.
use Rattle.std.proofs.Common.{◌≡◌, ℕ, ◌<◌, zero, suc, ◌⊎◌, inl, inr, Bool, true, false, ◌&&◌, ◌||◌, List, [], ◌∷◌, length, get_or, map, Contains, Option, Some, None, refl, ap, ◌∙◌, sym, subst, arith}
use Rattle.std.specs.Prelude.{codes, not, nat_lt, ◌^◌}
use Rattle.std.specs.Char.{is_ascii_digit}
use Rattle.std.specs.List.{list_all}
use Rattle.std.specs.Str.{all_ascii_digits}
use Rattle.std.specs.Str.Parse.{digits_value}
use Rattle.std.proofs.lemmas.Option.{cond_some, same_Some}
use Rattle.std.proofs.lemmas.Bool.{and_parts, cases_lt, ltb-true}
use Rattle.std.proofs.lemmas.List.{get_or-map, get_or_default, length-map}
use Rattle.std.proofs.lemmas.Slice.Eq.{bytes_eq-Decides}
use Rattle.reg_base.specs.Texts.{same_bytes}
use Rattle.line_forms.specs.Forms.{BeginsRules, HasForm, Leads}
use Rattle.line_forms.specs.Rows.{slots}
use Rattle.line_forms.specs.Slots.{Fills, IsPeriod, fixed_text}
use Rattle.line_forms.specs.Spelling.{begins_number, between, is_iw_word, number_of_word, number_within}
use Rattle.line_forms.specs.Told.{Told, nothing}
use Rattle.line_forms.specs.declared.form.Form.{Form}
use Rattle.line_forms.specs.declared.form.Extra.TheVariants.{Neither, OnlySelf, OnlyDeaf, Both}
use Rattle.line_forms.specs.declared.form.Freq.TheVariants.{Alone, ByWord, Twenty as ByTwenty, Block}
use Rattle.line_forms.specs.declared.form.Form.TheVariants.{At, RadioAdd, RadioDel, RadioRules, Element, DriverHint, Radar, IndoorOn, IndoorOff, GetReg, UserHint, RadioInfo, ChannelsOf, IfaceAdd, IfaceInfo, IfaceDel, SetType, SetFreq, SetChannel, PowerAuto, PowerLimit, PowerFixed, CheckFreq, CheckChannel, ApStart, ApStartHead, ApStop, IbssJoin, IbssLeave, MeshJoin, MeshLeave, Connect, Disconnect}
use Rattle.line_forms.specs.declared.slot.Slot.{Slot}
use Rattle.line_forms.specs.declared.slot.Slot.TheVariants.{Fixed, Rules, Twenty, WordForm, Interval}
use Rattle.line_forms.specs.declared.table.TheConstants.{FORMS}
use Rattle.line_forms.proofs.NamedChannels.{named-is_word}
use Rattle.line_forms.proofs.Steps.{bind_some}

-- ---- slots that share against word

-- a digit stands first
abbrev digit_first : List ℕ → Bool
digit_first [] = false
digit_first (b ∷ bs) = is_ascii_digit b

digits-first : (ds : List ℕ) (n : ℕ) → number_of_word ds ≡ Some n → digit_first ds ≡ true
unfolding number_of_word
digits-first [] n e = absurd cc
digits-first (d ∷ ds) n e =
    let t = cond_some (all_ascii_digits (d ∷ ds) && begins_number (d ∷ ds) && nat_lt (digits_value 10 (d ∷ ds)) (2 ^ 64)) (digits_value 10 (d ∷ ds)) n e in
    let p = and_parts (all_ascii_digits (d ∷ ds) && begins_number (d ∷ ds)) (nat_lt (digits_value 10 (d ∷ ds)) (2 ^ 64)) t.0 in
    let q = and_parts (all_ascii_digits (d ∷ ds)) (begins_number (d ∷ ds)) p.0 in
    (and_parts (is_ascii_digit d) (all_ascii_digits ds) q.0).0

period-digit : (w : List ℕ) → IsPeriod w → digit_first w ≡ true
unfolding number_within
period-digit w (n, e) = let number = bind_some (number_of_word w) (λ m. between 1 65535 m) n e in digits-first w number.0 number.1

-- the one word that a slot takes
abbrev the_text : Slot → Option (List ℕ)
the_text (Fixed word) = Some (fixed_text word)
the_text Twenty = Some (codes "20")
the_text s = None

-- a slot that can't take this word
abbrev refuses : Slot → List ℕ → Bool
refuses WordForm w = not (is_iw_word w)
refuses Interval w = not (digit_first w)
refuses Rules w = true
refuses s w = false

abbrev refuses_text : Slot → Option (List ℕ) → Bool
refuses_text s None = false
refuses_text s (Some w) = refuses s w

abbrev differ : Option (List ℕ) → Option (List ℕ) → Bool
differ (Some v) (Some w) = not (same_bytes v w)
differ (Some v) None = false
differ None o = false

abbrev slots_apart : Slot → Slot → Bool
slots_apart s t = differ (the_text s) (the_text t) || refuses_text s (the_text t) || refuses_text t (the_text s)

-- lists of slots that share against line: they are of different lengths, or share against word at some place
abbrev pub apart : List Slot → List Slot → Bool
apart [] [] = false
apart [] (t ∷ ts) = true
apart (s ∷ ss) [] = true
apart (s ∷ ss) (t ∷ ts) = slots_apart s t || apart ss ts

text-is : (s : Slot) (v : List ℕ) (d : Told) (w : List ℕ) (e : Told) → the_text s ≡ Some v → Fills s d w e → w ≡ v
text-is (Fixed word) v d w e is h = h.0 ∙ same_Some (fixed_text word) v is
text-is Twenty v d w e is (x, h, told) = h.0 ∙ same_Some (codes "20") v is
text-is s v d w e is h = absurd cc

not-false : (b : Bool) → not b ≡ true → b ≡ true → ⊥
not-false true h is = absurd cc
not-false false h is = absurd cc

refused : (s : Slot) (d : Told) (w : List ℕ) (e : Told) → refuses s w ≡ true → Fills s d w e → ⊥
refused WordForm d w e against (x, h, told) = not-false (is_iw_word w) against (named-is_word d.chan.control_khz w x h.named)
refused Interval d w e against h = not-false (digit_first w) against (period-digit w h.0)
refused Rules d w e against h = h
refused s d w e against h = absurd cc

refused-text : (s : Slot) (o : Option (List ℕ)) (d : Told) (w : List ℕ) (e : Told) → refuses_text s o ≡ true → ((v : List ℕ) → o ≡ Some v → w ≡ v) → Fills s d w e → ⊥
refused-text s None d w e against is h = absurd cc
refused-text s (Some v) d w e against is h = refused s d w e (subst (λ u. refuses s u ≡ true) (sym (is v refl)) against) h

same-text : (v w : List ℕ) → not (same_bytes v w) ≡ true → v ≡ w → ⊥
same-text v w against same = not-false (same_bytes v w) against ((bytes_eq-Decides v w).1 same)

differing : (o p : Option (List ℕ)) (w : List ℕ) → differ o p ≡ true → ((v : List ℕ) → o ≡ Some v → w ≡ v) → ((v : List ℕ) → p ≡ Some v → w ≡ v) → ⊥
differing (Some v) (Some u) w against one two = same-text v u against (sym (one v refl) ∙ two u refl)
differing (Some v) None w against one two = absurd cc
differing None p w against one two = absurd cc

either : (a b : Bool) → (a || b) ≡ true → (a ≡ true) ⊎ (b ≡ true)
either true b h = inl refl
either false b h = inr h

slots-apart : (s t : Slot) (d d' : Told) (w : List ℕ) (e e' : Told) → slots_apart s t ≡ true → Fills s d w e → Fills t d' w e' → ⊥
slots-apart s t d d' w e e' against h h' = on (either (differ (the_text s) (the_text t) || refuses_text s (the_text t)) (refuses_text t (the_text s)) against)
  where
    one : (v : List ℕ) → the_text s ≡ Some v → w ≡ v
    one v is = text-is s v d w e is h

    two : (v : List ℕ) → the_text t ≡ Some v → w ≡ v
    two v is = text-is t v d' w e' is h'

    within : (differ (the_text s) (the_text t) ≡ true) ⊎ (refuses_text s (the_text t) ≡ true) → ⊥
    within (inl a) = differing (the_text s) (the_text t) w a one two
    within (inr b) = refused-text s (the_text t) d w e b two h

    on : ((differ (the_text s) (the_text t) || refuses_text s (the_text t)) ≡ true) ⊎ (refuses_text t (the_text s) ≡ true) → ⊥
    on (inl a) = within (either (differ (the_text s) (the_text t)) (refuses_text s (the_text t)) a)
    on (inr b) = refused-text t (the_text s) d' w e' b one h'

apart-by : (a b : Bool) → (a || b) ≡ true → (a ≡ true → ⊥) → (b ≡ true → ⊥) → ⊥
apart-by true b h one two = one refl
apart-by false b h one two = two h

pub lists-apart : (ss ts : List Slot) (d d' : Told) (ws : List (List ℕ)) (x y : Told) → apart ss ts ≡ true → Leads ws ss d [] x → Leads ws ts d' [] y → ⊥
lists-apart [] [] d d' ws x y against h h' = absurd cc
lists-apart [] (t ∷ ts) d d' [] x y against h h' = absurd cc
lists-apart [] (t ∷ ts) d d' (w ∷ ws) x y against h h' = h
lists-apart (s ∷ ss) [] d d' [] x y against h h' = absurd cc
lists-apart (s ∷ ss) [] d d' (w ∷ ws) x y against h h' = h'
lists-apart (s ∷ ss) (t ∷ ts) d d' [] x y against h h' = absurd cc
lists-apart (s ∷ ss) (t ∷ ts) d d' (w ∷ ws) x y against (e, fills, leads) (e', fills', leads') =
    apart-by (slots_apart s t) (apart ss ts) against (λ a. slots-apart s t d d' w e e' a fills fills') (λ b. lists-apart ss ts e e' ws x y b leads leads')

-- ---- the table

abbrev all_apart : List (List Slot) → Bool
all_apart [] = true
all_apart (ss ∷ rows) = list_all (apart ss) rows && all_apart rows

table-apart : all_apart (map slots FORMS) ≡ true
unfolding is_iw_word
table-apart = refl

all-at : (p : List Slot → Bool) (rows : List (List Slot)) (k : ℕ) (d : List Slot) → list_all p rows ≡ true → k < length rows → p (get_or rows k d) ≡ true
all-at p [] k d h lt = absurd (omega arith)
all-at p (r ∷ rows) zero d h lt = (and_parts (p r) (list_all p rows) h).0
all-at p (r ∷ rows) (suc k) d h lt = all-at p rows k d (and_parts (p r) (list_all p rows) h).1 (omega arith)

apart-at : (rows : List (List Slot)) (j k : ℕ) (d e : List Slot) → all_apart rows ≡ true → j < k → k < length rows → apart (get_or rows j d) (get_or rows k e) ≡ true
apart-at [] j k d e h lt in_range = absurd (omega arith)
apart-at (r ∷ rows) zero zero d e h lt in_range = absurd (omega arith)
apart-at (r ∷ rows) zero (suc k) d e h lt in_range = all-at (apart r) rows k e (and_parts (list_all (apart r) rows) (all_apart rows) h).0 (omega arith)
apart-at (r ∷ rows) (suc j) zero d e h lt in_range = absurd (omega arith)
apart-at (r ∷ rows) (suc j) (suc k) d e h lt in_range = apart-at rows j k d e (and_parts (list_all (apart r) rows) (all_apart rows) h).1 (omega arith) (omega arith)

-- each form is in the table
pub listed : (form : Form) → Contains FORMS form
listed At = (0, omega arith, refl)
listed (RadioAdd Neither) = (1, omega arith, refl)
listed (RadioAdd OnlySelf) = (2, omega arith, refl)
listed (RadioAdd OnlyDeaf) = (3, omega arith, refl)
listed (RadioAdd Both) = (4, omega arith, refl)
listed RadioDel = (5, omega arith, refl)
listed RadioRules = (6, omega arith, refl)
listed Element = (7, omega arith, refl)
listed DriverHint = (8, omega arith, refl)
listed (Radar Alone) = (9, omega arith, refl)
listed (Radar ByWord) = (10, omega arith, refl)
listed (Radar ByTwenty) = (11, omega arith, refl)
listed (Radar Block) = (12, omega arith, refl)
listed IndoorOn = (13, omega arith, refl)
listed IndoorOff = (14, omega arith, refl)
listed GetReg = (15, omega arith, refl)
listed UserHint = (16, omega arith, refl)
listed RadioInfo = (17, omega arith, refl)
listed ChannelsOf = (18, omega arith, refl)
listed IfaceAdd = (19, omega arith, refl)
listed IfaceInfo = (20, omega arith, refl)
listed IfaceDel = (21, omega arith, refl)
listed SetType = (22, omega arith, refl)
listed (SetFreq Alone) = (23, omega arith, refl)
listed (SetFreq ByWord) = (24, omega arith, refl)
listed (SetFreq ByTwenty) = (25, omega arith, refl)
listed (SetFreq Block) = (26, omega arith, refl)
listed (SetChannel Alone) = (27, omega arith, refl)
listed (SetChannel ByWord) = (28, omega arith, refl)
listed (SetChannel ByTwenty) = (29, omega arith, refl)
listed (SetChannel Block) = (30, omega arith, refl)
listed PowerAuto = (31, omega arith, refl)
listed PowerLimit = (32, omega arith, refl)
listed PowerFixed = (33, omega arith, refl)
listed (CheckFreq Alone) = (34, omega arith, refl)
listed (CheckFreq ByWord) = (35, omega arith, refl)
listed (CheckFreq ByTwenty) = (36, omega arith, refl)
listed (CheckFreq Block) = (37, omega arith, refl)
listed (CheckChannel Alone) = (38, omega arith, refl)
listed (CheckChannel ByWord) = (39, omega arith, refl)
listed (CheckChannel ByTwenty) = (40, omega arith, refl)
listed (CheckChannel Block) = (41, omega arith, refl)
listed (ApStart Alone) = (42, omega arith, refl)
listed (ApStart ByWord) = (43, omega arith, refl)
listed (ApStart ByTwenty) = (44, omega arith, refl)
listed (ApStart Block) = (45, omega arith, refl)
listed (ApStartHead Alone) = (46, omega arith, refl)
listed (ApStartHead ByWord) = (47, omega arith, refl)
listed (ApStartHead ByTwenty) = (48, omega arith, refl)
listed (ApStartHead Block) = (49, omega arith, refl)
listed ApStop = (50, omega arith, refl)
listed (IbssJoin Alone) = (51, omega arith, refl)
listed (IbssJoin ByWord) = (52, omega arith, refl)
listed (IbssJoin ByTwenty) = (53, omega arith, refl)
listed (IbssJoin Block) = (54, omega arith, refl)
listed IbssLeave = (55, omega arith, refl)
listed (MeshJoin Alone) = (56, omega arith, refl)
listed (MeshJoin ByWord) = (57, omega arith, refl)
listed (MeshJoin ByTwenty) = (58, omega arith, refl)
listed (MeshJoin Block) = (59, omega arith, refl)
listed MeshLeave = (60, omega arith, refl)
listed Connect = (61, omega arith, refl)
listed Disconnect = (62, omega arith, refl)

row-at : (form : Form) (has : Contains FORMS form) → get_or (map slots FORMS) has.0 (slots form) ≡ slots form
row-at form has = get_or-map slots FORMS has.0 form (slots form) has.1 ∙ ap slots has.2

forms-apart : (f g : Form) (ws : List (List ℕ)) (x y : Told) (one : Contains FORMS f) (two : Contains FORMS g) → one.0 < two.0 → HasForm ws f x → HasForm ws g y → ⊥
forms-apart f g ws x y one two lt h h' =
    let far = apart-at (map slots FORMS) one.0 two.0 (slots f) (slots g) table-apart lt (subst (λ n. two.0 < n) (sym (length-map FORMS slots)) two.1) in
    let against : apart (slots f) (slots g) ≡ true = subst (λ l. apart (slots f) l ≡ true) (row-at g two) (subst (λ l. apart l (get_or (map slots FORMS) two.0 (slots g)) ≡ true) (row-at f one) far) in
    lists-apart (slots f) (slots g) nothing nothing ws x y against h h'

same-place : (f g : Form) (one : Contains FORMS f) (two : Contains FORMS g) → one.0 ≡ two.0 → f ≡ g
same-place f g one two same =
    sym one.2 ∙ get_or_default FORMS one.0 f g one.1 ∙ ap (λ k. get_or FORMS k g) same ∙ two.2

pub one-form : (f g : Form) (ws : List (List ℕ)) (x y : Told) → HasForm ws f x → HasForm ws g y → f ≡ g
one-form f g ws x y h h' = on (listed f) (listed g)
  where
    on : Contains FORMS f → Contains FORMS g → f ≡ g
    on one two = elim (cases_lt one.0 two.0) [
      | inl below ↦ absurd (forms-apart f g ws x y one two below h h')
      | inr above ↦ elim (cases_lt two.0 one.0) [
        | inl under ↦ absurd (forms-apart g f ws y x two one under h' h)
        | inr over ↦ same-place f g one two (omega arith)
      ]
    ]

-- each form has fewer than 16 words
abbrev is_short : List Slot → Bool
is_short row = nat_lt (length row) 16

table-short : list_all is_short (map slots FORMS) ≡ true
table-short = refl

pub row-short : (form : Form) → length (slots form) < 16
row-short form =
    let one = listed form in
    let far = all-at is_short (map slots FORMS) one.0 (slots form) table-short (subst (λ n. one.0 < n) (sym (length-map FORMS slots)) one.1) in
    ltb-true (length (slots form)) 16 (subst (λ l. is_short l ≡ true) (row-at form one) far)

-- ---- lines of rules

-- the first two slots can't take `radio rules`
abbrev begins_apart : List Slot → Bool
begins_apart (s ∷ t ∷ ss) = differ (the_text s) (Some (codes "radio")) || differ (the_text t) (Some (codes "rules"))
begins_apart ss = false

abbrev takes_rules : Slot → Bool
takes_rules Rules = true
takes_rules s = false

abbrev rules_fourth : List Slot → Bool
rules_fourth (a ∷ b ∷ c ∷ s ∷ ss) = takes_rules s
rules_fourth ss = false

abbrev no_rules : List Slot → Bool
no_rules ss = begins_apart ss || rules_fourth ss

table-no_rules : list_all no_rules (map slots FORMS) ≡ true
table-no_rules = refl

never-rules : (s : Slot) (d : Told) (w : List ℕ) (e : Told) → takes_rules s ≡ true → Fills s d w e → ⊥
never-rules Rules d w e is h = h
never-rules s d w e is h = absurd cc

row-begins : (ss : List Slot) (d x : Told) (ws : List (List ℕ)) → begins_apart ss ≡ true → Leads (codes "radio" ∷ codes "rules" ∷ ws) ss d [] x → ⊥
row-begins [] d x ws against h = absurd cc
row-begins (s ∷ []) d x ws against h = absurd cc
row-begins (s ∷ t ∷ ss) d x ws against (e, fills, (e', fills', leads)) = on (either (differ (the_text s) (Some (codes "radio"))) (differ (the_text t) (Some (codes "rules"))) against)
  where
    on : (differ (the_text s) (Some (codes "radio")) ≡ true) ⊎ (differ (the_text t) (Some (codes "rules")) ≡ true) → ⊥
    on (inl a) = differing (the_text s) (Some (codes "radio")) (codes "radio") a (λ v is. text-is s v d (codes "radio") e is fills) (λ v is. same_Some (codes "radio") v is)
    on (inr b) = differing (the_text t) (Some (codes "rules")) (codes "rules") b (λ v is. text-is t v e (codes "rules") e' is fills') (λ v is. same_Some (codes "rules") v is)

row-fourth : (ss : List Slot) (d x : Told) (u v w r : List ℕ) (ws : List (List ℕ)) → rules_fourth ss ≡ true → Leads (u ∷ v ∷ w ∷ r ∷ ws) ss d [] x → ⊥
row-fourth [] d x u v w r ws against h = absurd cc
row-fourth (a ∷ []) d x u v w r ws against h = absurd cc
row-fourth (a ∷ b ∷ []) d x u v w r ws against h = absurd cc
row-fourth (a ∷ b ∷ c ∷ []) d x u v w r ws against h = absurd cc
row-fourth (a ∷ b ∷ c ∷ s ∷ ss) d x u v w r ws against (e, f, (e', f', (e'', f'', (e''', f''', leads)))) = never-rules s e'' r e''' against f'''

row-rules : (ss : List Slot) (x : Told) (w : List ℕ) (rest : List (List ℕ)) → 0 < length rest → no_rules ss ≡ true → Leads (codes "radio" ∷ codes "rules" ∷ w ∷ rest) ss nothing [] x → ⊥
row-rules ss x w [] some against h = absurd (omega arith)
row-rules ss x w (r ∷ ws) some against h = on (either (begins_apart ss) (rules_fourth ss) against)
  where
    on : (begins_apart ss ≡ true) ⊎ (rules_fourth ss ≡ true) → ⊥
    on (inl a) = row-begins ss nothing x (w ∷ r ∷ ws) a h
    on (inr b) = row-fourth ss nothing x (codes "radio") (codes "rules") w r ws b h

-- words of `radio rules`, a radio and more have against form of the table
pub rules-apart : (f : Form) (ws : List (List ℕ)) (x : Told) (radio : ℕ) (rest : List (List ℕ)) → 0 < length rest → BeginsRules ws radio rest → HasForm ws f x → ⊥
rules-apart f ws x radio rest some begins h =
    let one = listed f in
    let far = all-at no_rules (map slots FORMS) one.0 (slots f) table-no_rules (subst (λ n. one.0 < n) (sym (length-map FORMS slots)) one.1) in
    let against : no_rules (slots f) ≡ true = subst (λ l. no_rules l ≡ true) (row-at f one) far in
    row-rules (slots f) x begins.word rest some against (subst (λ us. HasForm us f x) begins.spelled h)
