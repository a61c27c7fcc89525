-- How far words go along slots, and which words lead along them.
use Rattle.std.proofs.Common.{◌≡◌, ◌≢◌, ℕ, ◌+◌, ◌<◌, ◌≤◌, zero, suc, inl, inr, List, [], ◌∷◌, length, get_or, take, drop, Some, None, refl, ap, ◌∙◌, sym, subst, arith}
use Rattle.std.proofs.lemmas.List.{drop_all, drop_more}
use Rattle.std.proofs.lemmas.Option.{some_pair_parts}
use Rattle.line_forms.specs.Forms.{Leads}
use Rattle.line_forms.specs.Slots.{Fills}
use Rattle.line_forms.specs.Told.{Told, nothing}
use Rattle.line_forms.specs.inner.Cursor.{next_word}
use Rattle.line_forms.specs.inner.Walking.{StopsAlong, blame_of}
use Rattle.line_forms.specs.declared.slot.Slot.TheVariants.{Moment}
use Rattle.line_forms.specs.declared.slot.Slot.{Slot}
use Rattle.line_forms.specs.declared.walker.Blame.{Blame}
use Rattle.line_forms.specs.declared.walker.Blame.TheVariants.{NoWord}
use Rattle.line_forms.specs.declared.walker.End.{End}
use Rattle.line_forms.specs.declared.walker.End.TheVariants.{Whole, Short, Bad}
use Rattle.line_forms.proofs.FillsOne.{fills-one}

-- ---- words that lead along slots

-- behind so many words so many slots are left
pub leads-drop : (ws : List (List ℕ)) (slots rest : List Slot) (d e : Told) → Leads ws slots d rest e → rest ≡ drop (length ws) slots
leads-drop [] slots rest d e h = sym h.0
leads-drop (w ∷ ws) [] rest d e h = absurd h
leads-drop (w ∷ ws) (s ∷ slots) rest d e (next, fills, leads) = leads-drop ws slots rest next e leads

-- what leads along slots, leads along them with its first words
pub leads-front : (j : ℕ) (ws : List (List ℕ)) (slots rest : List Slot) (d e : Told) → Leads ws slots d rest e → (x : Told) × Leads (take j ws) slots d (drop (length (take j ws)) slots) x
leads-front zero ws slots rest d e h = (d, (refl, refl))
leads-front (suc j) [] slots rest d e h = (d, (refl, refl))
leads-front (suc j) (w ∷ ws) [] rest d e h = absurd h
leads-front (suc j) (w ∷ ws) (s ∷ slots) rest d e (next, fills, leads) =
    let more = leads-front j ws slots rest next e leads in
    (more.0, (next, fills, more.1))

-- words and slots that lead to the end are as many
pub leads-length : (ws : List (List ℕ)) (slots : List Slot) (d e : Told) → Leads ws slots d [] e → length ws ≡ length slots
leads-length [] [] d e h = refl
leads-length [] (s ∷ slots) d e h = absurd cc
leads-length (w ∷ ws) [] d e h = absurd h
leads-length (w ∷ ws) (s ∷ slots) d e (next, fills, leads) = ap suc (leads-length ws slots next e leads)

-- ---- where a walk stops

-- the words that stand at their slots lead along them
pub stops-begin : (slots : List Slot) (d : Told) (ws : List (List ℕ)) (k : ℕ) (end : End) (e : Told) (j : ℕ) → StopsAlong slots d ws k end e → j ≤ k → (x : Told) × Leads (take j ws) slots d (drop j slots) x
stops-begin slots d ws k end e zero h le = (d, (refl, refl))
stops-begin [] d [] k end e (suc j) h le = let none = h.0 in absurd (omega arith)
stops-begin [] d (w ∷ ws) k end e (suc j) h le = let none = h.0 in absurd (omega arith)
stops-begin (s ∷ slots) d [] k end e (suc j) h le = let none = h.0 in absurd (omega arith)
stops-begin (s ∷ slots) d (w ∷ ws) k end e (suc j) (inl h) le = let none = h.0 in absurd (omega arith)
stops-begin (s ∷ slots) d (w ∷ ws) k end e (suc j) (inr (next, rest, is, fills, stops)) le =
    let more = stops-begin slots next ws rest end e j stops (omega arith) in
    (more.0, (next, fills, more.1))

-- no more words than stand at their slots lead along them
pub stops-most : (slots : List Slot) (d : Told) (ws : List (List ℕ)) (k : ℕ) (end : End) (e : Told) (j : ℕ) (rest : List Slot) (x : Told)
    → StopsAlong slots d ws k end e → j ≤ length ws → Leads (take j ws) slots d rest x → j ≤ k
stops-most slots d ws k end e zero rest x h le leads = omega arith
stops-most slots d [] k end e (suc j) rest x h le leads = absurd (omega arith)
stops-most [] d (w ∷ ws) k end e (suc j) rest x h le leads = absurd leads
stops-most (s ∷ slots) d (w ∷ ws) k end e (suc j) rest x (inl h) le (next, fills, leads) = absurd (h.2 next fills)
stops-most (s ∷ slots) d (w ∷ ws) k end e (suc j) rest x (inr (next, m, is, fills, stops)) le (next', fills', leads) =
    let same : next' ≡ next = fills-one s d w next' next fills' fills in
    let few = stops-most slots next ws m end e j rest x stops (omega arith) (subst (λ t. Leads (take j ws) slots t rest x) same leads) in
    omega arith

-- a walk to the end leads along all slots
pub stops-whole : (slots : List Slot) (d : Told) (ws : List (List ℕ)) (k : ℕ) (e : Told) → StopsAlong slots d ws k Whole e → Leads ws slots d [] e
stops-whole [] d [] k e h = (refl, sym h.2)
stops-whole [] d (w ∷ ws) k e h = let differs = h.1 in absurd cc
stops-whole (s ∷ slots) d [] k e h = let differs = h.1 in absurd cc
stops-whole (s ∷ slots) d (w ∷ ws) k e (inl h) = let differs = h.1 in absurd cc
stops-whole (s ∷ slots) d (w ∷ ws) k e (inr (next, m, is, fills, stops)) = (next, fills, stops-whole slots next ws m e stops)

-- where a walk ends otherwise, the words don't lead along all slots
pub stops-unfit : (slots : List Slot) (d : Told) (ws : List (List ℕ)) (k : ℕ) (end : End) (e x : Told) → StopsAlong slots d ws k end e → end ≢ Whole → Leads ws slots d [] x → ⊥
stops-unfit [] d [] k end e x h unfit leads = unfit h.1
stops-unfit [] d (w ∷ ws) k end e x h unfit leads = leads
stops-unfit (s ∷ slots) d [] k end e x h unfit leads = absurd cc
stops-unfit (s ∷ slots) d (w ∷ ws) k end e x (inl h) unfit (next, fills, leads) = h.2 next fills
stops-unfit (s ∷ slots) d (w ∷ ws) k end e x (inr (next, m, is, fills, stops)) unfit (next', fills', leads) =
    let same : next' ≡ next = fills-one s d w next' next fills' fills in
    stops-unfit slots next ws m end e x stops unfit (subst (λ t. Leads ws slots t [] x) same leads)

pub head-one : {A : Type 0} (x y : A) (xs ys : List A) → x ∷ xs ≡ y ∷ ys → x ≡ y
head-one x y xs ys e = ap (λ zs. get_or zs 0 x) e

-- the slot and the word at the stop say why
pub stops-blame : (slots : List Slot) (d : Told) (ws : List (List ℕ)) (k : ℕ) (end : End) (e : Told) (s : Slot) (rest : List Slot) (w : List ℕ) (behind : List (List ℕ))
    → StopsAlong slots d ws k end e → drop k slots ≡ s ∷ rest → drop k ws ≡ w ∷ behind → end ≡ Bad (blame_of s w)
stops-blame [] d ws zero end e s rest w behind h at here = absurd cc
stops-blame [] d ws (suc k) end e s rest w behind h at here = absurd cc
stops-blame (t ∷ slots) d [] zero end e s rest w behind h at here = absurd cc
stops-blame (t ∷ slots) d [] (suc k) end e s rest w behind h at here = absurd cc
stops-blame (t ∷ slots) d (v ∷ ws) zero end e s rest w behind (inl h) at here =
    h.1 ∙ ap (λ u. Bad (blame_of u v)) (head-one t s slots rest at) ∙ ap (λ u. Bad (blame_of s u)) (head-one v w ws behind here)
stops-blame (t ∷ slots) d (v ∷ ws) zero end e s rest w behind (inr (next, m, is, fills, stops)) at here = absurd (omega arith)
stops-blame (t ∷ slots) d (v ∷ ws) (suc k) end e s rest w behind (inl h) at here = let none = h.0 in absurd (omega arith)
stops-blame (t ∷ slots) d (v ∷ ws) (suc k) end e s rest w behind (inr (next, m, is, fills, stops)) at here =
    let same : m ≡ k = omega arith in
    stops-blame slots next ws k end e s rest w behind (subst (λ n. StopsAlong slots next ws n end e) same stops) at here

-- behind all slots no word can stand
pub stops-behind : (slots : List Slot) (d : Told) (ws : List (List ℕ)) (k : ℕ) (b : Blame) (e : Told) → StopsAlong slots d ws k (Bad b) e → drop k slots ≡ [] → b ≡ NoWord
stops-behind [] d [] k b e h at = let differs = h.1 in absurd cc
stops-behind [] d (w ∷ ws) k b e h at = let same = h.1 in cc
stops-behind (s ∷ slots) d [] k b e h at = let differs = h.1 in absurd cc
stops-behind (s ∷ slots) d (w ∷ ws) zero b e h at = absurd cc
stops-behind (s ∷ slots) d (w ∷ ws) (suc k) b e (inl h) at = let none = h.0 in absurd (omega arith)
stops-behind (s ∷ slots) d (w ∷ ws) (suc k) b e (inr (next, m, is, fills, stops)) at =
    let same : m ≡ k = omega arith in
    stops-behind slots next ws k b e (subst (λ n. StopsAlong slots next ws n (Bad b) e) same stops) at

-- a word stands where a walk ends at one
pub stops-word : (slots : List Slot) (d : Told) (ws : List (List ℕ)) (k : ℕ) (b : Blame) (e : Told) → StopsAlong slots d ws k (Bad b) e → (w : List ℕ) × (behind : List (List ℕ)) × (drop k ws ≡ w ∷ behind)
stops-word [] d [] k b e h = let differs = h.1 in absurd cc
stops-word [] d (w ∷ ws) k b e h = (w, ws, ap (λ n. drop n (w ∷ ws)) h.0)
stops-word (s ∷ slots) d [] k b e h = let differs = h.1 in absurd cc
stops-word (s ∷ slots) d (w ∷ ws) k b e (inl h) = (w, ws, ap (λ n. drop n (w ∷ ws)) h.0)
stops-word (s ∷ slots) d (w ∷ ws) k b e (inr (next, m, is, fills, stops)) =
    let more = stops-word slots next ws m b e stops in
    (more.0, more.1, ap (λ n. drop n (w ∷ ws)) (is ∙ add-one m) ∙ more.2)
  where
    add-one : (n : ℕ) → n + 1 ≡ suc n
    add-one n = omega arith

-- where the words are too few, all stand at their slots
pub stops-short : (slots : List Slot) (d : Told) (ws : List (List ℕ)) (k : ℕ) (e : Told) → StopsAlong slots d ws k Short e → k ≡ length ws
stops-short [] d [] k e h = let differs = h.1 in absurd cc
stops-short [] d (w ∷ ws) k e h = let differs = h.1 in absurd cc
stops-short (s ∷ slots) d [] k e h = h.0
stops-short (s ∷ slots) d (w ∷ ws) k e (inl h) = let differs = h.1 in absurd cc
stops-short (s ∷ slots) d (w ∷ ws) k e (inr (next, m, is, fills, stops)) = let rest = stops-short slots next ws m e stops in omega arith

-- ---- the loop of a walk

-- with no word left, and slots left
pub walk-short : (slots : List Slot) (i : ℕ) (d : Told) (ws : List (List ℕ)) → i < length slots → next_word ws ≡ None → StopsAlong (drop i slots) d ws 0 Short d
walk-short slots i d [] lt e = subst (λ l. StopsAlong l d [] 0 Short d) (sym (drop_more slots i Moment lt)) (refl, refl)
walk-short slots i d (w ∷ ws) lt e = absurd cc

-- with a word that can't stand at the next slot
pub walk-bad : (slots : List Slot) (i : ℕ) (s : Slot) (d : Told) (ws rest : List (List ℕ)) (w : List ℕ) → i < length slots → next_word ws ≡ Some (w, rest)
    → ((next : Told) → Fills (get_or slots i s) d w next → ⊥) → StopsAlong (drop i slots) d ws 0 (Bad (blame_of (get_or slots i s) w)) d
walk-bad slots i s d [] rest w lt e none = absurd cc
walk-bad slots i s d (v ∷ ws) rest w lt e none =
    let same : v ≡ w = (some_pair_parts v w ws rest e).0 in
    subst (λ l. StopsAlong l d (v ∷ ws) 0 (Bad (blame_of (get_or slots i s) w)) d) (sym (drop_more slots i s lt))
    (inl (refl, ap (λ u. Bad (blame_of (get_or slots i s) u)) (sym same), λ next f. none next (subst (λ u. Fills (get_or slots i s) d u next) same f)))

-- with a word that stands at the next slot
pub walk-more : (slots : List Slot) (i : ℕ) (s : Slot) (d next : Told) (ws rest : List (List ℕ)) (w : List ℕ) (k : ℕ) (end : End) (e : Told) → i < length slots → next_word ws ≡ Some (w, rest)
    → Fills (get_or slots i s) d w next → StopsAlong (drop (i + 1) slots) next rest k end e → StopsAlong (drop i slots) d ws (k + 1) end e
walk-more slots i s d next [] rest w k end e lt is fills stops = absurd cc
walk-more slots i s d next (v ∷ ws) rest w k end e lt is fills stops =
    let p = some_pair_parts v w ws rest is in
    subst (λ l. StopsAlong l d (v ∷ ws) (k + 1) end e) (sym (drop_more slots i s lt))
    (inr (next, k, refl, subst (λ u. Fills (get_or slots i s) d u next) (sym p.0) fills, subst (λ us. StopsAlong (drop (i + 1) slots) next us k end e) (sym p.1) stops))

-- behind all slots
pub walk-end : (slots : List Slot) (i : ℕ) (d : Told) (ws : List (List ℕ)) (end : End) → length slots ≤ i → StopsAlong [] nothing ws 0 end nothing → StopsAlong (drop i slots) d ws 0 end d
walk-end slots i d [] end le h = subst (λ l. StopsAlong l d [] 0 end d) (sym (drop_all i slots le)) (refl, h.1, refl)
walk-end slots i d (w ∷ ws) end le h = subst (λ l. StopsAlong l d (w ∷ ws) 0 end d) (sym (drop_all i slots le)) (refl, h.1)
