-- The stop that is furthest on a line tells what is wrong with it.
use Rattle.std.proofs.Common.{◌≡◌, ℕ, ◌+◌, ◌<◌, ◌≤◌, zero, suc, ◌⊎◌, inl, inr, Bool, true, false, List, [], ◌∷◌, length, take, drop, All, Contains, refl, sym, subst, arith}
use Rattle.std.proofs.lemmas.List.{take_all, length-take-le}
use Rattle.line_forms.specs.Faults.{Begins, CanCome, IsFaultBy, IsFirstBad, LooksRight, TakesForm, TakesNumber}
use Rattle.line_forms.specs.Forms.{Leads}
use Rattle.line_forms.specs.Rows.{slots}
use Rattle.line_forms.specs.Slots.{looks_like, sort_of}
use Rattle.line_forms.specs.Told.{Told, nothing}
use Rattle.line_forms.specs.inner.Walking.{IsFurthest, IsNoLater, StopsAlong, StopsBy, blame_by, blame_of, fault_of_end, gravity, gravity_of_blame}
use Rattle.line_forms.specs.declared.form.Form.{Form}
use Rattle.line_forms.specs.declared.slot.Slot.{Slot}
use Rattle.line_forms.specs.declared.slot.Sort.{Sort}
use Rattle.line_forms.specs.declared.slot.Sort.TheVariants.{OneWord, Number, OtherForm}
use Rattle.line_forms.specs.declared.walker.Blame.{Blame}
use Rattle.line_forms.specs.declared.walker.Blame.TheVariants.{NoWord, NoForm, NoNumber, OutOfRange}
use Rattle.line_forms.specs.declared.walker.End.{End}
use Rattle.line_forms.specs.declared.walker.End.TheVariants.{Whole, Short, Bad}
use Rattle.line_forms.specs.declared.walker.Stop.{Stop}
use Rattle.line_forms.proofs.Looks.{looks-blame}
use Rattle.line_forms.proofs.Walks.{leads-drop, stops-begin, stops-behind, stops-blame, stops-most, stops-short, stops-unfit, stops-whole, stops-word}

-- what holds of all holds of one
pub of_all : {A : Type 0} (P : A → Type 0) (xs : List A) (x : A) → All P xs → Contains xs x → P x
of_all P xs x all has = subst P has.2 (all has.0 x has.1)

-- ---- why, by how grave it is

least-grave : (l : Bool) (t : Sort) → gravity_of_blame (blame_by l t) ≤ 0 → t ≡ OneWord
least-grave l OneWord h = refl
least-grave true Number h = absurd (omega arith)
least-grave false Number h = absurd (omega arith)
least-grave true OtherForm h = absurd (omega arith)
least-grave false OtherForm h = absurd (omega arith)

number-grave : (l : Bool) (t : Sort) → t ≡ Number → 2 ≤ gravity_of_blame (blame_by l t)
number-grave l OneWord h = absurd cc
number-grave true Number h = omega arith
number-grave false Number h = omega arith
number-grave l OtherForm h = absurd cc

of_form : (l : Bool) (t : Sort) → NoForm ≡ blame_by l t → t ≡ OtherForm
of_form l OneWord h = absurd cc
of_form true Number h = absurd cc
of_form false Number h = absurd cc
of_form l OtherForm h = refl

of_number : (l : Bool) (t : Sort) → NoNumber ≡ blame_by l t → t ≡ Number
of_number l OneWord h = absurd cc
of_number l Number h = refl
of_number true OtherForm h = absurd cc
of_number false OtherForm h = absurd cc

of_range : (l : Bool) (t : Sort) → OutOfRange ≡ blame_by l t → l ≡ true
of_range true t h = refl
of_range false OneWord h = absurd cc
of_range false Number h = absurd cc
of_range false OtherForm h = absurd cc

-- ---- what can come

bad-one : (a b : Blame) → Bad a ≡ Bad b → a ≡ b
bad-one a b e = cc

pub record AtWord (forms : List Form) (ws : List (List ℕ)) (k : ℕ) (b : Blame) (w : List ℕ) : Type 0 where
  pub none_graver : (slot : Slot) → CanCome forms (take k ws) slot → gravity_of_blame (blame_of slot w) ≤ gravity_of_blame b
  pub some : (b ≡ NoWord) ⊎ ((slot : Slot) × CanCome forms (take k ws) slot × (b ≡ blame_of slot w))

within : (k : ℕ) (ws : List (List ℕ)) (w : List ℕ) (behind : List (List ℕ)) → drop k ws ≡ w ∷ behind → k < length ws
within zero [] w behind e = absurd cc
within zero (v ∷ ws) w behind e = omega arith
within (suc k) [] w behind e = absurd cc
within (suc k) (v ∷ ws) w behind e = let rest = within k ws w behind e in omega arith

slots-left : {A : Type 0} (xs : List A) → (xs ≡ []) ⊎ ((x : A) × (rest : List A) × (xs ≡ x ∷ rest))
slots-left [] = inl refl
slots-left (x ∷ xs) = inr (x, xs, refl)

no-graver : (forms : List Form) (ws : List (List ℕ)) (stop : Stop) (b : Blame) (w : List ℕ) (behind : List (List ℕ)) → All (StopsBy ws stop) forms → stop.end ≡ Bad b → drop stop.taken ws ≡ w ∷ behind
    → (slot : Slot) → CanCome forms (take stop.taken ws) slot → gravity_of_blame (blame_of slot w) ≤ gravity_of_blame b
no-graver forms ws stop b w behind each bad here slot comes =
    let by = of_all (StopsBy ws stop) forms comes.form each comes.listed in
    let lt = within stop.taken ws w behind here in
    let size : length (take stop.taken ws) ≡ stop.taken = length-take-le stop.taken ws (omega arith) in
    let left : slot ∷ comes.rest ≡ drop stop.taken (slots comes.form) = rw size at (leads-drop (take stop.taken ws) (slots comes.form) (slot ∷ comes.rest) nothing comes.told comes.leads) in
    let most = stops-most (slots comes.form) nothing ws by.taken by.end by.told stop.taken (slot ∷ comes.rest) comes.told by.stops (omega arith) comes.leads in
    on by most left by.no_later
  where
    on : (by : StopsBy ws stop comes.form) → stop.taken ≤ by.taken → slot ∷ comes.rest ≡ drop stop.taken (slots comes.form) → IsNoLater by.taken by.end stop → gravity_of_blame (blame_of slot w) ≤ gravity_of_blame b
    on by most left (inl below) = absurd (omega arith)
    on by most left (inr (same, grave)) =
        let stops = subst (λ n. StopsAlong (slots comes.form) nothing ws n by.end by.told) same by.stops in
        let end : by.end ≡ Bad (blame_of slot w) = stops-blame (slots comes.form) nothing ws stop.taken by.end by.told slot comes.rest w behind stops (sym left) here in
        subst (λ e. gravity_of_blame (blame_of slot w) ≤ gravity e) bad (subst (λ e. gravity e ≤ gravity stop.end) end grave)

some-reason : (forms : List Form) (ws : List (List ℕ)) (k : ℕ) (b : Blame) (form : Form) (told : Told) (w : List ℕ) (behind : List (List ℕ)) → Contains forms form
    → StopsAlong (slots form) nothing ws k (Bad b) told → drop k ws ≡ w ∷ behind → (b ≡ NoWord) ⊎ ((slot : Slot) × CanCome forms (take k ws) slot × (b ≡ blame_of slot w))
some-reason forms ws k b form told w behind has stops here = on (slots-left (drop k (slots form)))
  where
    on : (drop k (slots form) ≡ []) ⊎ ((x : Slot) × (rest : List Slot) × (drop k (slots form) ≡ x ∷ rest)) → (b ≡ NoWord) ⊎ ((slot : Slot) × CanCome forms (take k ws) slot × (b ≡ blame_of slot w))
    on (inl none) = inl (stops-behind (slots form) nothing ws k b told stops none)
    on (inr (slot, rest, is)) =
        let begin = stops-begin (slots form) nothing ws k (Bad b) told k stops (omega arith) in
        let comes : CanCome forms (take k ws) slot = record { form = form; listed = has; rest = rest; told = begin.0; leads = subst (λ l. Leads (take k ws) (slots form) nothing l begin.0) is begin.1 } in
        inr (slot, comes, bad-one b (blame_of slot w) (stops-blame (slots form) nothing ws k (Bad b) told slot rest w behind stops is here))

-- ---- the fault

ends-there : (forms : List Form) (ws : List (List ℕ)) (k : ℕ) (b : Blame) (w : List ℕ) → AtWord forms ws k b w → IsFirstBad forms ws k w → IsFaultBy forms ws (fault_of_end k (Bad b))
ends-there forms ws k NoWord w at first = (k, w, refl, first, λ slot comes. least-grave (looks_like slot w) (sort_of slot) (at.none_graver slot comes))
ends-there forms ws k NoForm w at first = (k, w, refl, first, inr (form at.some, no_number, no_look))
  where
    form : (NoForm ≡ NoWord) ⊎ ((slot : Slot) × CanCome forms (take k ws) slot × (NoForm ≡ blame_of slot w)) → TakesForm forms (take k ws)
    form (inl e) = absurd cc
    form (inr (slot, comes, e)) = (slot, comes, of_form (looks_like slot w) (sort_of slot) e)

    no_number : TakesNumber forms (take k ws) → ⊥
    no_number (slot, comes, is) = let some = number-grave (looks_like slot w) (sort_of slot) is in let few = at.none_graver slot comes in absurd (omega arith)

    no_look : LooksRight forms (take k ws) w → ⊥
    no_look (slot, comes, is) = let few = rw (looks-blame slot w is) at (at.none_graver slot comes) in absurd (omega arith)
ends-there forms ws k NoNumber w at first = (k, w, refl, first, (number at.some, no_look))
  where
    number : (NoNumber ≡ NoWord) ⊎ ((slot : Slot) × CanCome forms (take k ws) slot × (NoNumber ≡ blame_of slot w)) → TakesNumber forms (take k ws)
    number (inl e) = absurd cc
    number (inr (slot, comes, e)) = (slot, comes, of_number (looks_like slot w) (sort_of slot) e)

    no_look : LooksRight forms (take k ws) w → ⊥
    no_look (slot, comes, is) = let few = rw (looks-blame slot w is) at (at.none_graver slot comes) in absurd (omega arith)
ends-there forms ws k OutOfRange w at first = (k, w, refl, first, inl (looks at.some))
  where
    looks : (OutOfRange ≡ NoWord) ⊎ ((slot : Slot) × CanCome forms (take k ws) slot × (OutOfRange ≡ blame_of slot w)) → LooksRight forms (take k ws) w
    looks (inl e) = absurd cc
    looks (inr (slot, comes, e)) = (slot, comes, of_range (looks_like slot w) (sort_of slot) e)

no-more : (forms : List Form) (ws : List (List ℕ)) (stop : Stop) → All (StopsBy ws stop) forms → stop.taken < length ws → Begins forms (take (stop.taken + 1) ws) → ⊥
no-more forms ws stop each lt begins =
    let by = of_all (StopsBy ws stop) forms begins.form each begins.listed in
    let most = stops-most (slots begins.form) nothing ws by.taken by.end by.told (stop.taken + 1) begins.rest begins.told by.stops (omega arith) begins.leads in
    on by.taken by.end by.no_later most
  where
    on : (taken : ℕ) (end : End) → IsNoLater taken end stop → stop.taken + 1 ≤ taken → ⊥
    on taken end (inl below) most = absurd (omega arith)
    on taken end (inr (same, grave)) most = absurd (omega arith)

pub furthest-fault : (forms : List Form) (ws : List (List ℕ)) (stop : Stop) → IsFurthest forms ws stop → IsFaultBy forms ws (fault_of_end stop.taken stop.end)
furthest-fault forms ws stop far = on stop.end refl
  where
    stops : (end : End) → stop.end ≡ end → StopsAlong (slots far.form) nothing ws stop.taken end far.at.0
    stops end is = subst (λ e. StopsAlong (slots far.form) nothing ws stop.taken e far.at.0) is far.at.1

    on : (end : End) → stop.end ≡ end → IsFaultBy forms ws (fault_of_end stop.taken end)
    on Whole is =
        let by = of_all (StopsBy ws stop) forms far.form far.each far.listed in
        absurd (stops-unfit (slots far.form) nothing ws by.taken by.end by.told far.at.0 by.stops by.unfit (stops-whole (slots far.form) nothing ws stop.taken far.at.0 (stops Whole is)))
    on Short is =
        let all = stops-short (slots far.form) nothing ws stop.taken far.at.0 (stops Short is) in
        let begin = stops-begin (slots far.form) nothing ws stop.taken Short far.at.0 stop.taken (stops Short is) (omega arith) in
        let same : take stop.taken ws ≡ ws = take_all stop.taken ws (omega arith) in
        record { form = far.form; listed = far.listed; rest = drop stop.taken (slots far.form); told = begin.0; leads = subst (λ us. Leads us (slots far.form) nothing (drop stop.taken (slots far.form)) begin.0) same begin.1 }
    on (Bad b) is =
        let word = stops-word (slots far.form) nothing ws stop.taken b far.at.0 (stops (Bad b) is) in
        let begin = stops-begin (slots far.form) nothing ws stop.taken (Bad b) far.at.0 stop.taken (stops (Bad b) is) (omega arith) in
        let first : IsFirstBad forms ws stop.taken word.0 = record {
          behind = word.1;
          stands = word.2;
          begins = record { form = far.form; listed = far.listed; rest = drop stop.taken (slots far.form); told = begin.0; leads = begin.1 };
          no_more = no-more forms ws stop far.each (within stop.taken ws word.0 word.1 word.2);
        } in
        let at : AtWord forms ws stop.taken b word.0 = record {
          none_graver = no-graver forms ws stop b word.0 word.1 far.each is word.2;
          some = some-reason forms ws stop.taken b far.form far.at.0 word.0 word.1 far.listed (stops (Bad b) is) word.2;
        } in
        ends-there forms ws stop.taken b word.0 at first
