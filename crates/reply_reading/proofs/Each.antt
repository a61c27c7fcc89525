-- Loops that read what each of a list tells.
use Rattle.std.proofs.Common.{◌≡◌, ℕ, ◌+◌, ◌<◌, ◌≤◌, ◌↔◌, Bool, true, false, IsTrue, List, [], ◌∷◌, ◌++◌, length, map, take, get_or, All, ap, sym, ◌∙◌, arith}
use Rattle.std.specs.Bool.{MatchBool}
use Rattle.std.proofs.lemmas.List.{get_or-map, length-map, length-take-le, take_all, take_more}
use Rattle.std.proofs.lemmas.List.Elements.{All-get_or}
use Rattle.nl_attrs.specs.Attributes.{IsAttr, attrs_bytes}
use Rattle.nl_attrs.specs.declared.attr.Attr.{Attr}
use Rattle.reply_reading.specs.inner.Reading.{Undoes}

-- so many were told as are there
pub as_many : {X Y Z : Type 0} (f : X → Y) (g : Z → Y) (items : List Z) (xs : List X) → map g items ≡ map f xs → length items ≡ length xs
as_many f g items xs same = sym (length-map items g) ∙ ap length same ∙ length-map xs f

-- one element more
pub one_more : {X Y Z : Type 0} (is : X → Type 0) (f : X → Y) (g : Z → Y) (items : List Z) (i : ℕ) (item : Z) (found : X) (old new : List X)
    → i < length items → item ≡ get_or items i item → new ≡ old ++ found ∷ [] → Undoes is f (g item) found
    → ((xs : List X) → All is xs → map g items ≡ map f xs → old ≡ take i xs)
    → (xs : List X) → All is xs → map g items ≡ map f xs → new ≡ take (i + 1) xs
one_more {X} {Y} {Z} is f g items i item found old new lt at grown undoes far xs each same =
    let len = as_many f g items xs same in
    let below : i < length xs = omega arith in
    let here : g item ≡ f (get_or xs i found) =
    ap g at ∙ sym (get_or-map g items i item (g item) lt) ∙ ap (λ (ys : List Y). get_or ys i (g item)) same ∙ get_or-map f xs i found (g item) below in
    let is_one : found ≡ get_or xs i found = undoes (get_or xs i found) (All-get_or is xs i found below each) here in
    grown ∙ ap (λ (ys : List X). ys ++ found ∷ []) (far xs each same) ∙ ap (λ (x : X). take i xs ++ x ∷ []) is_one ∙ sym (take_more xs i found below)

-- all of them
pub all_read : {X Y Z : Type 0} (is : X → Type 0) (f : X → Y) (g : Z → Y) (items : List Z) (i : ℕ) (found : List X) → length items ≤ i
    → ((xs : List X) → All is xs → map g items ≡ map f xs → found ≡ take i xs) → (xs : List X) → All is xs → map g items ≡ map f xs → found ≡ xs
all_read is f g items i found past far xs each same = let len = as_many f g items xs same in far xs each same ∙ take_all i xs (omega arith)

-- what a payload tells, by the attributes that it holds
pub through : {X : Type 0} (is : X → Type 0) (f : X → List Attr) (payload : List ℕ) (held : List Attr) (found : X) → ((x : X) → is x → All IsAttr (f x))
    → Undoes (All IsAttr) attrs_bytes payload held → Undoes is f held found → Undoes is (λ x. attrs_bytes (f x)) payload found
through is f payload held found fit outer inner x told e = inner x told (outer (f x) (fit x told) e)

-- one element more of a list with a most, where there is room
pub one_more_few : {X Y Z : Type 0} (is : X → Type 0) (f : X → Y) (g : Z → Y) (most : ℕ) (items : List Z) (i : ℕ) (item : Z) (found : X) (old new : List X) (pushed : Bool)
    → i < length items → item ≡ get_or items i item → (IsTrue pushed ↔ (length old < most)) → MatchBool pushed (new ≡ old ++ found ∷ []) (new ≡ old) → Undoes is f (g item) found
    → ((xs : List X) → length xs ≤ most → All is xs → map g items ≡ map f xs → old ≡ take i xs)
    → (xs : List X) → length xs ≤ most → All is xs → map g items ≡ map f xs → new ≡ take (i + 1) xs
one_more_few {X} {Y} {Z} is f g most items i item found old new true lt at full grown undoes far xs few each same =
    let len = as_many f g items xs same in
    let below : i < length xs = omega arith in
    let here : g item ≡ f (get_or xs i found) = ap g at ∙ sym (get_or-map g items i item (g item) lt) ∙ ap (λ (ys : List Y). get_or ys i (g item)) same ∙ get_or-map f xs i found (g item) below in
    let is_one : found ≡ get_or xs i found = undoes (get_or xs i found) (All-get_or is xs i found below each) here in
    grown ∙ ap (λ (ys : List X). ys ++ found ∷ []) (far xs few each same) ∙ ap (λ (x : X). take i xs ++ x ∷ []) is_one ∙ sym (take_more xs i found below)
one_more_few is f g most items i item found old new false lt at full grown undoes far xs few each same =
    let len = as_many f g items xs same in
    let short : length old ≡ i = ap length (far xs few each same) ∙ length-take-le i xs (omega arith) in
    let room : false ≡ true = full.1 (omega arith) in
    absurd cc
