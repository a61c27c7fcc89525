-- What attributes tell is one value.
use Rattle.std.proofs.Common.{◌≡◌, ℕ, ◌-◌, List, [], ◌∷◌, ◌++◌, length, map, take, drop, get_or, All, ap, refl, sym, ◌∙◌, arith}
use Rattle.std.proofs.lemmas.List.{length-append, take_at}
use Rattle.std.proofs.lemmas.List.Elements.{All-head, All-tail}
use Rattle.rule_intersect.specs.declared.row.Row.{Row}
use Rattle.rule_tables.specs.declared.code.Alpha2.{Alpha2}
use Rattle.nl_attrs.specs.Attributes.{IsAttr, attrs_bytes}
use Rattle.nl_attrs.specs.Endian.{le32_at, le64_at}
use Rattle.nl_attrs.specs.declared.attr.Attr.{Attr}
use Rattle.nl_attrs.proofs.AttrLaws.{one_list}
use Rattle.nl_attrs.proofs.ReadNumbers.{read32, read64}
use Rattle.reg_journal.specs.Forms.{IsShownAnswer}
use Rattle.reg_journal.specs.declared.effects.Effect.{Effect}
use Rattle.reg_journal.specs.declared.reply.Answer.{Answer}
use Rattle.nl80211_replies.specs.Plain.{answer_attrs, effect_attr, effect_list}
use Rattle.reply_reading.specs.Typed.{IsTypedAnswer, IsTypedEffect}
use Rattle.reply_reading.specs.inner.Reading.{IsToldRow, payload_at, row_attrs, row_payload}
use Rattle.reply_reading.proofs.AnswersAgain.{Codes, Names, Numbers32, Numbers64, answer_again, effect_again}
use Rattle.reply_reading.proofs.Fitting.{effect_fit, row_fit}
use Rattle.reply_reading.proofs.PartsAgain.{row_again}

-- ---- what could be read at a place

pub number : List Attr → ℕ → ℕ
number attrs k = le32_at (payload_at k attrs) 0

pub number_is : (attrs : List Attr) (k : ℕ) → Numbers32 attrs k (number attrs k)
unfolding number
number_is attrs k m lt e = read32 (payload_at k attrs) m lt e

pub wide : List Attr → ℕ → ℕ
wide attrs k = le64_at (payload_at k attrs) 0

pub wide_is : (attrs : List Attr) (k : ℕ) → Numbers64 attrs k (wide attrs k)
unfolding wide
wide_is attrs k m lt e = read64 (payload_at k attrs) m lt e

pub name : List Attr → ℕ → List ℕ
name attrs k = take (length (payload_at k attrs) - 1) (payload_at k attrs)

pub name_is : (attrs : List Attr) (k : ℕ) → Names attrs k (name attrs k)
unfolding name
name_is attrs k t is e =
    ap (λ (p : List ℕ). take (length p - 1) p) e ∙ take_at t (0 ∷ []) (length (t ++ 0 ∷ []) - 1) (omega (arith, length-append t (0 ∷ [])))

pub code : List Attr → ℕ → Alpha2
code attrs k = record { a = get_or (payload_at k attrs) 0 0; b = get_or (payload_at k attrs) 1 0 }

pub code_is : (attrs : List Attr) (k : ℕ) → Codes attrs k (code attrs k)
unfolding code
code_is attrs k c e =
    let a = ap (λ (p : List ℕ). get_or p 0 0) e in let b = ap (λ (p : List ℕ). get_or p 1 0) e in
    λ i. record { a = a i; b = b i }

-- ---- lists

pub each_one : {X Y : Type 0} (is : X → Type 0) (f : X → Y) → ((x y : X) → is x → is y → f x ≡ f y → x ≡ y) → (xs ys : List X) → All is xs → All is ys → map f xs ≡ map f ys → xs ≡ ys
each_one is f one [] [] all every e = refl
each_one is f one [] (y ∷ ys) all every e = absurd (omega (arith, ap length e))
each_one is f one (x ∷ xs) [] all every e = absurd (omega (arith, ap length e))
each_one {X} {Y} is f one (x ∷ xs) (y ∷ ys) all every e =
    let head = one x y (All-head is x xs all) (All-head is y ys every) (ap (λ (l : List Y). get_or l 0 (f x)) e) in
    let tail = each_one is f one xs ys (All-tail is x xs all) (All-tail is y ys every) (ap (drop 1) e) in
    λ i. head i ∷ tail i

-- two that hold the same attributes
pub held_one : {X : Type 0} (is : X → Type 0) (f : X → List Attr) → ((x : X) → is x → All IsAttr (f x)) → ((x y : X) → is x → is y → f x ≡ f y → x ≡ y)
    → (x y : X) → is x → is y → attrs_bytes (f x) ≡ attrs_bytes (f y) → x ≡ y
held_one is f fit one x y first second e = one x y first second (one_list (f x) (f y) (fit x first) (fit y second) e)

-- ---- plain replies

pub answer_one : (x y : Answer) (more other : List Attr) → IsTypedAnswer x → IsTypedAnswer y → IsShownAnswer x → IsShownAnswer y → answer_attrs x ++ more ≡ answer_attrs y ++ other → x ≡ y
answer_one x y more other tx ty sx sy e =
    let attrs = answer_attrs x ++ more in
    sym (answer_again x more attrs (number attrs 0) (wide attrs 1) (name attrs 1) (code attrs 1) tx sx refl (number_is attrs 0) (wide_is attrs 1) (name_is attrs 1) (code_is attrs 1))
    ∙ answer_again y other attrs (number attrs 0) (wide attrs 1) (name attrs 1) (code attrs 1) ty sy e (number_is attrs 0) (wide_is attrs 1) (name_is attrs 1) (code_is attrs 1)

list_one : (x y : Effect) → IsTypedEffect x → IsTypedEffect y → effect_list x ≡ effect_list y → x ≡ y
list_one x y tx ty e =
    let attrs = effect_list x in
    sym (effect_again x attrs (number attrs 0) (wide attrs 2) (name attrs 1) tx refl (number_is attrs 0) (name_is attrs 1) (wide_is attrs 2))
    ∙ effect_again y attrs (number attrs 0) (wide attrs 2) (name attrs 1) ty e (number_is attrs 0) (name_is attrs 1) (wide_is attrs 2)

pub effects_one : (xs ys : List Effect) → All IsTypedEffect xs → All IsTypedEffect ys → map effect_attr xs ≡ map effect_attr ys → xs ≡ ys
effects_one = each_one IsTypedEffect effect_attr (λ x y tx ty e. held_one IsTypedEffect effect_list effect_fit list_one x y tx ty (ap (λ (a : Attr). a.payload) e))

-- ---- rows

attrs_one : (x y : Row) → IsToldRow x → IsToldRow y → row_attrs x ≡ row_attrs y → x ≡ y
attrs_one x y tx ty e =
    let attrs = row_attrs x in
    sym (row_again x attrs (number attrs 0) (number attrs 1) (number attrs 2) (number attrs 3) (number attrs 5) (number attrs 6) tx refl (number_is attrs 0) (number_is attrs 1) (number_is attrs 2) (number_is attrs 3) (number_is attrs 5) (number_is attrs 6))
    ∙ row_again y attrs (number attrs 0) (number attrs 1) (number attrs 2) (number attrs 3) (number attrs 5) (number attrs 6) ty e (number_is attrs 0) (number_is attrs 1) (number_is attrs 2) (number_is attrs 3) (number_is attrs 5) (number_is attrs 6)

pub rows_one : (xs ys : List Row) → All IsToldRow xs → All IsToldRow ys → map row_payload xs ≡ map row_payload ys → xs ≡ ys
rows_one = each_one IsToldRow row_payload (held_one IsToldRow row_attrs row_fit attrs_one)
