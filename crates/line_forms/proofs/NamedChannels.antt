-- A word of iw gives a control channel one channel.
use Rattle.std.proofs.Common.{◌≡◌, ℕ, ◌+◌, ◌<◌, ◌≤◌, ◌*◌, List, true, false, get_or, zero, suc, Contains, refl, ap, ◌∙◌, sym, subst, arith, if◌then◌else◌, inl, inr}
use Rattle.std.specs.Prelude.{codes}
use Rattle.std.proofs.lemmas.Bool.{cases_lt}
use Rattle.std.proofs.lemmas.List.{get_or_default}
use Rattle.reg_base.specs.Texts.{same_bytes}
use Rattle.chan_def.specs.Covered.{IsInside}
use Rattle.chan_def.specs.Words.{GivesCentre, IsNamedBy, blocks_160, blocks_80, spelling, width_of}
use Rattle.chan_def.specs.declared.definition.ChanDef.{ChanDef}
use Rattle.chan_def.specs.declared.iw_word.IwWord.{IwWord}
use Rattle.chan_def.specs.declared.iw_word.IwWord.TheVariants.{WithoutHt, Ht20, Ht40Plus, Ht40Minus, Vht80, Vht160}
use Rattle.line_forms.specs.Spelling.{IsWordForm, is_iw_word}

-- ---- which word it is

word_from : List ℕ → IwWord
word_from w =
    if same_bytes w (codes "NOHT") then WithoutHt else
    if same_bytes w (codes "HT20") then Ht20 else
    if same_bytes w (codes "HT40+") then Ht40Plus else
    if same_bytes w (codes "HT40-") then Ht40Minus else
    if same_bytes w (codes "80MHz") then Vht80 else Vht160

word_again : (word : IwWord) → word_from (spelling word) ≡ word
unfolding word_from
word_again WithoutHt = refl
word_again Ht20 = refl
word_again Ht40Plus = refl
word_again Ht40Minus = refl
word_again Vht80 = refl
word_again Vht160 = refl

iw_word-again : (word : IwWord) → is_iw_word (spelling word) ≡ true
unfolding is_iw_word
iw_word-again WithoutHt = refl
iw_word-again Ht20 = refl
iw_word-again Ht40Plus = refl
iw_word-again Ht40Minus = refl
iw_word-again Vht80 = refl
iw_word-again Vht160 = refl

-- a channel is named by one of the six words
pub named-is_word : (control : ℕ) (w : List ℕ) (c : ChanDef) → IsNamedBy control w c → is_iw_word w ≡ true
named-is_word control w c h = rw h.spelled (iw_word-again h.word)

pub unnamed : (control : ℕ) (w : List ℕ) (c : ChanDef) → is_iw_word w ≡ false → IsWordForm control w c → ⊥
unnamed control w c none h = let some : is_iw_word w ≡ true = named-is_word control w c h.named in cc

-- ---- blocks

near-80 : (centre control : ℕ) → IsInside 80000 centre control → (centre ≤ control + 30000) × (control ≤ centre + 30000)
near-80 centre control (i, sub) = let within = sub.within in let at = sub.at in (omega arith, omega arith)

near-160 : (centre control : ℕ) → IsInside 160000 centre control → (centre ≤ control + 70000) × (control ≤ centre + 70000)
near-160 centre control (i, sub) = let within = sub.within in let at = sub.at in (omega arith, omega arith)

-- blocks lie apart by their width at least
gap-80 : (j k : ℕ) → j < k → k < 6 → get_or blocks_80 j 0 + 80000 ≤ get_or blocks_80 k 0
gap-80 zero zero lt few = absurd (omega arith)
gap-80 zero (suc zero) lt few = omega arith
gap-80 zero (suc (suc zero)) lt few = omega arith
gap-80 zero (suc (suc (suc zero))) lt few = omega arith
gap-80 zero (suc (suc (suc (suc zero)))) lt few = omega arith
gap-80 zero (suc (suc (suc (suc (suc zero))))) lt few = omega arith
gap-80 (suc zero) zero lt few = absurd (omega arith)
gap-80 (suc zero) (suc zero) lt few = absurd (omega arith)
gap-80 (suc zero) (suc (suc zero)) lt few = omega arith
gap-80 (suc zero) (suc (suc (suc zero))) lt few = omega arith
gap-80 (suc zero) (suc (suc (suc (suc zero)))) lt few = omega arith
gap-80 (suc zero) (suc (suc (suc (suc (suc zero))))) lt few = omega arith
gap-80 (suc (suc zero)) (suc (suc (suc zero))) lt few = omega arith
gap-80 (suc (suc zero)) (suc (suc (suc (suc zero)))) lt few = omega arith
gap-80 (suc (suc zero)) (suc (suc (suc (suc (suc zero))))) lt few = omega arith
gap-80 (suc (suc (suc zero))) (suc (suc (suc (suc zero)))) lt few = omega arith
gap-80 (suc (suc (suc zero))) (suc (suc (suc (suc (suc zero))))) lt few = omega arith
gap-80 (suc (suc (suc (suc zero)))) (suc (suc (suc (suc (suc zero))))) lt few = omega arith
gap-80 j k lt few = absurd (omega arith)

gap-160 : (j k : ℕ) → j < k → k < 2 → get_or blocks_160 j 0 + 160000 ≤ get_or blocks_160 k 0
gap-160 zero (suc zero) lt few = omega arith
gap-160 j k lt few = absurd (omega arith)

apart-blocks : (blocks : List ℕ) (width reach n j k : ℕ) (x y control : ℕ) → ((j k : ℕ) → j < k → k < n → get_or blocks j 0 + width ≤ get_or blocks k 0) → 2 * reach < width
    → j < n → k < n → get_or blocks j 0 ≡ x → get_or blocks k 0 ≡ y → (x ≤ control + reach) × (control ≤ x + reach) → (y ≤ control + reach) × (control ≤ y + reach) → x ≡ y
apart-blocks blocks width reach n j k x y control gap short jn kn is is' near near' = elim (cases_lt j k) [
  | inl below ↦ let far = gap j k below kn in absurd (omega arith)
  | inr above ↦ elim (cases_lt k j) [
    | inl under ↦ let far = gap k j under jn in absurd (omega arith)
    | inr over ↦ let same : j ≡ k = omega arith in sym is ∙ ap (λ i. get_or blocks i 0) same ∙ is'
  ]
]

value-at : (blocks : List ℕ) (x : ℕ) (has : Contains blocks x) → get_or blocks has.0 0 ≡ x
value-at blocks x has = get_or_default blocks has.0 0 x has.1 ∙ has.2

-- ---- the centre

centre-one : (word : IwWord) (control x y : ℕ) → GivesCentre word control x → GivesCentre word control y → x ≡ y
centre-one WithoutHt control x y h h' = h.placed ∙ sym h'.placed
centre-one Ht20 control x y h h' = h.placed ∙ sym h'.placed
centre-one Ht40Plus control x y h h' = h.placed ∙ sym h'.placed
centre-one Ht40Minus control x y h h' = let is = h.placed in let is' = h'.placed in omega arith
centre-one Vht80 control x y h h' =
    apart-blocks blocks_80 80000 30000 6 h.placed.0 h'.placed.0 x y control gap-80 (omega arith) h.placed.1 h'.placed.1 (value-at blocks_80 x h.placed) (value-at blocks_80 y h'.placed)
    (near-80 x control h.covers_control) (near-80 y control h'.covers_control)
centre-one Vht160 control x y h h' =
    apart-blocks blocks_160 160000 70000 2 h.placed.0 h'.placed.0 x y control gap-160 (omega arith) h.placed.1 h'.placed.1 (value-at blocks_160 x h.placed) (value-at blocks_160 y h'.placed)
    (near-160 x control h.covers_control) (near-160 y control h'.covers_control)

pub word_form-one : (control : ℕ) (w : List ℕ) (c other : ChanDef) → IsWordForm control w c → IsWordForm control w other → c ≡ other
word_form-one control w c other one two =
    let h = one.named in
    let h' = two.named in
    let word : h.word ≡ h'.word = sym (word_again h.word) ∙ ap word_from (sym h.spelled ∙ h'.spelled) ∙ word_again h'.word in
    let there : GivesCentre h'.word control c.centre_khz = subst (λ v. GivesCentre v control c.centre_khz) word h.there in
    let wide : c.width ≡ other.width = h.as_wide ∙ ap width_of word ∙ sym h'.as_wide in
    let centre : c.centre_khz ≡ other.centre_khz = centre-one h'.word control c.centre_khz other.centre_khz there h'.there in
    λ i. record { control_khz = (h.same_control ∙ sym h'.same_control) i; width = wide i; centre_khz = centre i }
