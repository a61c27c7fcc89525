-- Accepted lines have one list of forms, and a line one fault.
use Rattle.std.proofs.Common.{◌≡◌, ◌≢◌, ℕ, zero, suc, ◌<◌, ◌≤◌, ◌⊎◌, List, [], ◌∷◌, ◌++◌, length, get_or, take, reverse, Contains, arith, add-one, refl, sym, subst, ◌∙◌, ap, inl, inr}
use Rattle.std.proofs.lemmas.Bool.{cases_eq, cases_order}
use Rattle.std.proofs.lemmas.List.{reverse-append, take_more}
use Rattle.freq_range.proofs.Members.{Contains-nothing}
use Rattle.rule_tables.specs.Regions.{region_number}
use Rattle.rule_tables.specs.declared.code.Alpha2.{Alpha2}
use Rattle.rule_tables.specs.declared.code.Region.{Region}
use Rattle.rule_tables.specs.declared.code.Region.TheVariants.{Unset, Fcc, Etsi, Jp}
use Rattle.text_lines.specs.declared.fault.TextKind.{TextKind}
use Rattle.text_lines.specs.declared.fault.TextKind.TheVariants.{RegionDiffers}
use Rattle.text_lines.specs.LineFaults.{place_of_kind}
use Rattle.text_lines.proofs.KindPlaces.{same_place}
use Rattle.rule_text.specs.Faults.{AreAccepted, IsGoodLine, IsLineFault}
use Rattle.rule_text.specs.Forms.{Form, IsForm, NamesCode}
use Rattle.rule_text.specs.Forms.Form.{Country, Empty, ItemLine, RuleLine, WmmHeader}
use Rattle.text_lines.specs.Lines.{bare}
use Rattle.rule_text.specs.inner.State.{AreSound}
use Rattle.rule_text.proofs.FormLaws.{Names-cases, same_header}
use Rattle.rule_text.proofs.LineForms.{IsForm-unique}

-- a line has one fault
pub IsLineFault-unique : (above : List Form) (line : List ℕ) (a b : TextKind) → IsLineFault above line a → IsLineFault above line b → a ≡ b
IsLineFault-unique above line a b p q = elim (cases_order (place_of_kind a) (place_of_kind b)) [
  | inl same ↦ same_place a b same
  | inr (inl lower) ↦ absurd (q.first a lower p.applies)
  | inr (inr higher) ↦ absurd (p.first b higher q.applies)
]

-- ---- accepted lines

-- accepted lines have one list of forms
pub AreAccepted-unique : (lines : List (List ℕ)) (fs gs : List Form) → AreAccepted lines fs → AreAccepted lines gs → fs ≡ gs
AreAccepted-unique [] [] [] p q = refl
AreAccepted-unique [] [] (g ∷ gs) p q = absurd q
AreAccepted-unique [] (f ∷ fs) gs p q = absurd p
AreAccepted-unique (line ∷ lines) [] gs p q = absurd p
AreAccepted-unique (line ∷ lines) (f ∷ fs) [] p q = absurd q
AreAccepted-unique (line ∷ lines) (f ∷ fs) (g ∷ gs) p q =
    cons_same (IsForm-unique (bare line) f g p.1.is q.1.is) (AreAccepted-unique lines fs gs p.0 q.0)
  where
    cons_same : f ≡ g → fs ≡ gs → f ∷ fs ≡ g ∷ gs
    cons_same a b = cc

pub length_accepted : (lines : List (List ℕ)) (forms : List Form) → AreAccepted lines forms → length lines ≡ length forms
length_accepted [] [] accepted = refl
length_accepted [] (form ∷ above) accepted = absurd accepted
length_accepted (line ∷ lines) [] accepted = absurd accepted
length_accepted (line ∷ lines) (form ∷ above) accepted = ap suc (length_accepted lines above accepted.0)

-- the line at place j is good below the lines above it
pub record IsGoodAt (lines : List (List ℕ)) (j : ℕ) : Type 0 where
  pub above : List Form
  pub form : Form
  pub accepted : AreAccepted (reverse (take j lines)) above
  pub good : IsGoodLine above (get_or lines j []) form

last_good : (lines : List (List ℕ)) (j : ℕ) (line : List ℕ) (forms : List Form) → line ≡ get_or lines j []
    → AreAccepted (line ∷ reverse (take j lines)) forms → IsGoodAt lines j
last_good lines j line [] is accepted = absurd accepted
last_good lines j line (form ∷ above) is accepted = record {
  above = above;
  form = form;
  accepted = accepted.0;
  good = subst (λ l. IsGoodLine above l form) is accepted.1;
}

-- one line more
pub reverse_more : (lines : List (List ℕ)) (k : ℕ) → k < length lines → reverse (take (suc k) lines) ≡ get_or lines k [] ∷ reverse (take k lines)
reverse_more lines k in_range =
    let more : take (suc k) lines ≡ take k lines ++ get_or lines k [] ∷ [] = ap (λ n. take n lines) (sym (add-one k)) ∙ take_more lines k [] in_range in
    ap reverse more ∙ reverse-append (take k lines) (get_or lines k [] ∷ [])

-- each of the first k lines is good where they are accepted
pub good_at : (lines : List (List ℕ)) (j k : ℕ) (forms : List Form) → j < k → k ≤ length lines → AreAccepted (reverse (take k lines)) forms → IsGoodAt lines j
good_at lines j zero forms less within accepted = absurd (omega arith)
good_at lines j (suc k) forms less within accepted =
    let turned = subst (λ ls. AreAccepted ls forms) (reverse_more lines k (omega arith)) accepted in
    let last = last_good lines k (get_or lines k []) forms refl turned in
    elim (cases_eq j k) [
      | inl same ↦ subst (IsGoodAt lines) (sym same) last
      | inr other ↦ good_at lines j k last.above (omega arith) (omega arith) last.accepted
    ]

-- ---- what accepted lines say of codes

-- the codes of headers are codes
pub sound_from_accepted : (lines : List (List ℕ)) (forms : List Form) → AreAccepted lines forms → AreSound forms
sound_from_accepted lines [] accepted = tt
sound_from_accepted [] (form ∷ above) accepted = absurd accepted
sound_from_accepted (line ∷ lines) (Empty ∷ above) accepted = sound_from_accepted lines above accepted.0
sound_from_accepted (line ∷ lines) (Country cs region ∷ above) accepted = (sound_from_accepted lines above accepted.0, accepted.1.is.are)
sound_from_accepted (line ∷ lines) (WmmHeader name ∷ above) accepted = sound_from_accepted lines above accepted.0
sound_from_accepted (line ∷ lines) (ItemLine item e ∷ above) accepted = sound_from_accepted lines above accepted.0
sound_from_accepted (line ∷ lines) (RuleLine rule name ∷ above) accepted = sound_from_accepted lines above accepted.0

pub cases_region : (r s : Region) → (r ≡ s) ⊎ (r ≢ s)
cases_region Unset Unset = inl refl
cases_region Fcc Fcc = inl refl
cases_region Etsi Etsi = inl refl
cases_region Jp Jp = inl refl
cases_region r s = inr (λ e. omega (arith, ap region_number e))

-- a good header has the region of the earlier ones
agrees : (line : List ℕ) (form : Form) (above : List Form) (code : Alpha2) (r s : Region) → IsGoodLine above line form
    → ((cs : List Alpha2) × (form ≡ Country cs r) × Contains cs code) → NamesCode above code s → s ≡ r
agrees line form above code r s good top named = elim (cases_region s r) [
  | inl same ↦ same
  | inr apart ↦ absurd (good.good RegionDiffers (top.0, r, subst (IsForm (bare line)) top.1 good.is, (code, s, top.2, named, apart)))
]

-- a code has one region
pub one_region : (lines : List (List ℕ)) (forms : List Form) → AreAccepted lines forms → (code : Alpha2) (r s : Region)
    → NamesCode forms code r → NamesCode forms code s → r ≡ s
one_region lines [] accepted code r s p q = absurd (Contains-nothing (Country p.0 r) p.1)
one_region [] (form ∷ above) accepted code r s p q = absurd accepted
one_region (line ∷ lines) (form ∷ above) accepted code r s p q =
    by_places (Names-cases form above code r p) (Names-cases form above code s q) (one_region lines above accepted.0 code r s)
  where
    by_places : ((cs : List Alpha2) × (form ≡ Country cs r) × Contains cs code) ⊎ NamesCode above code r
        → ((cs : List Alpha2) × (form ≡ Country cs s) × Contains cs code) ⊎ NamesCode above code s
        → (NamesCode above code r → NamesCode above code s → r ≡ s) → r ≡ s
    by_places (inl a) (inl b) rest = (same_header a.0 b.0 r s (sym a.1 ∙ b.1)).1
    by_places (inl a) (inr b) rest = sym (agrees line form above code r s accepted.1 a b)
    by_places (inr a) (inl b) rest = agrees line form above code s r accepted.1 b a
    by_places (inr a) (inr b) rest = rest a b
