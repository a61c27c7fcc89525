-- Names of WMM rules, and their headers.
use Rattle.std.proofs.Common.{◌≡◌, ℕ, List, [], ◌∷◌, ◌++◌, true, ◌&&◌, length, leb, Option, Some, None, ◌⊎◌, inl, inr, refl, ap, ◌∙◌, sym, arith, subst}
use Rattle.std.specs.Prelude.{codes, All}
use Rattle.std.specs.Bool.{Decides}
use Rattle.std.specs.List.{list_all}
use Rattle.std.proofs.lemmas.Bool.{and_parts, and_from, leb-true, le-leb}
use Rattle.std.proofs.lemmas.Bool.Decides.{nat_tests, Decides-by_and}
use Rattle.std.proofs.lemmas.Option.{some_pair_parts, cond_some, same_Some}
use Rattle.reg_base.specs.Texts.{same_bytes}
use Rattle.reg_base.specs.Texts.{◌>>=◌}
use Rattle.text_lines.specs.inner.Reading.{after_word, behind_of, front_of, is_wmm_name, is_name_byte, titled_at, whole_title, wmm_name_at}
use Rattle.text_lines.specs.Spelling.{IsWmmName, IsNameByte, IsWmmHeader}
use Rattle.text_lines.proofs.Cuts.{behind_of-again, cut-reads, front_of-again}
use Rattle.text_lines.proofs.Lists.{Lacks}
use Rattle.text_lines.proofs.Words.{after_word-again, after_word-reads, bind_some, known, same_bytes-reads}

-- ---- names

name_byte-is : (b : ℕ) → is_name_byte b ≡ true → IsNameByte b
name_byte-is b h = grind (arith, nat_tests)

is-name_byte : (b : ℕ) → IsNameByte b → is_name_byte b ≡ true
is-name_byte b h = grind (arith, nat_tests)

name_bytes : (name : List ℕ) → Decides (list_all is_name_byte name) (All IsNameByte name)
name_bytes = Decides-by_and is_name_byte IsNameByte (list_all is_name_byte) (λ b. (name_byte-is b, is-name_byte b)) refl (λ _ _. refl)

pub is_name-reads : (name : List ℕ) → is_wmm_name name ≡ true → IsWmmName name
is_name-reads name e =
    let p = and_parts (leb 1 (length name) && leb (length name) 64) (list_all is_name_byte name) e in
    let q = and_parts (leb 1 (length name)) (leb (length name) 64) p.0 in
    record { some = leb-true 1 (length name) q.0; few = leb-true (length name) 64 q.1; each = (name_bytes name).0 p.1 }

pub is_name-again : (name : List ℕ) → IsWmmName name → is_wmm_name name ≡ true
is_name-again name h =
    and_from (leb 1 (length name) && leb (length name) 64) (list_all is_name_byte name) (and_from (leb 1 (length name)) (leb (length name) 64) (le-leb 1 (length name) h.some) (le-leb (length name) 64 h.few)) ((name_bytes name).1 h.each)

-- bytes of names are neither commas nor colons
pub name-lacks : (byte : ℕ) (name : List ℕ) → (IsNameByte byte → ⊥) → All IsNameByte name → Lacks byte name
name-lacks byte name other each i b in_range = λ same. other (subst IsNameByte same (each i b in_range))

pub no_comma : IsNameByte 44 → ⊥
no_comma h = grind arith

pub no_colon : IsNameByte 58 → ⊥
no_colon h = grind arith

-- ---- what stands before a colon

abbrev behind_title : List ℕ → List ℕ → Option (List ℕ × List ℕ)
behind_title rest behind = Some (front_of 58 rest, behind)

abbrev title_of : List ℕ → Option (List ℕ × List ℕ)
title_of rest = behind_of 58 rest >>= behind_title rest

pub titled_at-reads : (word bs title behind : List ℕ) → titled_at word bs ≡ Some (title, behind) → bs ≡ word ++ (title ++ 58 ∷ behind)
unfolding titled_at
titled_at-reads word bs title behind e =
    let one = bind_some (after_word word bs) title_of (title, behind) e in
    let two = bind_some (behind_of 58 one.0) (behind_title one.0) (title, behind) one.2 in
    let p = some_pair_parts (front_of 58 one.0) title two.0 behind two.2 in
    after_word-reads word bs one.0 one.1 ∙ ap (λ (xs : List ℕ). word ++ xs) (cut-reads 58 one.0 two.0 two.1 ∙ rw (p.0, p.1) refl)

pub titled_at-again : (word title behind : List ℕ) → Lacks 58 title → titled_at word (word ++ (title ++ 58 ∷ behind)) ≡ Some (title, behind)
unfolding titled_at
titled_at-again word title behind lacks = rw (after_word-again word (title ++ 58 ∷ behind), behind_of-again 58 title behind lacks, front_of-again 58 title behind lacks) refl

-- ---- headers

pub wmm_name_at-reads : (line name : List ℕ) → wmm_name_at line ≡ Some name → IsWmmHeader line name
unfolding wmm_name_at
wmm_name_at-reads line name e =
    let one = bind_some (titled_at (codes "wmmrule") line) whole_title name e in
    let t = cond_some (is_wmm_name one.0.0 && same_bytes one.0.1 []) one.0.0 name one.2 in
    let p = and_parts (is_wmm_name one.0.0) (same_bytes one.0.1 []) t.0 in
    let end : one.0.1 ≡ [] = same_bytes-reads one.0.1 [] p.1 in
    record {
      is_name = subst IsWmmName t.1 (is_name-reads one.0.0 p.0);
      spelled = titled_at-reads (codes "wmmrule") line one.0.0 one.0.1 one.1 ∙ rw (end, t.1) refl;
    }

pub wmm_name_at-again : (line name : List ℕ) → IsWmmHeader line name → wmm_name_at line ≡ Some name
unfolding wmm_name_at
wmm_name_at-again line name h =
    let lacks = name-lacks 58 name no_colon h.is_name.each in
    rw (h.spelled, titled_at-again (codes "wmmrule") name [] lacks, is_name-again name h.is_name) refl

pub wmm_name_at-none : (line : List ℕ) → wmm_name_at line ≡ None → (name : List ℕ) → IsWmmHeader line name → ⊥
wmm_name_at-none line none name h = let read = wmm_name_at-again line name h in cc

pub IsWmmHeader-unique : (line m n : List ℕ) → IsWmmHeader line m → IsWmmHeader line n → m ≡ n
IsWmmHeader-unique line m n p q = same_Some m n (sym (wmm_name_at-again line m p) ∙ wmm_name_at-again line n q)

pub decide_wmm_name : (line : List ℕ) → ((name : List ℕ) × IsWmmHeader line name) ⊎ ((name : List ℕ) → IsWmmHeader line name → ⊥)
decide_wmm_name line = known (wmm_name_at line) (λ none. inr (wmm_name_at-none line none)) (λ name e. inl (name, wmm_name_at-reads line name e))
