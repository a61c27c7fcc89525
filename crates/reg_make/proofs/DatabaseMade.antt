-- The domains of the made database, and their order in it.
use Rattle.std.proofs.Common.{◌≡◌, ◌≢◌, ℕ, ◌+◌, ◌-◌, ◌^◌, ◌<◌, ◌≤◌, List, [], ◌∷◌, ◌++◌, length, All, AllPairs, insert, refl, sym, ap, subst, ◌∙◌, inl, inr, arith}
use Rattle.std.proofs.lemmas.Bool.{cases_lt}
use Rattle.std.proofs.lemmas.List.Edits.{get_or-insert_at, get_or-insert_above, insert_end, length-insert}
use Rattle.std.proofs.lemmas.List.Elements.{All-cons, All-contains}
use Rattle.std.proofs.lemmas.List.Kept.{AllPairs-cons}
use Rattle.freq_range.specs.Valid.{IsValidRule}
use Rattle.freq_range.specs.declared.flags.RuleFlags.{RuleFlags}
use Rattle.freq_range.specs.declared.rule.Rule.{Rule}
use Rattle.rule_tables.specs.Code.{IsCode, key}
use Rattle.rule_tables.specs.Databases.{HasCode, Inserts, IsDb, IsDomain}
use Rattle.rule_tables.specs.Domains.{AreDistinct, AreRules}
use Rattle.rule_tables.specs.World.{world_domain}
use Rattle.rule_tables.specs.declared.domain.Domain.{Domain}
use Rattle.reg_make.specs.Domains.{gb_domain, made_rule, us_domain}
use Rattle.reg_make.specs.inner.Above.{IsAboveAll}

-- ---- each is a domain that a database may hold

valid : (start end width power : ℕ) (flags : RuleFlags) → 0 < start → start < end → width ≤ end - start → end < 2 ^ 32 → power < 2 ^ 16
    → IsValidRule (made_rule start end width power flags)
valid start end width power flags some in_order wide small low =
    record { above_zero = some; in_order = in_order; wide_enough = wide; wmm = tt; end_fits = small; power_fits = low; check_fits = omega arith }

abbrev pub Differs : Rule → Rule → Type 0
Differs r s = r ≢ s

apart : (r s : Rule) → r.start_khz < s.start_khz → r ≢ s
apart r s less same = let is : r.start_khz ≡ s.start_khz = ap (λ x. x.start_khz) same in omega (arith, less, is)

none : {X : Type 0} (P : X → Type 0) → All P []
none P k d within = absurd (omega (arith, within))

no_pairs : {X : Type 0} (R : X → X → Type 0) → AllPairs R []
no_pairs R i j d less within = absurd (omega (arith, within))

-- three rules in ascending order
three : (d : Domain) (r s t : Rule) → d.rules ≡ r ∷ s ∷ t ∷ [] → IsCode d.alpha2 → IsValidRule r → IsValidRule s → IsValidRule t → r.start_khz < s.start_khz → s.start_khz < t.start_khz → IsDomain d
three d r s t is code first second third below above = record {
  code = code;
  distinct = subst AreDistinct (sym is) (AllPairs-cons Differs r (s ∷ t ∷ [])
      (All-cons (Differs r) s (t ∷ []) (apart r s below) (All-cons (Differs r) t [] (apart r t (omega (arith, below, above))) (none (Differs r))))
      (AllPairs-cons Differs s (t ∷ []) (All-cons (Differs s) t [] (apart s t above) (none (Differs s))) (AllPairs-cons Differs t [] (none (Differs t)) (no_pairs Differs))));
  rules = subst AreRules (sym is) (record {
    some = omega arith;
    few = omega arith;
    each = All-cons IsValidRule r (s ∷ t ∷ []) first (All-cons IsValidRule s (t ∷ []) second (All-cons IsValidRule t [] third (none IsValidRule)));
  });
}

pub world_is : (d : Domain) → d ≡ world_domain → IsDomain d
world_is d is = subst IsDomain (sym is) (three world_domain _ _ _ refl (inr (refl, refl))
    (valid 2402000 2472000 40000 2000 _ (omega arith) (omega arith) (omega arith) (omega arith) (omega arith))
    (valid 5170000 5250000 80000 2000 _ (omega arith) (omega arith) (omega arith) (omega arith) (omega arith))
    (valid 5250000 5330000 80000 2000 _ (omega arith) (omega arith) (omega arith) (omega arith) (omega arith)) (omega arith) (omega arith))

pub gb_is : (d : Domain) → d ≡ gb_domain → IsDomain d
gb_is d is = subst IsDomain (sym is) (three gb_domain _ _ _ refl (inl ((omega arith, omega arith), (omega arith, omega arith)))
    (valid 2400000 2483500 40000 2000 _ (omega arith) (omega arith) (omega arith) (omega arith) (omega arith))
    (valid 5150000 5250000 80000 2301 _ (omega arith) (omega arith) (omega arith) (omega arith) (omega arith))
    (valid 5250000 5350000 80000 2000 _ (omega arith) (omega arith) (omega arith) (omega arith) (omega arith)) (omega arith) (omega arith))

pub us_is : (d : Domain) → d ≡ us_domain → IsDomain d
us_is d is = subst IsDomain (sym is) (three us_domain _ _ _ refl (inl ((omega arith, omega arith), (omega arith, omega arith)))
    (valid 2400000 2472000 40000 3000 _ (omega arith) (omega arith) (omega arith) (omega arith) (omega arith))
    (valid 5150000 5250000 80000 2300 _ (omega arith) (omega arith) (omega arith) (omega arith) (omega arith))
    (valid 5250000 5350000 80000 2400 _ (omega arith) (omega arith) (omega arith) (omega arith) (omega arith)) (omega arith) (omega arith))

-- ---- a domain whose code is above the others

abbrev pub IsBelow : Domain → Domain → Type 0
IsBelow d c = key c.alpha2 < key d.alpha2

pub fresh_above : (old : List Domain) (d : Domain) → IsAboveAll old d → HasCode old d.alpha2 → ⊥
fresh_above old d above (c, there, same) =
    let below = All-contains (IsBelow d) old c above there in
    let is : key c.alpha2 ≡ key d.alpha2 = ap key same in
    omega (arith, below, is)

pub goes_last : (old new : List Domain) (d : Domain) → Inserts old new d → IsDb new → IsAboveAll old d → new ≡ old ++ d ∷ []
goes_last old new d inserts db above =
    let (i, within, is) = inserts.place in
    elim (cases_lt i (length old)) [
      | inl inside ↦ absurd (not_between i within inside (subst IsDb is db))
      | inr past ↦ is ∙ ap (λ k. insert old k d) (at_end i within past) ∙ insert_end old d
    ]
  where
    at_end : (i : ℕ) → i ≤ length old → length old ≤ i → i ≡ length old
    at_end i within past = omega (arith, within, past)

    not_between : (i : ℕ) → i ≤ length old → i < length old → IsDb (insert old i d) → ⊥
    not_between i within inside db =
        let ascending = db.ascending i (i + 1) d (omega arith) (subst (λ n. i + 1 < n) (sym (length-insert old i d within)) (omega (arith, inside))) in
        let is = rw (get_or-insert_at old i d d within, get_or-insert_above old i d d i (omega arith) within) at ascending in
        let below = above i d inside in
        omega (arith, is, below)

pub above_none : (old : List Domain) (d : Domain) → old ≡ [] → IsAboveAll old d
above_none old d is = subst (λ xs. IsAboveAll xs d) (sym is) (none (IsBelow d))

-- the world's code is below that of GB, and both are below that of US
gb_behind : IsAboveAll (world_domain ∷ []) gb_domain
gb_behind = All-cons (IsBelow gb_domain) world_domain [] (omega arith) (none (IsBelow gb_domain))

us_behind : IsAboveAll (world_domain ∷ gb_domain ∷ []) us_domain
us_behind = All-cons (IsBelow us_domain) world_domain (gb_domain ∷ []) (omega arith)
    (All-cons (IsBelow us_domain) gb_domain [] (omega arith) (none (IsBelow us_domain)))

pub gb_above : (old : List Domain) (d : Domain) → old ≡ world_domain ∷ [] → d ≡ gb_domain → IsAboveAll old d
gb_above old d is one = subst (λ xs. IsAboveAll xs d) (sym is) (subst (IsAboveAll (world_domain ∷ [])) (sym one) gb_behind)

pub us_above : (old : List Domain) (d : Domain) → old ≡ world_domain ∷ gb_domain ∷ [] → d ≡ us_domain → IsAboveAll old d
us_above old d is one = subst (λ xs. IsAboveAll xs d) (sym is) (subst (IsAboveAll (world_domain ∷ gb_domain ∷ [])) (sym one) us_behind)
