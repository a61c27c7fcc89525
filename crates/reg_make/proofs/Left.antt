-- One request after the other, of what is left.
use Rattle.std.proofs.Common.{refl, ap, ◌≡◌, ℕ, zero, suc, ◌+◌, ◌-◌, ◌<◌, List, [], ◌∷◌, ◌++◌}
use native.Mathlib.Omega.{arith}
use native.Mathlib.Numerals.{unary_clauses}
use Rattle.chan_def.specs.declared.kind.Kind.TheVariants.{Ap, Station}
use Rattle.chan_flags.specs.Profiles.{Abilities}
use Rattle.reg_journal.specs.declared.request.Request.TheVariants.{RadioAdd, IfaceAdd}
use Rattle.reg_make.specs.declared.radios.Part.{Part}
use Rattle.reg_make.specs.declared.radios.Part.TheVariants.{Whole, Ifaces, LastIface}
use Rattle.reg_make.specs.Made.{ap_name, sta_name, made_profile, of_radios, of_turns, turn_moment, turn_number, turn_request}
use Rattle.reg_make.specs.inner.Left.{left_of_radios}

pub whole : (n r : ℕ) → of_radios n r ≡ left_of_radios n r Whole
unfolding of_radios left_of_radios
whole zero r = refl
whole (suc n) r = refl

pub eight : left_of_radios 8 0 Whole ≡ of_radios 8 0
unfolding of_radios left_of_radios
eight = refl

-- a radio comes, and both interfaces of it are left
pub radio_first : (n r : ℕ) (part : Part) (radio : ℕ) (profile : Abilities) → part ≡ Whole → radio ≡ r → profile ≡ made_profile → 0 < n
    → left_of_radios n r part ≡ RadioAdd radio profile ∷ left_of_radios n r Ifaces
unfolding left_of_radios
radio_first zero r part radio profile is one made some = absurd (omega (arith, some))
radio_first (suc n) r part radio profile is one made some = rw (is, one, made) refl

-- its access point comes, and its station is left
pub ap_first : (n r : ℕ) (part : Part) (radio : ℕ) (name : List ℕ) → part ≡ Ifaces → radio ≡ r → name ≡ ap_name r → 0 < n
    → left_of_radios n r part ≡ IfaceAdd radio name Ap ∷ left_of_radios n r LastIface
unfolding left_of_radios
ap_first zero r part radio name is one named some = absurd (omega (arith, some))
ap_first (suc n) r part radio name is one named some = rw (is, one, named) refl

-- its station comes, and the next radio is left
pub sta_first : (n r : ℕ) (part : Part) (radio : ℕ) (name : List ℕ) → part ≡ LastIface → radio ≡ r → name ≡ sta_name r → 0 < n
    → left_of_radios n r part ≡ IfaceAdd radio name Station ∷ left_of_radios (n - 1) (r + 1) Whole
unfolding left_of_radios
sta_first zero r part radio name is one named some = absurd (omega (arith, some))
sta_first (suc n) r part radio name is one named some = rw (is, one, named) (simp unary_clauses (ap (λ xs. IfaceAdd r (sta_name r) Station ∷ xs) (whole n (suc r))))

-- neither a radio nor a turn is left
pub none_left : (radios r turns moment x : ℕ) (part : Part) → (0 < radios → ⊥) → turns ≡ 0
    → left_of_radios radios r part ++ of_turns turns moment x ≡ []
unfolding left_of_radios of_turns
none_left zero r turns moment x part none over = rw over refl
none_left (suc n) r turns moment x part none over = absurd (none (omega arith))

-- no radio is left, and a turn comes
pub one_turn : (radios r turns moment x : ℕ) (part : Part) → (0 < radios → ⊥) → (turns ≡ 0 → ⊥)
    → left_of_radios radios r part ++ of_turns turns moment x
    ≡ turn_request moment x ∷ (left_of_radios radios r part ++ of_turns (turns - 1) (turn_moment moment x) (turn_number x))
unfolding left_of_radios of_turns
one_turn zero r zero moment x part none more = absurd (more refl)
one_turn zero r (suc n) moment x part none more = simp unary_clauses refl
one_turn (suc m) r turns moment x part none more = absurd (none (omega arith))
