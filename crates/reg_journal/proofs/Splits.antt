-- Where an element stands in a list.
use Rattle.std.proofs.Common.{◌≡◌, List, [], ◌∷◌, ◌++◌, refl, sym, ap, subst, ◌⊎◌, inl, inr, ℕ}
use Rattle.chan_def.specs.declared.definition.ChanDef.{ChanDef}
use Rattle.reg_journal.specs.Facts.{Fact, Journal, check_begun, check_dropped}
use Rattle.reg_journal.specs.Radar.{HasCheck}

-- it is the first one, or it comes after that
pub split_cases : {X : Type 0} (f : X) (facts newer older : List X) (g : X) → f ∷ facts ≡ newer ++ g ∷ older
    → ((newer ≡ []) × (f ≡ g) × (facts ≡ older)) ⊎ ((rest : List X) × (newer ≡ f ∷ rest) × (facts ≡ rest ++ g ∷ older))
split_cases f facts [] older g at = inl (refl, cc, cc)
split_cases f facts (x ∷ newer) older g at = inr (newer, cc, cc)

-- nothing stands in the empty list
pub not_split : {X : Type 0} (newer older : List X) (g : X) → [] ≡ newer ++ g ∷ older → ⊥
not_split [] older g at = cc
not_split (x ∷ newer) older g at = cc

-- ---- checks that began

-- the newest fact began one, or an older one did
pub check_newest : (facts : Journal) (i : ℕ) (chan : ChanDef) (length : ℕ) → HasCheck (check_begun i chan length ∷ facts) i
check_newest facts i chan length = record { newer = []; chan = chan; length = length; older = facts; begun = refl }

pub check_older : (f : Fact) (facts : Journal) (i : ℕ) → HasCheck facts i → HasCheck (f ∷ facts) i
check_older f facts i has = record {
  newer = f ∷ has.newer;
  chan = has.chan;
  length = has.length;
  older = has.older;
  begun = ap (λ xs. f ∷ xs) has.begun;
}

pub check_cases : (f : Fact) (facts : Journal) (i : ℕ) → HasCheck (f ∷ facts) i
    → ((chan : ChanDef) × (length : ℕ) × (f ≡ check_begun i chan length)) ⊎ HasCheck facts i
check_cases f facts i has = elim (split_cases f facts has.newer has.older (check_begun i has.chan has.length) has.begun) [
  | inl newest ↦ inl (has.chan, has.length, newest.1)
  | inr older ↦ inr (record { newer = older.0; chan = has.chan; length = has.length; older = has.older; begun = older.2 })
]

pub none_began : (i : ℕ) → HasCheck [] i → ⊥
none_began i has = not_split has.newer has.older (check_begun i has.chan has.length) has.begun

-- one that began in a part began in the whole
pub check_front : (facts more : Journal) (i : ℕ) → HasCheck facts i → HasCheck (facts ++ more) i
check_front [] more i has = absurd (none_began i has)
check_front (f ∷ facts) more i has = elim (check_cases f facts i has) [
  | inl newest ↦ subst (λ g. HasCheck (g ∷ (facts ++ more)) i) (sym newest.2) (check_newest (facts ++ more) i newest.0 newest.1)
  | inr older ↦ check_older f (facts ++ more) i (check_front facts more i older)
]

-- ---- checks that were dropped

-- the check of the interface was dropped
pub record HasDrop (facts : Journal) (i : ℕ) : Type 0 where
  pub newer : Journal
  pub older : Journal
  pub dropped : facts ≡ newer ++ check_dropped i ∷ older

-- the newest fact dropped one, or an older one did
pub drop_newest : (facts : Journal) (i : ℕ) → HasDrop (check_dropped i ∷ facts) i
drop_newest facts i = record { newer = []; older = facts; dropped = refl }

pub drop_older : (f : Fact) (facts : Journal) (i : ℕ) → HasDrop facts i → HasDrop (f ∷ facts) i
drop_older f facts i has = record { newer = f ∷ has.newer; older = has.older; dropped = ap (λ xs. f ∷ xs) has.dropped }

pub drop_cases : (f : Fact) (facts : Journal) (i : ℕ) → HasDrop (f ∷ facts) i → (f ≡ check_dropped i) ⊎ HasDrop facts i
drop_cases f facts i has = elim (split_cases f facts has.newer has.older (check_dropped i) has.dropped) [
  | inl newest ↦ inl newest.1
  | inr older ↦ inr (record { newer = older.0; older = has.older; dropped = older.2 })
]

pub none_dropped : (i : ℕ) → HasDrop [] i → ⊥
none_dropped i has = not_split has.newer has.older (check_dropped i) has.dropped
