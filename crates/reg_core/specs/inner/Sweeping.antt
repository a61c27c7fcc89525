-- What a sweep finds and does.
use Rattle.std.specs.Prelude.{◌≡◌, ℕ, ◌==◌, true, false, Bool, List, [], ◌∷◌, ◌++◌, Contains, filter, Option, None, Some, MatchBool, slice_index_or}
use Rattle.std.specs.List.{filter_map}
use Rattle.std.specs.Option.{option_map, option_to_list}
use Rattle.rule_tables.specs.declared.domain.Domain.{Domain}
use Rattle.radio_drv.specs.Seen.{Seen}
use Rattle.reg_journal.specs.Facts.{Journal, after}
use Rattle.reg_journal.specs.Present.{Check, Iface, check_of, ifaces_of}
use Rattle.reg_journal.specs.Sweep.{Becomes, RegionChangedInCheck}
use Rattle.reg_journal.specs.declared.effects.Effect.{Effect}
use Rattle.reg_core.specs.Kept.{Keeps}
use Rattle.core_parts.specs.Changes.{AreEachTold, CanAllCome, IsInterfaceOf, effect_in, fact_of, facts_of, interface_in}
use Rattle.core_parts.specs.declared.change.Change.{Change}
use Rattle.reg_core.specs.declared.core_state.Core.{Core}

-- what is to become of the interface, and to whom it comes
abbrev pub Judges : List Domain → Journal → Iface → Option Change → Type 0
Judges db J x None = Becomes db J x None
Judges db J x (Some c) = IsInterfaceOf J x (interface_in c) × Becomes db J x (Some (fact_of c))

-- each gives at most one change, in order
abbrev pub AreEach : (Iface → Option Change → Type 0) → List Iface → List Change → Type 0
AreEach how [] changes = changes ≡ []
AreEach how (x ∷ xs) changes = (c : Option Change) × (rest : List Change) × how x c × AreEach how xs rest × (changes ≡ option_to_list c ++ rest)

-- the interface is one of those that are asked for: of one radio, or any
abbrev pub is_wanted : Option ℕ → Iface → Bool
is_wanted None x = true
is_wanted (Some r) x = x.radio == r

abbrev pub wanted : Option ℕ → List Iface → List Iface
wanted only xs = filter (is_wanted only) xs

-- these say of each radio whether its region changed since the checks on it began
abbrev pub AreMoved : List Domain → Journal → List Bool → Type 0
AreMoved db J moved = (x : Iface) (k : Check) → Contains (ifaces_of J) x → check_of J x.index ≡ Some k
    → MatchBool (slice_index_or moved x.radio false) (RegionChangedInCheck db J x) (RegionChangedInCheck db J x → ⊥)

-- What came of a sweep of these interfaces: each got what it was to become, the core keeps it, the drivers were told, and the effects
-- tell of it.
pub record IsSweepOf (db : List Domain) (J : Journal) (xs : List Iface) (new : Core) (row row' : List (Option Seen)) (effects : List Effect) : Type 0 where
  pub changes : List Change
  pub judged : AreEach (Judges db J) xs changes
  pub can : CanAllCome db J changes
  pub keeps : Keeps db new (after (facts_of changes) J)
  pub told : AreEachTold changes row row'
  pub effects_are : effects ≡ filter_map effect_in changes
