-- The book of a radio that has just been added was told of moments and regions alone.
use Rattle.std.proofs.Common.{◌≡◌, ℕ, ◌==◌, true, List, [], ◌∷◌, Some, IsSome, subst, inl, inr, eq-eqb, ne_eqb}
use Rattle.std.proofs.lemmas.Bool.{cases_eq, false≢true, or_left, or_right}
use Rattle.std.proofs.lemmas.Option.{none-some, same_Some}
use Rattle.rule_tables.specs.declared.domain.Domain.{Domain}
use Rattle.chan_flags.specs.Profiles.{Abilities}
use Rattle.dfs_states.specs.Calls.{RegionChanged}
use Rattle.dfs_states.specs.Meaning.{IsBlank, AreBlank}
use Rattle.dfs_states.proofs.Splits.{has_cases}
use Rattle.reg_journal.specs.Facts.{Journal, radio_added, radio_removed, made}
use Rattle.reg_journal.specs.Present.{is_used, profile_of, radio_of}
use Rattle.reg_journal.specs.Due.{EachMayFollow}
use Rattle.reg_books.specs.Calls.{calls_of, checks_last_on}
use Rattle.reg_books.proofs.Newcomers.{blank_calls}
use Rattle.reg_books.proofs.Over.{region_pushed}

-- what a radio finds that has just been added
pub added_blank : (db : List Domain) (J : Journal) (r : ℕ) (profile : Abilities) → EachMayFollow db (radio_added r profile ∷ J)
    → AreBlank (calls_of db (radio_added r profile ∷ J) r)
added_blank db J r profile due =
    region_pushed AreBlank db (radio_added r profile) J r (calls_of db J r)
    (λ call has. elim (has_cases (RegionChanged (checks_last_on db (radio_added r profile ∷ J) r)) call (calls_of db J r) has) [
      | inl same ↦ subst (λ c. IsBlank c) same tt
      | inr older ↦ blank call older
    ])
    blank
  where
    blank : AreBlank (calls_of db J r)
    blank = blank_calls db J r due.1 due.0.1
