-- What a hint that the table of hints treats leads to.
use Rattle.std.specs.Prelude.{◌≡◌, List, ◌∷◌}
use Rattle.rule_tables.specs.declared.domain.Domain.{Domain}
use Rattle.rule_intersect.specs.Tables.{IsTableOf}
use Rattle.reg_hints.specs.Table.{State, Treated, treatment}
use Rattle.reg_hints.specs.declared.hint.Hint.{Hint}
use Rattle.reg_journal.specs.Applicable.{hints_of}
use Rattle.reg_journal.specs.Causes.{IsFree}
use Rattle.reg_journal.specs.Facts.{Journal, hinted}
use Rattle.reg_journal.specs.Refusals.{HintCauses}
use Rattle.core_parts.specs.Hinting.{AreNewTables}
use Rattle.reg_books.specs.Lists.{global_by}
use Rattle.reg_core.specs.declared.hint_outcomes.HintTables.{HintTables}
use Rattle.core_parts.specs.declared.radio.RadioPlace.{RadioPlace}
use Rattle.reg_core.specs.declared.hint_outcomes.HintOutcome.{HintOutcome}

-- the tables of the global list and of each radio's, where all hints have led to these
pub record AreHintTables (db : List Domain) (hints : State) (hint : Hint) (places : List RadioPlace) (tables : HintTables) : Type 0 where
  pub global : IsTableOf (global_by db hints) tables.global
  pub radios : AreNewTables db hints hint places tables.radios.items

-- nothing speaks against the hint, and it leads to this
pub record IsOutcome (db : List Domain) (J : Journal) (hint : Hint) (places : List RadioPlace) (outcome : HintOutcome) : Type 0 where
  pub free : IsFree (HintCauses db J (Treated hint))
  pub treatment_is : outcome.treatment ≡ treatment (hints_of J) hint
  pub hints : outcome.hints ≡ hints_of (hinted (Treated hint) ∷ J)
  pub tables : AreHintTables db outcome.hints hint places outcome.tables
