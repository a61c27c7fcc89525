-- What comes of a hint that the table of hints treats.
use Rattle.std.specs.Prelude.{◌≡◌, List, ◌∷◌, Option}
use Rattle.rule_tables.specs.declared.domain.Domain.{Domain}
use Rattle.radio_drv.specs.Seen.{Seen}
use Rattle.reg_hints.specs.Table.{Hinted, Treated, treatment}
use Rattle.reg_hints.specs.declared.hint.Hint.{Hint}
use Rattle.reg_hints.specs.declared.hint.Treatment.{Treatment}
use Rattle.reg_journal.specs.Applicable.{hints_of}
use Rattle.reg_journal.specs.Causes.{IsFree}
use Rattle.reg_journal.specs.Due.{FitsItsRadio}
use Rattle.reg_journal.specs.Facts.{Journal, hinted}
use Rattle.reg_journal.specs.Present.{ifaces_of}
use Rattle.reg_journal.specs.Refusals.{HintCauses}
use Rattle.reg_journal.specs.declared.effects.Effect.{Effect}
use Rattle.reg_core.specs.Kept.{Keeps}
use Rattle.reg_core.specs.inner.Sweeping.{IsSweepOf}
use Rattle.reg_core.specs.declared.core_state.Core.{Core}

-- the core keeps some journal that the hint fits
pub record MayHint (core : Core) (hint : Hinted) : Type 0 where
  pub db : List Domain
  pub journal : Journal
  pub keeps : Keeps db core journal
  pub fits : FitsItsRadio journal hint

-- Nothing speaks against the hint; it is treated so, and all interfaces are swept.
pub record TakesHint (db : List Domain) (J : Journal) (hint : Hint) (t : Treatment) (new : Core) (row row' : List (Option Seen)) (effects : List Effect) : Type 0 where
  pub free : IsFree (HintCauses db J (Treated hint))
  pub treatment_is : t ≡ treatment (hints_of J) hint
  pub sweep : IsSweepOf db (hinted (Treated hint) ∷ J) (ifaces_of J) new row row' effects
