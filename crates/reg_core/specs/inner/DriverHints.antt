-- What comes of a hint of a radio's driver.
use Rattle.std.specs.Prelude.{◌≡◌, ℕ, not, List, ◌∷◌, Option}
use Rattle.rule_tables.specs.Regions.{is_same_region}
use Rattle.rule_tables.specs.declared.code.Alpha2.{Alpha2}
use Rattle.rule_tables.specs.declared.domain.Domain.{Domain}
use Rattle.rule_intersect.specs.Tables.{IsTableOf}
use Rattle.radio_drv.specs.Seen.{Seen}
use Rattle.reg_hints.specs.Table.{Own}
use Rattle.reg_journal.specs.Applicable.{applies, region_of}
use Rattle.reg_journal.specs.Causes.{IsFree}
use Rattle.reg_journal.specs.Facts.{Journal, hinted}
use Rattle.reg_journal.specs.Present.{ifaces_of}
use Rattle.reg_journal.specs.Refusals.{HintCauses, LacksRadio}
use Rattle.reg_journal.specs.Replies.{answer_of, driver_hint}
use Rattle.reg_journal.specs.declared.effects.Effect.{Effect}
use Rattle.reg_journal.specs.declared.reply.HintAnswer.{HintAnswer}
use Rattle.reg_books.specs.Calls.{checks_last_on}
use Rattle.reg_core.specs.inner.Sweeping.{IsSweepOf}
use Rattle.reg_core.specs.declared.core_state.Core.{Core}
use Rattle.reg_core.specs.declared.driver_hints.Tuning.{Tuning}

-- what the hint gives to the radio, which manages itself
pub record Tunes (db : List Domain) (J : Journal) (r : ℕ) (a : Alpha2) (tuning : Tuning) : Type 0 where
  pub table_is : IsTableOf (applies db (hinted (Own r a) ∷ J) r) tuning.table
  pub moved_is : tuning.moved ≡ not (is_same_region (region_of db (hinted (Own r a) ∷ J) r) (region_of db J r))
  pub lasts_is : tuning.lasts ≡ checks_last_on db (hinted (Own r a) ∷ J) r

-- nothing speaks against the hint, and it gives this
pub record IsTuning (db : List Domain) (J : Journal) (r : ℕ) (a : Alpha2) (tuning : Tuning) : Type 0 where
  pub free : IsFree (HintCauses db J (Own r a))
  pub tunes : Tunes db J r a tuning

-- nothing speaks against the hint; the radio has it, and all interfaces are swept
pub record TakesOwn (db : List Domain) (J : Journal) (r : ℕ) (a : Alpha2) (new : Core) (row row' : List (Option Seen)) (effects : List Effect) : Type 0 where
  pub free : IsFree (HintCauses db J (Own r a))
  pub sweep : IsSweepOf db (hinted (Own r a) ∷ J) (ifaces_of J) new row row' effects

-- The radio is there, and nothing speaks against the hint, whose radio manages itself or not; it is taken so, and all interfaces are
-- swept.
pub record HearsDriver (db : List Domain) (J : Journal) (r : ℕ) (a : Alpha2) (answer : HintAnswer) (new : Core) (row row' : List (Option Seen)) (effects : List Effect) : Type 0 where
  pub there : IsFree (LacksRadio J r)
  pub free : IsFree (HintCauses db J (driver_hint J r a))
  pub answer_is : answer ≡ answer_of J (driver_hint J r a)
  pub sweep : IsSweepOf db (hinted (driver_hint J r a) ∷ J) (ifaces_of J) new row row' effects
