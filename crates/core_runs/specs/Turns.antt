-- The answering of items on its way. Only clauses of private functions cite it.
use Rattle.std.specs.Prelude.{ℕ, List, [], Option}
use Rattle.std.specs.Io.KnownBytes.{Appends}
use Rattle.rule_tables.specs.declared.domain.Domain.{Domain}
use Rattle.radio_drv.specs.Seen.{Seen}
use Rattle.reg_core.specs.declared.core_state.Core.{Core}
use Rattle.reg_journal.specs.Facts.{Journal}
use Rattle.core_runs.specs.Driven.{HaveGoneOn, IsAt}
use Rattle.core_runs.specs.Given.{EachGives}

-- the item was answered so, and the core and the drivers went on to the next journal
pub record IsTurn {A : Type 0} (gives : Journal → A → List ℕ → List ℕ → Journal → Type 0) (db : List Domain) (J : Journal) (item : A) (answer : List ℕ) (core : Core) (heard heard' : List (Option Seen)) : Type 0 where
  pub failed : List ℕ
  pub next : Journal
  pub here : gives J item answer failed next
  pub there : IsAt db next core heard'
  pub gone_on : HaveGoneOn failed heard heard'

-- These items were answered, their texts were written, and the core and the drivers stand where that led.
pub record IsRunSoFar {A : Type 0} (gives : Journal → A → List ℕ → List ℕ → Journal → Type 0) (db : List Domain) (items : List A) (before after : Option (List ℕ)) (core : Core) (heard heard' : List (Option Seen)) : Type 0 where
  pub text : List ℕ
  pub failed : List ℕ
  pub journal : Journal
  pub given : EachGives gives [] items text failed journal
  pub written : Appends before after text
  pub there : IsAt db journal core heard'
  pub gone_on : HaveGoneOn failed heard heard'
