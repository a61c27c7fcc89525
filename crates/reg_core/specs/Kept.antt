-- What the core keeps of a journal: of each interface, of each radio, and in all.
use Rattle.std.specs.Prelude.{◌≡◌, List}
use Rattle.rule_tables.specs.Databases.{IsDb}
use Rattle.rule_tables.specs.declared.domain.Domain.{Domain}
use Rattle.rule_intersect.specs.Tables.{IsTableOf}
use Rattle.reg_journal.specs.Applicable.{global_domains, hints_of}
use Rattle.reg_journal.specs.Due.{EachMayFollow}
use Rattle.reg_journal.specs.Facts.{Journal}
use Rattle.reg_journal.specs.Present.{is_indoor, made_of, now_of}
use Rattle.reg_journal.specs.Settled.{AreSettled}
use Rattle.reg_core.specs.declared.core_state.Core.{Core}
use Rattle.core_parts.specs.Kept.{interfaces_of, KeepsRadios}

-- Each part of the core is what the journal says, whose facts came each where it might.
pub record Keeps (db : List Domain) (core : Core) (J : Journal) : Type 0 where
  pub due : EachMayFollow db J
  pub domains : core.domains ≡ db
  pub clock : core.clock ≡ now_of J
  pub indoor : core.indoor ≡ is_indoor J
  pub hints : core.hints ≡ hints_of J
  pub made : core.made ≡ made_of J
  pub global : IsTableOf (global_domains db J) core.global
  pub radios : KeepsRadios db J core.radios
  pub interfaces : core.interfaces ≡ interfaces_of J

-- The core of the database stands for the journal: it keeps what the journal says, and what the interfaces do may go on.
pub record StandsFor (db : List Domain) (core : Core) (J : Journal) : Type 0 where
  pub is_db : IsDb db
  pub keeps : Keeps db core J
  pub settled : AreSettled db J
