-- A new core stands for the empty journal.
use Rattle.std.proofs.Common.{◌≡◌, false, List, []}
use Rattle.freq_range.proofs.Members.{Contains-nothing}
use Rattle.rule_tables.specs.Databases.{IsDb}
use Rattle.rule_tables.specs.declared.domain.Domain.{Domain}
use Rattle.rule_intersect.specs.Tables.{IsTableOf}
use Rattle.reg_hints.specs.Table.{no_hints}
use Rattle.core_parts.specs.Kept.{KeepsRadios}
use Rattle.reg_core.specs.Kept.{StandsFor}
use Rattle.reg_books.specs.Lists.{global_by}
use Rattle.reg_core.specs.declared.core_state.Core.{Core}

pub stands_at_first : (db : List Domain) (core : Core) → IsDb db → core.domains ≡ db → core.clock ≡ 0 → core.indoor ≡ false → core.hints ≡ no_hints → core.made ≡ 0
    → IsTableOf (global_by db no_hints) core.global → KeepsRadios db [] core.radios → core.interfaces ≡ [] → StandsFor db core []
stands_at_first db core is_db domains clock indoor hints made global radios interfaces = record {
  is_db = is_db;
  keeps = record {
    due = tt;
    domains = domains;
    clock = clock;
    indoor = indoor;
    hints = hints;
    made = made;
    global = global;
    radios = radios;
    interfaces = interfaces;
  };
  settled = λ x has. absurd (Contains-nothing x has);
}
