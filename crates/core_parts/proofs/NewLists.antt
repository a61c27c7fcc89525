-- The list of a radio with neither custom rules nor a driver's hint.
use Rattle.std.proofs.Common.{◌≡◌, ◌<◌, Bool, true, false, List, [], ◌∷◌, ◌++◌, length, All, None, arith, rules, refl, sym, subst, ap, ◌∙◌}
use Rattle.std.proofs.lemmas.List.{append-nil}
use Rattle.freq_range.specs.Valid.{IsValidRule}
use Rattle.rule_tables.specs.declared.domain.Domain.{Domain}
use Rattle.rule_intersect.specs.Tables.{Joined}
use Rattle.rule_intersect.proofs.OwnRows.{some_own_rows}
use Rattle.rule_intersect.proofs.Resolved.{IsTableOf-first}
use Rattle.reg_hints.specs.Table.{State}
use Rattle.rule_tables.specs.World.{custom_domain}
use Rattle.reg_journal.specs.Applicable.{or_nothing}
use Rattle.reg_books.specs.Lists.{applies_by, global_by}
use Rattle.core_parts.specs.Making.{HasTable}

pub or_nothing-some : (ds : List Domain) → 0 < length ds → or_nothing ds ≡ ds
or_nothing-some [] some = absurd (omega (arith, some))
or_nothing-some (d ∷ ds) some = refl

empty_rules : All IsValidRule []
empty_rules = search rules

table_of_nothing : HasTable (custom_domain [] ∷ [])
table_of_nothing =
    let own = some_own_rows [] in
    let table : Joined = record { rows = own.0; domains = 1 } in
    (table, IsTableOf-first (custom_domain []) own.0 empty_rules (omega arith) own.1)

pub some_table : (db : List Domain) (hints : State) (self_managed : Bool) → HasTable (global_by db hints) → HasTable (applies_by db hints self_managed [] None)
some_table db hints true has = table_of_nothing
some_table db hints false has =
    let global = global_by db hints in
    let same : or_nothing (global ++ [] ++ []) ≡ global =
    ap or_nothing (append-nil (global ++ []) ∙ append-nil global) ∙ or_nothing-some global has.1.some in
    subst HasTable (sym same) has
