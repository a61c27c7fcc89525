-- The lists of domains that equal parts give are equal.
use Rattle.std.proofs.Common.{◌≡◌, Bool, List, Option, ap, ◌∙◌}
use Rattle.rule_tables.specs.declared.code.Alpha2.{Alpha2}
use Rattle.rule_tables.specs.declared.domain.Domain.{Domain}
use Rattle.reg_hints.specs.Table.{State}
use Rattle.reg_books.specs.Lists.{applies_by}

pub applies_by-same : (db : List Domain) (hints : State) (self_managed self_managed' : Bool) (custom custom' : List Domain) (driver driver' : Option Alpha2)
    → self_managed ≡ self_managed' → custom ≡ custom' → driver ≡ driver' → applies_by db hints self_managed custom driver ≡ applies_by db hints self_managed' custom' driver'
applies_by-same db hints self_managed self_managed' custom custom' driver driver' same_s same_c same_d =
    ap (λ s. applies_by db hints s custom driver) same_s
    ∙ ap (λ c. applies_by db hints self_managed' c driver) same_c
    ∙ ap (λ d. applies_by db hints self_managed' custom' d) same_d
