-- A domain that goes behind all others. Only clauses of private functions cite it.
use Rattle.std.specs.Prelude.{◌<◌, List, All}
use Rattle.rule_tables.specs.Code.{key}
use Rattle.rule_tables.specs.declared.domain.Domain.{Domain}

-- its code is above all of theirs
abbrev pub IsAboveAll : List Domain → Domain → Type 0
IsAboveAll domains d = All (λ c. key c.alpha2 < key d.alpha2) domains
