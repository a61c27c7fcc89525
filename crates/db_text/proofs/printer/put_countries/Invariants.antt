use Rattle.std.proofs.Common.{◌≡◌, ◌++◌, drop, flat_map}
use Rattle.db_text.specs.Printed.{country_lines, text_of_lines}
use Rattle.db_text.proofs.printer.put_countries.Given as goal

abbrev pub invariant-loop-domain : goal.invariant-loop-domain
invariant-loop-domain l =
    l.out ++ text_of_lines (flat_map (country_lines l.names.rules.items) (drop l.domain-index l.domains))
    ≡ l.initial.out ++ text_of_lines (flat_map (country_lines l.names.rules.items) l.domains)
