-- The lists of domains, by what the core keeps of hints and radios.
use Rattle.std.specs.Prelude.{Bool, List, [], ◌++◌, map, Option, option_and_then, if◌then◌else◌}
use Rattle.std.specs.List.{filter_map}
use Rattle.std.specs.Option.{option_to_list}
use Rattle.rule_tables.specs.declared.code.Alpha2.{Alpha2}
use Rattle.rule_tables.specs.declared.code.Region.{Region}
use Rattle.rule_tables.specs.declared.domain.Domain.{Domain}
use Rattle.reg_hints.specs.Table.{State}
use Rattle.rule_tables.specs.Regions.{common_region}
use Rattle.reg_journal.specs.Applicable.{find_domain, or_nothing}

-- the global list
abbrev pub global_by : List Domain → State → List Domain
global_by db hints = filter_map (find_domain db) hints.global

-- what a radio has of it: nothing where it manages itself
abbrev pub shared_by : List Domain → State → Bool → List Domain
shared_by db hints self_managed = if self_managed then [] else global_by db hints

-- the domain of the code of a driver's hint
abbrev pub driver_by : List Domain → Option Alpha2 → List Domain
driver_by db driver = option_to_list (option_and_then (find_domain db) driver)

-- the list of a radio that may manage itself, with the domain of its custom rules and the code of its driver's hint
abbrev pub applies_by : List Domain → State → Bool → List Domain → Option Alpha2 → List Domain
applies_by db hints self_managed custom driver = or_nothing (shared_by db hints self_managed ++ custom ++ driver_by db driver)

-- its region
abbrev pub region_by : List Domain → State → Bool → Option Alpha2 → Region
region_by db hints self_managed driver = common_region (map (λ d. d.region) (shared_by db hints self_managed ++ driver_by db driver))
