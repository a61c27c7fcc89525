-- Which domains apply to a radio, and its region.
use Rattle.std.specs.Prelude.{ℕ, ◌==◌, Bool, List, [], ◌∷◌, ◌++◌, map, find, Option, Some, None, option_and_then, if◌then◌else◌}
use Rattle.std.specs.List.{filter_map}
use Rattle.std.specs.Option.{option_map, option_to_list}
use Rattle.rule_tables.specs.Code.{is_same_code}
use Rattle.rule_tables.specs.Regions.{common_region}
use Rattle.rule_tables.specs.World.{custom_domain, world, world_domain}
use Rattle.rule_tables.specs.declared.code.Alpha2.{Alpha2}
use Rattle.rule_tables.specs.declared.code.Region.{Region}
use Rattle.rule_tables.specs.declared.domain.Domain.{Domain}
use Rattle.reg_hints.specs.Table.{Hinted, Treated, Own, State, after_all, hinted_code, IsOneTooMany}
use Rattle.reg_hints.specs.declared.hint.Hint.TheVariants.{User, Driver, Element}
use Rattle.reg_journal.specs.Facts.{Journal, hinted}
use Rattle.reg_journal.specs.Present.{abilities_of, custom_rules_of}

-- ---- hints

-- the accepted hints, the newest first
abbrev pub hinted_of : Journal → List Hinted
hinted_of [] = []
hinted_of (hinted hint ∷ J) = hint ∷ hinted_of J
hinted_of (f ∷ J) = hinted_of J

-- what they have led to: the last hint, and the codes of the global list
abbrev pub hints_of : Journal → State
hints_of J = after_all (hinted_of J)

-- the code that the hint names
abbrev pub code_of_hint : Hinted → Alpha2
code_of_hint (Treated hint) = hinted_code hint
code_of_hint (Own r a) = a

-- The hint would make the global list one of five codes. A driver's hint on a self-managed radio never touches that list.
abbrev pub AddsFifthCode : Journal → Hinted → Type 0
AddsFifthCode J (Treated hint) = IsOneTooMany (hints_of J) hint
AddsFifthCode J (Own r a) = ⊥

-- the code of the last hint of the radio's driver, if there was one
abbrev pub driver_code_in : List Hinted → ℕ → Option Alpha2
driver_code_in [] r = None
driver_code_in (Own q a ∷ hints) r = if r == q then Some a else driver_code_in hints r
driver_code_in (Treated (Driver q a) ∷ hints) r = if r == q then Some a else driver_code_in hints r
driver_code_in (Treated (User a) ∷ hints) r = driver_code_in hints r
driver_code_in (Treated (Element q a deaf) ∷ hints) r = driver_code_in hints r

-- the code of the last hint of the radio's driver, or none
abbrev pub driver_code_of : Journal → ℕ → Option Alpha2
driver_code_of J r = driver_code_in (hinted_of J) r

-- ---- domains

-- the domain that was found, or, for the world's code, the built-in domain of the world
abbrev pub or_world : Alpha2 → Option Domain → Option Domain
or_world a (Some d) = Some d
or_world a None = if is_same_code a world then Some world_domain else None

-- the domain of the code: the database's, or for the world's code its own where the database has none
abbrev pub find_domain : List Domain → Alpha2 → Option Domain
find_domain db a = or_world a (find (λ d. is_same_code d.alpha2 a) db)

-- the domains of the global list
abbrev pub global_domains : List Domain → Journal → List Domain
global_domains db J = filter_map (find_domain db) (hints_of J).global

-- the radio takes no rules but its own
abbrev pub is_self_managed : Journal → ℕ → Bool
is_self_managed J r = (abilities_of J r).self_managed

-- the domains that apply to the radio with all others: none where it is self-managed
abbrev pub shared_domains : List Domain → Journal → ℕ → List Domain
shared_domains db J r = if is_self_managed J r then [] else global_domains db J

-- that of its custom rules, where it has some
abbrev pub custom_domains : Journal → ℕ → List Domain
custom_domains J r = option_to_list (option_map custom_domain (custom_rules_of J r))

-- that of its driver's last hint, where there was one
abbrev pub driver_domains : List Domain → Journal → ℕ → List Domain
driver_domains db J r = option_to_list (option_and_then (find_domain db) (driver_code_of J r))

-- the list, or one domain without rules where it is empty
abbrev pub or_nothing : List Domain → List Domain
or_nothing [] = custom_domain [] ∷ []
or_nothing (d ∷ ds) = d ∷ ds

-- The domains that apply to the radio. There is always one.
abbrev pub applies : List Domain → Journal → ℕ → List Domain
applies db J r = or_nothing (shared_domains db J r ++ custom_domains J r ++ driver_domains db J r)

-- ---- regions

-- the region of the global list
abbrev pub global_region : List Domain → Journal → Region
global_region db J = common_region (map (λ d. d.region) (global_domains db J))

-- The region of the radio. Its custom rules have none.
abbrev pub region_of : List Domain → Journal → ℕ → Region
region_of db J r = common_region (map (λ d. d.region) (shared_domains db J r ++ driver_domains db J r))
