-- The region of the domains so far.
use Rattle.std.specs.Prelude.{◌≡◌, ◌<◌, List, [], length, map, Option, Some, None}
use Rattle.rule_tables.specs.declared.code.Region.{Region}
use Rattle.rule_tables.specs.declared.domain.Domain.{Domain}
use Rattle.rule_tables.specs.Regions.{common_region}

-- the region that they have in common, where there are some
abbrev pub IsRegionSoFar : List Domain → Option Region → Type 0
IsRegionSoFar ds None = ds ≡ []
IsRegionSoFar ds (Some region) = (0 < length ds) × (region ≡ common_region (map (λ d. d.region) ds))
