-- Regions of radar detection.
use Rattle.std.specs.Prelude.{ℕ, ◌==◌, Bool, List, [], ◌∷◌, if◌then◌else◌}
use Rattle.std.specs.List.{list_all}
use Rattle.rule_tables.specs.declared.code.Region.{Region}
use Rattle.rule_tables.specs.declared.code.Region.TheVariants.{Unset, Fcc, Etsi, Jp}

-- the number of a region, in files and in messages
abbrev pub region_number : Region → ℕ
region_number Unset = 0
region_number Fcc = 1
region_number Etsi = 2
region_number Jp = 3

-- both are the same region, as a test
abbrev pub is_same_region : Region → Region → Bool
is_same_region one other = region_number one == region_number other

-- the region that all have, or unset where they differ or there is none
abbrev pub common_region : List Region → Region
common_region [] = Unset
common_region (region ∷ regions) = if list_all (is_same_region region) regions then region else Unset
