use Rattle.std.proofs.Common.{◌-◌, ◌≤◌, length, take}
use Rattle.std.specs.List.{filter_map}
use Rattle.reg_journal.specs.Applicable.{find_domain}
use Rattle.core_parts.specs.RegionSoFar.{IsRegionSoFar}
use Rattle.core_parts.proofs.regions.shared_region.Given as goal

abbrev pub invariant-codes : goal.invariant-codes
invariant-codes l = record {
  so_far : IsRegionSoFar (filter_map (find_domain l.domains) (take l.k l.hints.global)) l.so_far;
  within : l.k ≤ length l.hints.global;
}

abbrev pub decreases-codes : goal.decreases-codes
decreases-codes l = length l.hints.global - l.k
