use Rattle.std.proofs.Common.{◌≡◌, ◌-◌, ◌≤◌, [], length, take}
use Rattle.std.specs.List.{filter_map}
use Rattle.reg_journal.specs.Applicable.{find_domain}
use Rattle.reg_core.proofs.dumps.sections.first_shared.Given as goal

abbrev pub invariant-codes : goal.invariant-codes
invariant-codes l = record {
  none : filter_map (find_domain l.domains) (take l.k l.hints.global) ≡ [];
  within : l.k ≤ length l.hints.global;
}

abbrev pub decreases-codes : goal.decreases-codes
decreases-codes l = length l.hints.global - l.k
