use Rattle.std.proofs.Common.{◌≡◌, ◌*◌, ◌≤◌, length, sum_by, take}
use Rattle.db_commands.proofs.count_report.count_rules.Given as goal

-- the rules of the domains so far
abbrev pub invariant-loop-domain : goal.invariant-loop-domain
invariant-loop-domain l = record {
  exact : l.rules ≡ sum_by (λ d. length d.rules) (take l.domain-index l.domains);
  small : l.rules ≤ 128 * l.domain-index;
}
