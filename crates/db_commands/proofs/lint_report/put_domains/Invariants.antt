use Rattle.std.proofs.Common.{◌*◌, ◌≤◌, take}
use Rattle.db_commands.specs.inner.Noted.{AreNotedLines}
use Rattle.db_commands.proofs.lint_report.put_domains.Given as goal

-- the lines of the domains so far
abbrev pub invariant-loop-domain : goal.invariant-loop-domain
invariant-loop-domain l = record {
  noted : AreNotedLines (take l.domain-index l.domains) l.initial.out l.out l.silent;
  small : l.silent ≤ 128 * l.domain-index;
}
