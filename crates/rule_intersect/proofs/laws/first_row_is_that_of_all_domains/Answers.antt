use Rattle.rule_intersect.proofs.Lawful.{IsGoverningRow-first, EachHasRule-first, IsFirstRow-some}
use Rattle.rule_intersect.proofs.laws.first_row_is_that_of_all_domains.Goals as goal

pub returns-clause-row : goal.returns-clause-row
returns-clause-row c = IsGoverningRow-first

pub returns-clause-only : goal.returns-clause-only
returns-clause-only c = EachHasRule-first

pub returns-clause-some : goal.returns-clause-some
returns-clause-some c = IsFirstRow-some
