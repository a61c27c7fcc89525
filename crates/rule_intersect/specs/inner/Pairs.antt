-- How the rows of a longer list of domains are made of those of a shorter one, pair by pair.
use Rattle.std.specs.Prelude.{ℕ, suc, ◌+◌, List, [], ◌∷◌, ◌++◌, if◌then◌else◌}
use Rattle.freq_range.specs.declared.rule.Rule.{Rule}
use Rattle.rule_intersect.specs.Joining.{meets, meets_rule, join}
use Rattle.rule_intersect.specs.declared.row.Row.{Row}

-- how many of the rules the row meets
abbrev pub met_one : Row → List Rule → ℕ
met_one row [] = 0
met_one row (r ∷ rules) = if meets_rule row r then suc (met_one row rules) else met_one row rules

-- how many pairs of a row and a rule meet
abbrev pub met_all : List Row → List Rule → ℕ
met_all [] rules = 0
met_all (row ∷ rows) rules = met_one row rules + met_all rows rules

-- the row joined with each of the others that it meets, in their order
abbrev pub join_one : Row → List Row → List Row
join_one row [] = []
join_one row (other ∷ others) = if meets row other then join row other ∷ join_one row others else join_one row others

-- each row joined so, in their order
abbrev pub join_all : List Row → List Row → List Row
join_all [] others = []
join_all (row ∷ rows) others = join_one row others ++ join_all rows others
