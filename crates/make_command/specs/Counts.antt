-- The line that sums replies up.
use Rattle.std.specs.Prelude.{ℕ, Bool, true, false, List, ◌++◌, length, sum_by, count_by, codes, decimal}
use Rattle.reg_journal.specs.declared.reply.Answer.TheVariants.{Hint, Started, Checking, Refused}
use Rattle.reg_journal.specs.declared.reply.Reply.{Reply}
use Rattle.reg_journal.specs.declared.reply.Reply.TheVariants.{Plain}

-- an operation started
abbrev pub is_start : Reply → Bool
is_start (Plain (Started power) effects) = true
is_start reply = false

-- the request was refused
abbrev pub is_refused : Reply → Bool
is_refused (Plain (Refused refusal) effects) = true
is_refused reply = false

-- a check for radar began
abbrev pub is_check : Reply → Bool
is_check (Plain (Checking length) effects) = true
is_check reply = false

-- a hint was taken
abbrev pub is_hint : Reply → Bool
is_hint (Plain (Hint taken) effects) = true
is_hint reply = false

-- how many operations and checks of others it came to
abbrev pub effect_count : Reply → ℕ
effect_count (Plain answer effects) = length effects
effect_count reply = 0

-- How many replies there are, how many of each kind, and how many effects they have in all.
abbrev pub counts_line : List Reply → List ℕ
counts_line replies =
    codes "requests " ++ (decimal (length replies) ++ (codes " started " ++ (decimal (count_by is_start replies)
    ++ (codes " refused " ++ (decimal (count_by is_refused replies) ++ (codes " checks " ++ (decimal (count_by is_check replies)
    ++ (codes " hints " ++ (decimal (count_by is_hint replies) ++ (codes " effects " ++ (decimal (sum_by effect_count replies) ++ codes "\n")))))))))))
