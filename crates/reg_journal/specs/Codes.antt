-- The numbers of answers: a code for each, and for a refusal the errno, which is answered below 0.
use Rattle.std.specs.Prelude.{ℕ}
use Rattle.reg_hints.specs.declared.hint.Treatment.TheVariants.{Replace, Intersect, Already, Ignore}
use Rattle.reg_journal.specs.declared.refusal.Refusal.{Refusal}
use Rattle.reg_journal.specs.declared.refusal.Refusal.TheVariants.{MomentBack, MomentTooLarge, NoRadio, SlotUsed, NoInterface, NameTaken, Full, WrongType, Busy, BadChannel, RadioLacks, RadioLacksWidth, RadioLacksContext, NoRule, Width, NoOfdm, NoIr, NoOutdoor, Power, RadioLacksRadarWidth, Radar, Unchecked, DriverFailed, NothingToCheck, NotRunning, NoCountry, TooManyDomains, TooManyRows, NoRules, TooManyRules, BadRule, ElementShort, ElementOdd, ElementNotLetters}
use Rattle.reg_journal.specs.declared.reply.Answer.{Answer}
use Rattle.reg_journal.specs.declared.reply.Answer.TheVariants.{Ok, Hint, Started, Checking, Refused}
use Rattle.reg_journal.specs.declared.reply.HintAnswer.TheVariants.{Treated, Own}

-- the code and the errno of each refusal
abbrev pub code_and_errno : Refusal → ℕ × ℕ
code_and_errno (MomentBack now) = (20, 22)
code_and_errno (MomentTooLarge moment) = (21, 34)
code_and_errno (NoRadio r) = (22, 19)
code_and_errno (SlotUsed r) = (23, 17)
code_and_errno (NoInterface name) = (24, 19)
code_and_errno (NameTaken name) = (25, 17)
code_and_errno Full = (26, 23)
code_and_errno WrongType = (27, 95)
code_and_errno Busy = (28, 16)
code_and_errno BadChannel = (29, 22)
code_and_errno (RadioLacks s) = (30, 22)
code_and_errno (RadioLacksWidth mhz) = (31, 22)
code_and_errno (RadioLacksContext n) = (32, 16)
code_and_errno (NoRule s) = (33, 22)
code_and_errno (Width s) = (34, 22)
code_and_errno (NoOfdm s) = (35, 22)
code_and_errno (NoIr s) = (36, 22)
code_and_errno (NoOutdoor s) = (37, 22)
code_and_errno (Power limit) = (38, 34)
code_and_errno (RadioLacksRadarWidth mhz) = (39, 22)
code_and_errno (Radar s) = (40, 22)
code_and_errno (Unchecked s) = (41, 22)
code_and_errno DriverFailed = (42, 5)
code_and_errno NothingToCheck = (43, 114)
code_and_errno NotRunning = (44, 2)
code_and_errno (NoCountry a) = (45, 2)
code_and_errno TooManyDomains = (46, 23)
code_and_errno (TooManyRows n) = (47, 23)
code_and_errno NoRules = (48, 22)
code_and_errno (TooManyRules n) = (49, 22)
code_and_errno (BadRule k) = (50, 22)
code_and_errno (ElementShort n) = (51, 22)
code_and_errno (ElementOdd n) = (52, 22)
code_and_errno ElementNotLetters = (53, 22)

-- the code of each answer
abbrev pub code_of_answer : Answer → ℕ
code_of_answer Ok = 0
code_of_answer (Hint (Treated Replace)) = 1
code_of_answer (Hint (Treated Intersect)) = 2
code_of_answer (Hint (Treated Already)) = 3
code_of_answer (Hint (Treated Ignore)) = 4
code_of_answer (Hint Own) = 5
code_of_answer (Started power) = 6
code_of_answer (Checking length) = 7
code_of_answer (Refused e) = (code_and_errno e).0
