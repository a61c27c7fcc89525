-- Answers and effects by their codes.
use Rattle.std.specs.Prelude.{ℕ, ◌%◌, ◌==◌, ◌||◌, Bool, cond, List}
use Rattle.rule_tables.specs.declared.code.Alpha2.{Alpha2}
use Rattle.reg_hints.specs.declared.hint.Treatment.TheVariants.{Replace, Intersect, Already, Ignore}
use Rattle.reg_journal.specs.declared.effects.Effect.{Effect}
use Rattle.reg_journal.specs.declared.effects.Effect.TheVariants.{Stopped, Dropped, Power as PowerSet}
use Rattle.reg_journal.specs.declared.refusal.Refusal.{Refusal}
use Rattle.reg_journal.specs.declared.refusal.Refusal.TheVariants.{MomentBack, MomentTooLarge, NoRadio, SlotUsed, NoInterface, NameTaken, Full, WrongType, Busy, BadChannel, RadioLacks, RadioLacksWidth, RadioLacksContext, NoRule, Width, NoOfdm, NoIr, NoOutdoor, Power, RadioLacksRadarWidth, Radar, Unchecked, DriverFailed, NothingToCheck, NotRunning, NoCountry, TooManyDomains, TooManyRows, NoRules, TooManyRules, BadRule, ElementShort, ElementOdd, ElementNotLetters}
use Rattle.reg_journal.specs.declared.reply.Answer.{Answer}
use Rattle.reg_journal.specs.declared.reply.Answer.TheVariants.{Ok, Hint, Started, Checking, Refused}
use Rattle.reg_journal.specs.declared.reply.HintAnswer.TheVariants.{Treated, Own}
use Rattle.reply_reading.specs.inner.Values.{below, khz_of}

-- those that carry nothing
abbrev pub bare_refusal : ℕ → Refusal
bare_refusal c =
    cond (c == 26) Full (cond (c == 27) WrongType (cond (c == 28) Busy (cond (c == 29) BadChannel (cond (c == 42) DriverFailed (cond (c == 43) NothingToCheck
    (cond (c == 44) NotRunning (cond (c == 46) TooManyDomains (cond (c == 48) NoRules ElementNotLetters))))))))

-- those that carry a subchannel
abbrev pub subchannel_refusal : ℕ → ℕ → Refusal
subchannel_refusal c khz =
    cond (c == 30) (RadioLacks khz) (cond (c == 33) (NoRule khz) (cond (c == 34) (Width khz) (cond (c == 35) (NoOfdm khz) (cond (c == 36) (NoIr khz)
    (cond (c == 37) (NoOutdoor khz) (cond (c == 40) (Radar khz) (Unchecked khz)))))))

-- those that carry another number
abbrev pub number_refusal : ℕ → ℕ → Refusal
number_refusal c n =
    cond (c == 20) (MomentBack n) (cond (c == 21) (MomentTooLarge n) (cond (c == 22) (NoRadio (n % 8)) (cond (c == 23) (SlotUsed (n % 8))
    (cond (c == 31) (RadioLacksWidth (below 65536 n)) (cond (c == 32) (RadioLacksContext (below 256 n)) (cond (c == 38) (Power (below 65536 n))
    (cond (c == 39) (RadioLacksRadarWidth (below 65536 n)) (cond (c == 47) (TooManyRows n) (cond (c == 49) (TooManyRules n) (cond (c == 50) (BadRule n)
    (cond (c == 51) (ElementShort n) (ElementOdd n))))))))))))

-- which codes those are
abbrev pub has_subchannel : ℕ → Bool
has_subchannel c = c == 30 || (c == 33 || (c == 34 || (c == 35 || (c == 36 || (c == 37 || (c == 40 || c == 41))))))

abbrev pub has_number : ℕ → Bool
has_number c = c == 20 || (c == 21 || (c == 22 || (c == 23 || (c == 31 || (c == 32 || (c == 38 || (c == 39 || (c == 47 || (c == 49 || (c == 50 || (c == 51 || c == 52)))))))))))

-- the refusal with this code
abbrev pub refusal_told : ℕ → ℕ → List ℕ → Alpha2 → Refusal
refusal_told c n name code =
    cond (c == 24) (NoInterface name) (cond (c == 25) (NameTaken name) (cond (c == 45) (NoCountry code)
    (cond (has_number c) (number_refusal c n) (cond (has_subchannel c) (subchannel_refusal c (khz_of n)) (bare_refusal c)))))

-- the answer with this code
abbrev pub answer_told : ℕ → ℕ → List ℕ → Alpha2 → Answer
answer_told c n name code =
    cond (c == 0) Ok (cond (c == 1) (Hint (Treated Replace)) (cond (c == 2) (Hint (Treated Intersect)) (cond (c == 3) (Hint (Treated Already))
    (cond (c == 4) (Hint (Treated Ignore)) (cond (c == 5) (Hint Own) (cond (c == 6) (Started (below 65536 n)) (cond (c == 7) (Checking (below 4294967296 n))
    (Refused (refusal_told c n name code)))))))))

-- the effect with this code
abbrev pub effect_told : ℕ → List ℕ → ℕ → Effect
effect_told c name power = cond (c == 0) (Stopped name) (cond (c == 1) (Dropped name) (PowerSet name (below 65536 power)))
