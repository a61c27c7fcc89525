-- What was taken of an input while it is read, and what an end of reading then comes to.
use Rattle.std.proofs.Common.{◌≡◌, ℕ, ◌+◌, ◌<◌, ◌≤◌, min, List, [], ◌++◌, length, length-append, take, length-take, length-take-le, take-take, take_all, append-nil, Option, Some, None, inl, inr, refl, sym, ap, subst, ◌∙◌, arith}
use Rattle.std.proofs.lemmas.Bool.{cases_lt}
use lib.Seq.{take-append-add}
use Rattle.std.specs.Io.KnownBytes.{Consumes, IsAtEnd, Keeps}
use Rattle.std.proofs.KnownBytes.{Consumes-kept, Consumes-nil, Consumes-trans, Consumes-whole}
use Rattle.reg_base.specs.Files.{IsLonger}
use Rattle.db_commands.specs.Devices.{IsRead, StreamAround, script_limit}
use Rattle.script_run.specs.Taken.{IsTaken}
use Rattle.script_run.proofs.Pieces.{ReadsOn}

-- ---- what lies within the limit

within_left : (buffer : List ℕ) (left count : ℕ) → take left (take count buffer) ≡ take (min count left) buffer
within_left buffer left count = elim (cases_lt left count) [
  | inl less ↦ take-take left count buffer (omega (arith, less)) ∙ ap (λ n. take n buffer) (omega (arith, less))
  | inr not ↦
      take_all left (take count buffer) (omega (arith, not, length-take count buffer)) ∙ ap (λ n. take n buffer) (omega (arith, not))
]

-- of what was taken and of a piece behind it, what lies within the limit
front_within : (taken buffer : List ℕ) (left count : ℕ) → length taken + left ≡ script_limit → take script_limit (taken ++ take count buffer) ≡ taken ++ take (min count left) buffer
front_within taken buffer left count sum =
    ap (λ n. take n (taken ++ take count buffer)) (sym sum) ∙ take-append-add taken (take count buffer) left ∙ ap (λ xs. taken ++ xs) (within_left buffer left count)

all_within : (taken : List ℕ) (left : ℕ) → length taken + left ≡ script_limit → take script_limit taken ≡ taken
all_within taken left sum = take_all script_limit taken (omega (arith, sum))

-- ---- ends of reading

-- no byte was taken
pub taken_none : (input : StreamAround) (Q : List ℕ → Type 0) → input.after ≡ input.before → Q [] → IsTaken input (λ taken. Q (take script_limit taken))
taken_none input Q unread holds = record { taken = []; consumed = subst (λ o. Consumes input.before o []) (sym unread) (Consumes-nil input.before); holds = holds }

-- a read failed
pub taken_at_fault : (input : StreamAround) (now : Option (List ℕ)) (left : ℕ) (P Q : List ℕ → Type 0) → Keeps now input.after → ReadsOn input.before now left P → ((taken : List ℕ) → P taken → Q taken)
    → IsTaken input (λ taken. Q (take script_limit taken))
taken_at_fault input now left P Q kept (taken, consumed, sum, holds) goes =
    record { taken = taken; consumed = Consumes-kept input.before now input.after taken consumed kept; holds = subst Q (sym (all_within taken left sum)) (goes taken holds) }

-- a piece was read, and of it what lies within the limit was worked on
pub taken_among : (input : StreamAround) (now : Option (List ℕ)) (left count : ℕ) (buffer : List ℕ) (P Q : List ℕ → Type 0) → Consumes now input.after (take count buffer) → ReadsOn input.before now left P
    → ((taken : List ℕ) → P taken → Q (taken ++ take (min count left) buffer)) → IsTaken input (λ taken. Q (take script_limit taken))
taken_among input now left count buffer P Q piece (taken, consumed, sum, holds) goes = record {
  taken = taken ++ take count buffer;
  consumed = Consumes-trans input.before now input.after taken (take count buffer) consumed piece;
  holds = subst Q (sym (front_within taken buffer left count sum)) (goes taken holds);
}

-- the end was read
all_taken : (input : StreamAround) (now : Option (List ℕ)) (taken : List ℕ) → Consumes now input.after [] → Consumes input.before now taken → Consumes input.before input.after taken
all_taken input now taken none consumed = subst (Consumes input.before input.after) (append-nil taken) (Consumes-trans input.before now input.after taken [] consumed none)

pub taken_at_end : (input : StreamAround) (now : Option (List ℕ)) (left : ℕ) (P Q : List ℕ → Type 0) → Consumes now input.after [] → ReadsOn input.before now left P → ((taken : List ℕ) → P taken → Q taken)
    → IsTaken input (λ taken. (length taken ≤ script_limit) × Q taken)
taken_at_end input now left P Q none (taken, consumed, sum, holds) goes = record { taken = taken; consumed = all_taken input now taken none consumed; holds = (omega (arith, sum), goes taken holds) }

pub read_at_end : (input : StreamAround) (now : Option (List ℕ)) (left : ℕ) (P Q : List ℕ → Type 0) → Consumes now input.after [] → IsAtEnd input.after → ReadsOn input.before now left P → ((taken : List ℕ) → P taken → Q taken)
    → IsRead script_limit input Q
read_at_end input now left P Q none end (taken, consumed, sum, holds) goes = record {
  at_end = end;
  good = record {
    given = taken;
    all = Consumes-whole input.before input.after taken (λ bytes. bytes ≡ taken) (all_taken input now taken none consumed) end refl;
    within = omega (arith, sum);
    holds = goes taken holds;
  };
}

-- ---- the limit

longer : (before after : Option (List ℕ)) (bytes : List ℕ) → Consumes before after bytes → script_limit < length bytes → IsLonger script_limit before
longer None after bytes all above = tt
longer (Some xs) None bytes all above = absurd all
longer (Some xs) (Some ys) bytes all above = omega (arith, above, ap length all, length-append bytes ys)

-- more bytes came than the limit
pub is_longer : (input : StreamAround) (now : Option (List ℕ)) (left count : ℕ) (buffer : List ℕ) (P : List ℕ → Type 0) → count ≤ length buffer → left < count → Consumes now input.after (take count buffer)
    → ReadsOn input.before now left P → IsLonger script_limit input.before
is_longer input now left count buffer P few above piece (taken, consumed, sum, holds) =
    longer input.before input.after (taken ++ take count buffer) (Consumes-trans input.before now input.after taken (take count buffer) consumed piece)
    (omega (arith, sum, above, length-append taken (take count buffer), length-take-le count buffer few))
