-- What items give in turn, as requests do, each at the state that the items before it left.
use Rattle.std.specs.Prelude.{◌≡◌, ℕ, Bool, true, false, List, [], ◌∷◌, ◌++◌, Option, IsSomeAnd}
use Rattle.rule_tables.specs.declared.domain.Domain.{Domain}
use Rattle.reg_journal.specs.Facts.{Journal}
use Rattle.reg_journal.specs.Replies.{Steps}
use Rattle.reg_journal.specs.declared.reply.Reply.{Reply}
use Rattle.reg_journal.specs.declared.request.Request.{Request}
use Rattle.reg_books.specs.DriverRows.{driven_radio}
use Rattle.reg_core.specs.Stepping.{is_failed}

-- these radios' drivers failed: that of the request's radio, or none
abbrev pub HaveFailed : Bool → Option ℕ → List ℕ → Type 0
HaveFailed false radio failed = failed ≡ []
HaveFailed true radio failed = IsSomeAnd radio (λ r. failed ≡ r ∷ [])

-- What items give one after the other, from the first on, each at the state that the items before it left: all that they give one
-- behind the other, the radio of each failure of a driver, and the last state. What one item gives is told by `gives`.
abbrev pub EachGives : {A B S : Type 0} → (S → A → List B → List ℕ → S → Type 0) → S → List A → List B → List ℕ → S → Type 0
EachGives gives state [] given failed last = (given ≡ []) × (failed ≡ []) × (last ≡ state)
EachGives {A} {B} {S} gives state (item ∷ items) given failed last =
    (first : List B) × (failed_first : List ℕ) × (next : S) × gives state item first failed_first next
    × (rest : List B) × (failed_rest : List ℕ) × EachGives gives next items rest failed_rest last
    × (given ≡ first ++ rest) × (failed ≡ failed_first ++ failed_rest)

-- What a request gives: its one reply, the radio of a driver that failed, and the next journal.
abbrev pub RequestGives : List Domain → Journal → Request → List Reply → List ℕ → Journal → Type 0
RequestGives db J q replies failed next =
    (reply : Reply) × Steps db J q (is_failed reply) reply next × HaveFailed (is_failed reply) (driven_radio J q) failed × (replies ≡ reply ∷ [])
