-- How far the answering of items came: of lines, or of messages.
use Rattle.std.specs.Prelude.{◌≡◌, ℕ, ◌≤◌, ◌⊎◌, List, [], ◌∷◌, ◌++◌, length, take}
use Rattle.std.specs.Io.KnownBytes.{Appends}
use Rattle.reg_journal.specs.Facts.{Journal}
use Rattle.db_commands.specs.Devices.{StreamAround, DriversAround}
use Rattle.core_runs.specs.Driven.{Follow}
use Rattle.core_runs.specs.Given.{EachGives}

-- What a run answers one by one are its items: lines, for one. What one gives at a journal is told by `gives`: its text, the
-- radios whose drivers failed, and the next journal.

-- these items were answered, and all that they give was written
pub record IsAnswered {A : Type 0} (gives : Journal → A → List ℕ → List ℕ → Journal → Type 0) (items : List A) (output : StreamAround) (drivers : DriversAround) : Type 0 where
  pub text : List ℕ
  pub failed : List ℕ
  pub last : Journal
  pub given : EachGives gives [] items text failed last
  pub written : Appends output.before output.after text
  pub follow : Follow last failed drivers.before drivers.after

-- Of these items those that stand first were answered, and what they give is this.
pub record IsFront {A : Type 0} (gives : Journal → A → List ℕ → List ℕ → Journal → Type 0) (items left : List A) (text failed : List ℕ) (J : Journal) : Type 0 where
  pub first : List A
  pub parts : items ≡ first ++ left
  pub given : EachGives gives [] first text failed J

-- What the items before one give was written, and some front of what that one gives. The drivers were told of it.
pub record StopsWithin {A : Type 0} (gives : Journal → A → List ℕ → List ℕ → Journal → Type 0) (items : List A) (output : StreamAround) (drivers : DriversAround) : Type 0 where
  pub item : A
  pub rest : List A
  pub text : List ℕ
  pub failed : List ℕ
  pub journal : Journal
  pub front : IsFront gives items (item ∷ rest) text failed journal
  pub answer : List ℕ
  pub failed_here : List ℕ
  pub next : Journal
  pub here : gives journal item answer failed_here next
  pub count : ℕ
  pub within : count ≤ length answer
  pub written : Appends output.before output.after (text ++ take count answer)
  pub follow : Follow next (failed ++ failed_here) drivers.before drivers.after

-- the drivers were told of the next item, whose answer wasn't written
abbrev pub IsOneAhead : {A : Type 0} → (Journal → A → List ℕ → List ℕ → Journal → Type 0) → Journal → List A → List ℕ → DriversAround → Type 0
IsOneAhead gives J [] failed drivers = ⊥
IsOneAhead gives J (item ∷ rest) failed drivers =
    (answer : List ℕ) × (failed_here : List ℕ) × (next : Journal) × gives J item answer failed_here next
    × Follow next (failed ++ failed_here) drivers.before drivers.after

-- What the items that stand first give was written, and nothing of the next one.
pub record StopsBetween {A : Type 0} (gives : Journal → A → List ℕ → List ℕ → Journal → Type 0) (items : List A) (output : StreamAround) (drivers : DriversAround) : Type 0 where
  pub left : List A
  pub text : List ℕ
  pub failed : List ℕ
  pub journal : Journal
  pub front : IsFront gives items left text failed journal
  pub written : Appends output.before output.after text
  pub follow : Follow journal failed drivers.before drivers.after ⊎ IsOneAhead gives journal left failed drivers
