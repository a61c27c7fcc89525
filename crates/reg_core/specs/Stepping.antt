-- What a step of the core is.
use Rattle.std.specs.Prelude.{◌≡◌, ℕ, Bool, true, false, List, [], Option, Result, Ok, Err, IsSomeAnd, IsTrue}
use Rattle.std.specs.Option.{option_map}
use Rattle.rule_tables.specs.declared.domain.Domain.{Domain}
use Rattle.radio_drv.specs.Seen.{Seen}
use Rattle.reg_journal.specs.Facts.{Journal}
use Rattle.reg_journal.specs.Granted.{IsGranted}
use Rattle.reg_journal.specs.Present.{named}
use Rattle.reg_journal.specs.Replies.{Steps}
use Rattle.reg_journal.specs.declared.refusal.Refusal.{Refusal}
use Rattle.reg_journal.specs.declared.refusal.Refusal.TheVariants.{DriverFailed}
use Rattle.reg_journal.specs.declared.reply.Answer.{Answer}
use Rattle.reg_journal.specs.declared.effects.Effect.{Effect}
use Rattle.reg_journal.specs.declared.reply.Answer.TheVariants.{Refused, Started, Checking, Ok as Done}
use Rattle.reg_journal.specs.declared.reply.Reply.{Reply}
use Rattle.reg_journal.specs.declared.reply.Reply.TheVariants.{Plain}
use Rattle.reg_journal.specs.declared.request.Request.{Request}
use Rattle.reg_journal.specs.declared.request.Request.TheVariants.{Start}
use Rattle.reg_books.specs.DriverRows.{AllGoOn, AreDriven, Follows, HasFailed, driver_at}
use Rattle.reg_core.specs.Kept.{StandsFor}
use Rattle.reg_core.specs.declared.core_state.Core.{Core}

-- it says that the radio's driver failed
abbrev pub is_failure : Refusal → Bool
is_failure DriverFailed = true
is_failure e = false

-- it is refused since a driver failed
abbrev pub is_failed_answer : Answer → Bool
is_failed_answer (Refused e) = is_failure e
is_failed_answer answer = false

-- the driver failed, by the reply
abbrev pub is_failed : Reply → Bool
is_failed (Plain answer effects) = is_failed_answer answer
is_failed reply = false

-- it refuses the request
abbrev pub is_refusal : Reply → Bool
is_refusal (Plain (Refused e) effects) = true
is_refusal reply = false

-- the core stays, and no driver was told anything; where one failed, all have on air what they had
pub record ChangesNothing (old new : Core) (row row' : List (Option Seen)) (failed : Bool) : Type 0 where
  pub core : new ≡ old
  pub untold : failed ≡ false → row' ≡ row
  pub air : (r : ℕ) → option_map (λ s. s.air) (driver_at row' r) ≡ option_map (λ s. s.air) (driver_at row r)

-- a start that is answered with a power was granted it
abbrev pub IsStartGranted : List Domain → Journal → Request → Reply → Type 0
IsStartGranted db J (Start name kind c) (Plain (Started power) effects) = IsSomeAnd (named J name) (λ x. IsGranted db J x c power)
IsStartGranted db J q reply = Unit {0}

-- The reply is the journal's, and the core stands for the next one. The drivers follow it where they did, and have on air what runs
-- where they had. Where a driver failed, it is that of the request's radio, isn't steady, and its count rose in this step. A refusal
-- changes nothing else.
pub record OneStep (db : List Domain) (J : Journal) (q : Request) (old new : Core) (row row' : List (Option Seen)) (reply : Reply) : Type 0 where
  pub next : Journal
  pub steps : Steps db J q (is_failed reply) reply next
  pub stands : StandsFor db new next
  pub follows : Follows J row → Follows next row'
  pub driven : AreDriven J row → AreDriven next row'
  pub cause : IsTrue (is_failed reply) → HasFailed J q row row'
  pub drivers : AllGoOn J q reply row row'
  pub refused : IsTrue (is_refusal reply) → ChangesNothing old new row row' (is_failed reply)
  pub granted : IsStartGranted db J q reply

-- ---- the replies that the answers of the deciding calls stand for

-- the request is done, or refused
abbrev pub done_reply : {A : Type 0} → Result A Refusal → Reply
done_reply (Ok done) = Plain Done []
done_reply (Err e) = Plain (Refused e) []

-- it is done, and had these effects
abbrev pub swept_reply : Result (List Effect) Refusal → Reply
swept_reply (Ok effects) = Plain Done effects
swept_reply (Err e) = Plain (Refused e) []

-- an operation started with this power, in mBm
abbrev pub started_reply : Result ℕ Refusal → Reply
started_reply (Ok power) = Plain (Started power) []
started_reply (Err e) = Plain (Refused e) []

-- a check began that takes so many ms
abbrev pub checking_reply : Result ℕ Refusal → Reply
checking_reply (Ok length) = Plain (Checking length) []
checking_reply (Err e) = Plain (Refused e) []

-- ---- between steps

-- the core stands for a journal whose running operations are on air
pub record IsReady (core : Core) (row : List (Option Seen)) : Type 0 where
  pub db : List Domain
  pub journal : Journal
  pub stands : StandsFor db core journal
  pub driven : AreDriven journal row
