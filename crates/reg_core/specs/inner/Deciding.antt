-- What comes of a request inside the core.
use Rattle.std.specs.Prelude.{◌≡◌, List, [], ◌∷◌, Result, Ok, Err}
use Rattle.reg_lists.specs.declared.errors.OutOfMemory.{OutOfMemory as NoMemory}
use Rattle.rule_tables.specs.declared.domain.Domain.{Domain}
use Rattle.reg_journal.specs.Causes.{IsFree}
use Rattle.reg_journal.specs.Facts.{Fact, Journal}
use Rattle.reg_journal.specs.declared.refusal.Refusal.{Refusal}
use Rattle.reg_journal.specs.declared.reply.Answer.TheVariants.{Refused as RefusedAnswer}
use Rattle.reg_journal.specs.declared.reply.Reply.{Reply}
use Rattle.reg_journal.specs.declared.reply.Reply.TheVariants.{Plain}
use Rattle.reg_core.specs.Kept.{Keeps}
use Rattle.reg_core.specs.declared.core_state.Core.{Core}
use Rattle.reg_core.specs.declared.declined.Declined.{Declined}
use Rattle.reg_core.specs.declared.declined.Declined.TheVariants.{Refused, OutOfMemory}

-- the core keeps some journal
pub record IsCore (core : Core) : Type 0 where
  pub db : List Domain
  pub journal : Journal
  pub keeps : Keeps db core journal

-- The fact comes: nothing speaks against it, and the core then keeps the journal with it.
pub record TakesFact (db : List Domain) (J : Journal) (causes : Refusal → Type 0) (f : Fact) (new : Core) : Type 0 where
  pub free : IsFree causes
  pub keeps : Keeps db new (f ∷ J)

-- why nothing changes: a refusal that comes by the causes, or out of memory
abbrev pub IsReason : (Refusal → Type 0) → Declined → Type 0
IsReason causes (Refused e) = causes e
IsReason causes OutOfMemory = Unit {0}

-- the request is declined, and the core is as before
pub record Declines (causes : Refusal → Type 0) (old new : Core) (declined : Declined) : Type 0 where
  pub reason : IsReason causes declined
  pub unchanged : new ≡ old

-- the reply to a request that is declined, or out of memory
abbrev pub IsReplyOf : Declined → Result Reply NoMemory → Type 0
IsReplyOf (Refused e) (Ok reply) = reply ≡ Plain (RefusedAnswer e) []
IsReplyOf OutOfMemory (Err none) = Unit {0}
IsReplyOf declined other = ⊥
