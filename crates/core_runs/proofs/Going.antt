-- A step of the core leads to the next journal, and the drivers go there too.
use Rattle.std.proofs.Common.{ℕ, List, [], ◌∷◌, Option, refl, ap, ◌∙◌}
use Rattle.rule_tables.specs.declared.domain.Domain.{Domain}
use Rattle.radio_drv.specs.Seen.{Seen}
use Rattle.reg_journal.specs.Effects.{HasFewEffects}
use Rattle.reg_journal.specs.Facts.{Journal}
use Rattle.reg_journal.specs.declared.reply.Reply.{Reply}
use Rattle.reg_journal.specs.declared.request.Request.{Request}
use Rattle.reg_journal.proofs.Telling.{few_effects}
use Rattle.reg_books.specs.DriverRows.{driven_radio, told_after}
use Rattle.reg_core.specs.Kept.{StandsFor}
use Rattle.reg_core.specs.Stepping.{OneStep, is_failed}
use Rattle.reg_core.specs.declared.core_state.Core.{Core}
use Rattle.core_runs.specs.Driven.{AreTold, HaveGoneOn, IsAt}
use Rattle.core_runs.specs.Given.{HaveFailed, RequestGives}
use Rattle.core_runs.proofs.Drivers.{taken, HaveFailed-of, HaveGoneOn-step, failed_of}
use Rattle.core_runs.proofs.Told.{told_next}

pub goes_to : (db : List Domain) (J : Journal) (q : Request) (reply : Reply) (old new : Core) (heard heard' : List (Option Seen))
    → (one : OneStep db J q old new heard heard' reply) → IsAt db J old heard → IsAt db one.next new heard'
goes_to db J q reply old new heard heard' one here = record { stands = one.stands; driven = one.driven here.driven; follows = one.follows here.follows; told = told_then }
  where
    told_then : AreTold one.next heard'
    told_then r s within there =
        let (t, before, goes) = taken _ _ (one.drivers r s there) in
        goes.told ∙ ap (λ k. told_after J q reply r k) (here.told r t within before) ∙ told_next r db J q (is_failed reply) reply one.next here.stands.keeps.due one.steps

-- the radio whose driver failed in the step, if any
abbrev pub failed_in : Journal → Request → Reply → List ℕ
failed_in J q reply = failed_of (is_failed reply) (driven_radio J q)

pub has_failed : (db : List Domain) (J : Journal) (q : Request) (reply : Reply) (old new : Core) (heard heard' : List (Option Seen))
    → OneStep db J q old new heard heard' reply → HaveFailed (is_failed reply) (driven_radio J q) (failed_in J q reply)
has_failed db J q reply old new heard heard' one = HaveFailed-of (is_failed reply) (driven_radio J q) _ one.cause

pub goes_on : (db : List Domain) (J : Journal) (q : Request) (reply : Reply) (old new : Core) (heard heard' : List (Option Seen))
    → OneStep db J q old new heard heard' reply → HaveGoneOn (failed_in J q reply) heard heard'
goes_on db J q reply old new heard heard' one = HaveGoneOn-step J q reply (is_failed reply) heard heard' one.drivers one.cause

pub request_gives : (db : List Domain) (J : Journal) (q : Request) (reply : Reply) (old new : Core) (heard heard' : List (Option Seen))
    → (one : OneStep db J q old new heard heard' reply) → RequestGives db J q (reply ∷ []) (failed_in J q reply) one.next
request_gives db J q reply old new heard heard' one = (reply, one.steps, has_failed db J q reply old new heard heard' one, refl)

-- a reply has few effects, over a journal that the core stands for
pub step_has_few_effects : (db : List Domain) (J : Journal) (q : Request) (reply : Reply) (old new : Core) (heard heard' : List (Option Seen))
    → StandsFor db old J → OneStep db J q old new heard heard' reply → HasFewEffects reply
step_has_few_effects db J q reply old new heard heard' stands one =
    let (facts, is, here) = one.steps in
    few_effects db J q (is_failed reply) reply facts stands.keeps.due is
