-- The core that keeps the next journal of a request stands for it.
use Rattle.std.proofs.Common.{Bool, List, [], ◌∷◌}
use Rattle.rule_tables.specs.declared.domain.Domain.{Domain}
use Rattle.reg_journal.specs.Due.{EachMayFollow}
use Rattle.reg_journal.specs.Facts.{Fact, Journal, after, made, rules_are}
use Rattle.reg_journal.specs.Replies.{Replies}
use Rattle.reg_journal.specs.declared.reply.Reply.{Reply}
use Rattle.reg_journal.specs.declared.request.Request.{Request}
use Rattle.reg_journal.proofs.EachRegular.{IsSound, replies_go}
use Rattle.reg_journal.proofs.Keeping.{Goes}
use Rattle.reg_journal.proofs.Ranges.{ArePlain}
use Rattle.reg_core.specs.Kept.{Keeps, StandsFor}
use Rattle.reg_core.specs.declared.core_state.Core.{Core}

-- custom rules come without check times, and a new interface has a name
pub plain_where_due : (db : List Domain) (J : Journal) → EachMayFollow db J → ArePlain J
plain_where_due db [] due = tt
plain_where_due db (rules_are r rules ∷ J) due = (due.0.4, plain_where_due db J due.1)
plain_where_due db (made i name r kind ∷ J) due = (due.0.5, plain_where_due db J due.1)
plain_where_due db (f ∷ J) due = (tt, plain_where_due db J due.1)

pub goes_where_stands : (db : List Domain) (J : Journal) (core : Core) → StandsFor db core J → Goes db J
goes_where_stands db J core s = record { due = s.keeps.due; settled = s.settled; plain = plain_where_due db J s.keeps.due }

pub stands_next : (db : List Domain) (J : Journal) (q : Request) (failed : Bool) (reply : Reply) (facts : List Fact) (old new : Core) → StandsFor db old J → IsSound q
    → Replies db J q failed reply facts → Keeps db new (after facts J) → StandsFor db new (after facts J)
stands_next db J q failed reply facts old new s askable replies keeps = record {
  is_db = s.is_db;
  keeps = keeps;
  settled = (replies_go db J q failed reply facts s.is_db (goes_where_stands db J old s) askable replies).settled;
}
