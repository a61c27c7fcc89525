-- The check last told to each driver is the one that the next journal says.
use Rattle.std.proofs.Common.{◌≡◌, ◌≢◌, ℕ, List, Bool, Option, Some, None, IsSomeAnd, inl, inr, refl, sym, ap, ◌∙◌, eq-eqb, ne_eqb}
use Rattle.std.proofs.lemmas.Bool.{cases_eq}
use Rattle.rule_tables.specs.declared.domain.Domain.{Domain}
use Rattle.chan_def.specs.declared.definition.ChanDef.{ChanDef}
use Rattle.reg_journal.specs.Due.{EachMayFollow}
use Rattle.reg_journal.specs.Facts.{Fact, Journal, after}
use Rattle.reg_journal.specs.Forms.{IsReplyTo}
use Rattle.reg_journal.specs.OnAir.{told_of}
use Rattle.reg_journal.specs.Present.{Iface, named}
use Rattle.reg_journal.specs.Replies.{Replies, Steps}
use Rattle.reg_journal.specs.declared.effects.Effect.{Effect}
use Rattle.reg_journal.specs.declared.reply.Answer.TheVariants.{Checking}
use Rattle.reg_journal.specs.declared.reply.Reply.{Reply}
use Rattle.reg_journal.specs.declared.reply.Reply.TheVariants.{Plain}
use Rattle.reg_journal.specs.declared.request.Request.{Request}
use Rattle.reg_journal.specs.declared.request.Request.TheVariants.{Check}
use Rattle.reg_books.specs.DriverRows.{told_after}
use Rattle.reg_journal.proofs.Formed.{formed}
use Rattle.reg_journal.proofs.Untold.{told_begun, told_left}

-- a check that begins is told to the driver of the interface's radio
told_checked : (J next : Journal) (name : List ℕ) (c : ChanDef) (ms : ℕ) (effects : List Effect) (r : ℕ)
    → IsSomeAnd (named J name) (λ x. (told_of next x.radio ≡ Some (record { iface = x.index; chan = c; length_ms = ms })) × ((q : ℕ) → q ≢ x.radio → told_of next q ≡ told_of J q))
    → told_of next r ≡ told_after J (Check name c) (Plain (Checking ms) effects) r (told_of J r)
told_checked J next name c ms effects r begun = by (named J name) refl begun
  where
    by : (o : Option Iface) → named J name ≡ o
        → IsSomeAnd o (λ x. (told_of next x.radio ≡ Some (record { iface = x.index; chan = c; length_ms = ms })) × ((q : ℕ) → q ≢ x.radio → told_of next q ≡ told_of J q))
        → told_of next r ≡ told_after J (Check name c) (Plain (Checking ms) effects) r (told_of J r)
    by None is told = absurd told
    by (Some x) is (here, others) = elim (cases_eq x.radio r) [
      | inl same ↦ rw (is, eq-eqb x.radio r same) (ap (told_of next) (sym same) ∙ here)
      | inr apart ↦ rw (is, ne_eqb x.radio r apart) (others r (λ same. apart (sym same)))
    ]

-- the other replies leave what was told
told_so : (r : ℕ) (db : List Domain) (J : Journal) (q : Request) (failed : Bool) (reply : Reply) (facts : List Fact) → EachMayFollow db J → Replies db J q failed reply facts → IsReplyTo q reply
    → told_of (after facts J) r ≡ told_after J q reply r (told_of J r)
told_so r db J (Check name c) failed (Plain (Checking ms) effects) facts due is form =
    told_checked J (after facts J) name c ms effects r (told_begun db J name c failed ms effects facts due is)
told_so r db J q failed (Plain (Checking ms) effects) facts due is form = absurd form
told_so r db J q failed reply facts due is form = told_left db J q failed reply facts is (λ tells. tells) r

pub told_next : (r : ℕ) (db : List Domain) (J : Journal) (q : Request) (failed : Bool) (reply : Reply) (next : Journal) → EachMayFollow db J → Steps db J q failed reply next
    → told_after J q reply r (told_of J r) ≡ told_of next r
told_next r db J q failed reply next due (facts, is, here) =
    sym (ap (λ K. told_of K r) here ∙ told_so r db J q failed reply facts due is (formed db J q failed reply facts is))
