-- A start of a script is answered with a power exactly where it is granted.
use Rattle.std.proofs.Common.{◌≡◌, ℕ, Bool, false, List, [], ◌∷◌, Option, Some, Ok, IsSomeAnd, codes, get_or, take, sym, ap, subst, ◌∙◌, arith}
use Rattle.rule_tables.specs.declared.domain.Domain.{Domain}
use Rattle.chan_def.specs.declared.definition.ChanDef.{ChanDef}
use Rattle.chan_def.specs.declared.kind.Kind.{Kind}
use Rattle.reg_journal.specs.Facts.{Fact, Journal, started}
use Rattle.reg_journal.specs.Forms.{IsReplyTo}
use Rattle.reg_journal.specs.Granted.{IsGranted, IsStartable}
use Rattle.reg_journal.specs.Present.{Iface, named}
use Rattle.reg_journal.specs.Replies.{Replies}
use Rattle.reg_journal.specs.declared.reply.Answer.TheVariants.{Ok as Done, Hint, Started, Checking, Refused}
use Rattle.reg_journal.specs.declared.reply.Reply.{Reply}
use Rattle.reg_journal.specs.declared.reply.Reply.TheVariants.{Plain, Regs, Channels, Radio, Iface as OfIface}
use Rattle.reg_journal.specs.declared.request.Request.TheVariants.{Start}
use Rattle.reg_journal.proofs.Formed.{formed}
use Rattle.reg_journal.proofs.OneReply.{one-reply}
use Rattle.reg_journal.proofs.Starting.{granted_of_started, started_of_granted}
use Rattle.reg_core.specs.Stepping.{is_failed}
use Rattle.line_forms.proofs.Saying.{one_meaning}
use Rattle.iw_commands.specs.Printed.{text_of_reply}
use Rattle.core_runs.specs.Given.{HaveFailed}
use Rattle.core_runs.proofs.Each.{none_failed}
use Rattle.script_run.specs.Granting.{IsAnsweredStart, LineGrants, StartsWhereGranted}
use Rattle.script_run.specs.Output.{LineGives, SayingGives}

-- The reply to a start whose text tells a power.
told_power : (name : List ℕ) (kind : Kind) (c : ChanDef) (reply : Reply) → IsReplyTo (Start name kind c) reply → take 8 (text_of_reply reply) ≡ codes "started "
    → (power : ℕ) × (reply ≡ Plain (Started power) [])
told_power name kind c (Plain (Started power) effects) form tells = (power, ap (Plain (Started power)) form)
told_power name kind c (Plain (Refused e) effects) form tells = absurd (omega (arith, ap (λ xs. get_or xs 0 0) tells))
told_power name kind c (Plain Done effects) form tells = absurd form
told_power name kind c (Plain (Hint taken) effects) form tells = absurd form
told_power name kind c (Plain (Checking length) effects) form tells = absurd form
told_power name kind c (Regs list) form tells = absurd form
told_power name kind c (Channels radio list) form tells = absurd form
told_power name kind c (Radio report) form tells = absurd form
told_power name kind c (OfIface report) form tells = absurd form

granted_on : (db : List Domain) (J : Journal) (name : List ℕ) (kind : Kind) (c : ChanDef) (x : Iface) (power : ℕ) → named J name ≡ Some x
    → IsSomeAnd (named J name) (λ y. IsStartable J y kind × IsGranted db J y c power) → IsGranted db J x c power
granted_on db J name kind c x power here there = (subst (λ o. IsSomeAnd o (λ y. IsStartable J y kind × IsGranted db J y c power)) here there).1

not_failed : (failing : Bool) (radio : Option ℕ) (failed : List ℕ) → failing ≡ false → HaveFailed failing radio failed → failed ≡ []
not_failed failing radio failed well failing' = subst (λ f. HaveFailed f radio failed) well failing'

answered_start : (db : List Domain) (J : Journal) (name : List ℕ) (kind : Kind) (c : ChanDef) (x : Iface) (radio : Option ℕ) (text failed : List ℕ) (reply : Reply) (facts : List Fact)
    → Replies db J (Start name kind c) (is_failed reply) reply facts → text ≡ text_of_reply reply → HaveFailed (is_failed reply) radio failed
    → named J name ≡ Some x → IsStartable J x kind → IsAnsweredStart db J x c text failed
answered_start db J name kind c x radio text failed reply facts is tells failing here startable = record {
  granted = λ power granted none.
      let well = none_failed (is_failed reply) radio (subst (HaveFailed (is_failed reply) radio) none failing) in
      let other = started_of_granted db J name kind c power x here startable granted in
      tells ∙ ap text_of_reply (one-reply db J (Start name kind c) false reply (Plain (Started power) []) facts (started x.index c power ∷ []) (subst (λ f. Replies db J (Start name kind c) f reply facts) well is) other).0;
  only = λ begins.
      let (power, same) = told_power name kind c reply (formed db J (Start name kind c) (is_failed reply) reply facts is) (ap (take 8) (sym tells) ∙ begins) in
      let there : Replies db J (Start name kind c) (is_failed reply) (Plain (Started power) []) facts = subst (λ r. Replies db J (Start name kind c) (is_failed reply) r facts) same is in (
        power,
        granted_on db J name kind c x power here (granted_of_started db J name kind c (is_failed reply) power [] facts there),
        not_failed (is_failed reply) radio failed (ap is_failed same) failing,
        tells ∙ ap text_of_reply same,
      );
}

pub starts_where_granted : (db : List Domain) (J : Journal) (line text failed : List ℕ) (next : Journal) → LineGives db J line text failed next → StartsWhereGranted db J line text failed
starts_where_granted db J line text failed next (said, says, gives) = λ name kind c x asks here startable.
    let (reply, (facts, is, there), tells, failing) = subst (λ s. SayingGives db J s text failed next) (one_meaning line said (Ok (Some (Start name kind c))) says asks) gives in
    answered_start db J name kind c x _ text failed reply facts is tells failing here startable

pub line_grants : (db : List Domain) (J : Journal) (line text failed : List ℕ) (next : Journal) → LineGives db J line text failed next → LineGrants db J line text failed next
line_grants db J line text failed next gives = (gives, starts_where_granted db J line text failed next gives)
