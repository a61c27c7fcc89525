-- What the deciding calls answer is a step of their request.
use Rattle.std.proofs.Common.{◌≡◌, ℕ, List, [], Option, Result, Ok, Err, MatchResult, OnErr}
use Rattle.rule_tables.specs.declared.domain.Domain.{Domain}
use Rattle.chan_def.specs.declared.definition.ChanDef.{ChanDef}
use Rattle.chan_def.specs.declared.kind.Kind.{Kind}
use Rattle.radio_drv.specs.Seen.{Seen}
use Rattle.reg_journal.specs.Facts.{Journal, moment_is}
use Rattle.reg_journal.specs.Refusals.{MomentCauses}
use Rattle.reg_journal.specs.declared.effects.Effect.{Effect}
use Rattle.reg_journal.specs.declared.refusal.Refusal.{Refusal}
use Rattle.reg_journal.specs.declared.reply.Answer.TheVariants.{Refused, Ok as Done}
use Rattle.reg_journal.specs.declared.reply.Reply.TheVariants.{Plain}
use Rattle.reg_journal.specs.declared.request.Request.{Request}
use Rattle.reg_journal.specs.declared.request.Request.TheVariants.{At, Stop, SetType}
use Rattle.reg_core.specs.Kept.{Keeps, StandsFor}
use Rattle.reg_core.specs.Stepping.{OneStep, done_reply, swept_reply}
use Rattle.reg_core.specs.inner.Deciding.{TakesFact}
use Rattle.reg_core.specs.inner.Settings.{IsRetyping}
use Rattle.reg_core.specs.inner.Starting.{IsStop}
use Rattle.reg_core.specs.declared.core_state.Core.{Core}
use Rattle.reg_core.proofs.OneSteps.{at_refused, at_taken, stop_refused, stop_taken}
use Rattle.reg_core.proofs.SettingSteps.{type_refused, type_taken}

pub moment_decided : (db : List Domain) (J : Journal) (moment : ℕ) (old new : Core) (row : List (Option Seen)) (r : Result (Unit {0}) Refusal) → StandsFor db old J
    → MatchResult r (λ x. TakesFact db J (MomentCauses J moment) (moment_is moment) new) (λ e. MomentCauses J moment e × (new ≡ old))
    → OneStep db J (At moment) old new row row (done_reply r)
moment_decided db J moment old new row (Ok x) s takes = at_taken db J moment old new row s takes
moment_decided db J moment old new row (Err e) s declines = at_refused db J moment e old new row s declines.0 declines.1

-- what has effects where it is done, and changes nothing where it is refused
pub swept_decided : (db : List Domain) (J : Journal) (q : Request) (old new : Core) (row row' : List (Option Seen)) (P : List Effect → Type 0) (causes : Refusal → Type 0)
    (r : Result (List Effect) Refusal) → MatchResult r P causes → OnErr r (new ≡ old) → OnErr r (row' ≡ row)
    → ((effects : List Effect) → P effects → OneStep db J q old new row row' (Plain Done effects))
    → ((e : Refusal) → causes e → new ≡ old → row' ≡ row → OneStep db J q old new row row' (Plain (Refused e) [])) → OneStep db J q old new row row' (swept_reply r)
swept_decided db J q old new row row' P causes (Ok effects) is core drivers done refused = done effects is
swept_decided db J q old new row row' P causes (Err e) is core drivers done refused = refused e is core drivers

pub stop_decided : (db : List Domain) (J : Journal) (name : List ℕ) (kind : Kind) (old new : Core) (row row' : List (Option Seen)) (r : Result (Unit {0}) Refusal) → StandsFor db old J
    → IsStop db J name kind old new row row' r → OneStep db J (Stop name kind) old new row row' (done_reply r)
stop_decided db J name kind old new row row' (Ok x) s stops = stop_taken db J name kind old new row row' s stops
stop_decided db J name kind old new row row' (Err e) s declines = stop_refused db J name kind e old new row row' s declines.0 declines.1 declines.2

pub type_decided : (db : List Domain) (J : Journal) (name : List ℕ) (kind : Kind) (old new : Core) (row : List (Option Seen)) (r : Result (Unit {0}) Refusal) → StandsFor db old J
    → IsRetyping db J name kind old new r → OneStep db J (SetType name kind) old new row row (done_reply r)
type_decided db J name kind old new row (Ok x) s takes = type_taken db J name kind old new row s takes
type_decided db J name kind old new row (Err e) s declines = type_refused db J name kind e old new row s declines.0 declines.1
