-- A request that shows something is one step, in which nothing changes.
use Rattle.std.proofs.Common.{◌≡◌, ℕ, false, List, [], Option, Some, None, IsSomeAnd, refl, sym, subst, ap, ◌∙◌, inl, inr}
use Rattle.std.proofs.lemmas.Bool.{false≢true}
use Rattle.rule_tables.specs.declared.domain.Domain.{Domain}
use Rattle.chan_flags.specs.declared.record.Chan.{Chan}
use Rattle.dfs_states.specs.declared.dfs.Dfs.{Dfs}
use Rattle.radio_drv.specs.Seen.{Seen}
use Rattle.reg_journal.specs.Causes.{IsFree}
use Rattle.reg_journal.specs.Dumps.{AreSections, AreShownChannels, IsIfaceReport, IsRadioReport}
use Rattle.reg_journal.specs.Facts.{Journal}
use Rattle.reg_journal.specs.Present.{Iface, named}
use Rattle.reg_journal.specs.Refusals.{LacksIface, LacksRadio}
use Rattle.reg_journal.specs.Replies.{Shows, Steps}
use Rattle.reg_journal.specs.declared.refusal.Refusal.{Refusal}
use Rattle.reg_journal.specs.declared.reply.Answer.TheVariants.{Refused}
use Rattle.reg_journal.specs.declared.reply.Reply.{Reply}
use Rattle.reg_journal.specs.declared.reply.Reply.TheVariants.{Plain, Regs, Channels, Radio, Iface as OfIface}
use Rattle.reg_journal.specs.declared.report.IfaceReport.{IfaceReport}
use Rattle.reg_journal.specs.declared.report.RadioReport.{RadioReport}
use Rattle.reg_journal.specs.declared.report.Section.{Section}
use Rattle.reg_journal.specs.declared.request.Request.{Request}
use Rattle.reg_journal.specs.declared.request.Request.TheVariants.{GetReg, Channels as GetChannels, RadioInfo, IfaceInfo}
use Rattle.reg_journal.proofs.Granting.{free-where}
use Rattle.reg_core.specs.Kept.{StandsFor}
use Rattle.reg_core.specs.Stepping.{IsStartGranted, OneStep, is_failed, is_failure}
use Rattle.reg_core.specs.declared.core_state.Core.{Core}
use Rattle.reg_books.proofs.KeepUp.{BeginsNothing, drivers_at_refusal}

-- nothing changes, whatever is replied
step_at_rest : (db : List Domain) (J : Journal) (q : Request) (reply : Reply) (core : Core) (row : List (Option Seen)) → is_failed reply ≡ false
    → IsStartGranted db J q reply → Steps db J q false reply J → StandsFor db core J → BeginsNothing J q reply → OneStep db J q core core row row reply
step_at_rest db J q reply core row none granted steps stands begins =
    let keep = drivers_at_refusal J q reply row begins in
    record {
      next = J;
      steps = subst (λ failed. Steps db J q failed reply J) (sym none) steps;
      stands = stands;
      follows = keep.follows;
      driven = keep.driven;
      cause = λ failed. absurd (false≢true (sym none ∙ failed));
      drivers = keep.drivers;
      refused = λ is. record { core = refl; untold = λ fine. refl; air = λ r. refl };
      granted = granted;
    }

no_radio_is_no_failure : (J : Journal) (r : ℕ) (e : Refusal) → LacksRadio J r e → is_failure e ≡ false
no_radio_is_no_failure J r e cause = ap is_failure cause.1

-- ---- sections

pub sections_step : (db : List Domain) (J : Journal) (sections : List Section) (core : Core) (row : List (Option Seen)) → StandsFor db core J → AreSections db J sections
    → OneStep db J GetReg core core row row (Regs sections)
sections_step db J sections core row stands are =
    step_at_rest db J GetReg (Regs sections) core row refl tt ([], ((sections, are, refl), refl), refl) stands (λ r before. refl)

-- ---- channels

pub channels_step : (db : List Domain) (J : Journal) (r : ℕ) (list : List (Chan × Dfs)) (core : Core) (row : List (Option Seen)) → StandsFor db core J → IsFree (LacksRadio J r)
    → AreShownChannels db J r list → OneStep db J (GetChannels r) core core row row (Channels r list)
channels_step db J r list core row stands there are =
    step_at_rest db J (GetChannels r) (Channels r list) core row refl tt ([], inr (there, ((list, are, refl), refl)), refl) stands (λ r before. refl)

pub channels_refused : (db : List Domain) (J : Journal) (r : ℕ) (e : Refusal) (core : Core) (row : List (Option Seen)) → StandsFor db core J → LacksRadio J r e
    → OneStep db J (GetChannels r) core core row row (Plain (Refused e) [])
channels_refused db J r e core row stands cause =
    step_at_rest db J (GetChannels r) (Plain (Refused e) []) core row (no_radio_is_no_failure J r e cause) tt ([], inl (e, cause, refl, refl), refl) stands (λ r before. refl)

-- ---- reports

pub radio_step : (db : List Domain) (J : Journal) (r : ℕ) (report : RadioReport) (core : Core) (row : List (Option Seen)) → StandsFor db core J → IsFree (LacksRadio J r)
    → IsRadioReport J r report → OneStep db J (RadioInfo r) core core row row (Radio report)
radio_step db J r report core row stands there is =
    step_at_rest db J (RadioInfo r) (Radio report) core row refl tt ([], inr (there, ((report, is, refl), refl)), refl) stands (λ r before. refl)

pub radio_refused : (db : List Domain) (J : Journal) (r : ℕ) (e : Refusal) (core : Core) (row : List (Option Seen)) → StandsFor db core J → LacksRadio J r e
    → OneStep db J (RadioInfo r) core core row row (Plain (Refused e) [])
radio_refused db J r e core row stands cause =
    step_at_rest db J (RadioInfo r) (Plain (Refused e) []) core row (no_radio_is_no_failure J r e cause) tt ([], inl (e, cause, refl, refl), refl) stands (λ r before. refl)

pub iface_step : (db : List Domain) (J : Journal) (name : List ℕ) (report : IfaceReport) (core : Core) (row : List (Option Seen)) → StandsFor db core J
    → IsSomeAnd (named J name) (λ x. IsIfaceReport J x report) → OneStep db J (IfaceInfo name) core core row row (OfIface report)
iface_step db J name report core row stands is =
    step_at_rest db J (IfaceInfo name) (OfIface report) core row refl tt ([], inr (by (named J name) refl is), refl) stands (λ r before. refl)
  where
    by : (o : Option Iface) → named J name ≡ o → IsSomeAnd o (λ x. IsIfaceReport J x report)
        → IsFree (LacksIface J name) × IsSomeAnd o (λ x. Shows (λ reply. (shown : IfaceReport) × IsIfaceReport J x shown × (reply ≡ OfIface shown)) (OfIface report) [])
    by None at is = absurd is
    by (Some x) at is = (free-where _ _ (λ none. absurd (cc (at, none))), ((report, is, refl), refl))

pub iface_refused : (db : List Domain) (J : Journal) (name : List ℕ) (e : Refusal) (core : Core) (row : List (Option Seen)) → StandsFor db core J → LacksIface J name e
    → OneStep db J (IfaceInfo name) core core row row (Plain (Refused e) [])
iface_refused db J name e core row stands cause =
    step_at_rest db J (IfaceInfo name) (Plain (Refused e) []) core row (ap is_failure cause.1) tt ([], inl (e, cause, refl, refl), refl) stands (λ r before. refl)
