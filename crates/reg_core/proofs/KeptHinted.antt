-- The core keeps the journal with a hint that the table of hints treats.
use Rattle.std.proofs.Common.{◌≡◌, List, ◌∷◌, sym, subst}
use Rattle.rule_tables.specs.declared.domain.Domain.{Domain}
use Rattle.rule_intersect.specs.Tables.{IsTableOf}
use Rattle.reg_hints.specs.Table.{Hinted, Treated}
use Rattle.reg_hints.specs.declared.hint.Hint.{Hint}
use Rattle.reg_journal.specs.Applicable.{hints_of}
use Rattle.reg_journal.specs.Causes.{IsFree}
use Rattle.reg_journal.specs.Due.{EachMayFollow, FitsItsRadio}
use Rattle.reg_journal.specs.Facts.{Journal, hinted}
use Rattle.reg_journal.specs.Refusals.{HintCauses}
use Rattle.reg_core.specs.Kept.{Keeps}
use Rattle.core_parts.specs.Kept.{KeepsRadios}
use Rattle.reg_books.specs.Lists.{global_by}
use Rattle.reg_core.specs.inner.Outcomes.{IsOutcome}
use Rattle.reg_core.specs.declared.core_state.Core.{Core}
use Rattle.reg_core.specs.declared.hint_outcomes.HintOutcome.{HintOutcome}
use Rattle.core_parts.specs.declared.radio.RadioPlace.{RadioPlace}
use Rattle.reg_core.proofs.HintRefusals.{known_domain, no_fifth_code}

pub hint_due : (db : List Domain) (J : Journal) (hint : Hinted) → EachMayFollow db J → FitsItsRadio J hint → IsFree (HintCauses db J hint) → EachMayFollow db (hinted hint ∷ J)
hint_due db J hint due fits free = (((known_domain db J hint free, no_fifth_code db J hint free), fits), due)

pub keeps_after_hint : (db : List Domain) (J : Journal) (core new : Core) (hint : Hint) (outcome : HintOutcome) (radios : List RadioPlace) → Keeps db core J
    → FitsItsRadio J (Treated hint) → IsOutcome db J hint core.radios outcome
    → new ≡ record core { hints = outcome.hints; global = outcome.tables.global; radios = radios }
    → ((K : Journal) → KeepsRadios core.domains K core.radios → hints_of K ≡ core.hints → hints_of (hinted (Treated hint) ∷ K) ≡ outcome.hints
    → KeepsRadios core.domains (hinted (Treated hint) ∷ K) radios)
    → Keeps db new (hinted (Treated hint) ∷ J)
keeps_after_hint db J core new hint outcome radios s fits is follows retunes =
    let kept = subst (λ ds. KeepsRadios ds (hinted (Treated hint) ∷ J) radios) s.domains
    (retunes J (subst (λ ds. KeepsRadios ds J core.radios) (sym s.domains) s.radios) (sym s.hints) (sym is.hints)) in
    subst (λ c. Keeps db c (hinted (Treated hint) ∷ J)) (sym follows) (record {
      due = hint_due db J (Treated hint) s.due fits is.free;
      domains = s.domains;
      clock = s.clock;
      indoor = s.indoor;
      hints = is.hints;
      made = s.made;
      global = subst (λ led. IsTableOf (global_by db led) outcome.tables.global) is.hints is.tables.global;
      radios = kept;
      interfaces = s.interfaces;
    })
