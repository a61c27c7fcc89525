-- Changes that are taken one after the other.
use Rattle.std.proofs.Common.{◌≡◌, ℕ, ◌<◌, ◌≤◌, ◌+◌, List, [], ◌∷◌, drop, length, get_or, refl, sym, ap, subst, ◌∙◌}
use Rattle.std.proofs.lemmas.List.{drop_all, drop_more}
use Rattle.rule_tables.specs.declared.domain.Domain.{Domain}
use Rattle.radio_drv.specs.Seen.{Seen}
use Rattle.std.specs.Prelude.{Option}
use Rattle.reg_journal.specs.Due.{MayFollow}
use Rattle.reg_journal.specs.Facts.{Journal, after}
use Rattle.reg_journal.specs.Present.{Iface}
use Rattle.reg_core.specs.Kept.{Keeps}
use Rattle.core_parts.specs.Changes.{AreEachTold, CanAllCome, IsInterfaceOf, IsTold, fact_of, facts_of, interface_in}
use Rattle.core_parts.specs.declared.change.Change.{Change}
use Rattle.reg_core.specs.declared.core_state.Core.{Core}

-- the core keeps some journal, from which the changes from place i on lead where all lead
pub record OnTheWay (db : List Domain) (J : Journal) (changes : List Change) (i : ℕ) (core : Core) : Type 0 where
  pub now : Journal
  pub keeps : Keeps db core now
  pub can : CanAllCome db now (drop i changes)
  pub same : after (facts_of (drop i changes)) now ≡ after (facts_of changes) J

pub way_begins : (db : List Domain) (J : Journal) (changes : List Change) (core : Core) → Keeps db core J → CanAllCome db J changes → OnTheWay db J changes 0 core
way_begins db J changes core keeps can = record { now = J; keeps = keeps; can = can; same = refl }

pub way_goes_on : (db : List Domain) (J : Journal) (changes : List Change) (i : ℕ) (c : Change) (old new : Core) → i < length changes → c ≡ get_or changes i c
    → ((K : Journal) (x : Iface) → Keeps db old K → MayFollow db K (fact_of c) → IsInterfaceOf K x (interface_in c) → Keeps db new (fact_of c ∷ K))
    → OnTheWay db J changes i old → OnTheWay db J changes (i + 1) new
way_goes_on db J changes i c old new within at step way =
    let split : drop i changes ≡ c ∷ drop (i + 1) changes = drop_more changes i c within ∙ ap (λ d. d ∷ drop (i + 1) changes) (sym at) in
    let can = subst (CanAllCome db way.now) split way.can in
    record {
      now = fact_of c ∷ way.now;
      keeps = step way.now can.1.0 way.keeps can.0 can.1.1;
      can = can.2;
      same = sym (ap (λ cs. after (facts_of cs) way.now) split) ∙ way.same;
    }

pub way_ends : (db : List Domain) (J : Journal) (changes : List Change) (i : ℕ) (core : Core) → length changes ≤ i → OnTheWay db J changes i core
    → Keeps db core (after (facts_of changes) J)
way_ends db J changes i core end way = subst (Keeps db core) (sym (ap (λ cs. after (facts_of cs) way.now) (drop_all i changes end)) ∙ way.same) way.keeps

pub telling_goes_on : (changes : List Change) (i : ℕ) (c : Change) (first row row' last : List (Option Seen)) → i < length changes → c ≡ get_or changes i c → IsTold c row row'
    → ((last : List (Option Seen)) → AreEachTold (drop i changes) row last → AreEachTold changes first last) → AreEachTold (drop (i + 1) changes) row' last → AreEachTold changes first last
telling_goes_on changes i c first row row' last within at told so_far rest =
    so_far last (subst (λ cs. AreEachTold cs row last) (sym (drop_more changes i c within ∙ ap (λ d. d ∷ drop (i + 1) changes) (sym at))) (row', told, rest))

pub telling_ends : (changes : List Change) (i : ℕ) (first row : List (Option Seen)) → length changes ≤ i
    → ((last : List (Option Seen)) → AreEachTold (drop i changes) row last → AreEachTold changes first last) → AreEachTold changes first row
telling_ends changes i first row end so_far = so_far row (subst (λ cs. AreEachTold cs row row) (sym (drop_all i changes end)) refl)
