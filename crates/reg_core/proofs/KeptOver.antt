-- The core keeps the journal with one more fact.
use Rattle.std.proofs.Common.{◌≡◌, ℕ, ◌<◌, ◌==◌, ◌≤◌, ◌^◌, ◌||◌, true, false, List, [], ◌∷◌, ◌++◌, ◌+◌, length, get_or, Contains, arith, refl, sym, subst, ap, ◌∙◌, eq-eqb}
use Rattle.std.proofs.lemmas.List.{get_or_default}
use Rattle.std.proofs.Math.ListN.{set}
use Rattle.rule_tables.specs.declared.domain.Domain.{Domain}
use Rattle.reg_journal.specs.Due.{EachMayFollow}
use Rattle.chan_flags.specs.Profiles.{Abilities}
use Rattle.reg_journal.specs.Facts.{Fact, Journal, moment_is, radio_added, made}
use Rattle.reg_journal.specs.Present.{Iface, ifaces_of, is_used, made_of}
use Rattle.reg_core.specs.Kept.{Keeps}
use Rattle.core_parts.specs.Kept.{KeepsPlace, KeepsRadio, KeepsRadios, interfaces_of, kept}
use Rattle.core_parts.specs.Interfaces.{AreOthers, slot_on}
use Rattle.reg_books.specs.Sparing.{SparesRadio}
use Rattle.core_parts.specs.declared.interface.Interface.{Interface}
use Rattle.chan_def.specs.declared.kind.Kind.{Kind}
use Rattle.reg_core.specs.declared.core_state.Core.{Core}
use Rattle.core_parts.specs.declared.radio.Radio.{Radio}
use Rattle.core_parts.specs.declared.radio.RadioPlace.{RadioPlace}
use Rattle.core_parts.specs.declared.radio.RadioPlace.TheVariants.{Free, There}
use Rattle.reg_journal.proofs.Homes.{none_next}
use Rattle.reg_journal.proofs.Listed.{Contains-map}
use Rattle.reg_journal.proofs.Radios.{home_listed}
use Rattle.core_parts.proofs.KeptInterfaces.{new_interface, interfaces_of-made}
use Rattle.core_parts.proofs.Unchanged.{KeepsRadios-at, KeepsRadios-spared}

pub keeps_after_moment : (db : List Domain) (J : Journal) (core : Core) (now : ℕ) (radios : List RadioPlace) → Keeps db core J
    → core.clock ≤ now → now ≤ 10 ^ 15 → KeepsRadios db (moment_is now ∷ J) radios
    → Keeps db (record core { clock = now; radios = radios }) (moment_is now ∷ J)
keeps_after_moment db J core now radios s later within kept =
    let due : EachMayFollow db (moment_is now ∷ J) = ((subst (λ n. n ≤ now) s.clock later, within), s.due) in
    record {
      due = due;
      domains = s.domains;
      clock = refl;
      indoor = s.indoor;
      hints = s.hints;
      made = s.made;
      global = s.global;
      radios = kept;
      interfaces = s.interfaces;
    }

-- the number of a radio that came is used
used_now : (J : Journal) (r : ℕ) (profile : Abilities) → is_used (radio_added r profile ∷ J) r ≡ true
used_now J r profile = ap (λ b. b || is_used J r) (eq-eqb r r refl)

pub keeps_after_radio : (db : List Domain) (J : Journal) (core : Core) (r : ℕ) (profile : Abilities) (radio : Radio) → Keeps db core J
    → EachMayFollow db (radio_added r profile ∷ J) → r < length core.radios → KeepsRadio db (radio_added r profile ∷ J) r radio
    → Keeps db (record core { radios = set core.radios r (There radio) }) (radio_added r profile ∷ J)
keeps_after_radio db J core r profile radio s due within kept = record {
  due = due;
  domains = s.domains;
  clock = s.clock;
  indoor = s.indoor;
  hints = s.hints;
  made = s.made;
  global = s.global;
  radios = KeepsRadios-at db J (radio_added r profile) core.radios r (There radio) within (λ q other. other) (used_now J r profile, kept) s.radios;
  interfaces = s.interfaces;
}

-- the next index is that of none of them
pub next_is_new : (db : List Domain) (J : Journal) (core : Core) → Keeps db core J → AreOthers (core.made + 1) core.interfaces
next_is_new db J core s p has same =
    let (x, listed, is) = Contains-map (kept J) (ifaces_of J) p (subst (λ ps. Contains ps p) s.interfaces has) in
    none_next db J x.index x.radio s.due (ap (λ (q : Interface). q.index) is ∙ same ∙ ap (λ n. n + 1) s.made) (home_listed db J x s.due listed)

pub keeps_after_making : (db : List Domain) (J : Journal) (core : Core) (name : List ℕ) (r : ℕ) (kind : Kind) (interfaces : List Interface) → Keeps db core J
    → EachMayFollow db (made (made_of J + 1) name r kind ∷ J) → interfaces ≡ core.interfaces ++ new_interface (core.made + 1) name r (slot_on core.interfaces r) kind ∷ []
    → Keeps db (record core { made = core.made + 1; interfaces = interfaces }) (made (made_of J + 1) name r kind ∷ J)
keeps_after_making db J core name r kind interfaces s due grown = record {
  due = due;
  domains = s.domains;
  clock = s.clock;
  indoor = s.indoor;
  hints = s.hints;
  made = ap (λ n. n + 1) s.made;
  global = s.global;
  radios = KeepsRadios-spared db J (made (made_of J + 1) name r kind) core.radios (λ q. tt) s.radios;
  interfaces = grown ∙ ap (λ ps. ps ++ new_interface (core.made + 1) name r (slot_on ps r) kind ∷ []) s.interfaces
      ∙ ap (λ n. interfaces_of J ++ new_interface (n + 1) name r (slot_on (interfaces_of J) r) kind ∷ []) s.made
      ∙ sym (interfaces_of-made db J name r kind due.1);
}
