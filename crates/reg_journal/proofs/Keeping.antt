-- What is kept over a fact: each fact came where it might, what each interface does may go on, and custom rules are plain.
use Rattle.std.proofs.Common.{◌≡◌, ℕ, List, [], ◌∷◌, ◌++◌, Option, Some, None, refl, sym, ap, subst, ne_eqb, unwrap_or, if◌then◌else◌, map}
use Rattle.rule_tables.specs.Regions.{common_region}
use Rattle.rule_tables.specs.declared.domain.Domain.{Domain}
use Rattle.chan_flags.specs.Profiles.{Abilities}
use Rattle.reg_journal.specs.Applicable.{custom_domains, driver_domains, global_domains, or_nothing}
use Rattle.reg_journal.specs.Due.{EachMayFollow, MayFollow}
use Rattle.reg_journal.specs.Facts.{Fact, Journal, after, moment_is, radio_added, radio_removed, rules_are, hinted, indoor_is, radar_met, made, ended, typed, set_to, started, stopped, powered, check_begun, check_dropped}
use Rattle.reg_journal.specs.Present.{Iface, ifaces_of, no_abilities, profile_of}
use Rattle.reg_journal.specs.Settled.{AreSettled}
use Rattle.reg_journal.specs.Sweep.{AreSwept}
use Rattle.reg_journal.proofs.Lasting.{LeavesRadio}
use Rattle.reg_journal.proofs.Ranges.{ArePlain, IsPlain}
use Rattle.reg_journal.proofs.Swept.{EachAwaits, all_swept, each_awaits_of, swept_on, IsSweptOn}

-- what holds of each journal to which requests led
pub record Goes (db : List Domain) (J : Journal) : Type 0 where
  pub due : EachMayFollow db J
  pub settled : AreSettled db J
  pub plain : ArePlain J

-- ---- facts that leave radios

-- the fact is a moment or one of an interface
abbrev pub SparesRadios : Fact → Type 0
SparesRadios (radio_added r profile) = ⊥
SparesRadios (radio_removed r) = ⊥
SparesRadios (rules_are r rules) = ⊥
SparesRadios (hinted hint) = ⊥
SparesRadios (indoor_is on) = ⊥
SparesRadios (radar_met r chan) = ⊥
SparesRadios f = Unit {0}

pub leaves-each : (db : List Domain) (f : Fact) (J : Journal) (r : ℕ) → SparesRadios f → LeavesRadio db f J r
leaves-each db (moment_is moment) J r spares = record { domains = refl; profile = refl; region = refl; indoor = refl; unmet = λ chan met. cc }
leaves-each db (made i name q kind) J r spares = record { domains = refl; profile = refl; region = refl; indoor = refl; unmet = λ chan met. cc }
leaves-each db (ended i) J r spares = record { domains = refl; profile = refl; region = refl; indoor = refl; unmet = λ chan met. cc }
leaves-each db (typed i kind) J r spares = record { domains = refl; profile = refl; region = refl; indoor = refl; unmet = λ chan met. cc }
leaves-each db (set_to i setting) J r spares = record { domains = refl; profile = refl; region = refl; indoor = refl; unmet = λ chan met. cc }
leaves-each db (started i chan power) J r spares = record { domains = refl; profile = refl; region = refl; indoor = refl; unmet = λ other met. cc }
leaves-each db (stopped i) J r spares = record { domains = refl; profile = refl; region = refl; indoor = refl; unmet = λ chan met. cc }
leaves-each db (powered i power) J r spares = record { domains = refl; profile = refl; region = refl; indoor = refl; unmet = λ chan met. cc }
leaves-each db (check_begun i chan length) J r spares = record { domains = refl; profile = refl; region = refl; indoor = refl; unmet = λ other met. cc }
leaves-each db (check_dropped i) J r spares = record { domains = refl; profile = refl; region = refl; indoor = refl; unmet = λ chan met. cc }
leaves-each db f J r spares = absurd spares

-- a fact that leaves a radio's profile, its rules and its hints leaves its domains and its region
domains_by : (db : List Domain) (J : Journal) (r : ℕ) (p q : Option Abilities) → p ≡ q
    → or_nothing ((if (unwrap_or p no_abilities).self_managed then [] else global_domains db J) ++ custom_domains J r ++ driver_domains db J r)
    ≡ or_nothing ((if (unwrap_or q no_abilities).self_managed then [] else global_domains db J) ++ custom_domains J r ++ driver_domains db J r)
domains_by db J r p q same =
    ap (λ o. or_nothing ((if (unwrap_or o no_abilities).self_managed then [] else global_domains db J) ++ custom_domains J r ++ driver_domains db J r)) same

region_by : (db : List Domain) (J : Journal) (r : ℕ) (p q : Option Abilities) → p ≡ q
    → common_region (map (λ d. d.region) ((if (unwrap_or p no_abilities).self_managed then [] else global_domains db J) ++ driver_domains db J r))
    ≡ common_region (map (λ d. d.region) ((if (unwrap_or q no_abilities).self_managed then [] else global_domains db J) ++ driver_domains db J r))
region_by db J r p q same =
    ap (λ o. common_region (map (λ d. d.region) ((if (unwrap_or o no_abilities).self_managed then [] else global_domains db J) ++ driver_domains db J r))) same

added_profile : (J : Journal) (q r : ℕ) (profile : Abilities) → (r ≡ q → ⊥) → profile_of (radio_added q profile ∷ J) r ≡ profile_of J r
added_profile J q r profile other = rw (ne_eqb r q other)

removed_profile : (J : Journal) (q r : ℕ) → (r ≡ q → ⊥) → profile_of (radio_removed q ∷ J) r ≡ profile_of J r
removed_profile J q r other = rw (ne_eqb r q other)

-- a radio that comes leaves the others
pub leaves-added : (db : List Domain) (J : Journal) (q r : ℕ) (profile : Abilities) → (r ≡ q → ⊥) → LeavesRadio db (radio_added q profile) J r
leaves-added db J q r profile other = record {
  domains = domains_by db J r (profile_of (radio_added q profile ∷ J) r) (profile_of J r) (added_profile J q r profile other);
  profile = added_profile J q r profile other;
  region = region_by db J r (profile_of (radio_added q profile ∷ J) r) (profile_of J r) (added_profile J q r profile other);
  indoor = refl;
  unmet = λ chan met. cc;
}

-- so does one that goes
pub leaves-removed : (db : List Domain) (J : Journal) (q r : ℕ) → (r ≡ q → ⊥) → LeavesRadio db (radio_removed q) J r
leaves-removed db J q r other = record {
  domains = domains_by db J r (profile_of (radio_removed q ∷ J) r) (profile_of J r) (removed_profile J q r other);
  profile = removed_profile J q r other;
  region = region_by db J r (profile_of (radio_removed q ∷ J) r) (profile_of J r) (removed_profile J q r other);
  indoor = refl;
  unmet = λ chan met. cc;
}

-- ---- plain facts

-- each fact of a list is plain
abbrev pub EachPlain : List Fact → Type 0
EachPlain [] = Unit {0}
EachPlain (f ∷ facts) = IsPlain f × EachPlain facts

pub plain_after : (facts : List Fact) (J : Journal) → EachPlain facts → ArePlain J → ArePlain (after facts J)
plain_after [] J each plain = plain
plain_after (f ∷ facts) J (first, each) plain = plain_after facts (f ∷ J) each (first, plain)

swept_plain : (f : Fact) (i : ℕ) → IsSweptOn f i → IsPlain f
swept_plain (rules_are r rules) i on = absurd on
swept_plain (made j name r kind) i on = absurd on
swept_plain (stopped j) i on = tt
swept_plain (powered j power) i on = tt
swept_plain (check_dropped j) i on = tt
swept_plain f i on = absurd on

pub each_swept_plain : (db : List Domain) (J : Journal) (xs : List Iface) (facts : List Fact) → EachAwaits db J xs facts → EachPlain facts
each_swept_plain db J [] facts none = subst EachPlain (sym none) tt
each_swept_plain db J (x ∷ xs) facts (None, rest, awaits, each, are) = subst EachPlain (sym are) (each_swept_plain db J xs rest each)
each_swept_plain db J (x ∷ xs) facts (Some f, rest, awaits, each, are) =
    subst EachPlain (sym are) (swept_plain f x.index (swept_on db J x f awaits), each_swept_plain db J xs rest each)

-- ---- sweeps

-- a fact that may come, and a sweep of all interfaces
pub goes_swept_all : (db : List Domain) (J : Journal) (f : Fact) (facts : List Fact) → Goes db J → MayFollow db J f → IsPlain f → AreSwept db (f ∷ J) (ifaces_of (f ∷ J)) facts
    → Goes db (after facts (f ∷ J))
goes_swept_all db J f facts goes due plain swept =
    let all = all_swept db (f ∷ J) facts (due, goes.due) swept in
    record {
      due = all.0;
      settled = all.1;
      plain = plain_after facts (f ∷ J) (each_swept_plain db (f ∷ J) (ifaces_of (f ∷ J)) facts (each_awaits_of db (f ∷ J) (ifaces_of (f ∷ J)) facts (due, goes.due) swept)) (plain, goes.plain);
    }
