-- A fact that says nothing of a radio leaves it as it is kept.
use Rattle.std.proofs.Common.{◌≡◌, ℕ, ◌<◌, ◌==◌, true, false, List, ◌∷◌, length, get_or, map, sym, subst, ◌∙◌, inl, inr, eq-eqb}
use Rattle.std.proofs.Math.ListN.{set}
use Rattle.std.proofs.lemmas.Bool.{cases_Bool, eqb-true}
use Rattle.std.proofs.lemmas.List.{get_or-set_other, get_or-set_same}
use Rattle.rule_tables.specs.declared.domain.Domain.{Domain}
use Rattle.chan_flags.specs.Records.{AreRecords}
use Rattle.rule_intersect.specs.Tables.{IsTableOf}
use Rattle.dfs_states.specs.StandsFor.{BookStandsFor}
use Rattle.reg_journal.specs.Facts.{Fact, Journal}
use Rattle.reg_books.specs.Calls.{opening_of}
use Rattle.core_parts.specs.Kept.{KeepsRadio, KeepsRadios, KeepsPlace}
use Rattle.core_parts.specs.declared.radio.Radio.{Radio}
use Rattle.core_parts.specs.declared.radio.RadioPlace.{RadioPlace}
use Rattle.core_parts.specs.declared.radio.RadioPlace.TheVariants.{Free, Removed, There}
use Rattle.reg_books.specs.Sparing.{SparesRadio}
use Rattle.reg_books.proofs.Spared.{applies-spared, calls_of-spared, custom_domains-spared, driver_code_of-spared, is_used-spared, profile_of-spared}

-- ---- what is kept

pub KeepsRadio-spared : (db : List Domain) (J : Journal) (r : ℕ) (f : Fact) (radio : Radio) → SparesRadio J r f → KeepsRadio db J r radio → KeepsRadio db (f ∷ J) r radio
KeepsRadio-spared db J r f radio spares kept = record {
  profile = profile_of-spared J r f spares ∙ kept.profile;
  is_profile = kept.is_profile;
  custom = custom_domains-spared J r f spares ∙ kept.custom;
  driver = driver_code_of-spared J r f spares ∙ kept.driver;
  table = subst (λ ds. IsTableOf ds radio.table) (sym (applies-spared db J r f spares)) kept.table;
  records = subst (λ ds. AreRecords ds radio.chans.chans) (sym (applies-spared db J r f spares)) kept.records;
  book = subst (λ calls. BookStandsFor radio.book (map (λ c. c.khz) radio.chans.chans) (opening_of db r) calls) (sym (calls_of-spared db J r f spares)) kept.book;
}

pub KeepsPlace-spared : (db : List Domain) (J : Journal) (r : ℕ) (f : Fact) (place : RadioPlace) → SparesRadio J r f → KeepsPlace db J r place → KeepsPlace db (f ∷ J) r place
KeepsPlace-spared db J r f Free spares kept = is_used-spared J r f spares ∙ kept
KeepsPlace-spared db J r f Removed spares kept = (is_used-spared J r f spares ∙ kept.0, profile_of-spared J r f spares ∙ kept.1)
KeepsPlace-spared db J r f (There radio) spares kept = (is_used-spared J r f spares ∙ kept.0, KeepsRadio-spared db J r f radio spares kept.1)

-- a fact that spares each radio
pub KeepsRadios-spared : (db : List Domain) (J : Journal) (f : Fact) (places : List RadioPlace) → ((r : ℕ) → SparesRadio J r f) → KeepsRadios db J places → KeepsRadios db (f ∷ J) places
KeepsRadios-spared db J f places spares kept = λ r below. KeepsPlace-spared db J r f (get_or places r Free) (spares r) (kept r below)

-- a fact that spares each radio but one, whose place is written
pub KeepsRadios-at : (db : List Domain) (J : Journal) (f : Fact) (places : List RadioPlace) (q : ℕ) (place : RadioPlace) → q < length places
    → ((r : ℕ) → (r == q) ≡ false → SparesRadio J r f) → KeepsPlace db (f ∷ J) q place → KeepsRadios db J places → KeepsRadios db (f ∷ J) (set places q place)
KeepsRadios-at db J f places q place within spares is kept = λ r below. elim (cases_Bool (r == q)) [
  | inl same ↦
      subst (λ n. KeepsPlace db (f ∷ J) n (get_or (set places q place) n Free)) (sym (eqb-true r q same))
      (subst (KeepsPlace db (f ∷ J) q) (sym (get_or-set_same places q place Free within)) is)
  | inr other ↦
      subst (KeepsPlace db (f ∷ J) r) (sym (get_or-set_other places q r place Free (λ same. let test : (r == q) ≡ true = eq-eqb r q same in absurd cc)))
      (KeepsPlace-spared db J r f (get_or places r Free) (spares r other) (kept r below))
]
