-- What a fact that speaks to books leaves of the radios.
use Rattle.std.proofs.Common.{◌≡◌, ℕ, ◌<◌, ◌==◌, false, List, ◌∷◌, length, get_or, map, Some, refl, sym, subst, ◌∙◌}
use Rattle.std.proofs.Math.ListN.{set}
use Rattle.rule_tables.specs.declared.domain.Domain.{Domain}
use Rattle.chan_flags.specs.Records.{AreRecords}
use Rattle.rule_intersect.specs.Tables.{IsTableOf}
use Rattle.dfs_states.specs.Book.{Book}
use Rattle.dfs_states.specs.Calls.{Call}
use Rattle.dfs_states.specs.Meaning.{EachMayBeCalled, MayBeCalled}
use Rattle.dfs_states.specs.StandsFor.{BookStandsFor}
use Rattle.reg_journal.specs.Applicable.{applies, custom_domains, driver_code_of}
use Rattle.reg_journal.specs.Due.{EachMayFollow}
use Rattle.reg_journal.specs.Facts.{Fact, Journal, radar_met, started, stopped, check_begun, check_dropped}
use Rattle.reg_journal.specs.Present.{is_used, profile_of}
use Rattle.reg_books.specs.Calls.{call_of, calls_of, opening_of, pushed}
use Rattle.core_parts.specs.Kept.{KeepsPlace, KeepsRadio, KeepsRadios}
use Rattle.core_parts.specs.BookCalls.{SpeaksToBooks, call_in}
use Rattle.reg_books.specs.Sparing.{SparesRadio}
use Rattle.core_parts.specs.declared.book_call.BookCall.{BookCall}
use Rattle.core_parts.specs.declared.radio.Radio.{Radio}
use Rattle.core_parts.specs.declared.radio.RadioPlace.{RadioPlace}
use Rattle.core_parts.specs.declared.radio.RadioPlace.TheVariants.{Free, Removed, There}
use Rattle.reg_books.proofs.DueCalls.{due_calls}
use Rattle.core_parts.proofs.KeptPlaces.{kept_at}

-- a book may be told what a fact says that may come
pub call_due : (db : List Domain) (J : Journal) (r : ℕ) (f : Fact) (call : Call) → call_of db f J r ≡ Some call → EachMayFollow db (f ∷ J) → MayBeCalled (calls_of db J r) call
call_due db J r f call is due = (subst (λ o. EachMayBeCalled (pushed o (calls_of db J r))) is (due_calls db (f ∷ J) r due)).0

-- the rest of a radio stays
record StaysBeside (db : List Domain) (f : Fact) (J : Journal) (r : ℕ) : Type 0 where
  pub profile : profile_of (f ∷ J) r ≡ profile_of J r
  pub custom : custom_domains (f ∷ J) r ≡ custom_domains J r
  pub driver : driver_code_of (f ∷ J) r ≡ driver_code_of J r
  pub domains : applies db (f ∷ J) r ≡ applies db J r
  pub used : is_used (f ∷ J) r ≡ is_used J r

stays_beside : (db : List Domain) (f : Fact) (J : Journal) (r : ℕ) → SpeaksToBooks f → StaysBeside db f J r
stays_beside db (started i chan power) J r speaks = record { profile = refl; custom = refl; driver = refl; domains = refl; used = refl }
stays_beside db (stopped i) J r speaks = record { profile = refl; custom = refl; driver = refl; domains = refl; used = refl }
stays_beside db (radar_met q chan) J r speaks = record { profile = refl; custom = refl; driver = refl; domains = refl; used = refl }
stays_beside db (check_begun i chan length) J r speaks = record { profile = refl; custom = refl; driver = refl; domains = refl; used = refl }
stays_beside db (check_dropped i) J r speaks = record { profile = refl; custom = refl; driver = refl; domains = refl; used = refl }
stays_beside db f J r speaks = absurd speaks

-- a radio whose book is told so
pub noted : (db : List Domain) (J : Journal) (r : ℕ) (old : Radio) (f : Fact) (call : Call) (book : Book) → KeepsRadio db J r old → SpeaksToBooks f → call_of db f J r ≡ Some call
    → EachMayFollow db (f ∷ J)
    → (MayBeCalled (calls_of db J r) call → BookStandsFor book (map (λ c. c.khz) old.chans.chans) (opening_of db r) (call ∷ calls_of db J r))
    → KeepsRadio db (f ∷ J) r (record old { book = book })
noted db J r old f call book kept speaks is due stands =
    let stays = stays_beside db f J r speaks in
    record {
      profile = stays.profile ∙ kept.profile;
      is_profile = kept.is_profile;
      custom = stays.custom ∙ kept.custom;
      driver = stays.driver ∙ kept.driver;
      table = subst (λ ds. IsTableOf ds old.table) (sym stays.domains) kept.table;
      records = subst (λ ds. AreRecords ds old.chans.chans) (sym stays.domains) kept.records;
      book = subst (λ o. BookStandsFor book (map (λ c. c.khz) old.chans.chans) (opening_of db r) (pushed o (calls_of db J r))) (sym is) (stands (call_due db J r f call is due));
    }

-- the place of such a radio
pub noted_place : (db : List Domain) (J : Journal) (r : ℕ) (f : Fact) (old new : Radio) → SpeaksToBooks f → KeepsPlace db J r (There old) → KeepsRadio db (f ∷ J) r new
    → KeepsPlace db (f ∷ J) r (There new)
noted_place db J r f old new speaks kept is = ((stays_beside db f J r speaks).used ∙ kept.0, is)

-- a place without a radio
pub place_stays : (db : List Domain) (J : Journal) (r : ℕ) (f : Fact) (place : RadioPlace) → SpeaksToBooks f → ((radio : Radio) → place ≡ There radio → ⊥) → KeepsPlace db J r place
    → KeepsPlace db (f ∷ J) r place
place_stays db J r f Free speaks none kept = (stays_beside db f J r speaks).used ∙ kept
place_stays db J r f Removed speaks none kept = let stays = stays_beside db f J r speaks in (stays.used ∙ kept.0, stays.profile ∙ kept.1)
place_stays db J r f (There radio) speaks none kept = absurd (none radio refl)

-- all places
pub noted_all : (db : List Domain) (J : Journal) (f : Fact) (radios : List RadioPlace) (r k : ℕ) (call : BookCall) (old new : RadioPlace) → KeepsRadios db J radios → SpeaksToBooks f
    → call_of db f J r ≡ Some (call_in call) → ((q : ℕ) → (q == r) ≡ false → SparesRadio J q f) → EachMayFollow db (f ∷ J)
    → length radios ≡ 8 → k < 8 → k ≡ r → old ≡ get_or radios k old
    → ((q : ℕ) → KeepsPlace db J q old → call_of db f J q ≡ Some (call_in call) → KeepsPlace db (f ∷ J) q new)
    → KeepsRadios db (f ∷ J) (set radios k new)
noted_all db J f radios r k call old new keeps speaks is spares due eight below same at step =
    kept_at db J f radios r k old new keeps spares eight below same at (λ place. step r place is)
