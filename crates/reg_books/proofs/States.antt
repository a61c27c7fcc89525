-- The state of a subchannel is that of the radio's book.
use Rattle.std.proofs.Common.{◌≡◌, ℕ, ◌+◌, ◌<◌, ◌≤◌, ◌↔◌, true, List, ◌∷◌, ◌++◌, Some, sym, ap, subst, ◌∙◌, inl, inr}
use Rattle.rule_tables.specs.Regions.{is_same_region}
use Rattle.rule_tables.specs.declared.code.Region.TheVariants.{Etsi}
use Rattle.rule_tables.specs.declared.domain.Domain.{Domain}
use Rattle.dfs_states.specs.Calls.{Radar, lasts_of, moment_of as now_of_calls}
use Rattle.dfs_states.specs.Meaning.{HasNonoccupancy as IsBarredInBook, IsPastNonoccupancy as IsQuietInBook, CheckStands as StandsInBook, IsBookState as IsStateInBook}
use Rattle.dfs_states.specs.declared.dfs.Dfs.{Dfs}
use Rattle.dfs_states.specs.declared.dfs.Dfs.TheVariants.{Usable, Unavailable, Available}
use Rattle.dfs_states.proofs.Most.{most_same}
use Rattle.reg_journal.specs.Facts.{Journal, radar_met}
use Rattle.reg_journal.specs.Applicable.{region_of}
use Rattle.reg_journal.specs.Due.{EachMayFollow}
use Rattle.reg_journal.specs.Radar.{IsBarred, IsQuiet, Stands, IsState}
use Rattle.reg_books.specs.Calls.{calls_of, opening_of}
use Rattle.reg_books.proofs.CallOf.{comes_from, call-radar, same_region_true}
use Rattle.reg_books.proofs.Counting.{counts_to_book, counts_from_book}
use Rattle.reg_books.proofs.Lapsing.{lapsed_from_book, lapsed_to_book}
use Rattle.reg_books.proofs.LastingChecks.{lasts_told}
use Rattle.reg_books.proofs.Over.{calls_over, calls_at, from_calls}
use Rattle.reg_books.proofs.Running.{calls-now}

-- ---- nonoccupancy

-- radar on the subchannel, both ways
barred_to_book : (db : List Domain) (J : Journal) (r s until : ℕ) → IsBarred J r s until → IsBarredInBook (calls_of db J r) s until
barred_to_book db J r s until barred = record {
  newer = calls_over db barred.newer (radar_met r barred.chan ∷ barred.older) r;
  chan = barred.chan;
  older = calls_of db barred.older r;
  met = calls_at db J barred.newer barred.older (radar_met r barred.chan) r (Radar barred.chan) barred.met (call-radar db barred.older r barred.chan);
  covered = barred.covered;
  ends = barred.ends ∙ ap (λ n. n + 1800000) (sym (calls-now db barred.older r));
}

barred_from_book : (db : List Domain) (J : Journal) (r s until : ℕ) → IsBarredInBook (calls_of db J r) s until → IsBarred J r s until
barred_from_book db J r s until barred =
    let of = from_calls db J r barred.newer (Radar barred.chan) barred.older barred.met in
    record {
      newer = of.newer;
      chan = barred.chan;
      older = of.older;
      met = of.at ∙ ap (λ f. of.newer ++ f ∷ of.older) (comes_from db of.fact of.older r (Radar barred.chan) of.is);
      covered = barred.covered;
      ends = barred.ends ∙ ap (λ n. n + 1800000) (ap now_of_calls of.earlier ∙ calls-now db of.older r);
    }

pub barred_alike : (db : List Domain) (J : Journal) (r s until : ℕ) → IsBarred J r s until ↔ IsBarredInBook (calls_of db J r) s until
barred_alike db J r s until = (barred_to_book db J r s until, barred_from_book db J r s until)

-- nonoccupancies that are over
pub quiet_alike : (db : List Domain) (J : Journal) (r s : ℕ) → IsQuiet J r s ↔ IsQuietInBook (calls_of db J r) s
quiet_alike db J r s = (
  λ quiet until barred. subst (λ n. until ≤ n) (sym (calls-now db J r)) (quiet until (barred_from_book db J r s until barred)),
  λ quiet until barred. subst (λ n. until ≤ n) (calls-now db J r) (quiet until (barred_to_book db J r s until barred)),
)

-- ---- standing checks

-- where the radio's region is that of ETSI, checks last, both ways
etsi_to_book : (db : List Domain) (J : Journal) (r : ℕ) → region_of db J r ≡ Etsi → lasts_of (opening_of db r) (calls_of db J r) ≡ true
etsi_to_book db J r etsi = lasts_told db J r ∙ ap (λ region. is_same_region region Etsi) etsi

etsi_from_book : (db : List Domain) (J : Journal) (r : ℕ) → lasts_of (opening_of db r) (calls_of db J r) ≡ true → region_of db J r ≡ Etsi
etsi_from_book db J r lasts = same_region_true (region_of db J r) Etsi (sym (lasts_told db J r) ∙ lasts)

-- both ways
stands_to_book : (db : List Domain) (J : Journal) (r s end : ℕ) → EachMayFollow db J → Stands db J r s end → StandsInBook (opening_of db r) (calls_of db J r) s end
stands_to_book db J r s end due stands =
    let counts = counts_to_book db J r s end due stands.counts in
    record {
      ended = record { slot = counts.0; counts = counts.1; done = subst (λ n. end ≤ n) (sym (calls-now db J r)) stands.over };
      alive = elim stands.lasts [
        | inl etsi ↦ inl (etsi_to_book db J r etsi)
        | inr alive ↦ inr (λ lapsed. alive (lapsed_from_book db J r s end due lapsed))
      ];
    }

stands_from_book : (db : List Domain) (J : Journal) (r s end : ℕ) → EachMayFollow db J → StandsInBook (opening_of db r) (calls_of db J r) s end → Stands db J r s end
stands_from_book db J r s end due stands = record {
  counts = counts_from_book db J r s stands.ended.slot end due stands.ended.counts;
  over = subst (λ n. end ≤ n) (calls-now db J r) stands.ended.done;
  lasts = elim stands.alive [
    | inl lasts ↦ inl (etsi_from_book db J r lasts)
    | inr alive ↦ inr (λ lapsed. alive (lapsed_to_book db J r s end due lapsed))
  ];
}

pub stands_alike : (db : List Domain) (J : Journal) (r s end : ℕ) → EachMayFollow db J → Stands db J r s end ↔ StandsInBook (opening_of db r) (calls_of db J r) s end
stands_alike db J r s end due = (stands_to_book db J r s end due, stands_from_book db J r s end due)

-- ---- states

-- both ways
state_to_book : (db : List Domain) (J : Journal) (r s : ℕ) (d : Dfs) → EachMayFollow db J → IsState db J r s d → IsStateInBook (opening_of db r) (calls_of db J r) s d
state_to_book db J r s (Unavailable until) due is = (
  most_same (IsBarred J r s) (IsBarredInBook (calls_of db J r) s) (Some until) (barred_to_book db J r s) (barred_from_book db J r s) is.0,
  subst (λ n. n < until) (sym (calls-now db J r)) is.1,
)
state_to_book db J r s (Available since) due is = (
  (quiet_alike db J r s).0 is.0,
  most_same (Stands db J r s) (StandsInBook (opening_of db r) (calls_of db J r) s) (Some since)
      (λ end. stands_to_book db J r s end due) (λ end. stands_from_book db J r s end due) is.1,
)
state_to_book db J r s Usable due is = ((quiet_alike db J r s).0 is.0, λ end stands. is.1 end (stands_from_book db J r s end due stands))

state_from_book : (db : List Domain) (J : Journal) (r s : ℕ) (d : Dfs) → EachMayFollow db J → IsStateInBook (opening_of db r) (calls_of db J r) s d → IsState db J r s d
state_from_book db J r s (Unavailable until) due is = (
  most_same (IsBarredInBook (calls_of db J r) s) (IsBarred J r s) (Some until) (barred_from_book db J r s) (barred_to_book db J r s) is.0,
  subst (λ n. n < until) (calls-now db J r) is.1,
)
state_from_book db J r s (Available since) due is = (
  (quiet_alike db J r s).1 is.0,
  most_same (StandsInBook (opening_of db r) (calls_of db J r) s) (Stands db J r s) (Some since)
      (λ end. stands_from_book db J r s end due) (λ end. stands_to_book db J r s end due) is.1,
)
state_from_book db J r s Usable due is = ((quiet_alike db J r s).1 is.0, λ end stands. is.1 end (stands_to_book db J r s end due stands))

pub state_alike : (db : List Domain) (J : Journal) (r s : ℕ) (d : Dfs) → EachMayFollow db J → IsState db J r s d ↔ IsStateInBook (opening_of db r) (calls_of db J r) s d
state_alike db J r s d due = (state_to_book db J r s d due, state_from_book db J r s d due)
