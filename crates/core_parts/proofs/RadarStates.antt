-- What the state of a subchannel says of the demands of radar.
use Rattle.std.proofs.Common.{◌≡◌, ℕ, Bool, true, false, not, List, [], ◌∷◌, map, Contains, MatchBool, arith, refl, inl, inr, ne_eqb}
use Rattle.std.proofs.lemmas.Bool.{cases_eq}
use Rattle.freq_range.proofs.Members.{Contains-later}
use Rattle.rule_tables.specs.declared.domain.Domain.{Domain}
use Rattle.chan_def.specs.declared.definition.ChanDef.{ChanDef}
use Rattle.chan_flags.specs.ByRecords.{IsBoundBy}
use Rattle.chan_flags.specs.declared.record.Chan.{Chan}
use Rattle.dfs_states.specs.Meaning.{IsBookAnswer}
use Rattle.dfs_states.specs.declared.dfs.Dfs.{Dfs}
use Rattle.dfs_states.specs.declared.dfs.Dfs.TheVariants.{Usable, Unavailable, Available}
use Rattle.reg_journal.specs.Facts.{Journal}
use Rattle.reg_journal.specs.Granted.{IsClear}
use Rattle.reg_journal.specs.Permits.{IsBoundOn}
use Rattle.reg_journal.specs.Radar.{IsQuiet, IsState}
use Rattle.reg_books.specs.Calls.{calls_of, opening_of}
use Rattle.core_parts.specs.Demands.{FailsDemand, HasRules, MeetsDemand}
use Rattle.core_parts.specs.declared.radar.Demand.{Demand}
use Rattle.core_parts.specs.declared.radio.Radio.{Radio}
use Rattle.reg_books.proofs.States.{state_alike}

-- ---- demands

pub not_quiet : (db : List Domain) (J : Journal) (r s until : ℕ) → IsState db J r s (Unavailable until) → IsQuiet J r s → ⊥
not_quiet db J r s until is quiet =
    let over = quiet until is.0.holds in
    let runs = is.1 in
    omega (arith, over, runs)

pub quiet_unless : (db : List Domain) (J : Journal) (r s : ℕ) (state : Dfs) → IsState db J r s state → ((until : ℕ) → state ≡ Unavailable until → ⊥) → IsQuiet J r s
quiet_unless db J r s (Unavailable until) is other = absurd (other until refl)
quiet_unless db J r s (Available since) is other = is.0
quiet_unless db J r s Usable is other = is.0

pub is_clear : (db : List Domain) (J : Journal) (r s since : ℕ) → IsState db J r s (Available since) → IsClear db J r s
is_clear db J r s since is = record { quiet = is.0; end = since; stands = is.1.holds }

pub not_clear : (db : List Domain) (J : Journal) (r s : ℕ) (state : Dfs) → IsState db J r s state → ((since : ℕ) → state ≡ Available since → ⊥) → IsClear db J r s → ⊥
not_clear db J r s (Unavailable until) is other clear = not_quiet db J r s until is clear.quiet
not_clear db J r s (Available since) is other clear = other since refl
not_clear db J r s Usable is other clear = is.1 clear.end clear.stands

-- ---- the radio's book

-- a channel that has to be checked is one of the radio's
centre_listed : (chans : List Chan) (s : ℕ) → IsBoundBy chans s → Contains (map (λ (c : Chan). c.khz) chans) s
centre_listed [] s bound = absurd bound
centre_listed (c ∷ chans) s bound = elim (cases_eq c.khz s) [
  | inl same ↦ (0, omega arith, same)
  | inr other ↦ Contains-later c.khz (map (λ (c : Chan). c.khz) chans) s (centre_listed chans s (rw (ne_eqb c.khz s other) at bound))
]

-- so the book tells its state
pub state_told : (db : List Domain) (J : Journal) (r : ℕ) (radio : Radio) (c : ChanDef) (s : ℕ) (state : Dfs) → HasRules db J r radio c → IsBoundBy radio.chans.chans s
    → IsBookAnswer (map (λ (c : Chan). c.khz) radio.chans.chans) (opening_of db r) (calls_of db J r) s state → IsState db J r s state
state_told db J r radio c s state rules bound answer = (state_alike db J r s state rules.due).1 (answer.of_channel (centre_listed radio.chans.chans s bound))

-- it has to be checked, and so fails where it doesn't meet the demand
pub told_bound : (db : List Domain) (J : Journal) (r : ℕ) (demand : Demand) (s : ℕ) (met : Bool) → IsBoundOn db J r s → MatchBool met (MeetsDemand db J r demand s) (MeetsDemand db J r demand s → ⊥)
    → MatchBool (not met) (FailsDemand db J r demand s) (IsBoundOn db J r s → MeetsDemand db J r demand s)
told_bound db J r demand s true bound is = λ _. is
told_bound db J r demand s false bound isn't = (bound, isn't)
