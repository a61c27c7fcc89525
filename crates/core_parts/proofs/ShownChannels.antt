-- The channels of a radio as they are shown, by what is kept of it.
use Rattle.std.proofs.Common.{◌≡◌, ◌+◌, ℕ, List, [], ◌∷◌, ◌++◌, map, take, slice_get, Contains, Option, Some, None, arith, refl, sym, subst, ap, ◌∙◌}
use Rattle.std.specs.List.{AllZip}
use Rattle.std.specs.Option.{option_map}
use Rattle.std.proofs.lemmas.List.{get_or-map, length-map}
use Rattle.std.proofs.lemmas.List.Elements.{All-contains}
use Rattle.std.proofs.lemmas.Option.{get_or_from_slice_get, slice_get_within}
use Rattle.rule_tables.specs.declared.domain.Domain.{Domain}
use Rattle.chan_flags.specs.Lists.{AreChannels}
use Rattle.chan_flags.specs.Profiles.{Abilities}
use Rattle.chan_flags.specs.Records.{IsRecord}
use Rattle.chan_flags.specs.declared.record.Chan.{Chan}
use Rattle.chan_flags.specs.declared.record.Fit.{Fit}
use Rattle.dfs_states.specs.Meaning.{IsBookAnswer}
use Rattle.dfs_states.specs.declared.dfs.Dfs.{Dfs}
use Rattle.reg_journal.specs.Applicable.{applies}
use Rattle.reg_journal.specs.Due.{EachMayFollow}
use Rattle.reg_journal.specs.Dumps.{AreShownChannels, IsShownChannel, fit_shown}
use Rattle.reg_journal.specs.Facts.{Journal}
use Rattle.reg_books.specs.Calls.{calls_of, opening_of}
use Rattle.core_parts.specs.Kept.{KeepsRadio}
use Rattle.core_parts.specs.declared.radio.Radio.{Radio}
use Rattle.core_parts.proofs.RadarRefusals.{abilities_kept}
use Rattle.reg_books.proofs.States.{state_alike}
use Rattle.core_parts.proofs.Taken.{map-take_got, take_to_end}
use Rattle.core_parts.proofs.Zipped.{zip_append}

listed_centre : (chans : List Chan) (chan : Chan) → Contains chans chan → Contains (map (λ (c : Chan). c.khz) chans) chan.khz
listed_centre chans chan (k, within, is) =
    let len = length-map chans (λ (c : Chan). c.khz) in
    (k, omega (arith, len, within), get_or-map (λ (c : Chan). c.khz) chans k chan chan.khz within ∙ ap (λ (c : Chan). c.khz) is)

-- one channel
pub channel_shown : (db : List Domain) (J : Journal) (r : ℕ) (radio : Radio) (chan : Chan) (power : ℕ) (fit : Option Fit) (dfs : Dfs) → EachMayFollow db J → KeepsRadio db J r radio
    → Contains radio.chans.chans chan → power ≡ radio.chans.profile.power_mbm → fit ≡ option_map (fit_shown power) chan.fit
    → IsBookAnswer (map (λ (c : Chan). c.khz) radio.chans.chans) (opening_of db r) (calls_of db J r) chan.khz dfs
    → IsShownChannel db J r chan.khz (record { khz = chan.khz; fit = fit }, dfs)
channel_shown db J r radio chan power fit dfs due keeps has is_power is_fit answer = record {
  centre = refl;
  fit = (
    chan.fit,
    All-contains (λ (c : Chan). IsRecord (applies db J r) c.khz c.fit) radio.chans.chans chan (keeps.records).each has,
    is_fit ∙ ap (λ p. option_map (fit_shown p) chan.fit) (is_power ∙ ap (λ (p : Abilities). p.power_mbm) (abilities_kept db J r radio keeps)),
  );
  state = (state_alike db J r chan.khz dfs due).1 (answer.of_channel (listed_centre radio.chans.chans chan has));
}

-- the channel at a place
pub channel_there : (chans : List Chan) (k : ℕ) (chan : Chan) → slice_get chans k ≡ Some chan → Contains chans chan
channel_there chans k chan here = (k, slice_get_within chans k chan here, get_or_from_slice_get chans k chan chan here)

-- one channel more
pub channels_more : (db : List Domain) (J : Journal) (r : ℕ) (chans : List Chan) (k : ℕ) (chan : Chan) (list : List (Chan × Dfs)) (shown : Chan × Dfs) → slice_get chans k ≡ Some chan
    → IsShownChannel db J r chan.khz shown → AllZip (IsShownChannel db J r) (map (λ (c : Chan). c.khz) (take k chans)) list
    → AllZip (IsShownChannel db J r) (map (λ (c : Chan). c.khz) (take (k + 1) chans)) (list ++ shown ∷ [])
channels_more db J r chans k chan list shown here is so_far =
    subst (λ xs. AllZip (IsShownChannel db J r) xs (list ++ shown ∷ [])) (sym (map-take_got (λ (c : Chan). c.khz) chans k chan here))
    (zip_append (IsShownChannel db J r) (map (λ (c : Chan). c.khz) (take k chans)) (chan.khz ∷ []) list (shown ∷ []) so_far (is, tt))

-- all of them
pub channels_all : (db : List Domain) (J : Journal) (r : ℕ) (radio : Radio) (k : ℕ) (list : List (Chan × Dfs)) → KeepsRadio db J r radio
    → AreChannels radio.chans.profile.bands (map (λ (c : Chan). c.khz) radio.chans.chans) → slice_get radio.chans.chans k ≡ None
    → AllZip (IsShownChannel db J r) (map (λ (c : Chan). c.khz) (take k radio.chans.chans)) list → AreShownChannels db J r list
channels_all db J r radio k list keeps are past so_far = (
  map (λ (c : Chan). c.khz) radio.chans.chans,
  subst (λ (p : Abilities). AreChannels p.bands (map (λ (c : Chan). c.khz) radio.chans.chans)) (abilities_kept db J r radio keeps) are,
  subst (λ xs. AllZip (IsShownChannel db J r) (map (λ (c : Chan). c.khz) xs) list) (take_to_end radio.chans.chans k past) so_far,
)
