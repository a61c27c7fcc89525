-- A new radio is kept.
use Rattle.std.proofs.Common.{◌≡◌, ℕ, Bool, List, [], ◌∷◌, ◌++◌, map, Some, None, unwrap_or, if◌then◌else◌, refl, sym, subst, ap, ◌∙◌}
use Rattle.std.proofs.lemmas.Bool.{eq-eqb}
use Rattle.std.specs.Option.{option_map, option_to_list}
use Rattle.rule_tables.specs.Regions.{is_same_region}
use Rattle.rule_tables.specs.declared.code.Region.TheVariants.{Etsi}
use Rattle.rule_tables.specs.declared.domain.Domain.{Domain}
use Rattle.rule_intersect.specs.Tables.{IsTableOf}
use Rattle.chan_flags.specs.Profiles.{Abilities, IsProfile}
use Rattle.chan_flags.specs.Records.{AreRecords}
use Rattle.dfs_states.specs.Calls.{Advance, Call}
use Rattle.dfs_states.specs.Meaning.{AreBlank, IsBlank}
use Rattle.dfs_states.specs.StandsFor.{BookStandsFor}
use Rattle.dfs_states.proofs.Blank.{blank_alike}
use Rattle.rule_tables.specs.World.{custom_domain}
use Rattle.reg_journal.specs.Applicable.{applies, custom_domains, driver_code_of, hints_of, is_self_managed, region_of}
use Rattle.reg_journal.specs.Due.{EachMayFollow}
use Rattle.reg_journal.specs.Facts.{Journal, radio_added}
use Rattle.reg_journal.specs.Present.{no_abilities, now_of, profile_of}
use Rattle.reg_books.specs.Calls.{call_of, calls_of, opening_of}
use Rattle.core_parts.specs.Kept.{KeepsRadio}
use Rattle.reg_books.specs.Lists.{applies_by, region_by}
use Rattle.core_parts.specs.declared.radio.Radio.{Radio}
use Rattle.reg_books.proofs.LastingChecks.{lasts_told}
use Rattle.reg_books.proofs.Moments.{now_of-calls}
use Rattle.reg_books.proofs.Newcomers.{AreBlank-pushed, AreDue-pushed, blank_calls, custom_rules_of-unused, due_calls, quiet_call}
use Rattle.reg_books.proofs.ListsAlike.{applies_by-same}

profile_of-added : (J : Journal) (r : ℕ) (profile : Abilities) → profile_of (radio_added r profile ∷ J) r ≡ Some profile
profile_of-added J r profile = ap (λ b. if b then Some profile else profile_of J r) (eq-eqb r r refl)

blank_moment : (moment : ℕ) → AreBlank (Advance moment ∷ [])
blank_moment moment call has = in_one has.newer has.at
  where
    in_one : (newer : List Call) → Advance moment ∷ [] ≡ newer ++ call ∷ has.older → IsBlank call
    in_one [] at = let same : Advance moment ≡ call = cc in subst IsBlank same tt
    in_one (n ∷ []) at = cc
    in_one (n ∷ m ∷ newer) at = cc

pub added : (db : List Domain) (J : Journal) (r : ℕ) (profile : Abilities) (radio : Radio) → EachMayFollow db (radio_added r profile ∷ J) → driver_code_of J r ≡ None
    → radio.chans.profile ≡ profile → radio.custom ≡ None → radio.driver ≡ None
    → (lasts : Bool) → lasts ≡ is_same_region (region_by db (hints_of J) profile.self_managed None) Etsi
    → IsTableOf (applies_by db (hints_of J) profile.self_managed [] None) radio.table
    → ((ds : List Domain) → IsTableOf ds radio.table → AreRecords ds radio.chans.chans)
    → BookStandsFor radio.book (map (λ c. c.khz) radio.chans.chans) lasts (Advance (now_of J) ∷ [])
    → KeepsRadio db (radio_added r profile ∷ J) r radio
added db J r profile radio due no_driver is_profile no_custom no_driver' lasts lasting is_table records book =
    let unused = due.0.1 in
    let no_rules = custom_rules_of-unused db J r due.1 unused in
    let custom : custom_domains J r ≡ [] = ap (λ o. option_to_list (option_map custom_domain o)) no_rules in
    let self_managed : is_self_managed (radio_added r profile ∷ J) r ≡ profile.self_managed =
    ap (λ o. (unwrap_or o no_abilities).self_managed) (profile_of-added J r profile) in
    let same : applies db (radio_added r profile ∷ J) r ≡ applies_by db (hints_of J) profile.self_managed [] None =
    applies_by-same db (hints_of J) _ _ _ _ _ _ self_managed custom no_driver in
    let region : region_of db (radio_added r profile ∷ J) r ≡ region_by db (hints_of J) profile.self_managed None =
    ap (λ s. region_by db (hints_of J) s (driver_code_of J r)) self_managed ∙ ap (λ d. region_by db (hints_of J) profile.self_managed d) no_driver in
    let table = subst (λ ds. IsTableOf ds radio.table) (sym same) is_table in
    let quiet = quiet_call db (radio_added r profile) J r due.1 unused due.0 in
    record {
      profile = profile_of-added J r profile ∙ ap (λ p. Some p) (sym is_profile);
      is_profile = subst IsProfile (sym is_profile) due.0.2;
      custom = custom ∙ ap option_to_list (sym no_custom);
      driver = no_driver ∙ sym no_driver';
      table = table;
      records = records _ table;
      book = blank_alike radio.book (map (λ c. c.khz) radio.chans.chans) lasts (opening_of db r) (Advance (now_of J) ∷ []) (calls_of db (radio_added r profile ∷ J) r) (blank_moment (now_of J))
          (AreBlank-pushed (calls_of db J r) (call_of db (radio_added r profile) J r) quiet (blank_calls db J r due.1 unused))
          (AreDue-pushed (calls_of db J r) (call_of db (radio_added r profile) J r) quiet (due_calls db J r due.1 unused))
          (sym (now_of-calls db (radio_added r profile ∷ J) r)) (lasting ∙ ap (λ x. is_same_region x Etsi) (sym region) ∙ sym (lasts_told db (radio_added r profile ∷ J) r)) book;
    }
