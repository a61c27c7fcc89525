-- A hint that changes the regions of radios.
use Rattle.std.proofs.Common.{◌≡◌, ℕ, ◌<◌, ◌+◌, Bool, true, false, not, List, [], ◌∷◌, length, get_or, Option, Some, None, IsSome, MatchBool, is_some, arith, refl, sym, ap, subst, ◌∙◌, inl, inr}
use Rattle.std.proofs.Math.ListN.{set}
use Rattle.std.proofs.lemmas.Bool.{cases_eq, false≢true}
use Rattle.std.proofs.lemmas.List.{get_or-set_other, get_or-set_same}
use Rattle.rule_tables.specs.Regions.{is_same_region}
use Rattle.rule_tables.specs.declared.code.Region.{Region}
use Rattle.rule_tables.specs.declared.domain.Domain.{Domain}
use Rattle.reg_hints.specs.Table.{Hinted, State, Treated}
use Rattle.reg_hints.specs.declared.hint.Hint.{Hint}
use Rattle.reg_journal.specs.Applicable.{hints_of, region_of}
use Rattle.reg_journal.specs.Due.{EachMayFollow}
use Rattle.reg_journal.specs.Facts.{Fact, Journal, check_begun, hinted}
use Rattle.reg_journal.specs.Present.{Check, Iface, Operation, check_of, operation_of, profile_of}
use Rattle.reg_journal.specs.Sweep.{RegionChangedInCheck}
use Rattle.reg_journal.proofs.Judged.{settled_check}
use Rattle.reg_journal.proofs.LastCheck.{check_parts, last_check}
use Rattle.reg_journal.proofs.Lasting.{region_changed_before}
use Rattle.reg_journal.proofs.Operations.{BeginsCheck, check_ran, no_check_beside}
use Rattle.reg_journal.proofs.Splits.{check_cases}
use Rattle.core_parts.specs.Kept.{KeepsPlace}
use Rattle.reg_core.specs.Kept.{StandsFor}
use Rattle.core_parts.specs.Hinting.{place_moved}
use Rattle.reg_books.specs.Lists.{region_by}
use Rattle.reg_core.specs.inner.Sweeping.{AreMoved}
use Rattle.reg_core.specs.declared.core_state.Core.{Core}
use Rattle.core_parts.specs.declared.radio.RadioPlace.{RadioPlace}
use Rattle.core_parts.specs.declared.radio.RadioPlace.TheVariants.{Free, Removed, There}
use Rattle.reg_books.proofs.CallOf.{same_region_self, same_region_true}
use Rattle.core_parts.proofs.KeptOn.{region-after, region-before}
use Rattle.reg_books.proofs.Newcomers.{profile_of-unused}
use Rattle.reg_journal.proofs.Radios.{radio_there}
use Rattle.reg_journal.proofs.Operating.{there_small}

-- ---- one radio

-- what is read off a place
pub moved_of_place : (db : List Domain) (J : Journal) (r : ℕ) (hint : Hint) (before after : State) (place : RadioPlace) → KeepsPlace db J r place → IsSome (profile_of J r)
    → hints_of J ≡ before → hints_of (hinted (Treated hint) ∷ J) ≡ after
    → place_moved db before after hint r place ≡ not (is_same_region (region_of db (hinted (Treated hint) ∷ J) r) (region_of db J r))
moved_of_place db J r hint before after Free kept there was is = absurd (false≢true (sym (ap is_some (profile_of-unused J r kept)) ∙ there))
moved_of_place db J r hint before after Removed kept there was is = absurd (false≢true (sym (ap is_some kept.1) ∙ there))
moved_of_place db J r hint before after (There radio) kept there was is =
    ap (λ x. not (is_same_region x (region_by db before radio.chans.profile.self_managed radio.driver))) (sym (region-after db J r radio hint after kept.1 is))
    ∙ ap (λ x. not (is_same_region (region_of db (hinted (Treated hint) ∷ J) r) x)) (sym (region-before db J r radio before kept.1 was))

-- ---- a check whose region changes at the newest fact

pub moved_in_check : (db : List Domain) (J : Journal) (f : Fact) (x : Iface) (k : Check) → check_of J x.index ≡ Some k → (BeginsCheck f x.index → ⊥)
    → (region_of db (f ∷ J) x.radio ≡ region_of db J x.radio → ⊥) → RegionChangedInCheck db (f ∷ J) x
moved_in_check db J f x k here begins differs =
    let last = last_check J x.index k (check_parts J x.index k here).0 in
    let base : Journal = check_begun x.index k.chan k.length ∷ last.older in
    record {
      newer = f ∷ last.newer;
      chan = k.chan;
      length = k.length;
      older = last.older;
      begun = ap (λ K. f ∷ K) last.begun;
      last = λ has. elim (check_cases f last.newer x.index has) [ inl newest ↦ begins newest | inr older ↦ last.last older ];
      changed = λ keeps. subst (λ K. region_of db (f ∷ K) x.radio ≡ region_of db K x.radio → ⊥) last.begun differs (keeps [] f last.newer refl);
    }

-- ---- all radios

other_regions : (one other : Region) → is_same_region one other ≡ false → one ≡ other → ⊥
other_regions one other differs same = false≢true (sym differs ∙ subst (λ x. is_same_region one x ≡ true) same (same_region_self one))

-- the flags say of each radio that is there whether the hint changes its region
pub hinted_moves : (db : List Domain) (J : Journal) (h : Hinted) (core : Core) (moved : List Bool) → StandsFor db core J → EachMayFollow db (hinted h ∷ J)
    → ((r : ℕ) → r < 8 → IsSome (profile_of J r) → get_or moved r false ≡ not (is_same_region (region_of db (hinted h ∷ J) r) (region_of db J r)))
    → AreMoved db (hinted h ∷ J) moved
hinted_moves db J h core moved s due flags x k there here =
    let profile = radio_there db J x s.keeps.due there in
    let below = there_small db J x.radio s.keeps.due profile in
    let was = check_ran db f J x.index k due (λ begins. let at = begins.2 in cc) here in
    subst (λ b. MatchBool b (RegionChangedInCheck db (f ∷ J) x) (RegionChangedInCheck db (f ∷ J) x → ⊥)) (sym (flags x.radio below profile))
    (by (is_same_region (region_of db (f ∷ J) x.radio) (region_of db J x.radio)) refl was)
  where
    f : Fact
    f = hinted h

    idle : (o : Option Operation) → operation_of J x.index ≡ o → check_of J x.index ≡ Some k → operation_of J x.index ≡ None
    idle None is was = is
    idle (Some o) is was = let beside = no_check_beside db J x.index o s.keeps.due is in absurd (cc (was, beside))

    by : (b : Bool) → is_same_region (region_of db (f ∷ J) x.radio) (region_of db J x.radio) ≡ b → check_of J x.index ≡ Some k
        → MatchBool (not b) (RegionChangedInCheck db (f ∷ J) x) (RegionChangedInCheck db (f ∷ J) x → ⊥)
    by true same was = λ changed.
        (settled_check db J x k (idle (operation_of J x.index) refl was) was (s.settled x there)).same_region
        (region_changed_before db f J x (same_region_true (region_of db (f ∷ J) x.radio) (region_of db J x.radio) same) changed)
    by false differs was = moved_in_check db J f x k was (λ begins. let at = begins.2 in cc) (other_regions (region_of db (f ∷ J) x.radio) (region_of db J x.radio) differs)

pub hint_moves : (db : List Domain) (J : Journal) (hint : Hint) (core : Core) (after : State) (moved : List Bool) → StandsFor db core J → EachMayFollow db (hinted (Treated hint) ∷ J)
    → hints_of (hinted (Treated hint) ∷ J) ≡ after
    → ((r : ℕ) → r < 8 → get_or moved r false ≡ place_moved core.domains core.hints after hint r (get_or core.radios r Free)) → AreMoved db (hinted (Treated hint) ∷ J) moved
hint_moves db J hint core after moved s due led flags =
    hinted_moves db J (Treated hint) core moved s due (λ r below there.
    flags r below ∙ ap (λ ds. place_moved ds core.hints after hint r (get_or core.radios r Free)) s.keeps.domains
    ∙ moved_of_place db J r hint core.hints after (get_or core.radios r Free) (s.keeps.radios r below) there (sym s.keeps.hints) led)
