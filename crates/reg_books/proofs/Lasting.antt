-- What may go on may go on after a fact that leaves what decides over it.
use Rattle.std.proofs.Common.{◌≡◌, ℕ, ◌+◌, ◌<◌, ◌≤◌, ◌==◌, false, List, [], ◌∷◌, ◌++◌, Some, IsSome, IsTrue, unwrap_or, arith, refl, sym, subst, ap, ◌∙◌, ◌⊎◌, inl, inr, eq-eqb}
use Rattle.std.proofs.lemmas.Bool.{false≢true}
use Rattle.std.proofs.lemmas.Option.{same_Some}
use Rattle.rule_tables.specs.declared.domain.Domain.{Domain}
use Rattle.chan_def.specs.Covered.{IsCovered}
use Rattle.chan_def.specs.Kinds.{initiates}
use Rattle.chan_def.specs.declared.definition.ChanDef.{ChanDef}
use Rattle.dfs_states.specs.Greatest.{IsGreatest}
use Rattle.chan_flags.specs.Profiles.{Abilities}
use Rattle.chan_flags.specs.Verdicts.{asked, IsBound}
use Rattle.reg_journal.specs.Applicable.{applies, region_of}
use Rattle.reg_journal.specs.Due.{EachMayFollow}
use Rattle.reg_journal.specs.Facts.{Fact, Journal, radar_met, check_begun, check_dropped}
use Rattle.reg_journal.specs.Granted.{IsPermitted}
use Rattle.reg_journal.specs.Permits.{asked_by, IsBoundOn}
use Rattle.reg_journal.specs.Present.{Check, Iface, abilities_of, check_of, is_indoor, no_abilities, now_of, profile_of}
use Rattle.reg_journal.specs.Radar.{HasCheck, HasLapsed, HasRadar, IsKept, IsQuiet, IsUse, IsUsed, KeepsRegion, Stands, WasUsedAt}
use Rattle.reg_journal.specs.Settled.{IsCheckPermitted}
use Rattle.reg_journal.specs.Sweep.{RegionChangedInCheck}
use Rattle.reg_journal.proofs.Fitting.{carried_over, fits_over, given_over}
use Rattle.reg_journal.proofs.Lasting.{region_kept_by_none}
use Rattle.reg_journal.proofs.Operations.{some_value}
use Rattle.reg_journal.proofs.LastCheck.{check_before, check_parts}
use Rattle.reg_journal.proofs.Later.{now_later, radio_later}
use Rattle.reg_journal.proofs.Splits.{check_older, not_split, split_cases}
use Rattle.reg_books.specs.Sparing.{SparesRadio}
use Rattle.reg_books.proofs.Spared.{applies-spared, profile_of-spared, region_of-spared}
use Rattle.reg_journal.proofs.Lasting.{LeavesRadio, kept_stays, radar_before, region_stays}

-- as does one that says nothing of the radio
pub leaves-spared : (db : List Domain) (f : Fact) (J : Journal) (r : ℕ) → SparesRadio J r f → is_indoor (f ∷ J) ≡ is_indoor J → LeavesRadio db f J r
leaves-spared db f J r spares indoor = record {
  domains = applies-spared db J r f spares;
  profile = profile_of-spared J r f spares;
  region = region_of-spared db J r f spares;
  indoor = indoor;
  unmet = λ chan met. let other : (r == r) ≡ false = subst (SparesRadio J r) met spares in false≢true (sym other ∙ eq-eqb r r refl);
}

-- ---- checks that don't lapse

-- no time passes with the fact, or the subchannel is in use after it
abbrev pub IsHeld : Fact → Journal → ℕ → ℕ → Type 0
IsHeld f J r s = (now_of (f ∷ J) ≡ now_of J) ⊎ IsUsed (f ∷ J) r s

-- the oldest facts are all of them, or came before the newest
oldest_cases : (f : Fact) (J newer older : Journal) → f ∷ J ≡ newer ++ older → (f ∷ J ≡ older) ⊎ ((rest : Journal) × (J ≡ rest ++ older))
oldest_cases f J [] older at = inl at
oldest_cases f J (x ∷ newer) older at = inr (newer, cc)

used_now : (J : Journal) (r s : ℕ) → IsUsed J r s → WasUsedAt J r s (now_of J)
used_now J r s used = record { newer = []; older = J; split = refl; used = used; at = refl }

used_later : (f : Fact) (J : Journal) (r s moment : ℕ) → WasUsedAt J r s moment → WasUsedAt (f ∷ J) r s moment
used_later f J r s moment was = record { newer = f ∷ was.newer; older = was.older; split = ap (λ xs. f ∷ xs) was.split; used = was.used; at = was.at }

use_later : (f : Fact) (J : Journal) (r s end moment : ℕ) → IsUse J r s end moment → IsUse (f ∷ J) r s end moment
use_later f J r s end moment (inl same) = inl same
use_later f J r s end moment (inr was) = inr (used_later f J r s moment was)

-- a use that is over is one before the newest fact
use_before : (f : Fact) (J : Journal) (r s end moment : ℕ) → moment < now_of (f ∷ J) → IsUse (f ∷ J) r s end moment → IsUse J r s end moment
use_before f J r s end moment over (inl same) = inl same
use_before f J r s end moment over (inr was) = elim (oldest_cases f J was.newer was.older was.split) [
  | inl all ↦
      let at = was.at in
      let now : now_of (f ∷ J) ≡ now_of was.older = ap now_of all in
      absurd (omega (arith, at, now, over))
  | inr before ↦ inr (record { newer = before.0; older = was.older; split = before.1; used = was.used; at = was.at })
]

-- so a check that has lapsed had lapsed before
lapsed_before : (f : Fact) (J : Journal) (r s end : ℕ) → IsHeld f J r s → HasLapsed (f ∷ J) r s end → HasLapsed J r s end
lapsed_before f J r s end held lapsed = elim (oldest_cases f J lapsed.newer lapsed.older lapsed.split) [
  | inr before ↦ record {
    newer = before.0;
    older = lapsed.older;
    split = before.1;
    last = lapsed.last;
    is_last = lapsed.is_last;
    long_ago = lapsed.long_ago;
  }
  | inl all ↦
      let last : IsGreatest (IsUse (f ∷ J) r s end) lapsed.last = subst (λ xs. IsGreatest (IsUse xs r s end) lapsed.last) (sym all) lapsed.is_last in
      let long : lapsed.last + 2000 ≤ now_of (f ∷ J) = subst (λ xs. lapsed.last + 2000 ≤ now_of xs) (sym all) lapsed.long_ago in
      elim held [
        | inl same ↦ record {
          newer = [];
          older = J;
          split = refl;
          last = lapsed.last;
          is_last = record {
            holds = use_before f J r s end lapsed.last (omega (arith, long)) last.holds;
            none_above = λ m earlier. last.none_above m (use_later f J r s end m earlier);
          };
          long_ago = omega (arith, long, same);
        }
        | inr used ↦
            let past = last.none_above (now_of (f ∷ J)) (inr (used_now (f ∷ J) r s used)) in
            absurd (omega (arith, long, past))
      ]
]

-- a check that stands stays
pub stands_stays : (db : List Domain) (f : Fact) (J : Journal) (r s end : ℕ) → EachMayFollow db (f ∷ J) → LeavesRadio db f J r → IsHeld f J r s → Stands db J r s end
    → Stands db (f ∷ J) r s end
stands_stays db f J r s end due leaves held stands =
    let c = stands.counts in
    let over = stands.over in
    let later = now_later db (f ∷ []) J due in
    record {
      counts = record {
        newer = f ∷ c.newer;
        iface = c.iface;
        chan = c.chan;
        length = c.length;
        older = c.older;
        begun = ap (λ xs. f ∷ xs) c.begun;
        on_radio = radio_later db (f ∷ []) J c.iface r due c.on_radio;
        covered = c.covered;
        ends = c.ends;
        kept = kept_stays db f J r s end due stands;
        no_radar = λ has. c.no_radar (radar_before f c.newer r s leaves.unmet has);
        same_region = region_stays db f J c.newer (check_begun c.iface c.chan c.length ∷ c.older) r c.begun leaves.region c.same_region;
      };
      over = omega (arith, over, later);
      lasts = elim stands.lasts [
        | inl etsi ↦ inl (leaves.region ∙ etsi)
        | inr alive ↦ inr (λ lapsed. alive (lapsed_before f J r s end held lapsed))
      ];
    }
