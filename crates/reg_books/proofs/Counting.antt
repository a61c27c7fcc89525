-- The checks that count for a subchannel are those of the radio's book.
use Rattle.std.proofs.Common.{◌≡◌, ℕ, ◌+◌, Bool, List, [], ◌∷◌, ◌++◌, Some, sym, ap, subst, ◌∙◌, inl, inr, append_assoc, ne_eqb, false}
use Rattle.std.proofs.lemmas.Bool.{cases_eq, cases_Bool, false≢true}
use Rattle.rule_tables.specs.declared.domain.Domain.{Domain}
use Rattle.chan_def.specs.declared.definition.ChanDef.{ChanDef}
use Rattle.dfs_states.specs.Calls.{Radar, Begin, DropCheck, RegionChanged, moment_of as now_of_calls, HasCall, HasBegin, HasRadarCall as BookHasRadar, IsUndropped as IsKeptInBook}
use Rattle.dfs_states.specs.Meaning.{Spares, CheckCounts as CountsInBook}
use Rattle.reg_journal.specs.Facts.{Journal, radar_met, check_begun, check_dropped}
use Rattle.rule_tables.specs.Regions.{is_same_region}
use Rattle.reg_journal.specs.Applicable.{region_of}
use Rattle.reg_journal.specs.Present.{radio_of, check_of}
use Rattle.reg_journal.specs.Due.{EachMayFollow}
use Rattle.reg_journal.specs.Radar.{HasRadar, HasCheck, IsKept, KeepsRegion, Counts}
use Rattle.reg_books.specs.Calls.{checks_last_on, call_of, calls_of}
use Rattle.reg_books.specs.Slots.{slot_of}
use Rattle.reg_books.proofs.Apart.{slots_apart}
use Rattle.reg_books.proofs.Begins.{due_at, home_begun, radio_begun, begin_of_check, began_again, running_home}
use Rattle.reg_books.proofs.CallOf.{same_region_self, same_region_true, comes_from, call-radar, call-begin, call-drop, call-region}
use Rattle.reg_books.proofs.Drops.{dropped_in, home_dropped}
use Rattle.reg_journal.proofs.Homes.{radio_of_home}
use Rattle.reg_journal.proofs.LastCheck.{check_before}
use Rattle.reg_journal.proofs.Later.{due_older, radio_later}
use Rattle.reg_books.proofs.Later.{slot_later}
use Rattle.reg_books.proofs.Over.{calls_over, over_at, calls_at, from_over, from_calls}
use Rattle.reg_books.proofs.Running.{calls-now}

-- ---- radar

-- the radar that came since a moment, both ways
radar_to_book : (db : List Domain) (facts base : Journal) (r s : ℕ) → HasRadar facts r s → BookHasRadar (calls_over db facts base r) s
radar_to_book db facts base r s has = record {
  chan = has.chan;
  covered = has.covered;
  met = record {
    newer = calls_over db has.newer (radar_met r has.chan ∷ (has.older ++ base)) r;
    older = calls_over db has.older base r;
    at = over_at db facts has.newer has.older base (radar_met r has.chan) r (Radar has.chan) has.met (call-radar db (has.older ++ base) r has.chan);
  };
}

radar_from_book : (db : List Domain) (facts base : Journal) (r s : ℕ) → BookHasRadar (calls_over db facts base r) s → HasRadar facts r s
radar_from_book db facts base r s has =
    let over = from_over db facts base r has.met.newer (Radar has.chan) has.met.older has.met.at in
    record {
      newer = over.newer;
      chan = has.chan;
      older = over.between;
      met = over.at ∙ ap (λ f. over.newer ++ f ∷ over.between) (comes_from db over.fact (over.between ++ base) r (Radar has.chan) over.is);
      covered = has.covered;
    }

-- ---- regions

-- that the region stayed since a moment, both ways
region_to_book : (db : List Domain) (facts base : Journal) (r : ℕ) → KeepsRegion db facts base r → (lasts : Bool) → HasCall (calls_over db facts base r) (RegionChanged lasts) → ⊥
region_to_book db facts base r keeps lasts has =
    let over = from_over db facts base r has.newer (RegionChanged lasts) has.older has.at in
    let differs : is_same_region (region_of db (over.fact ∷ (over.between ++ base)) r) (region_of db (over.between ++ base) r) ≡ false =
    comes_from db over.fact (over.between ++ base) r (RegionChanged lasts) over.is in
    let same : region_of db (over.fact ∷ (over.between ++ base)) r ≡ region_of db (over.between ++ base) r = keeps over.newer over.fact over.between over.at in
    false≢true (sym (rw same at differs) ∙ same_region_self (region_of db (over.between ++ base) r))

region_from_book : (db : List Domain) (facts base : Journal) (r : ℕ) → ((lasts : Bool) → HasCall (calls_over db facts base r) (RegionChanged lasts) → ⊥) → KeepsRegion db facts base r
region_from_book db facts base r keeps newer f between at =
    elim (cases_Bool (is_same_region (region_of db (f ∷ (between ++ base)) r) (region_of db (between ++ base) r))) [
      | inl same ↦ same_region_true (region_of db (f ∷ (between ++ base)) r) (region_of db (between ++ base) r) same
      | inr differs ↦ absurd (keeps (checks_last_on db (f ∷ (between ++ base)) r) (record {
        newer = calls_over db newer (f ∷ (between ++ base)) r;
        older = calls_over db between base r;
        at = over_at db facts newer between base f r (RegionChanged (checks_last_on db (f ∷ (between ++ base)) r)) at (call-region db f (between ++ base) r differs);
      }))
    ]

-- ---- drops

-- a drop in the slot of a check comes after the next beginning there, where one on its interface does
kept_to_book : (db : List Domain) (facts older : Journal) (i r : ℕ) (chan : ChanDef) (length : ℕ) → EachMayFollow db (facts ++ check_begun i chan length ∷ older)
    → radio_of older i ≡ Some r → IsKept facts i → IsKeptInBook (calls_over db facts (check_begun i chan length ∷ older) r) (slot_of older i)
kept_to_book db facts older i r chan length due radio kept newer between at =
    let base : Journal = check_begun i chan length ∷ older in
    let dropped = dropped_in db facts base r (slot_of older i) newer between at in
    let before : Journal = dropped.between ++ base in
    let due' : EachMayFollow db (check_dropped dropped.iface ∷ before) = due_at db facts dropped.newer dropped.between base (check_dropped dropped.iface) due dropped.at in
    let due_base : EachMayFollow db base = due_older db dropped.between base due'.1 in
    let was = home_dropped db before dropped.iface r due' dropped.radio in
    let again : HasCheck dropped.between dropped.iface → HasBegin between (slot_of older i) =
    λ has. subst (λ xs. HasBegin xs (slot_of older i)) (sym dropped.before)
    (subst (λ n. HasBegin (calls_over db dropped.between base r) n) dropped.in_slot
    (begin_of_check db dropped.between base dropped.iface r due'.1 dropped.radio has)) in
    elim (cases_eq dropped.iface i) [
      | inl same ↦
          let at' : facts ≡ dropped.newer ++ check_dropped i ∷ dropped.between =
          dropped.at ∙ ap (λ n. dropped.newer ++ check_dropped n ∷ dropped.between) same in
          again (subst (λ n. HasCheck dropped.between n) (sym same) (kept dropped.newer dropped.between at'))
      | inr other ↦ elim (check_before db dropped.between base dropped.iface was.0 due'.1 was.1) [
        | inl has ↦ again has
        | inr earlier ↦
            let runs : check_of older dropped.iface ≡ Some was.0 = rw (ne_eqb dropped.iface i other) at earlier in
            let home = running_home db (dropped.between ++ check_begun i chan length ∷ []) older dropped.iface r was.0
            (subst (EachMayFollow db) (sym (append_assoc dropped.between (check_begun i chan length ∷ []) older)) due'.1)
            (subst (λ xs. radio_of xs dropped.iface ≡ Some r) (sym (append_assoc dropped.between (check_begun i chan length ∷ []) older)) dropped.radio) runs in
            let home' = home_begun db older i r chan length due_base radio in
            let radio' = radio_of_home db older dropped.iface r due_base.1 home in
            let slot : slot_of before dropped.iface ≡ slot_of older dropped.iface = slot_later db dropped.between base dropped.iface r due'.1 radio' in
            absurd (other (slots_apart db older dropped.iface i r due_base.1 home home' (sym slot ∙ dropped.in_slot)))
      ]
    ]

-- a check that is kept in its slot is kept on its interface
kept_from_book : (db : List Domain) (facts older : Journal) (i r : ℕ) (chan : ChanDef) (length : ℕ) → EachMayFollow db (facts ++ check_begun i chan length ∷ older)
    → radio_of older i ≡ Some r → IsKeptInBook (calls_over db facts (check_begun i chan length ∷ older) r) (slot_of older i) → IsKept facts i
kept_from_book db facts older i r chan length due radio kept newer between at =
    let base : Journal = check_begun i chan length ∷ older in
    let before : Journal = between ++ base in
    let due' : EachMayFollow db (check_dropped i ∷ before) = due_at db facts newer between base (check_dropped i) due at in
    let radio' : radio_of before i ≡ Some r = radio_later db between base i r due'.1 radio in
    let slot : slot_of before i ≡ slot_of older i = slot_later db between base i r due'.1 radio in
    let was = home_dropped db before i r due' radio' in
    let drop : call_of db (check_dropped i) before r ≡ Some (DropCheck (slot_of older i)) = call-drop db before r i radio' ∙ ap (λ n. Some (DropCheck n)) slot in
    began_again db between base i r was.0 due'.1 radio was.1
    (kept (calls_over db newer (check_dropped i ∷ before) r) (calls_over db between base r)
    (over_at db facts newer between base (check_dropped i) r (DropCheck (slot_of older i)) at drop))

-- ---- checks that count

-- both ways
pub counts_to_book : (db : List Domain) (J : Journal) (r s end : ℕ) → EachMayFollow db J → Counts db J r s end
    → (slot : ℕ) × CountsInBook (calls_of db J r) s slot end
counts_to_book db J r s end due counts =
    let i : ℕ = counts.iface in
    let older : Journal = counts.older in
    let base : Journal = check_begun i counts.chan counts.length ∷ older in
    let due' : EachMayFollow db (counts.newer ++ base) = subst (EachMayFollow db) counts.begun due in
    let on_radio : radio_of (counts.newer ++ base) i ≡ Some r = subst (λ xs. radio_of xs i ≡ Some r) counts.begun counts.on_radio in
    let radio = radio_begun db counts.newer older i r counts.chan counts.length due' on_radio in (
      slot_of older i,
      record {
        newer = calls_over db counts.newer base r;
        chan = counts.chan;
        length = counts.length;
        older = calls_of db older r;
        begun = calls_at db J counts.newer older (check_begun i counts.chan counts.length) r (Begin (slot_of older i) counts.chan counts.length) counts.begun
            (call-begin db older r i counts.chan counts.length radio);
        covered = counts.covered;
        ends = counts.ends ∙ ap (λ n. n + counts.length) (sym (calls-now db older r));
        spared = record {
          kept = kept_to_book db counts.newer older i r counts.chan counts.length due' radio counts.kept;
          no_radar = λ has. counts.no_radar (radar_from_book db counts.newer base r s has);
          same_region = region_to_book db counts.newer base r counts.same_region;
        };
      },
    )

pub counts_from_book : (db : List Domain) (J : Journal) (r s slot end : ℕ) → EachMayFollow db J → CountsInBook (calls_of db J r) s slot end → Counts db J r s end
counts_from_book db J r s slot end due counts =
    let of = from_calls db J r counts.newer (Begin slot counts.chan counts.length) counts.older counts.begun in
    let from = comes_from db of.fact of.older r (Begin slot counts.chan counts.length) of.is in
    let i : ℕ = from.0 in
    let base : Journal = check_begun i counts.chan counts.length ∷ of.older in
    let begun : J ≡ of.newer ++ base = of.at ∙ ap (λ f. of.newer ++ f ∷ of.older) from.1 in
    let after : counts.newer ≡ calls_over db of.newer base r = of.after ∙ ap (λ f. calls_over db of.newer (f ∷ of.older) r) from.1 in
    let due' : EachMayFollow db (of.newer ++ base) = subst (EachMayFollow db) begun due in
    let spared : Spares (calls_over db of.newer base r) s (slot_of of.older i) =
    subst (λ xs. Spares xs s (slot_of of.older i)) after (subst (λ n. Spares counts.newer s n) (sym from.3) counts.spared) in
    record {
      newer = of.newer;
      iface = i;
      chan = counts.chan;
      length = counts.length;
      older = of.older;
      begun = begun;
      on_radio = subst (λ xs. radio_of xs i ≡ Some r) (sym begun) (radio_later db of.newer base i r due' from.2);
      covered = counts.covered;
      ends = counts.ends ∙ ap (λ n. n + counts.length) (ap now_of_calls of.earlier ∙ calls-now db of.older r);
      kept = kept_from_book db of.newer of.older i r counts.chan counts.length due' from.2 spared.kept;
      no_radar = λ has. spared.no_radar (radar_to_book db of.newer base r s has);
      same_region = region_from_book db of.newer base r spared.same_region;
    }
