-- Each regular journal is due, and what its interfaces do may go on.
use Rattle.std.proofs.Common.{◌≡◌, ℕ, ◌+◌, ◌<◌, ◌≤◌, ◌⊎◌, Bool, true, false, List, ◌∷◌, length, Contains, Option, Some, None, IsSome, IsSomeAnd, IsTrue, is_some, arith, refl, sym, ap, subst, ◌∙◌, inl, inr, eq-eqb, ne_eqb}
use Rattle.std.proofs.lemmas.Bool.{cases_eq, cases_lt, true≢false}
use Rattle.std.proofs.lemmas.List.Elements.{Contains-push_cases}
use Rattle.std.proofs.lemmas.Option.{same_Some}
use Rattle.rule_tables.specs.Databases.{IsDb}
use Rattle.rule_tables.specs.declared.domain.Domain.{Domain}
use Rattle.chan_def.specs.Covered.{IsValidDef}
use Rattle.chan_def.specs.Kinds.{initiates}
use Rattle.chan_def.specs.declared.definition.ChanDef.{ChanDef}
use Rattle.chan_def.specs.declared.kind.Kind.{Kind}
use Rattle.chan_def.specs.declared.kind.Kind.TheVariants.{Monitor}
use Rattle.chan_def.specs.declared.kind.TheConstants.{MOST_IFACES}
use Rattle.chan_flags.specs.Profiles.{Abilities, IsProfile}
use Rattle.dfs_states.specs.declared.moments.TheConstants.{LAST_MOMENT_MS}
use Rattle.radio_drv.specs.Names.{IsName}
use Rattle.reg_journal.specs.Causes.{IsFree, ◌before◌, Where}
use Rattle.reg_journal.specs.Due.{IsResting, MayFollow}
use Rattle.reg_journal.specs.Facts.{Fact, Journal, after, moment_is, radio_added, made, typed, started, stopped, check_begun}
use Rattle.reg_journal.specs.Granted.{IsGranted, IsPermitted, IsStartable}
use Rattle.reg_journal.specs.Permits.{BarsCheck, IsLengthOf}
use Rattle.reg_journal.specs.Present.{Check, Iface, Operation, check_of, ifaces_of, ifaces_on, indexed, is_used, last_check_of, made_of, most_made, named, new_iface, now_of, operation_of, profile_of, with_kind}
use Rattle.reg_journal.specs.Radar.{HasCheck, KeepsRegion}
use Rattle.reg_journal.specs.Refusals.{IfaceAddCauses, IsInUse, LacksRadio, MomentCauses, RadioAddCauses}
use Rattle.reg_journal.specs.Replies.{facts_of_end}
use Rattle.reg_journal.specs.Settled.{AreSettled, IsCheckPermitted, IsSettled}
use Rattle.reg_journal.specs.Sweep.{RegionChangedInCheck}
use Rattle.reg_journal.specs.declared.refusal.Refusal.TheVariants.{Full, MomentTooLarge, NameTaken}
use Rattle.reg_journal.proofs.Ending.{ends_one, goes_released}
use Rattle.reg_journal.proofs.Fitting.{carried_over, fits_over, permitted_of_granted}
use Rattle.reg_journal.proofs.Homes.{index-with_kind}
use Rattle.reg_journal.proofs.Judged.{check_settled, idle_settled, operation_settled, settled_stays}
use Rattle.reg_journal.proofs.Keeping.{Goes, SparesRadios, leaves-added, leaves-each}
use Rattle.reg_journal.proofs.Lasting.{permitted_stays, quiet_stays, region_kept_by_none}
use Rattle.reg_journal.proofs.LastCheck.{check_parts}
use Rattle.reg_journal.proofs.Listed.{Contains-map, indexed_listed}
use Rattle.reg_journal.proofs.Operations.{BeginsCheck, no_check_next, no_operation_next}
use Rattle.reg_journal.proofs.Permitting.{check_of_free, free-first, free-next, never_where}
use Rattle.reg_journal.proofs.Radios.{radio_listed, radio_used}
use Rattle.reg_journal.proofs.Ranges.{IsPlain, length_fits}
use Rattle.reg_journal.proofs.Splits.{check_newest, split_cases}
use Rattle.reg_journal.proofs.Starting.{tells_kind}
use Rattle.reg_journal.proofs.Swept.{permitted_power_fits}

-- ---- small steps

pub is_there : {X : Type 0} (o : Option X) → (o ≡ None → ⊥) → IsSome o
is_there None some = absurd (some refl)
is_there (Some x) some = refl

pub is_none : {X : Type 0} (o : Option X) → (IsSome o → ⊥) → o ≡ None
is_none None none = refl
is_none (Some x) none = absurd (none refl)

pub is_false : (b : Bool) → (IsTrue b → ⊥) → b ≡ false
is_false true not = absurd (not refl)
is_false false not = refl

kind_left : (i : ℕ) (kind : Kind) (x : Iface) → (x.index ≡ i → ⊥) → with_kind i kind x ≡ x
kind_left i kind x other = rw (ne_eqb x.index i other)

one_index : (c : ChanDef) (length i : ℕ) (chan : ChanDef) (n j : ℕ) → check_begun i c length ≡ check_begun j chan n → i ≡ j
one_index c length i chan n j e = cc

-- a fact that may come, after which all is settled
pub goes_on : (db : List Domain) (J : Journal) (f : Fact) → Goes db J → MayFollow db J f → IsPlain f → AreSettled db (f ∷ J) → Goes db (f ∷ J)
goes_on db J f goes due plain settled = record { due = (due, goes.due); settled = settled; plain = (plain, goes.plain) }

-- the same interface after a fact that leaves radios, and what the interface does
pub stays : (db : List Domain) (J : Journal) (f : Fact) (x : Iface) → Goes db J → MayFollow db J f → SparesRadios f → Contains (ifaces_of (f ∷ J)) x
    → operation_of (f ∷ J) x.index ≡ operation_of J x.index → (BeginsCheck f x.index → ⊥) → Contains (ifaces_of J) x → IsSettled db (f ∷ J) x
stays db J f x goes due spares there same other was = settled_stays db f J x (due, goes.due) (leaves-each db f J x.radio spares) there same other (goes.settled x was)

-- ---- moments and radios

pub goes_moment : (db : List Domain) (J : Journal) (m : ℕ) → Goes db J → IsFree (MomentCauses J m) → Goes db (moment_is m ∷ J)
goes_moment db J m goes free = goes_on db J (moment_is m) goes due tt (λ x has. stays db J (moment_is m) x goes due tt has refl (λ begins. let is = begins.2 in cc) has)
  where
    due : MayFollow db J (moment_is m)
    due = (
      elim (cases_lt m (now_of J)) [ inl back ↦ absurd (never_where _ _ (free-next (Where (LAST_MOMENT_MS < m) (MomentTooLarge m)) _ free) back) | inr on ↦ on ],
      elim (cases_lt LAST_MOMENT_MS m) [ inl large ↦ absurd (never_where _ _ (free-first (Where (LAST_MOMENT_MS < m) (MomentTooLarge m)) _ free) large) | inr small ↦ small ],
    )

pub goes_added : (db : List Domain) (J : Journal) (r : ℕ) (profile : Abilities) → Goes db J → r < 8 → IsProfile profile → IsFree (RadioAddCauses J r)
    → Goes db (radio_added r profile ∷ J)
goes_added db J r profile goes small is free = goes_on db J (radio_added r profile) goes due tt settled
  where
    due : MayFollow db J (radio_added r profile)
    due = (small, is_false (is_used J r) (never_where _ _ free), is)

    settled : AreSettled db (radio_added r profile ∷ J)
    settled x has = settled_stays db (radio_added r profile) J x (due, goes.due) (leaves-added db J r x.radio profile other) has refl (λ begins. let at = begins.2 in cc) (goes.settled x has)
      where
        other : x.radio ≡ r → ⊥
        other same = true≢false (sym (radio_used db J x.index x.radio goes.due (radio_listed db J x goes.due has)) ∙ ap (is_used J) same ∙ due.1)

-- ---- interfaces

pub goes_made : (db : List Domain) (J : Journal) (r : ℕ) (name : List ℕ) (kind : Kind) → Goes db J → IsName name → IsFree (IfaceAddCauses J r name) → Goes db (made (made_of J + 1) name r kind ∷ J)
goes_made db J r name kind goes its_name free = goes_on db J (made (made_of J + 1) name r kind) goes due its_name settled
  where
    taken : IsFree (Where (IsSome (named J name)) (NameTaken name) before Where ((MOST_IFACES ≤ length (ifaces_on J r)) ⊎ (most_made ≤ made_of J)) Full)
    taken = free-next (LacksRadio J r) _ free

    room : (MOST_IFACES ≤ length (ifaces_on J r)) ⊎ (most_made ≤ made_of J) → ⊥
    room = never_where _ _ (free-next (Where (IsSome (named J name)) (NameTaken name)) _ taken)

    due : MayFollow db J (made (made_of J + 1) name r kind)
    due = (
      refl,
      elim (cases_lt (made_of J) most_made) [ inl less ↦ omega (arith, less) | inr full ↦ absurd (room (inr full)) ],
      is_none (named J name) (never_where _ _ (free-first (Where (IsSome (named J name)) (NameTaken name)) _ taken)),
      is_there (profile_of J r) (never_where _ _ (free-first (LacksRadio J r) _ free)),
      elim (cases_lt (length (ifaces_on J r)) MOST_IFACES) [ inl less ↦ less | inr full ↦ absurd (room (inl full)) ],
      its_name,
    )

    new : Iface
    new = new_iface (made_of J + 1) name r kind

    settled : AreSettled db (made (made_of J + 1) name r kind ∷ J)
    settled x has = elim (Contains-push_cases (ifaces_of J) new x has) [
      | inl was ↦ stays db J (made (made_of J + 1) name r kind) x goes due tt has refl (λ begins. let is = begins.2 in cc) was
      | inr is ↦ subst (IsSettled db (made (made_of J + 1) name r kind ∷ J)) is
          (idle_settled db (made (made_of J + 1) name r kind ∷ J) new (no_operation_next db J (made_of J + 1) goes.due refl) (no_check_next db J (made_of J + 1) goes.due refl))
    ]

pub goes_ended : (db : List Domain) (J : Journal) (x : Iface) → Goes db J → Contains (ifaces_of J) x → Goes db (after (facts_of_end J x) J)
goes_ended db J x goes has = (ends_one db J x goes has).goes

resting : (db : List Domain) (J : Journal) (x : Iface) → Goes db J → Contains (ifaces_of J) x → (IsInUse J x → ⊥) → IsResting J x.index
resting db J x goes has unused = (ap is_some (indexed_listed db J x goes.due has), is_none (operation_of J x.index) (λ some. unused (inl some)), is_none (check_of J x.index) (λ some. unused (inr some)))

pub goes_typed : (db : List Domain) (J : Journal) (x : Iface) (kind : Kind) → Goes db J → Contains (ifaces_of J) x → (IsInUse J x → ⊥) → Goes db (typed x.index kind ∷ J)
goes_typed db J x kind goes has unused = goes_on db J (typed x.index kind) goes due tt settled
  where
    due : MayFollow db J (typed x.index kind)
    due = resting db J x goes has unused

    settled : AreSettled db (typed x.index kind ∷ J)
    settled y there = elim (cases_eq (Contains-map (with_kind x.index kind) (ifaces_of J) y there).0.index x.index) [
      | inl same ↦
          let from = Contains-map (with_kind x.index kind) (ifaces_of J) y there in
          let index : y.index ≡ x.index = ap (λ (z : Iface). z.index) (sym from.2) ∙ index-with_kind x.index kind from.0 ∙ same in
          idle_settled db (typed x.index kind ∷ J) y (ap (operation_of J) index ∙ due.1) (ap (check_of J) index ∙ due.2)
      | inr other ↦
          let from = Contains-map (with_kind x.index kind) (ifaces_of J) y there in
          let is : from.0 ≡ y = sym (kind_left x.index kind from.0 other) ∙ from.2 in
          stays db J (typed x.index kind) y goes due tt there refl (λ begins. let at = begins.2 in cc) (subst (Contains (ifaces_of J)) is from.1)
    ]

-- ---- operations

pub goes_started : (db : List Domain) (J : Journal) (x : Iface) (kind : Kind) (c : ChanDef) (power : ℕ) → Goes db J → Contains (ifaces_of J) x → IsStartable J x kind → IsGranted db J x c power
    → Goes db (started x.index c power ∷ J)
goes_started db J x kind c power goes has may is = goes_on db J (started x.index c power) goes due tt settled
  where
    replaces : (o : Option Operation) → operation_of J x.index ≡ o → (operation_of J x.index ≡ None) ⊎ (x.kind ≡ Monitor)
    replaces None none = inl none
    replaces (Some o) some = elim (tells_kind kind Monitor) [
      | inl monitor ↦ inr (may.of_kind ∙ monitor)
      | inr other ↦ absurd (may.free (inr (ap is_some some, other)))
    ]

    permitted : IsPermitted db J x c power
    permitted = permitted_of_granted db J x c power is

    due : MayFollow db J (started x.index c power)
    due = (
      (
        is_none (check_of J x.index) (λ some. may.free (inl some)),
        subst (λ o. IsSomeAnd o (λ y. (operation_of J x.index ≡ None) ⊎ (y.kind ≡ Monitor))) (sym (indexed_listed db J x goes.due has)) (replaces (operation_of J x.index) refl),
      ),
      is.valid,
      permitted_power_fits db J x c power goes.due permitted,
    )

    settled : AreSettled db (started x.index c power ∷ J)
    settled y there = elim (cases_eq y.index x.index) [
      | inl same ↦
          let is_x : x ≡ y = same_Some x y (sym (indexed_listed db J x goes.due has) ∙ ap (indexed J) (sym same) ∙ indexed_listed db J y goes.due there) in
          let now : operation_of (started x.index c power ∷ J) y.index ≡ Some (record { chan = c; power = power }) = rw (eq-eqb y.index x.index same) in
          operation_settled db (started x.index c power ∷ J) y (record { chan = c; power = power }) now
          (permitted_stays db (started x.index c power) J y c power (due, goes.due) (leaves-each db (started x.index c power) J y.radio tt)
          (record { there = there; power = power; on_channel = now }) (subst (λ z. IsPermitted db J z c power) is_x permitted))
      | inr other ↦ stays db J (started x.index c power) y goes due tt there (rw (ne_eqb y.index x.index other)) (λ begins. let at = begins.2 in cc) there
    ]

pub goes_stopped : (db : List Domain) (J : Journal) (x : Iface) → Goes db J → Contains (ifaces_of J) x → IsSome (operation_of J x.index) → Goes db (stopped x.index ∷ J)
goes_stopped db J x goes has running = goes_released db J x (stopped x.index) goes has (refl, running) tt

-- ---- checks

pub goes_check : (db : List Domain) (J : Journal) (x : Iface) (c : ChanDef) (length : ℕ) → IsDb db → Goes db J → Contains (ifaces_of J) x → IsTrue (initiates x.kind) → (IsInUse J x → ⊥)
    → IsValidDef c → IsFree (BarsCheck db J x c) → IsLengthOf db J x c length → Goes db (check_begun x.index c length ∷ J)
goes_check db J x c length is_db goes has sends unused valid free is = goes_on db J (check_begun x.index c length) goes due tt settled
  where
    rests : IsResting J x.index
    rests = resting db J x goes has unused

    due : MayFollow db J (check_begun x.index c length)
    due = (rests, subst (λ o. IsSomeAnd o (λ y. IsTrue (initiates y.kind))) (sym (indexed_listed db J x goes.due has)) sends, valid, length_fits db J x c length is_db goes.plain is)

    next : Journal
    next = check_begun x.index c length ∷ J

    unmoved : RegionChangedInCheck db next x → ⊥
    unmoved moved = elim (split_cases (check_begun x.index c length) J moved.newer moved.older (check_begun x.index moved.chan moved.length) moved.begun) [
      | inl (none, _, _) ↦
          let base : Journal = check_begun x.index moved.chan moved.length ∷ moved.older in
          moved.changed (subst (λ facts. KeepsRegion db facts base x.radio) (sym none) (region_kept_by_none db base x.radio))
      | inr (rest, newer, _) ↦ moved.last (subst (λ facts. HasCheck facts x.index) (sym newer) (check_newest rest x.index c length))
    ]

    permitted : IsCheckPermitted db next x (record { chan = c; begin = now_of J; length = length })
    permitted =
        let may = check_of_free db J x c free in
        let leaves = leaves-each db (check_begun x.index c length) J x.radio tt in
        record {
          carried = carried_over db J next x c refl refl may.carried;
          fits = fits_over db J next x c 0 refl refl may.fits;
          quiet = λ sends s covered bound. quiet_stays db (check_begun x.index c length) J x.radio s (due, goes.due) leaves (may.quiet sends s covered bound);
          same_region = unmoved;
        }

    by : (k : Option Check) → check_of next x.index ≡ k → IsSettled db next x
    by None none = idle_settled db next x rests.1 none
    by (Some k) some =
        let last : last_check_of next x.index ≡ Some (record { chan = c; begin = now_of J; length = length }) = rw (eq-eqb x.index x.index refl) in
        let same : (record { chan = c; begin = now_of J; length = length }) ≡ k = same_Some _ k (sym last ∙ (check_parts next x.index k some).0) in
        check_settled db next x k rests.1 some (subst (IsCheckPermitted db next x) same permitted)

    settled : AreSettled db next
    settled y there = elim (cases_eq y.index x.index) [
      | inl same ↦
          subst (IsSettled db next) (same_Some x y (sym (indexed_listed db J x goes.due has) ∙ ap (indexed J) (sym same) ∙ indexed_listed db J y goes.due there))
          (by (check_of next x.index) refl)
      | inr other ↦ stays db J (check_begun x.index c length) y goes due tt there refl (λ begins. other (sym (one_index c length x.index begins.0 begins.1 y.index begins.2))) there
    ]
