-- A request for another power.
use Rattle.std.proofs.Common.{◌≡◌, ◌≢◌, ℕ, ◌⊎◌, List, [], ◌∷◌, map, Contains, Option, Some, None, IsSomeAnd, is_some, arith, refl, sym, ap, subst, ◌∙◌, inl, inr, eq-eqb, ne_eqb}
use Rattle.std.proofs.lemmas.Bool.{cases_eq}
use Rattle.std.proofs.lemmas.Option.{same_Some}
use Rattle.freq_range.proofs.Members.{Contains-cases, Contains-head, Contains-later, Contains-nothing}
use Rattle.rule_tables.specs.declared.domain.Domain.{Domain}
use Rattle.chan_def.specs.declared.definition.ChanDef.{ChanDef}
use Rattle.chan_flags.specs.Verdicts.{IsWithinLimit, power_of}
use Rattle.chan_flags.specs.declared.verdict.PowerSetting.{PowerSetting}
use Rattle.chan_flags.proofs.Granted.{power_within}
use Rattle.reg_journal.specs.Causes.{IsFree}
use Rattle.reg_journal.specs.Due.{MayFollow}
use Rattle.reg_journal.specs.Facts.{Journal, powered, set_to}
use Rattle.reg_journal.specs.Granted.{IsPermitted}
use Rattle.reg_journal.specs.Permits.{IsLimitOf, IsPowerOf, PassesLimit}
use Rattle.reg_journal.specs.Present.{Check, Iface, Operation, check_of, ifaces_of, indexed, operation_of, with_setting}
use Rattle.reg_journal.specs.Settled.{AreSettled, IsCheckPermitted, IsSettled}
use Rattle.reg_journal.proofs.Fitting.{carried_with, fits_with}
use Rattle.reg_journal.proofs.Indexes.{LacksIndex}
use Rattle.reg_journal.proofs.Judged.{check_settled, idle_settled, operation_settled, settled_check, settled_operation}
use Rattle.reg_journal.proofs.Keeping.{Goes, leaves-each}
use Rattle.reg_journal.proofs.Lasting.{check_permitted_stays, permitted_stays}
use Rattle.reg_journal.proofs.Listed.{Contains-map, indexed_listed}
use Rattle.reg_journal.proofs.Permitting.{within}
use Rattle.reg_journal.proofs.Regular.{goes_on, stays}
use Rattle.reg_journal.proofs.Swept.{IsSweepDone, permitted_power_fits, sweep_done}

-- what is permitted with one setting is so with another, if its power is within the limit
permitted_with : (db : List Domain) (J : Journal) (x : Iface) (c : ChanDef) (old power : ℕ) (setting : PowerSetting) (limit : ℕ) → IsPermitted db J x c old
    → IsLimitOf db J (record x { setting = setting }) c limit → IsWithinLimit setting limit → power ≡ power_of setting limit → IsPermitted db J (record x { setting = setting }) c power
permitted_with db J x c old power setting limit may is within same = record {
  carried = carried_with db J x c setting may.carried;
  fits = fits_with db J x c old power setting may.fits (λ s d g covered has governs.
      let most = is.rules s d g covered has governs in
      let below = power_within setting limit within in
      omega (arith, most, below, same));
  given = record { limit = limit; is_limit = is; power_is = same; within = within };
  clear = may.clear;
}

check_with : (db : List Domain) (J : Journal) (x : Iface) (k : Check) (setting : PowerSetting) → IsCheckPermitted db J x k → IsCheckPermitted db J (record x { setting = setting }) k
check_with db J x k setting may = record {
  carried = carried_with db J x k.chan setting may.carried;
  fits = fits_with db J x k.chan 0 0 setting may.fits (λ s d g covered has governs. omega arith);
  quiet = may.quiet;
  same_region = λ moved. may.same_region (record {
    newer = moved.newer;
    chan = moved.chan;
    length = moved.length;
    older = moved.older;
    begun = moved.begun;
    last = moved.last;
    changed = moved.changed;
  });
}

pub setting_here : (i : ℕ) (setting : PowerSetting) (x : Iface) → x.index ≡ i → with_setting i setting x ≡ record x { setting = setting }
setting_here i setting x same = rw (eq-eqb x.index i same)

setting_left : (i : ℕ) (setting : PowerSetting) (x : Iface) → (x.index ≡ i → ⊥) → with_setting i setting x ≡ x
setting_left i setting x other = rw (ne_eqb x.index i other)

-- the others are settled after the setting, and the interface itself is the one with the setting
others_settled : (db : List Domain) (J : Journal) (x : Iface) (setting : PowerSetting) → Goes db J → Contains (ifaces_of J) x → MayFollow db J (set_to x.index setting)
    → (y : Iface) → Contains (ifaces_of (set_to x.index setting ∷ J)) y → (IsSettled db (set_to x.index setting ∷ J) y × (y.index ≢ x.index)) ⊎ (y ≡ record x { setting = setting })
others_settled db J x setting goes has due y there = elim (cases_eq (Contains-map (with_setting x.index setting) (ifaces_of J) y there).0.index x.index) [
  | inl same ↦
      let from = Contains-map (with_setting x.index setting) (ifaces_of J) y there in
      let is_x : from.0 ≡ x = same_Some from.0 x (sym (indexed_listed db J from.0 goes.due from.1) ∙ ap (indexed J) same ∙ indexed_listed db J x goes.due has) in
      inr (sym from.2 ∙ ap (with_setting x.index setting) is_x ∙ setting_here x.index setting x refl)
  | inr other ↦
      let from = Contains-map (with_setting x.index setting) (ifaces_of J) y there in
      let is : from.0 ≡ y = sym (setting_left x.index setting from.0 other) ∙ from.2 in
      inl (
        stays db J (set_to x.index setting) y goes due tt there refl (λ begins. let at = begins.2 in cc) (subst (Contains (ifaces_of J)) is from.1),
        λ at. other (ap (λ (w : Iface). w.index) is ∙ at),
      )
]

set_due : (db : List Domain) (J : Journal) (x : Iface) (setting : PowerSetting) → Goes db J → Contains (ifaces_of J) x → MayFollow db J (set_to x.index setting)
set_due db J x setting goes has = ap is_some (indexed_listed db J x goes.due has)

-- the interface is there with the setting
set_there : (xs : List Iface) (x : Iface) (setting : PowerSetting) → Contains xs x → Contains (map (with_setting x.index setting) xs) (record x { setting = setting })
set_there [] x setting has = absurd (Contains-nothing x has)
set_there (y ∷ xs) x setting has = elim (Contains-cases y xs x has) [
  | inl same ↦ subst (λ z. Contains (with_setting x.index setting y ∷ map (with_setting x.index setting) xs) z)
      (setting_here x.index setting y (ap (λ (w : Iface). w.index) same) ∙ ap (λ (z : Iface). record z { setting = setting }) same) (Contains-head _ _)
  | inr later ↦ Contains-later _ _ _ (set_there xs x setting later)
]

-- where it has no operation, the setting alone is kept
pub goes_set_idle : (db : List Domain) (J : Journal) (x : Iface) (setting : PowerSetting) → Goes db J → Contains (ifaces_of J) x → operation_of J x.index ≡ None
    → Goes db (set_to x.index setting ∷ J)
goes_set_idle db J x setting goes has none = goes_on db J (set_to x.index setting) goes due tt settled
  where
    due : MayFollow db J (set_to x.index setting)
    due = set_due db J x setting goes has

    next : Journal
    next = set_to x.index setting ∷ J

    by : (k : Option Check) → check_of next x.index ≡ k → IsSettled db next (record x { setting = setting })
    by None no_check = idle_settled db next (record x { setting = setting }) none no_check
    by (Some k) is =
        check_settled db next (record x { setting = setting }) k none is
        (check_permitted_stays db (set_to x.index setting) J (record x { setting = setting }) k (due, goes.due) (leaves-each db (set_to x.index setting) J x.radio tt)
        (check_with db J x k setting (settled_check db J x k none is (goes.settled x has))))

    settled : AreSettled db next
    settled y there = elim (others_settled db J x setting goes has due y there) [
      | inl other ↦ other.0
      | inr same ↦ subst (IsSettled db next) (sym same) (by (check_of next x.index) refl)
    ]

-- where it has one, that is permitted with the power of the setting
set_permitted : (db : List Domain) (J : Journal) (x : Iface) (o : Operation) (setting : PowerSetting) (power : ℕ) → Goes db J → Contains (ifaces_of J) x → operation_of J x.index ≡ Some o
    → IsFree (PassesLimit db J x setting o.chan) → IsPowerOf db J (record x { setting = setting }) o.chan power
    → IsPermitted db (set_to x.index setting ∷ J) (record x { setting = setting }) o.chan power
set_permitted db J x o setting power goes has is free (limit, is_limit, same) =
    permitted_stays db (set_to x.index setting) J (record x { setting = setting }) o.chan power (set_due db J x setting goes has, goes.due)
    (leaves-each db (set_to x.index setting) J x.radio tt)
    (record { there = set_there (ifaces_of J) x setting has; power = o.power; on_channel = is })
    (permitted_with db J x o.chan o.power power setting limit (settled_operation db J x o is (goes.settled x has)) is_limit
    (within db J x setting o.chan limit free (record { radio = is_limit.radio; rules = is_limit.rules; least = is_limit.least })) same)

pub goes_set_same : (db : List Domain) (J : Journal) (x : Iface) (o : Operation) (setting : PowerSetting) (power : ℕ) → Goes db J → Contains (ifaces_of J) x → operation_of J x.index ≡ Some o
    → IsFree (PassesLimit db J x setting o.chan) → IsPowerOf db J (record x { setting = setting }) o.chan power → power ≡ o.power
    → Goes db (set_to x.index setting ∷ J)
goes_set_same db J x o setting power goes has is free is_power same = goes_on db J (set_to x.index setting) goes due tt settled
  where
    due : MayFollow db J (set_to x.index setting)
    due = set_due db J x setting goes has

    settled : AreSettled db (set_to x.index setting ∷ J)
    settled y there = elim (others_settled db J x setting goes has due y there) [
      | inl other ↦ other.0
      | inr is_x ↦ subst (IsSettled db (set_to x.index setting ∷ J)) (sym is_x)
          (operation_settled db (set_to x.index setting ∷ J) (record x { setting = setting }) o is
          (subst (IsPermitted db (set_to x.index setting ∷ J) (record x { setting = setting }) o.chan) same (set_permitted db J x o setting power goes has is free is_power)))
    ]

pub goes_set_powered : (db : List Domain) (J : Journal) (x : Iface) (o : Operation) (setting : PowerSetting) (power : ℕ) → Goes db J → Contains (ifaces_of J) x → operation_of J x.index ≡ Some o
    → IsFree (PassesLimit db J x setting o.chan) → IsPowerOf db J (record x { setting = setting }) o.chan power
    → Goes db (powered x.index power ∷ set_to x.index setting ∷ J)
goes_set_powered db J x o setting power goes has is free is_power = record {
  due = done.due;
  settled = λ y there. let was = subst (λ xs. Contains xs y) done.ifaces there in done.settled y was (which y was);
  plain = (tt, (tt, goes.plain));
}
  where
    due : MayFollow db J (set_to x.index setting)
    due = set_due db J x setting goes has

    next : Journal
    next = set_to x.index setting ∷ J

    may : IsPermitted db next (record x { setting = setting }) o.chan power
    may = set_permitted db J x o setting power goes has is free is_power

    which : (y : Iface) → Contains (ifaces_of next) y → (IsSettled db next y × LacksIndex ((record x { setting = setting }) ∷ []) y.index) ⊎ Contains ((record x { setting = setting }) ∷ []) y
    which y was = elim (others_settled db J x setting goes has due y was) [
      | inl (settled, other) ↦ inl (
        settled,
        λ z in_one at. elim (Contains-cases (record x { setting = setting }) [] z in_one) [
          | inl same ↦ other (sym (ap (λ (w : Iface). w.index) same ∙ at))
          | inr none ↦ Contains-nothing z none
        ],
      )
      | inr same ↦ inr (subst (Contains ((record x { setting = setting }) ∷ [])) (sym same) (Contains-head (record x { setting = setting }) []))
    ]

    inside : (z : Iface) → Contains ((record x { setting = setting }) ∷ []) z → Contains (ifaces_of next) z
    inside z in_one = elim (Contains-cases (record x { setting = setting }) [] z in_one) [
      | inl same ↦ subst (Contains (ifaces_of next)) same (set_there (ifaces_of J) x setting has)
      | inr none ↦ absurd (Contains-nothing z none)
    ]

    done : IsSweepDone db next ((record x { setting = setting }) ∷ []) (powered x.index power ∷ [])
    done = sweep_done db next ((record x { setting = setting }) ∷ []) (powered x.index power ∷ []) (due, goes.due) (λ y none same. Contains-nothing y none, tt) inside (
      Some (powered x.index power),
      [],
      (
        refl,
        permitted_power_fits db next (record x { setting = setting }) o.chan power (due, goes.due) may,
        subst (λ o. IsSomeAnd o (λ o. IsPermitted db next (record x { setting = setting }) o.chan power)) (sym is) may,
      ),
      refl,
      refl,
    )
