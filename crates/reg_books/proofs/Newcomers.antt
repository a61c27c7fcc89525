-- A radio that was never there has no rules, and its book no calls but moments and changes of the region.
use Rattle.std.proofs.Common.{◌≡◌, ℕ, ◌==◌, Bool, true, false, ◌&&◌, List, [], ◌∷◌, ◌++◌, length, Option, Some, None, IsSome, IfSome, if◌then◌else◌, arith, refl, sym, subst, inl, inr}
use Rattle.std.proofs.lemmas.Bool.{cases_Bool, eqb-true, or_parts}
use Rattle.std.specs.Option.{option_map_or}
use Rattle.rule_tables.specs.declared.domain.Domain.{Domain}
use Rattle.dfs_states.specs.Calls.{Call, Radar, Begin, DropCheck, Operate, RegionChanged}
use Rattle.dfs_states.specs.Meaning.{IsBlank, AreBlank, MayBeCalled as IsCallDue, EachMayBeCalled as AreCallsDue}
use Rattle.reg_journal.specs.Facts.{Fact, Journal, moment_is, radio_added, radio_removed, rules_are, hinted, radar_met, made, started, stopped, check_begun, check_dropped}
use Rattle.reg_hints.specs.Table.{Treated, Own}
use Rattle.reg_hints.specs.declared.hint.Hint.TheVariants.{User, Driver, Element}
use Rattle.rule_tables.specs.Regions.{is_same_region}
use Rattle.reg_journal.specs.Applicable.{driver_code_of, region_of}
use Rattle.reg_journal.specs.Due.{MayFollow, EachMayFollow}
use Rattle.reg_journal.specs.OnAir.{is_on}
use Rattle.reg_journal.specs.Present.{is_used, profile_of, custom_rules_of, radio_of}
use Rattle.reg_books.specs.Calls.{call_of, calls_of, checks_last_on, pushed, sends_first}
use Rattle.reg_books.specs.Slots.{slot_of}
use Rattle.reg_books.proofs.Moments.{now_of-calls}

-- ---- what it doesn't have

not_some : {X : Type 0} (o : Option X) → o ≡ None → IsSome o → ⊥
not_some None none some = cc
not_some (Some x) none some = cc

pub profile_of-unused : (J : Journal) (r : ℕ) → is_used J r ≡ false → profile_of J r ≡ None
profile_of-unused [] r unused = refl
profile_of-unused (radio_added q profile ∷ J) r unused =
    let parts = or_parts (r == q) (is_used J r) unused in
    subst (λ b. (if b then Some profile else profile_of J r) ≡ None) (sym parts.0) (profile_of-unused J r parts.1)
profile_of-unused (radio_removed q ∷ J) r unused = removed (r == q) (profile_of-unused J r unused)
  where
    removed : (b : Bool) → profile_of J r ≡ None → (if b then None else profile_of J r) ≡ None
    removed true none = refl
    removed false none = none
profile_of-unused (f ∷ J) r unused = profile_of-unused J r unused

-- a radio that is there is another one
is_another : (J : Journal) (r q : ℕ) → is_used J r ≡ false → IsSome (profile_of J q) → r ≡ q → ⊥
is_another J r q unused there same =
    not_some (profile_of J r) (profile_of-unused J r unused) (subst (λ n. IsSome (profile_of J n)) (sym same) there)

tells_apart : (m n : ℕ) → (m ≡ n → ⊥) → (m == n) ≡ false
tells_apart m n apart = elim (cases_Bool (m == n)) [ inl same ↦ absurd (apart (eqb-true m n same)) | inr other ↦ other ]

another : (J : Journal) (r q : ℕ) → is_used J r ≡ false → IsSome (profile_of J q) → (r == q) ≡ false
another J r q unused there = tells_apart r q (is_another J r q unused there)

another_asked : (J : Journal) (r q : ℕ) → is_used J r ≡ false → IsSome (profile_of J q) → (q == r) ≡ false
another_asked J r q unused there = tells_apart q r (λ same. is_another J r q unused there (sym same))

pub custom_rules_of-unused : (db : List Domain) (J : Journal) (r : ℕ) → EachMayFollow db J → is_used J r ≡ false → custom_rules_of J r ≡ None
custom_rules_of-unused db [] r due unused = refl
custom_rules_of-unused db (radio_added q profile ∷ J) r due unused = custom_rules_of-unused db J r due.1 (or_parts (r == q) (is_used J r) unused).1
custom_rules_of-unused db (rules_are q rules ∷ J) r due unused =
    subst (λ b. (if b then Some rules else custom_rules_of J r) ≡ None) (sym (another J r q unused due.0.0)) (custom_rules_of-unused db J r due.1 unused)
custom_rules_of-unused db (f ∷ J) r due unused = custom_rules_of-unused db J r due.1 unused

-- no driver has given a hint for it
pub driver_code_of-unused : (db : List Domain) (J : Journal) (r : ℕ) → EachMayFollow db J → is_used J r ≡ false → driver_code_of J r ≡ None
driver_code_of-unused db [] r due unused = refl
driver_code_of-unused db (radio_added q profile ∷ J) r due unused = driver_code_of-unused db J r due.1 (or_parts (r == q) (is_used J r) unused).1
driver_code_of-unused db (hinted (Own q a) ∷ J) r due unused =
    subst (λ b. (if b then Some a else driver_code_of J r) ≡ None) (sym (another J r q unused due.0.1.0)) (driver_code_of-unused db J r due.1 unused)
driver_code_of-unused db (hinted (Treated (Driver q a)) ∷ J) r due unused =
    subst (λ b. (if b then Some a else driver_code_of J r) ≡ None) (sym (another J r q unused due.0.1.0)) (driver_code_of-unused db J r due.1 unused)
driver_code_of-unused db (hinted (Treated (User a)) ∷ J) r due unused = driver_code_of-unused db J r due.1 unused
driver_code_of-unused db (hinted (Treated (Element q a deaf)) ∷ J) r due unused = driver_code_of-unused db J r due.1 unused
driver_code_of-unused db (f ∷ J) r due unused = driver_code_of-unused db J r due.1 unused

pub is_on-unused : (db : List Domain) (J : Journal) (i r : ℕ) → EachMayFollow db J → is_used J r ≡ false → is_on J i r ≡ false
is_on-unused db [] i r due unused = refl
is_on-unused db (radio_added q profile ∷ J) i r due unused = is_on-unused db J i r due.1 (or_parts (r == q) (is_used J r) unused).1
is_on-unused db (made j name q kind ∷ J) i r due unused = on_made (i == j) (is_on-unused db J i r due.1 unused) (another_asked J r q unused due.0.3)
  where
    on_made : (b : Bool) → option_map_or (λ q. q == r) (radio_of J i) false ≡ false → (q == r) ≡ false
        → option_map_or (λ q. q == r) (if b then Some q else radio_of J i) false ≡ false
    on_made true earlier other = other
    on_made false earlier other = earlier
is_on-unused db (f ∷ J) i r due unused = is_on-unused db J i r due.1 unused

-- ---- the calls of its book

-- a call that says nothing of radar and checks, and comes where it may
abbrev pub IsQuietCall : List Call → Option Call → Type 0
IsQuietCall calls call = IfSome call (λ c. IsBlank c × IsCallDue calls c)

never : (calls : List Call) (call : Call) (comes : Bool) → comes ≡ false → IsQuietCall calls (if comes then Some call else None)
never calls call true none = cc
never calls call false none = tt

region_quiet : (calls : List Call) (stays lasts : Bool) → IsQuietCall calls (if stays then None else Some (RegionChanged lasts))
region_quiet calls true lasts = tt
region_quiet calls false lasts = (tt, tt)

-- an interface that isn't on the radio tells no operation
no_operation : (on sends : Bool) → on ≡ false → (on && sends) ≡ false
no_operation true sends off = cc
no_operation false sends off = refl

pub quiet_call : (db : List Domain) (f : Fact) (J : Journal) (r : ℕ) → EachMayFollow db J → is_used J r ≡ false → MayFollow db J f → IsQuietCall (calls_of db J r) (call_of db f J r)
quiet_call db (moment_is moment) J r are unused due =
    let same = now_of-calls db J r in
    let later = due.0 in
    (tt, (omega (arith, same, later), due.1))
quiet_call db (radar_met q chan) J r are unused due = never (calls_of db J r) (Radar chan) (r == q) (another J r q unused due.0)
quiet_call db (check_begun i chan length) J r are unused due =
    never (calls_of db J r) (Begin (slot_of J i) chan length) (is_on J i r) (is_on-unused db J i r are unused)
quiet_call db (check_dropped i) J r are unused due = never (calls_of db J r) (DropCheck (slot_of J i)) (is_on J i r) (is_on-unused db J i r are unused)
quiet_call db (started i chan power) J r are unused due =
    never (calls_of db J r) (Operate (slot_of J i) (Some chan)) (is_on J i r && sends_first J i) (no_operation (is_on J i r) (sends_first J i) (is_on-unused db J i r are unused))
quiet_call db (stopped i) J r are unused due =
    never (calls_of db J r) (Operate (slot_of J i) None) (is_on J i r && sends_first J i) (no_operation (is_on J i r) (sends_first J i) (is_on-unused db J i r are unused))
quiet_call db (hinted hint) J r are unused due = region_quiet (calls_of db J r) (is_same_region (region_of db (hinted hint ∷ J) r) (region_of db J r)) (checks_last_on db (hinted hint ∷ J) r)
quiet_call db (radio_added q profile) J r are unused due =
    region_quiet (calls_of db J r) (is_same_region (region_of db (radio_added q profile ∷ J) r) (region_of db J r)) (checks_last_on db (radio_added q profile ∷ J) r)
quiet_call db (radio_removed q) J r are unused due = region_quiet (calls_of db J r) (is_same_region (region_of db (radio_removed q ∷ J) r) (region_of db J r)) (checks_last_on db (radio_removed q ∷ J) r)
quiet_call db f J r are unused due = tt

used_before : (f : Fact) (J : Journal) (r : ℕ) → is_used (f ∷ J) r ≡ false → is_used J r ≡ false
used_before (radio_added q profile) J r unused = (or_parts (r == q) (is_used J r) unused).1
used_before f J r unused = unused

pub AreBlank-pushed : (calls : List Call) (call : Option Call) → IsQuietCall calls call → AreBlank calls → AreBlank (pushed call calls)
AreBlank-pushed calls None quiet blank = blank
AreBlank-pushed calls (Some c) quiet blank = λ d has. in_cons d has.newer has.older has.at
  where
    in_cons : (d : Call) (newer older : List Call) → c ∷ calls ≡ newer ++ d ∷ older → IsBlank d
    in_cons d [] older at = let same : c ≡ d = cc in subst IsBlank same quiet.0
    in_cons d (n ∷ newer) older at = blank d (record { newer = newer; older = older; at = cc })

pub AreDue-pushed : (calls : List Call) (call : Option Call) → IsQuietCall calls call → AreCallsDue calls → AreCallsDue (pushed call calls)
AreDue-pushed calls None quiet are = are
AreDue-pushed calls (Some c) quiet are = (quiet.1, are)

pub blank_calls : (db : List Domain) (J : Journal) (r : ℕ) → EachMayFollow db J → is_used J r ≡ false → AreBlank (calls_of db J r)
blank_calls db [] r are unused = λ call has. none call has.older has.newer has.at
  where
    none : (call : Call) (older newer : List Call) → [] ≡ newer ++ call ∷ older → IsBlank call
    none call older [] at = cc
    none call older (n ∷ newer) at = cc
blank_calls db (f ∷ J) r are unused =
    let before = used_before f J r unused in
    AreBlank-pushed (calls_of db J r) (call_of db f J r) (quiet_call db f J r are.1 before are.0) (blank_calls db J r are.1 before)

pub due_calls : (db : List Domain) (J : Journal) (r : ℕ) → EachMayFollow db J → is_used J r ≡ false → AreCallsDue (calls_of db J r)
due_calls db [] r are unused = tt
due_calls db (f ∷ J) r are unused =
    let before = used_before f J r unused in
    AreDue-pushed (calls_of db J r) (call_of db f J r) (quiet_call db f J r are.1 before are.0) (due_calls db J r are.1 before)
