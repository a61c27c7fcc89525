-- The operations in the slots of a radio's book are those of its interfaces that send first.
use Rattle.std.proofs.Common.{◌≡◌, ℕ, ◌==◌, Bool, true, false, ◌&&◌, List, [], ◌∷◌, ◌++◌, map, filter, find, Option, Some, None, if◌then◌else◌, refl, sym, ap, subst, ◌∙◌, inl, inr, eq-eqb, ne_eqb, option_map}
use Rattle.std.specs.Option.{option_map_or}
use Rattle.std.proofs.lemmas.Bool.{cases_eq, and_parts, cond_both}
use Rattle.std.proofs.lemmas.Option.{none-some}
use Rattle.rule_tables.specs.declared.domain.Domain.{Domain}
use Rattle.chan_def.specs.Kinds.{initiates}
use Rattle.chan_def.specs.declared.definition.ChanDef.{ChanDef}
use Rattle.chan_def.specs.declared.kind.Kind.{Kind}
use Rattle.chan_flags.specs.declared.verdict.PowerSetting.{PowerSetting}
use Rattle.dfs_states.specs.Calls.{Call, Radar, Begin, DropCheck, Operate, slot_operation as operation_in}
use Rattle.reg_journal.specs.Due.{EachMayFollow}
use Rattle.reg_journal.specs.Facts.{Fact, Journal, moment_is, radio_added, radio_removed, hinted, radar_met, made, ended, typed, set_to, started, stopped, powered, check_begun, check_dropped}
use Rattle.reg_journal.specs.OnAir.{is_on}
use Rattle.reg_journal.specs.Present.{Iface, Operation, ifaces_of, is_apart, new_iface, operation_of, operation_with_power, with_kind, with_setting}
use Rattle.reg_books.specs.Calls.{calls_of, operation_call, pushed, sends_first}
use Rattle.reg_books.specs.Slots.{slot_of}
use Rattle.reg_books.proofs.Apart.{slots_apart}
use Rattle.reg_books.proofs.Begins.{home_back}
use Rattle.reg_books.proofs.CallOf.{on_radio, radio_on}
use Rattle.reg_journal.proofs.Operations.{some_value}
use Rattle.reg_journal.proofs.Homes.{home_in, home_of, home_in-ended, home_cases, home_stays, index-with_kind, index-with_setting, none_next, radio_of_home}
use Rattle.reg_journal.proofs.Operations.{no_operation_next, operation_home}
use Rattle.reg_books.proofs.Over.{where_pushed, region_pushed}

-- ---- whether an interface sends first

-- the first of this index sends first
abbrev pub sends_in : List Iface → ℕ → Bool
sends_in xs i = option_map_or (λ x. initiates x.kind) (find (λ x. x.index == i) xs) false

sends-append : (xs ys : List Iface) (i r : ℕ) → home_in xs i ≡ Some r → sends_in (xs ++ ys) i ≡ sends_in xs i
sends-append [] ys i r is = absurd (none-some r is)
sends-append (x ∷ xs) ys i r is = elim (cases_eq x.index i) [
  | inl same ↦ rw (eq-eqb x.index i same)
  | inr other ↦ rw (ne_eqb x.index i other) (sends-append xs ys i r (rw (ne_eqb x.index i other) at is))
]

sends-apart : (xs : List Iface) (i j : ℕ) → (i ≡ j → ⊥) → sends_in (filter (is_apart j) xs) i ≡ sends_in xs i
sends-apart [] i j apart = refl
sends-apart (x ∷ xs) i j apart = elim (cases_eq x.index j) [
  | inl same ↦ rw (eq-eqb x.index j same, ne_eqb x.index i (λ e. apart (sym e ∙ same))) (sends-apart xs i j apart)
  | inr other ↦ elim (cases_eq x.index i) [
    | inl here ↦ rw (ne_eqb x.index j other, eq-eqb x.index i here)
    | inr elsewhere ↦ rw (ne_eqb x.index j other, ne_eqb x.index i elsewhere) (sends-apart xs i j apart)
  ]
]

sends-typed : (xs : List Iface) (i j : ℕ) (kind : Kind) → (i ≡ j → ⊥) → sends_in (map (with_kind j kind) xs) i ≡ sends_in xs i
sends-typed [] i j kind apart = refl
sends-typed (x ∷ xs) i j kind apart = elim (cases_eq x.index i) [
  | inl here ↦ rw (ne_eqb x.index j (λ same. apart (sym here ∙ same)), eq-eqb x.index i here)
  | inr elsewhere ↦
      rw (ne_eqb (with_kind j kind x).index i (λ e. elsewhere (sym (index-with_kind j kind x) ∙ e)), ne_eqb x.index i elsewhere) (sends-typed xs i j kind apart)
]

kind-with_setting : (j : ℕ) (setting : PowerSetting) (x : Iface) → (with_setting j setting x).kind ≡ x.kind
kind-with_setting j setting x = elim (x.index == j) as (λ b. (if b then record x { setting = setting } else x).kind ≡ x.kind) [ true ↦ refl | false ↦ refl ]

sends-set : (xs : List Iface) (i j : ℕ) (setting : PowerSetting) → sends_in (map (with_setting j setting) xs) i ≡ sends_in xs i
sends-set [] i j setting = refl
sends-set (x ∷ xs) i j setting = elim (cases_eq x.index i) [
  | inl here ↦
      rw (eq-eqb (with_setting j setting x).index i (index-with_setting j setting x ∙ here), eq-eqb x.index i here) (ap initiates (kind-with_setting j setting x))
  | inr elsewhere ↦
      rw (ne_eqb (with_setting j setting x).index i (λ e. elsewhere (sym (index-with_setting j setting x) ∙ e)), ne_eqb x.index i elsewhere) (sends-set xs i j setting)
]

-- ---- what the book is told of an interface

-- the channel of an operation, where it is of an interface that sends first
abbrev pub told_by : Bool → Option Operation → Option ChanDef
told_by sends o = if sends then option_map (λ (p : Operation). p.chan) o else None

abbrev pub told_operation : Journal → ℕ → Option ChanDef
told_operation J i = told_by (sends_first J i) (operation_of J i)

told_none : (sends : Bool) (o : Option Operation) → o ≡ None → told_by sends o ≡ None
told_none true o none = ap (λ p. option_map (λ (p : Operation). p.chan) p) none
told_none false o none = refl

same_chan : (o : Option Operation) (power : ℕ) → option_map (λ (p : Operation). p.chan) (option_map (operation_with_power power) o) ≡ option_map (λ (p : Operation). p.chan) o
same_chan None power = refl
same_chan (Some o) power = refl

told_power : (sends : Bool) (o : Option Operation) (power : ℕ) → told_by sends (option_map (operation_with_power power) o) ≡ told_by sends o
told_power true o power = same_chan o power
told_power false o power = refl

-- the slot's own operation, and that of another slot, after one is told
told_here : (slot other : ℕ) (chan : Option ChanDef) (calls : List Call) → other ≡ slot → operation_in (Operate other chan ∷ calls) slot ≡ chan
told_here slot other chan calls same = rw (eq-eqb other slot same)

told_elsewhere : (slot other : ℕ) (chan : Option ChanDef) (calls : List Call) → (other ≡ slot → ⊥) → operation_in (Operate other chan ∷ calls) slot ≡ operation_in calls slot
told_elsewhere slot other chan calls apart = rw (ne_eqb other slot apart)

-- an interface that is there has the slot
abbrev pub HasSlot : Journal → ℕ → ℕ → Type 0
HasSlot J r slot = (i : ℕ) × (home_of J i ≡ Some r) × (slot_of J i ≡ slot)

-- the slot of each interface has its operation, and each operation is of an interface
abbrev pub AreOperationsOf : Journal → ℕ → List Call → Type 0
AreOperationsOf J r calls =
    ((i : ℕ) → home_of J i ≡ Some r → operation_in calls (slot_of J i) ≡ told_operation J i)
    × ((slot : ℕ) (chan : ChanDef) → operation_in calls slot ≡ Some chan → HasSlot J r slot)

-- ---- one interface starts or stops

told_after : (db : List Domain) (J : Journal) (r j q : ℕ) (chan : Option ChanDef) (o : Option Operation) (calls : List Call) → EachMayFollow db J → home_of J j ≡ Some q
    → option_map (λ (p : Operation). p.chan) o ≡ chan → AreOperationsOf J r calls → (i : ℕ) → home_of J i ≡ Some r
    → operation_in (pushed (operation_call J r j chan) calls) (slot_of J i) ≡ told_by (sends_first J i) (if i == j then o else operation_of J i)
told_after db J r j q chan o calls due home is_chan are i is =
    cond_both (is_on J j r && sends_first J j) (Some (Operate (slot_of J j) chan)) None
    (λ c. operation_in (pushed c calls) (slot_of J i) ≡ told_by (sends_first J i) (if i == j then o else operation_of J i)) told untold
  where
    told : (is_on J j r && sends_first J j) ≡ true → operation_in (Operate (slot_of J j) chan ∷ calls) (slot_of J i) ≡ told_by (sends_first J i) (if i == j then o else operation_of J i)
    told comes =
        let both = and_parts (is_on J j r) (sends_first J j) comes in
        let here = home_back db [] J j q r due home (radio_on J j r both.0) in
        elim (cases_eq i j) [
          | inl same ↦
              let sends : sends_first J i ≡ true = ap (sends_first J) same ∙ both.1 in
              told_here (slot_of J i) (slot_of J j) chan calls (ap (slot_of J) (sym same)) ∙ sym (rw (eq-eqb i j same, sends) is_chan)
          | inr other ↦
              told_elsewhere (slot_of J i) (slot_of J j) chan calls (λ same. other (slots_apart db J i j r due is here (sym same)))
              ∙ are.0 i is ∙ sym (ap (λ b. told_by (sends_first J i) (if b then o else operation_of J i)) (ne_eqb i j other))
        ]

    untold : (is_on J j r && sends_first J j) ≡ false → operation_in calls (slot_of J i) ≡ told_by (sends_first J i) (if i == j then o else operation_of J i)
    untold none = elim (cases_eq i j) [
      | inl same ↦
          let on = on_radio J i r (radio_of_home db J i r due is) in
          let none' : (is_on J i r && sends_first J i) ≡ false = subst (λ k. (is_on J k r && sends_first J k) ≡ false) (sym same) none in
          let sends : sends_first J i ≡ false = rw on at none' in
          are.0 i is ∙ ap (λ b. told_by b (operation_of J i)) sends ∙ sym (ap (λ b. told_by b (if i == j then o else operation_of J i)) sends)
      | inr other ↦ are.0 i is ∙ sym (ap (λ b. told_by (sends_first J i) (if b then o else operation_of J i)) (ne_eqb i j other))
    ]

homes_after : (db : List Domain) (J : Journal) (r j q : ℕ) (chan : Option ChanDef) (calls : List Call) → EachMayFollow db J → home_of J j ≡ Some q → AreOperationsOf J r calls
    → (slot : ℕ) (c : ChanDef) → operation_in (pushed (operation_call J r j chan) calls) slot ≡ Some c → HasSlot J r slot
homes_after db J r j q chan calls due home are slot c =
    cond_both (is_on J j r && sends_first J j) (Some (Operate (slot_of J j) chan)) None (λ o. operation_in (pushed o calls) slot ≡ Some c → HasSlot J r slot) told (λ none. are.1 slot c)
  where
    told : (is_on J j r && sends_first J j) ≡ true → operation_in (Operate (slot_of J j) chan ∷ calls) slot ≡ Some c → HasSlot J r slot
    told comes at =
        let both = and_parts (is_on J j r) (sends_first J j) comes in
        let here = home_back db [] J j q r due home (radio_on J j r both.0) in
        elim (cases_eq (slot_of J j) slot) [
          | inl same ↦ (j, here, same)
          | inr apart ↦ are.1 slot c (sym (told_elsewhere slot (slot_of J j) chan calls apart) ∙ at)
        ]

-- ---- one interface comes, goes or changes

was_there : (f : Fact) (J : Journal) (i r : ℕ) → ((name : List ℕ) (kind : Kind) → f ≡ made i name r kind → ⊥) → home_of (f ∷ J) i ≡ Some r → home_of J i ≡ Some r
was_there f J i r other is = elim (home_cases f J i r is) [
  | inl was ↦ was
  | inr new ↦ absurd (other new.0 new.1 new.2)
]

ended_told : (J : Journal) (j r : ℕ) (calls : List Call) → operation_of J j ≡ None → AreOperationsOf J r calls → AreOperationsOf (ended j ∷ J) r calls
ended_told J j r calls rests are = (
  λ i is. elim (cases_eq i j) [
    | inl same ↦ absurd (none-some r (sym (home_in-ended (ifaces_of J) j) ∙ subst (λ n. home_in (filter (is_apart j) (ifaces_of J)) n ≡ Some r) same is))
    | inr other ↦
        are.0 i (was_there (ended j) J i r (λ name kind same. cc) is) ∙ sym (ap (λ b. told_by b (operation_of J i)) (sends-apart (ifaces_of J) i j other))
  ],
  λ slot chan at.
      let has = are.1 slot chan at in
      elim (cases_eq has.0 j) [
        | inl same ↦
            let none = told_none (sends_first J has.0) (operation_of J has.0) (ap (operation_of J) same ∙ rests) in
            absurd (none-some chan (sym (are.0 has.0 has.1 ∙ none) ∙ ap (operation_in calls) has.2 ∙ at))
        | inr other ↦ (has.0, home_stays (ended j) J has.0 r (λ same. let ends : j ≡ has.0 = cc in other (sym ends)) has.1, has.2)
      ],
)

typed_told : (J : Journal) (j r : ℕ) (kind : Kind) (calls : List Call) → operation_of J j ≡ None → AreOperationsOf J r calls → AreOperationsOf (typed j kind ∷ J) r calls
typed_told J j r kind calls rests are = (
  λ i is.
      let was = are.0 i (was_there (typed j kind) J i r (λ name k same. cc) is) in
      elim (cases_eq i j) [
        | inl same ↦
            let none : operation_of J i ≡ None = ap (operation_of J) same ∙ rests in
            was ∙ told_none (sends_first J i) (operation_of J i) none ∙ sym (told_none (sends_first (typed j kind ∷ J) i) (operation_of J i) none)
        | inr other ↦ was ∙ sym (ap (λ b. told_by b (operation_of J i)) (sends-typed (ifaces_of J) i j kind other))
      ],
  λ slot chan at. let has = are.1 slot chan at in (has.0, home_stays (typed j kind) J has.0 r (λ same. cc) has.1, has.2),
)

set_told : (J : Journal) (j r : ℕ) (setting : PowerSetting) (calls : List Call) → AreOperationsOf J r calls → AreOperationsOf (set_to j setting ∷ J) r calls
set_told J j r setting calls are = (
  λ i is.
      are.0 i (was_there (set_to j setting) J i r (λ name k same. cc) is) ∙ sym (ap (λ b. told_by b (operation_of J i)) (sends-set (ifaces_of J) i j setting)),
  λ slot chan at. let has = are.1 slot chan at in (has.0, home_stays (set_to j setting) J has.0 r (λ same. cc) has.1, has.2),
)

powered_told : (J : Journal) (j r power : ℕ) (calls : List Call) → AreOperationsOf J r calls → AreOperationsOf (powered j power ∷ J) r calls
powered_told J j r power calls are = (
  λ i is. elim (cases_eq i j) [
    | inl same ↦
        are.0 i is ∙ sym (told_power (sends_first J i) (operation_of J i) power)
        ∙ sym (ap (λ b. told_by (sends_first J i) (if b then option_map (operation_with_power power) (operation_of J i) else operation_of J i)) (eq-eqb i j same))
    | inr other ↦
        are.0 i is ∙ sym (ap (λ b. told_by (sends_first J i) (if b then option_map (operation_with_power power) (operation_of J i) else operation_of J i)) (ne_eqb i j other))
  ],
  are.1,
)

made_told : (db : List Domain) (J : Journal) (j q r : ℕ) (name : List ℕ) (kind : Kind) → EachMayFollow db (made j name q kind ∷ J) → AreOperationsOf J r (calls_of db J r)
    → AreOperationsOf (made j name q kind ∷ J) r (calls_of db J r)
made_told db J j q r name kind due are = (told, λ slot chan at. let has = are.1 slot chan at in (has.0, later has.0 has.1, slots has.0 has.1 ∙ has.2))
  where
    apart : (k : ℕ) → home_of J k ≡ Some r → k ≡ j → ⊥
    apart k home same = none_next db J k r due.1 (same ∙ due.0.0) home

    later : (k : ℕ) → home_of J k ≡ Some r → home_of (made j name q kind ∷ J) k ≡ Some r
    later k home = home_stays (made j name q kind) J k r (λ same. cc) home

    slots : (k : ℕ) → home_of J k ≡ Some r → slot_of (made j name q kind ∷ J) k ≡ slot_of J k
    slots k home = rw (ne_eqb k j (apart k home))

    new : (i : ℕ) → i ≡ j → home_of (made j name q kind ∷ J) i ≡ Some r → (o : Option ChanDef) → operation_in (calls_of db J r) (slot_of (made j name q kind ∷ J) i) ≡ o
        → operation_in (calls_of db J r) (slot_of (made j name q kind ∷ J) i) ≡ None
    new i same is None at = at
    new i same is (Some chan) at =
        let has = are.1 (slot_of (made j name q kind ∷ J) i) chan at in
        let one = slots_apart db (made j name q kind ∷ J) has.0 i r due (later has.0 has.1) is (slots has.0 has.1 ∙ has.2) in
        absurd (apart has.0 has.1 (one ∙ same))

    told : (i : ℕ) → home_of (made j name q kind ∷ J) i ≡ Some r
        → operation_in (calls_of db J r) (slot_of (made j name q kind ∷ J) i) ≡ told_operation (made j name q kind ∷ J) i
    told i is = elim (cases_eq i j) [
      | inl same ↦
          new i same is (operation_in (calls_of db J r) (slot_of (made j name q kind ∷ J) i)) refl
          ∙ sym (told_none (sends_first (made j name q kind ∷ J) i) (operation_of J i) (no_operation_next db J i due.1 (same ∙ due.0.0)))
      | inr other ↦
          let was = was_there (made j name q kind) J i r (λ n k same. let index : j ≡ i = cc in other (sym index)) is in
          ap (operation_in (calls_of db J r)) (slots i was) ∙ are.0 i was
          ∙ sym (ap (λ b. told_by b (operation_of J i)) (sends-append (ifaces_of J) (new_iface j name q kind ∷ []) i r was))
    ]

-- ---- journals

-- the operations of the book are those of the radio's interfaces that send first
pub operations_told : (db : List Domain) (J : Journal) (r : ℕ) → EachMayFollow db J → AreOperationsOf J r (calls_of db J r)
operations_told db [] r due = (λ i is. absurd (none-some r is), λ slot chan at. absurd (none-some chan at))
operations_told db (moment_is moment ∷ J) r due = operations_told db J r due.1
operations_told db (radar_met q chan ∷ J) r due =
    where_pushed (AreOperationsOf J r) (r == q) (Radar chan) (calls_of db J r) (λ is. operations_told db J r due.1) (operations_told db J r due.1)
operations_told db (check_begun i chan length ∷ J) r due =
    where_pushed (AreOperationsOf J r) (is_on J i r) (Begin (slot_of J i) chan length) (calls_of db J r) (λ is. operations_told db J r due.1) (operations_told db J r due.1)
operations_told db (check_dropped i ∷ J) r due =
    where_pushed (AreOperationsOf J r) (is_on J i r) (DropCheck (slot_of J i)) (calls_of db J r) (λ is. operations_told db J r due.1) (operations_told db J r due.1)
operations_told db (hinted hint ∷ J) r due =
    region_pushed (AreOperationsOf J r) db (hinted hint) J r (calls_of db J r) (operations_told db J r due.1) (operations_told db J r due.1)
operations_told db (radio_added q profile ∷ J) r due =
    region_pushed (AreOperationsOf J r) db (radio_added q profile) J r (calls_of db J r) (operations_told db J r due.1) (operations_told db J r due.1)
operations_told db (radio_removed q ∷ J) r due =
    region_pushed (AreOperationsOf J r) db (radio_removed q) J r (calls_of db J r) (operations_told db J r due.1) (operations_told db J r due.1)
operations_told db (started j chan power ∷ J) r due =
    let o : Operation = record { chan = chan; power = power } in
    let home = operation_home db (started j chan power ∷ J) j o due (rw (eq-eqb j j refl)) in
    let are = operations_told db J r due.1 in
    (told_after db J r j home.0 (Some chan) (Some o) (calls_of db J r) due.1 home.1 refl are, homes_after db J r j home.0 (Some chan) (calls_of db J r) due.1 home.1 are)
operations_told db (stopped j ∷ J) r due =
    let was = some_value (operation_of J j) due.0 in
    let home = operation_home db J j was.0 due.1 was.1 in
    let are = operations_told db J r due.1 in
    (told_after db J r j home.0 None None (calls_of db J r) due.1 home.1 refl are, homes_after db J r j home.0 None (calls_of db J r) due.1 home.1 are)
operations_told db (powered j power ∷ J) r due = powered_told J j r power (calls_of db J r) (operations_told db J r due.1)
operations_told db (made j name q kind ∷ J) r due = made_told db J j q r name kind due (operations_told db J r due.1)
operations_told db (ended j ∷ J) r due = ended_told J j r (calls_of db J r) due.0.1 (operations_told db J r due.1)
operations_told db (typed j kind ∷ J) r due = typed_told J j r kind (calls_of db J r) due.0.1 (operations_told db J r due.1)
operations_told db (set_to j setting ∷ J) r due = set_told J j r setting (calls_of db J r) (operations_told db J r due.1)
operations_told db (f ∷ J) r due = operations_told db J r due.1
