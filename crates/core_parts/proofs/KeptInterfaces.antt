-- The interfaces as they are kept, against those of the journal.
use Rattle.std.proofs.Common.{◌≡◌, ℕ, zero, suc, ◌+◌, ◌==◌, ◌<◌, ◌≤◌, Bool, true, false, ◌&&◌, List, [], ◌∷◌, ◌++◌, length, map, filter, find, Option, Some, None, Contains, option_map, arith, refl, sym, subst, ap, ◌∙◌, inl, inr, eq-eqb, ne_eqb}
use Rattle.std.specs.List.{list_any}
use Rattle.std.proofs.lemmas.Bool.{cases_Bool, cases_eq}
use Rattle.std.proofs.lemmas.Option.{none-some, same_Some}
use Rattle.freq_range.proofs.Members.{Contains-later}
use Rattle.rule_tables.specs.declared.domain.Domain.{Domain}
use Rattle.chan_def.specs.declared.definition.ChanDef.{ChanDef}
use Rattle.chan_def.specs.declared.kind.Kind.{Kind}
use Rattle.chan_flags.specs.declared.verdict.PowerSetting.TheVariants.{Auto}
use Rattle.reg_journal.specs.Due.{EachMayFollow}
use Rattle.reg_journal.specs.Facts.{Journal, made, started, stopped}
use Rattle.reg_base.specs.Texts.{same_bytes}
use Rattle.reg_journal.specs.Present.{Iface, new_iface, ifaces_of, ifaces_on, made_of, named}
use Rattle.core_parts.specs.Kept.{kept, interfaces_of}
use Rattle.core_parts.specs.Interfaces.{is_on_radio, interface_named, interfaces_on, slot_on, with_operation}
use Rattle.reg_books.specs.Slots.{free_slot, numbers, slot_of}
use Rattle.core_parts.specs.declared.interface.Interface.{Interface}
use Rattle.reg_journal.proofs.Homes.{radio_given}
use Rattle.reg_journal.proofs.Radios.{radio_listed}
use Rattle.reg_journal.proofs.Operations.{no_operation_next}
use Rattle.std.proofs.lemmas.List.{map-append}

-- ---- lists

pub find-map : {X Y : Type 0} (p : Y → Bool) (f : X → Y) (xs : List X) → find p (map f xs) ≡ option_map f (find (λ x. p (f x)) xs)
find-map p f [] = refl
find-map p f (x ∷ xs) = elim (cases_Bool (p (f x))) [ inl passes ↦ rw (passes) | inr fails ↦ rw (fails) (find-map p f xs) ]

pub filter-map : {X Y : Type 0} (p : Y → Bool) (f : X → Y) (xs : List X) → filter p (map f xs) ≡ map f (filter (λ x. p (f x)) xs)
filter-map p f [] = refl
filter-map p f (x ∷ xs) = elim (cases_Bool (p (f x))) [ inl passes ↦ rw (passes, filter-map p f xs) | inr fails ↦ rw (fails) (filter-map p f xs) ]

pub map-map : {X Y Z : Type 0} (g : Y → Z) (f : X → Y) (xs : List X) → map g (map f xs) ≡ map (λ x. g (f x)) xs
map-map g f [] = refl
map-map g f (x ∷ xs) = rw (map-map g f xs)

pub length-mapped : {X Y : Type 0} (f : X → Y) (xs : List X) → length (map f xs) ≡ length xs
length-mapped f [] = refl
length-mapped f (x ∷ xs) = rw (length-mapped f xs)

-- the same of each that is listed
pub map-listed : {X Y : Type 0} (f g : X → Y) (xs : List X) → ((x : X) → Contains xs x → f x ≡ g x) → map f xs ≡ map g xs
map-listed f g [] same = refl
map-listed f g (x ∷ xs) same = rw (same x (0, omega arith, refl), map-listed f g xs (λ y has. same y (Contains-later x xs y has)))

pub any_mapped_filter : {X : Type 0} (on : X → Bool) (f : X → ℕ) (n : ℕ) (xs : List X) → list_any (λ x. on x && f x == n) xs ≡ list_any (λ m. m == n) (map f (filter on xs))
any_mapped_filter on f n [] = refl
any_mapped_filter on f n (x ∷ xs) = elim (cases_Bool (on x)) [
  | inl passes ↦ rw (passes, any_mapped_filter on f n xs)
  | inr fails ↦ rw (fails) (any_mapped_filter on f n xs)
]

-- ---- look-ups

pub interface_named-kept : (J : Journal) (name : List ℕ) → interface_named (interfaces_of J) name ≡ option_map (kept J) (named J name)
interface_named-kept J name = find-map (λ (p : Interface). same_bytes p.name name) (kept J) (ifaces_of J)

pub interfaces_on-kept : (J : Journal) (r : ℕ) → interfaces_on (interfaces_of J) r ≡ map (kept J) (ifaces_on J r)
interfaces_on-kept J r = filter-map (is_on_radio r) (kept J) (ifaces_of J)

pub count_on-kept : (J : Journal) (r : ℕ) → length (interfaces_on (interfaces_of J) r) ≡ length (ifaces_on J r)
count_on-kept J r = ap length (interfaces_on-kept J r) ∙ length-mapped (kept J) (ifaces_on J r)

pub slot_on-kept : (J : Journal) (r : ℕ) → slot_on (interfaces_of J) r ≡ free_slot (map (λ x. slot_of J x.index) (ifaces_on J r))
slot_on-kept J r = ap free_slot (ap (map (λ (p : Interface). p.slot)) (interfaces_on-kept J r) ∙ map-map (λ (p : Interface). p.slot) (kept J) (ifaces_on J r))

pub named_kept : (J : Journal) (name : List ℕ) (interfaces : List Interface) (o : Option Interface) → interfaces ≡ interfaces_of J → o ≡ interface_named interfaces name
    → o ≡ option_map (kept J) (named J name)
named_kept J name interfaces o same is = is ∙ ap (λ ps. interface_named ps name) same ∙ interface_named-kept J name

pub some_named : (J : Journal) (name : List ℕ) (interfaces : List Interface) (interface : Interface) → interfaces ≡ interfaces_of J → Some interface ≡ interface_named interfaces name
    → (x : Iface) × (named J name ≡ Some x) × (interface ≡ kept J x)
some_named J name interfaces interface same is = by (named J name) refl (named_kept J name interfaces (Some interface) same is)
  where
    by : (o : Option Iface) → named J name ≡ o → Some interface ≡ option_map (kept J) o → (x : Iface) × (named J name ≡ Some x) × (interface ≡ kept J x)
    by None e p = absurd (none-some interface (sym p))
    by (Some x) e p = (x, e, same_Some interface (kept J x) p)

pub none_named : (J : Journal) (name : List ℕ) (interfaces : List Interface) → interfaces ≡ interfaces_of J → None ≡ interface_named interfaces name → named J name ≡ None
none_named J name interfaces same is = by (named J name) (named_kept J name interfaces None same is)
  where
    by : (o : Option Iface) → None ≡ option_map (kept J) o → o ≡ None
    by None p = refl
    by (Some x) p = absurd (none-some (kept J x) p)

-- ---- the least number that passes

pub find_number : (p : ℕ → Bool) (r count n : ℕ) → r ≤ n → n < r + count → ((k : ℕ) → r ≤ k → k < n → p k ≡ false) → p n ≡ true → Some n ≡ find p (numbers r count)
find_number p r zero n from to before here = absurd (omega (arith, from, to))
find_number p r (suc count) n from to before here = elim (cases_eq r n) [
  | inl same ↦ rw (subst (λ k. p k ≡ true) (sym same) here) (ap Some (sym same))
  | inr other ↦ let above : r < n = omega (arith, from, other) in
      rw (before r (omega arith) above)
      (find_number p (r + 1) count n (omega (arith, above)) (omega (arith, to)) (λ k low high. before k (omega (arith, low)) high) here)
]

pub find_no_number : (p : ℕ → Bool) (r count : ℕ) → ((k : ℕ) → r ≤ k → k < r + count → p k ≡ false) → None ≡ find p (numbers r count)
find_no_number p r zero all_fail = refl
find_no_number p r (suc count) all_fail =
    rw (all_fail r (omega arith) (omega arith)) (find_no_number p (r + 1) count (λ k low high. all_fail k (omega (arith, low)) (omega (arith, high))))

-- ---- an interface that comes

-- the new one, as it is kept
abbrev pub new_interface : ℕ → List ℕ → ℕ → ℕ → Kind → Interface
new_interface i name r slot kind = record { index = i; name = name; radio = r; slot = slot; kind = kind; setting = Auto; operation = None }

-- the others are kept as before
kept-made : (db : List Domain) (J : Journal) (name : List ℕ) (r : ℕ) (kind : Kind) (x : Iface) → EachMayFollow db J → Contains (ifaces_of J) x
    → kept (made (made_of J + 1) name r kind ∷ J) x ≡ kept J x
kept-made db J name r kind x due has =
    let given = radio_given db J x.index x.radio due (radio_listed db J x due has) in
    rw (ne_eqb x.index (made_of J + 1) (λ same. absurd (omega (arith, same, given)))) (refl {a = kept J x})

pub interfaces_of-made : (db : List Domain) (J : Journal) (name : List ℕ) (r : ℕ) (kind : Kind) → EachMayFollow db J
    → interfaces_of (made (made_of J + 1) name r kind ∷ J) ≡ interfaces_of J ++ new_interface (made_of J + 1) name r (slot_on (interfaces_of J) r) kind ∷ []
interfaces_of-made db J name r kind due =
    map-append (kept J') (ifaces_of J) (new_iface i name r kind ∷ [])
    ∙ ap (λ ps. ps ++ kept J' (new_iface i name r kind) ∷ []) (map-listed (kept J') (kept J) (ifaces_of J) (λ x has. kept-made db J name r kind x due has))
    ∙ ap (λ p. interfaces_of J ++ p ∷ []) fresh_kept
  where
    i : ℕ
    i = made_of J + 1

    J' : Journal
    J' = made i name r kind ∷ J

    fresh_kept : kept J' (new_iface i name r kind) ≡ new_interface i name r (slot_on (interfaces_of J) r) kind
    fresh_kept = rw (eq-eqb i i refl, no_operation_next db J (made_of J + 1) due refl, slot_on-kept J r) refl

-- ---- operations that start and stop

pub interfaces_of-started : (J : Journal) (i : ℕ) (c : ChanDef) (power : ℕ)
    → map (with_operation i (Some (record { chan = c; power_mbm = power }))) (interfaces_of J) ≡ interfaces_of (started i c power ∷ J)
interfaces_of-started J i c power = map-map _ (kept J) (ifaces_of J) ∙ map-listed _ (kept (started i c power ∷ J)) (ifaces_of J) (λ x has. one x)
  where
    one : (x : Iface) → with_operation i (Some (record { chan = c; power_mbm = power })) (kept J x) ≡ kept (started i c power ∷ J) x
    one x = elim (cases_eq x.index i) [
      | inl same ↦ rw (eq-eqb x.index i same) refl
      | inr other ↦ rw (ne_eqb x.index i other) refl
    ]

pub interfaces_of-stopped : (J : Journal) (i : ℕ) → map (with_operation i None) (interfaces_of J) ≡ interfaces_of (stopped i ∷ J)
interfaces_of-stopped J i = map-map _ (kept J) (ifaces_of J) ∙ map-listed _ (kept (stopped i ∷ J)) (ifaces_of J) (λ x has. one x)
  where
    one : (x : Iface) → with_operation i None (kept J x) ≡ kept (stopped i ∷ J) x
    one x = elim (cases_eq x.index i) [
      | inl same ↦ rw (eq-eqb x.index i same) refl
      | inr other ↦ rw (ne_eqb x.index i other) refl
    ]
