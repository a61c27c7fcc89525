-- What comes as interfaces and radios go, and what is kept then.
use Rattle.std.proofs.Common.{◌≡◌, ◌≢◌, ℕ, zero, suc, ◌+◌, ◌*◌, ◌<◌, ◌≤◌, ◌==◌, Bool, true, false, cond, List, [], ◌∷◌, ◌++◌, length, take, drop, set, filter, map, get_or, slice_get, Contains, Option, Some, None, IsSome, append_assoc, append-nil, arith, refl, sym, ap, subst, ◌∙◌, eq-eqb, ne_eqb}
use Rattle.std.specs.List.{flat_map}
use Rattle.std.specs.Option.{option_to_list}
use Rattle.std.proofs.lemmas.List.{length-append, length-map, map-append, take_all}
use Rattle.std.proofs.lemmas.List.Elements.{filter-append}
use Rattle.freq_range.proofs.Members.{Contains-head, Contains-later}
use Rattle.rule_tables.specs.declared.domain.Domain.{Domain}
use Rattle.reg_journal.specs.Due.{EachMayFollow}
use Rattle.reg_journal.specs.Facts.{Journal, ended, radio_removed}
use Rattle.reg_journal.specs.Present.{Check, Iface, Operation, check_of, ifaces_of, ifaces_on, is_apart, operation_of}
use Rattle.reg_journal.specs.Replies.{facts_of_end}
use Rattle.reg_journal.specs.Sweep.{released}
use Rattle.reg_journal.proofs.Few.{few_on}
use Rattle.reg_journal.proofs.Indexes.{AreApart, LacksIndex, ifaces_apart}
use Rattle.reg_core.specs.Kept.{Keeps}
use Rattle.core_parts.specs.Interfaces.{is_other}
use Rattle.core_parts.specs.Kept.{KeepsRadio, KeepsRadios, interfaces_of, kept}
use Rattle.core_parts.specs.Changes.{IsInterfaceOf, fact_of, facts_of}
use Rattle.core_parts.specs.Contexts.{IsOf}
use Rattle.reg_core.specs.inner.Removals.{AddsEnds, AreEnds, Releases}
use Rattle.core_parts.specs.declared.change.Change.{Change}
use Rattle.core_parts.specs.declared.change.Change.TheVariants.{Stopped, Powered, Dropped, Ended}
use Rattle.reg_core.specs.declared.core_state.Core.{Core}
use Rattle.core_parts.specs.declared.interface.Interface.{Interface}
use Rattle.core_parts.specs.declared.radio.Radio.{Radio}
use Rattle.core_parts.specs.declared.radio.RadioPlace.{RadioPlace}
use Rattle.core_parts.specs.declared.radio.RadioPlace.TheVariants.{Removed}
use Rattle.reg_journal.proofs.Radios.{profile_used}
use Rattle.reg_core.proofs.KeptChanges.{keeps_after}
use Rattle.core_parts.proofs.KeptInterfaces.{filter-map}
use Rattle.core_parts.proofs.Taken.{take_got}
use Rattle.reg_core.proofs.SweepLists.{AreHoused, SparesEach, spares_each}
use Rattle.reg_core.proofs.SweepPlaces.{option_short}
use Rattle.core_parts.proofs.Unchanged.{KeepsRadios-at, KeepsRadios-spared}

-- ---- one interface leaves the list

pub keeps_after_end : (db : List Domain) (J : Journal) (i : ℕ) (core : Core) (interfaces : List Interface) → Keeps db core J
    → EachMayFollow db (ended i ∷ J) → interfaces ≡ filter (is_other i) core.interfaces → Keeps db (record core { interfaces = interfaces }) (ended i ∷ J)
keeps_after_end db J i core interfaces s due are =
    keeps_after db J (ended i) core interfaces core.radios tt s due (KeepsRadios-spared db J (ended i) core.radios (λ r. tt) s.radios)
    (are ∙ ap (filter (is_other i)) s.interfaces ∙ filter-map (is_other i) (kept J) (ifaces_of J))

-- ---- a radio leaves its place

pub keeps_after_removal : (db : List Domain) (J : Journal) (r : ℕ) (core : Core) (radios : List RadioPlace) → r < length core.radios → Keeps db core J
    → EachMayFollow db (radio_removed r ∷ J) → radios ≡ set core.radios r Removed → Keeps db (record core { radios = radios }) (radio_removed r ∷ J)
keeps_after_removal db J r core radios within s due are = record {
  due = due;
  domains = s.domains;
  clock = s.clock;
  indoor = s.indoor;
  hints = s.hints;
  made = s.made;
  global = s.global;
  radios = subst (KeepsRadios db (radio_removed r ∷ J)) (sym are)
      (KeepsRadios-at db J (radio_removed r) core.radios r Removed within (λ q other. other) (profile_used J r due.0.0, rw (eq-eqb r r refl) refl) s.radios);
  interfaces = s.interfaces;
}

-- ---- what comes as interfaces end

pub ends_one_more : (J : Journal) (x : Iface) (c : Option Change) (p : Interface) (old mid new : List Change) → Releases J x c → IsInterfaceOf J x p → mid ≡ old ++ option_to_list c
    → new ≡ mid ++ Ended p ∷ [] → AddsEnds J (x ∷ []) old new
ends_one_more J x c p old mid new releases is first last = (
  option_to_list c ++ Ended p ∷ [],
  (c, p, [], releases, is, refl, refl),
  last ∙ ap (λ cs. cs ++ Ended p ∷ []) first ∙ append_assoc old (option_to_list c) (Ended p ∷ []),
)

ends_append : (J : Journal) (xs ys : List Iface) (cs ds : List Change) → AreEnds J xs cs → AreEnds J ys ds → AreEnds J (xs ++ ys) (cs ++ ds)
ends_append J [] ys cs ds none ends = subst (λ es. AreEnds J ys (es ++ ds)) (sym none) ends
ends_append J (x ∷ xs) ys cs ds (c, p, rest, releases, is, first, are) ends =
    (c, p, rest ++ ds, releases, is, ends_append J xs ys rest ds first ends, ap (λ es. es ++ ds) are ∙ append_assoc (option_to_list c) (Ended p ∷ rest) ds)

pub ends_added : (J : Journal) (xs ys : List Iface) (old new : List Change) → AreEnds J xs old → AddsEnds J ys old new → AreEnds J (xs ++ ys) new
ends_added J xs ys old new first (ends, more, are) = subst (AreEnds J (xs ++ ys)) (sym are) (ends_append J xs ys old ends first more)

pub ends_alone : (J : Journal) (xs : List Iface) (old new : List Change) → old ≡ [] → AddsEnds J xs old new → AreEnds J xs new
ends_alone J xs old new none adds = ends_added J [] xs old new none adds

-- nothing is added
pub no_end_added : (J : Journal) (cs : List Change) → AddsEnds J [] cs cs
no_end_added J cs = ([], refl, sym (append-nil cs))

-- at most two for each
pub few_ends : (J : Journal) (xs : List Iface) (cs : List Change) → AreEnds J xs cs → length cs ≤ 2 * length xs
few_ends J [] cs none = let e = ap (λ (ds : List Change). length ds) none in omega (arith, e)
few_ends J (x ∷ xs) cs (c, p, rest, releases, is, ends, are) =
    let len = ap (λ (ds : List Change). length ds) are ∙ length-append (option_to_list c) (Ended p ∷ rest) in
    let short = option_short c in
    let less = few_ends J xs rest ends in
    omega (arith, len, short, less)

-- ---- their facts

release_is : (J : Journal) (x : Iface) (c : Option Change) → Releases J x c → facts_of (option_to_list c) ≡ released J x
release_is J x None (no_operation, no_check) = rw (no_operation, no_check) refl
release_is J x (Some (Stopped p)) (is, operates) = by (operation_of J x.index) operates refl
  where
    by : (o : Option Operation) → IsSome o → operation_of J x.index ≡ o → facts_of (Stopped p ∷ []) ≡ released J x
    by None none at = absurd cc
    by (Some o) some at = rw (at, is.index) refl
release_is J x (Some (Dropped p)) (is, no_operation, checks) = by (check_of J x.index) checks refl
  where
    by : (k : Option Check) → IsSome k → check_of J x.index ≡ k → facts_of (Dropped p ∷ []) ≡ released J x
    by None none at = absurd cc
    by (Some k) some at = rw (no_operation, at, is.index) refl
release_is J x (Some (Powered p power)) never = absurd never
release_is J x (Some (Ended p)) never = absurd never

pub ends_facts : (J : Journal) (xs : List Iface) (cs : List Change) → AreEnds J xs cs → facts_of cs ≡ flat_map (facts_of_end J) xs
ends_facts J [] cs none = ap facts_of none
ends_facts J (x ∷ xs) cs (c, p, rest, releases, is, ends, are) =
    ap facts_of are ∙ map-append fact_of (option_to_list c) (Ended p ∷ rest)
    ∙ ap (λ fs. fs ++ ended p.index ∷ facts_of rest) (release_is J x c releases)
    ∙ ap (λ i. released J x ++ ended i ∷ facts_of rest) is.index
    ∙ ap (λ fs. released J x ++ ended x.index ∷ fs) (ends_facts J xs rest ends)
    ∙ sym (append_assoc (released J x) (ended x.index ∷ []) (flat_map (facts_of_end J) xs))

-- ---- each comes to an interface that is still there

ends_spared : (J : Journal) (p : Interface) (xs : List Iface) (cs : List Change) → LacksIndex xs p.index → AreEnds J xs cs → SparesEach (Ended p) cs
ends_spared J p [] cs lacks none = subst (SparesEach (Ended p)) (sym none) tt
ends_spared J p (x ∷ xs) cs lacks (c, q, rest, releases, is, ends, are) =
    subst (SparesEach (Ended p)) (sym are) (first c releases ((λ same. lacks x (Contains-head x xs) (sym is.index ∙ same)), ends_spared J p xs rest (λ y has. lacks y (Contains-later x xs y has)) ends))
  where
    first : (c : Option Change) → Releases J x c → SparesEach (Ended p) (Ended q ∷ rest) → SparesEach (Ended p) (option_to_list c ++ Ended q ∷ rest)
    first None releases later = later
    first (Some (Stopped o)) releases later = ((λ same. lacks x (Contains-head x xs) (sym releases.0.index ∙ same)), later)
    first (Some (Dropped o)) releases later = ((λ same. lacks x (Contains-head x xs) (sym releases.0.index ∙ same)), later)
    first (Some (Powered o power)) never later = absurd never
    first (Some (Ended o)) never later = absurd never

pub ends_housed : (J : Journal) (xs : List Iface) (cs : List Change) → AreApart xs → AreEnds J xs cs → AreHoused J cs
ends_housed J [] cs apart none = subst (AreHoused J) (sym none) tt
ends_housed J (x ∷ xs) cs (lacks, apart) (c, p, rest, releases, is, ends, are) =
    subst (AreHoused J) (sym are) (first c releases ((x, is), ends_spared J p xs rest (λ y has same. lacks y has (same ∙ is.index)) ends, ends_housed J xs rest apart ends))
  where
    first : (c : Option Change) → Releases J x c → AreHoused J (Ended p ∷ rest) → AreHoused J (option_to_list c ++ Ended p ∷ rest)
    first None releases later = later
    first (Some (Stopped q)) releases later = ((x, releases.0), spares_each (Stopped q) (λ i. tt) (Ended p ∷ rest), later)
    first (Some (Dropped q)) releases later = ((x, releases.0), spares_each (Dropped q) (λ i. tt) (Ended p ∷ rest), later)
    first (Some (Powered q power)) never later = absurd never
    first (Some (Ended q)) never later = absurd never

-- ---- those of one radio

-- no more on the radio among the first ones than in all
pub few_among : (db : List Domain) (J : Journal) (r k : ℕ) → EachMayFollow db J → length (filter (λ (x : Iface). x.radio == r) (take k (ifaces_of J))) ≤ 8
few_among db J r k due =
    let few = few_on db J r due in
    let less = shorter k (ifaces_of J) in
    omega (arith, few, less)
  where
    step : (b : Bool) (x : Iface) (xs ys : List Iface) → length xs ≤ length ys → length (cond b (x ∷ xs) xs) ≤ length (cond b (x ∷ ys) ys)
    step true x xs ys less = omega (arith, less)
    step false x xs ys less = less

    shorter : (k : ℕ) (xs : List Iface) → length (filter (λ (x : Iface). x.radio == r) (take k xs)) ≤ length (filter (λ (x : Iface). x.radio == r) xs)
    shorter zero xs = omega arith
    shorter (suc k) [] = omega arith
    shorter (suc k) (x ∷ xs) = step (x.radio == r) x _ _ (shorter k xs)

-- one more interface was asked
pub ends_more : (J : Journal) (r k : ℕ) (x : Iface) (old new : List Change) → slice_get (ifaces_of J) k ≡ Some x
    → AreEnds J (filter (λ (y : Iface). y.radio == r) (take k (ifaces_of J))) old → AddsEnds J (filter (λ (y : Iface). y.radio == r) (x ∷ [])) old new
    → AreEnds J (filter (λ (y : Iface). y.radio == r) (take (k + 1) (ifaces_of J))) new
ends_more J r k x old new here first adds =
    subst (λ xs. AreEnds J xs new) (sym (ap (filter (λ (y : Iface). y.radio == r)) (take_got (ifaces_of J) k x here) ∙ filter-append (λ y. y.radio == r) (take k (ifaces_of J)) (x ∷ [])))
    (ends_added J (filter (λ y. y.radio == r) (take k (ifaces_of J))) (filter (λ y. y.radio == r) (x ∷ [])) old new first adds)

-- all were
pub ends_on_all : (J : Journal) (interfaces : List Interface) (r k : ℕ) (cs : List Change) → interfaces ≡ interfaces_of J → length interfaces ≤ k
    → AreEnds J (filter (λ (y : Iface). y.radio == r) (take k (ifaces_of J))) cs → AreEnds J (ifaces_on J r) cs
ends_on_all J interfaces r k cs are end ends =
    let len = ap (λ (ps : List Interface). length ps) are ∙ length-map (ifaces_of J) (kept J) in
    subst (λ xs. AreEnds J (filter (λ (y : Iface). y.radio == r) xs) cs) (take_all k (ifaces_of J) (omega (arith, len, end))) ends

-- what is kept of the interface and of its radio's book
pub is_of_radio : (db : List Domain) (J : Journal) (x : Iface) (r : ℕ) (interface : Interface) (radio : Radio) → EachMayFollow db J → KeepsRadio db J r radio → Contains (ifaces_of J) x
    → interface ≡ kept J x → x.radio ≡ r → IsOf db J x radio.book interface
is_of_radio db J x r interface radio due keeps there is same = record {
  due = due;
  there = there;
  interface_is = is;
  channels = map (λ c. c.khz) radio.chans.chans;
  book_is = (subst (λ n. KeepsRadio db J n radio) (sym same) keeps).book;
}
