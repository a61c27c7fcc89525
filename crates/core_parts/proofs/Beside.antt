-- The channels beside an interface are what a walk over all interfaces finds.
use Rattle.std.proofs.Common.{◌≡◌, ℕ, ◌+◌, ◌==◌, ◌<◌, ◌≤◌, cond, Bool, true, false, ◌&&◌, not, List, [], ◌∷◌, ◌++◌, length, drop, get_or, map, filter, filter_map, Option, Some, None, arith, refl, sym, ap, subst, ◌∙◌}
use Rattle.std.specs.List.{cons_option, list_any}
use Rattle.std.proofs.lemmas.Bool.{eqb-true}
use Rattle.std.proofs.lemmas.List.{at_drop_more, drop_all, get_or-map, get_or_default, length-append, length-map}
use Rattle.chan_def.specs.declared.definition.ChanDef.{ChanDef}
use Rattle.rule_tables.specs.declared.domain.Domain.{Domain}
use Rattle.dfs_states.specs.Book.{Book}
use Rattle.dfs_states.specs.StandsFor.{BookStandsFor}
use Rattle.reg_journal.specs.Facts.{Journal}
use Rattle.chan_def.specs.Same.{is_same_channel}
use Rattle.reg_journal.specs.Permits.{channel_of, distinct}
use Rattle.reg_journal.specs.Present.{Iface, ifaces_of, is_apart}
use Rattle.reg_journal.proofs.Distinct.{gathered, length-gathered}
use Rattle.reg_books.specs.Calls.{calls_of, opening_of}
use Rattle.core_parts.specs.Contexts.{IsBeside, IsOf, added, channel_beside}
use Rattle.core_parts.specs.Judging.{IsAmong}
use Rattle.core_parts.specs.Kept.{kept, interfaces_of}
use Rattle.core_parts.specs.Interfaces.{is_on_radio}
use Rattle.core_parts.specs.declared.interface.Interface.{Interface}
use Rattle.core_parts.specs.declared.radio.Radio.{Radio}

-- the walk: the channel of each interface that is another one of the radio
abbrev pub beside_all : Journal → Iface → List Iface → List ChanDef
beside_all J x ys = filter_map (channel_beside J x) ys

cons_beside : (J : Journal) (x y : Iface) (rest : List ChanDef) (ys : List Iface) (on apart : Bool) → is_apart x.index y ≡ apart
    → rest ≡ filter_map (channel_of J) (filter (is_apart x.index) ys)
    → cons_option (cond (on && apart) (channel_of J y) None) rest ≡ filter_map (channel_of J) (filter (is_apart x.index) (cond on (y ∷ ys) ys))
cons_beside J x y rest ys false apart is same = same
cons_beside J x y rest ys true true is same =
    ap (cons_option (channel_of J y)) same ∙ ap (λ b. filter_map (channel_of J) (cond b (y ∷ filter (is_apart x.index) ys) (filter (is_apart x.index) ys))) (sym is)
cons_beside J x y rest ys true false is same =
    same ∙ ap (λ b. filter_map (channel_of J) (cond b (y ∷ filter (is_apart x.index) ys) (filter (is_apart x.index) ys))) (sym is)

-- in two steps: those of the radio, and of these the others
pub beside_each : (J : Journal) (x : Iface) (ys : List Iface) → beside_all J x ys ≡ filter_map (channel_of J) (filter (is_apart x.index) (filter (λ z. z.radio == x.radio) ys))
beside_each J x [] = refl
beside_each J x (y ∷ ys) =
    cons_beside J x y (beside_all J x ys) (filter (λ z. z.radio == x.radio) ys) (y.radio == x.radio) (is_apart x.index y) refl (beside_each J x ys)

added_longer : (found : List ChanDef) (c : ChanDef) → length found ≤ length (added found c)
added_longer found c = elim (list_any (is_same_channel c) found) as (λ b. length found ≤ length (cond b found (found ++ c ∷ []))) [
  | true ↦ omega arith
  | false ↦ let more = length-append found (c ∷ []) in omega (arith, more)
]

distinct_longer : (found cs : List ChanDef) → length found ≤ length (gathered found cs)
distinct_longer found [] = omega arith
distinct_longer found (c ∷ cs) =
    let more = added_longer found c in
    let rest = distinct_longer (added found c) cs in
    omega (arith, more, rest)

-- ---- one interface

-- the channel of another one of the radio
pub beside_other : (J : Journal) (x y : Iface) (interface other : Interface) → interface ≡ kept J x → other ≡ kept J y → (other.index == interface.index) ≡ false → is_on_radio interface.radio other ≡ true
    → channel_of J y ≡ channel_beside J x y
beside_other J x y interface other interface_is other_is apart on = sym (ap (λ b. cond (b && is_apart x.index y) (channel_of J y) None) same ∙ ap (λ b. cond (not b) (channel_of J y) None) differs)
  where
    same : (y.radio == x.radio) ≡ true
    same = subst (λ (p : Interface). (y.radio == p.radio) ≡ true) interface_is (subst (λ (p : Interface). (p.radio == interface.radio) ≡ true) other_is on)

    differs : (y.index == x.index) ≡ false
    differs = subst (λ (p : Interface). (y.index == p.index) ≡ false) interface_is (subst (λ (p : Interface). (p.index == interface.index) ≡ false) other_is apart)

-- what is kept of it, on the same radio
pub is_of_other : (db : List Domain) (J : Journal) (x y : Iface) (book : Book) (interface other : Interface) → IsBeside db J x y book interface other → is_on_radio interface.radio other ≡ true
    → IsOf db J y book other
is_of_other db J x y book interface other is on = record {
  due = is.of.due;
  there = is.other_there;
  interface_is = is.other_is;
  channels = is.of.channels;
  book_is = subst (λ r. BookStandsFor book is.of.channels (opening_of db r) (calls_of db J r)) (sym same) is.of.book_is;
}
  where
    same : y.radio ≡ x.radio
    same = eqb-true y.radio x.radio
        (subst (λ (p : Interface). (y.radio == p.radio) ≡ true) is.of.interface_is (subst (λ (p : Interface). (p.radio == interface.radio) ≡ true) is.other_is on))

-- ---- the walk

-- one interface more
walk_more : (J : Journal) (x y : Iface) (found : List ChanDef) (ys : List Iface) (i : ℕ) (o : Option ChanDef) → i < length ys → y ≡ get_or ys i y → o ≡ channel_beside J x y
    → gathered found (beside_all J x (drop i ys)) ≡ gathered found (cons_option o (beside_all J x (drop (i + 1) ys)))
walk_more J x y found ys i o within here is =
    at_drop_more (λ zs. gathered found (beside_all J x zs)) ys i y within
    ∙ ap (λ (z : Iface). gathered found (cons_option (channel_beside J x z) (beside_all J x (drop (i + 1) ys)))) (sym here)
    ∙ ap (λ p. gathered found (cons_option p (beside_all J x (drop (i + 1) ys)))) (sym is)

-- the interface at a place of what is kept
record IsAt (J : Journal) (ys : List Iface) (i : ℕ) (interface : Interface) : Type 0 where
  pub iface : Iface
  pub within : i < length ys
  pub here : iface ≡ get_or ys i iface
  pub is : interface ≡ kept J iface

kept_at : (J : Journal) (x : Iface) (interfaces : List Interface) (i : ℕ) (d : Interface) → interfaces ≡ interfaces_of J → i < length interfaces → IsAt J (ifaces_of J) i (get_or interfaces i d)
kept_at J x interfaces i d same below = record {
  iface = y;
  within = within;
  here = get_or_default (ifaces_of J) i x y within;
  is = ap (λ ps. get_or ps i d) same ∙ get_or-map (kept J) (ifaces_of J) i x d within;
}
  where
    within : i < length (ifaces_of J)
    within = let all = ap length same in let mapped = length-map (ifaces_of J) (kept J) in omega (arith, below, all, mapped)

    y : Iface
    y = get_or (ifaces_of J) i x

beside_at : (db : List Domain) (J : Journal) (x : Iface) (book : Book) (interface other : Interface) (i : ℕ) → IsOf db J x book interface → (at_place : IsAt J (ifaces_of J) i other)
    → IsBeside db J x at_place.iface book interface other
beside_at db J x book interface other i is at_place = record {
  of = is;
  other_there = (i, at_place.within, sym at_place.here);
  other_is = at_place.is;
}

-- what is kept of the interface and of its radio's book
of_among : (db : List Domain) (J : Journal) (x : Iface) (interface : Interface) (interfaces : List Interface) (radio : Radio) → IsAmong db J x interface interfaces radio → IsOf db J x radio.book interface
of_among db J x interface interfaces radio is = record {
  due = is.due;
  there = is.there;
  interface_is = is.interface_is;
  channels = map (λ c. c.khz) radio.chans.chans;
  book_is = is.radio_is.book;
}

-- so a walk over one interface more still gives all
pub walk_on : (db : List Domain) (J : Journal) (x : Iface) (interface : Interface) (interfaces : List Interface) (radio : Radio) (other : Interface) (i : ℕ) (found all : List ChanDef) (o : Option ChanDef)
    → IsAmong db J x interface interfaces radio → i < length interfaces → other ≡ get_or interfaces i other → ((y : Iface) → IsBeside db J x y radio.book interface other → o ≡ channel_beside J x y)
    → gathered found (beside_all J x (drop i (ifaces_of J))) ≡ all → gathered found (cons_option o (beside_all J x (drop (i + 1) (ifaces_of J)))) ≡ all
walk_on db J x interface interfaces radio other i found all o is within here told so_far =
    let at_place : IsAt J (ifaces_of J) i other = subst (λ p. IsAt J (ifaces_of J) i p) (sym here) (kept_at J x interfaces i other is.interfaces_are within) in
    let y = at_place.iface in
    let beside = beside_at db J x radio.book interface other i (of_among db J x interface interfaces radio is) at_place in
    sym (walk_more J x y found (ifaces_of J) i o at_place.within at_place.here (told y beside)) ∙ so_far

-- the rest of the walk adds to what is found
pub walk_passes : (J : Journal) (x : Iface) (ys : List Iface) (found all : List ChanDef) (c : ChanDef) (o : Option ChanDef) (most : ℕ) → o ≡ Some c → most < length (added found c)
    → gathered found (cons_option o (beside_all J x ys)) ≡ all → most < length all
walk_passes J x ys found all c o most some passes walked =
    let same = ap length (sym (ap (λ p. gathered found (cons_option p (beside_all J x ys))) some) ∙ walked) in
    let rest = distinct_longer (added found c) (beside_all J x ys) in
    omega (arith, passes, same, rest)

-- what the walk found there is among the found channels
pub walk_some : (found new rest all : List ChanDef) (c : ChanDef) (o : Option ChanDef) → o ≡ Some c → new ≡ added found c → gathered found (cons_option o rest) ≡ all → gathered new rest ≡ all
walk_some found new rest all c o some same walked = ap (λ cs. gathered cs rest) same ∙ sym (ap (λ p. gathered found (cons_option p rest)) some) ∙ walked

pub walk_none : (found new rest all : List ChanDef) (o : Option ChanDef) → o ≡ None → new ≡ found → gathered found (cons_option o rest) ≡ all → gathered new rest ≡ all
walk_none found new rest all o none same walked = ap (λ cs. gathered cs rest) same ∙ sym (ap (λ p. gathered found (cons_option p rest)) none) ∙ walked

-- at its end no more are found than the radio can be on
pub walk_ended : (J : Journal) (x : Iface) (interfaces : List Interface) (found all : List ChanDef) (i most : ℕ) → interfaces ≡ interfaces_of J → length interfaces ≤ i
    → gathered found (beside_all J x (drop i (ifaces_of J))) ≡ gathered [] all → length found ≤ most → most < length (distinct all) → ⊥
walk_ended J x interfaces found all i most same past walked few more =
    let each = ap length same in
    let mapped = length-map (ifaces_of J) (kept J) in
    let none : drop i (ifaces_of J) ≡ [] = drop_all i (ifaces_of J) (omega (arith, past, each, mapped)) in
    let ended = ap length (sym (ap (λ ys. gathered found (beside_all J x ys)) none) ∙ walked) in
    let counted = length-gathered all in
    omega (arith, ended, counted, few, more)
