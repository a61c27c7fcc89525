-- Lists of what comes to interfaces, each at most once.
use Rattle.std.proofs.Common.{◌≡◌, ℕ, ◌+◌, ◌<◌, ◌≤◌, Bool, true, false, List, [], ◌∷◌, ◌++◌, length, take, filter, get_or, slice_get, Option, Some, None, MatchBool, MatchOption, append_assoc, append-nil, arith, refl, sym, ap, subst, ◌∙◌, inl, inr, ne_eqb}
use Rattle.std.specs.List.{cons_option, filter_map}
use Rattle.std.specs.Option.{option_to_list}
use Rattle.std.proofs.lemmas.List.{length-append, take_more}
use Rattle.std.proofs.lemmas.List.Elements.{filter_map-append}
use Rattle.std.proofs.lemmas.Option.{none-some, slice_get_cases}
use Rattle.rule_tables.specs.declared.domain.Domain.{Domain}
use Rattle.reg_journal.specs.Due.{EachMayFollow}
use Rattle.reg_journal.specs.Effects.{effect_of, effects_of}
use Rattle.reg_journal.specs.Facts.{Fact, Journal, after, ended}
use Rattle.reg_journal.specs.Present.{Check, Iface, Operation, check_of, ifaces_of, indexed, is_apart, operation_of}
use Rattle.reg_journal.specs.Sweep.{AreSwept, Becomes, CheckBecomes, OperationBecomes}
use Rattle.reg_journal.specs.declared.effects.Effect.{Effect}
use Rattle.reg_journal.specs.declared.effects.Effect.TheVariants.{Stopped as EffectStopped, Dropped as EffectDropped, Power}
use Rattle.reg_journal.proofs.Indexes.{apart-filter, ifaces_apart}
use Rattle.reg_journal.proofs.Lasting.{Contains-kept}
use Rattle.reg_journal.proofs.Swept.{swept_due}
use Rattle.radio_drv.specs.Seen.{Seen}
use Rattle.reg_core.specs.Kept.{Keeps}
use Rattle.reg_core.specs.declared.core_state.Core.{Core}
use Rattle.core_parts.specs.Changes.{AreEachTold, CanAllCome, IsInterfaceOf, effect_in, fact_of, facts_of, interface_in}
use Rattle.reg_core.specs.inner.Sweeping.{AreEach, IsSweepOf, Judges, is_wanted, wanted}
use Rattle.core_parts.specs.declared.change.Change.{Change}
use Rattle.core_parts.specs.declared.change.Change.TheVariants.{Stopped, Powered, Dropped, Ended}
use Rattle.core_parts.specs.declared.interface.Interface.{Interface}
use Rattle.reg_journal.proofs.Listed.{Contains-filter, indexed_listed}
use Rattle.core_parts.proofs.Taken.{take_got}

-- ---- over lists

option_all : {X : Type 0} (o : Option X) (xs : List X) → option_to_list o ++ xs ≡ cons_option o xs
option_all None xs = refl
option_all (Some x) xs = refl

pub each-push : (how : Iface → Option Change → Type 0) (xs : List Iface) (x : Iface) (cs : List Change) (c : Option Change) → AreEach how xs cs → how x c
    → AreEach how (xs ++ x ∷ []) (cs ++ option_to_list c)
each-push how [] x cs c none is = (c, [], is, refl, ap (λ xs. xs ++ option_to_list c) none ∙ sym (append-nil (option_to_list c)))
each-push how (y ∷ xs) x cs c (d, rest, first, each, are) is =
    (d, rest ++ option_to_list c, first, each-push how xs x rest c each is, ap (λ xs. xs ++ option_to_list c) are ∙ append_assoc (option_to_list d) rest (option_to_list c))

pub each-more : (how : Iface → Option Change → Type 0) (xs : List Iface) (k : ℕ) (cs all : List Change) (c : Option Change) → k < length xs → AreEach how (take k xs) cs
    → ((x : Iface) → slice_get xs k ≡ Some x → how x c) → all ≡ cs ++ option_to_list c → AreEach how (take (k + 1) xs) all
each-more how xs k cs all c within each is more = elim (slice_get_cases xs k).1 [
  | inl there ↦
      subst (λ ds. AreEach how (take (k + 1) xs) ds) (sym more)
      (subst (λ ys. AreEach how ys (cs ++ option_to_list c)) (sym (take_got xs k there.0 there.2)) (each-push how (take k xs) there.0 cs c each (is there.0 there.2)))
  | inr past ↦ let end = past.0 in absurd (omega (arith, end, within))
]

-- those alone that pass a test, where nothing comes to the others
pub each-filter : (p : Iface → Bool) (how : Iface → Option Change → Type 0) (xs : List Iface) (cs : List Change)
    → AreEach (λ x c. MatchBool (p x) (how x c) (c ≡ None)) xs cs → AreEach how (filter p xs) cs
each-filter p how [] cs none = none
each-filter p how (x ∷ xs) cs (c, rest, is, each, are) = by (p x) refl is (each-filter p how xs rest each)
  where
    by : (b : Bool) → p x ≡ b → MatchBool b (how x c) (c ≡ None) → AreEach how (filter p xs) rest → AreEach how (filter p (x ∷ xs)) cs
    by true passes is later = rw passes (c, rest, is, later, are)
    by false fails is later = rw fails (subst (AreEach how (filter p xs)) (sym (are ∙ ap (λ o. option_to_list o ++ rest) is)) later)

pub few_each : (how : Iface → Option Change → Type 0) (xs : List Iface) (cs : List Change) → AreEach how xs cs → length cs ≤ length xs
few_each how [] cs none = let e = ap (λ (ds : List Change). length ds) none in omega (arith, e)
few_each how (x ∷ xs) cs (None, rest, is, each, are) = let e = ap (λ (ds : List Change). length ds) are in let less = few_each how xs rest each in omega (arith, e, less)
few_each how (x ∷ xs) cs (Some c, rest, is, each, are) = let e = ap (λ (ds : List Change). length ds) are in let less = few_each how xs rest each in omega (arith, e, less)

-- ---- the facts of a sweep

pub swept_of : (db : List Domain) (J : Journal) (xs : List Iface) (cs : List Change) → AreEach (Judges db J) xs cs → AreSwept db J xs (facts_of cs)
swept_of db J [] cs none = ap facts_of none
swept_of db J (x ∷ xs) cs (None, rest, is, each, are) = (None, facts_of rest, is, swept_of db J xs rest each, ap facts_of are)
swept_of db J (x ∷ xs) cs (Some c, rest, is, each, are) = (Some (fact_of c), facts_of rest, is.1, swept_of db J xs rest each, ap facts_of are)

-- the change leaves the interface of this index there
abbrev pub SparesIndex : Change → ℕ → Type 0
SparesIndex (Ended p) i = i ≡ p.index → ⊥
SparesIndex c i = Unit {0}

-- and those to which the other changes come
abbrev pub SparesEach : Change → List Change → Type 0
SparesEach c [] = Unit {0}
SparesEach c (d ∷ cs) = SparesIndex c (interface_in d).index × SparesEach c cs

-- each comes to an interface that is there, and that none before it ends
abbrev pub AreHoused : Journal → List Change → Type 0
AreHoused J [] = Unit {0}
AreHoused J (c ∷ cs) = ((x : Iface) × IsInterfaceOf J x (interface_in c)) × SparesEach c cs × AreHoused J cs

-- one that ends no interface
pub spares_each : (c : Change) → ((i : ℕ) → SparesIndex c i) → (cs : List Change) → SparesEach c cs
spares_each c spares [] = tt
spares_each c spares (d ∷ cs) = (spares (interface_in d).index, spares_each c spares cs)

-- a sweep ends none
swept_spares : (db : List Domain) (J : Journal) (x : Iface) (c : Change) → Becomes db J x (Some (fact_of c)) → (i : ℕ) → SparesIndex c i
swept_spares db J x (Stopped p) becomes i = tt
swept_spares db J x (Powered p power) becomes i = tt
swept_spares db J x (Dropped p) becomes i = tt
swept_spares db J x (Ended p) becomes i = by (operation_of J x.index) (check_of J x.index) becomes
  where
    by : (o : Option Operation) (k : Option Check)
        → MatchOption o (MatchOption k (Some (ended p.index) ≡ None) (λ k. CheckBecomes db J x k (Some (ended p.index)))) (λ o. OperationBecomes db J x o (Some (ended p.index)))
        → SparesIndex (Ended p) i
    by None None none = absurd (none-some (ended p.index) (sym none))
    by None (Some k) never = absurd never
    by (Some o) k never = absurd never

pub housed_of : (db : List Domain) (J : Journal) (xs : List Iface) (cs : List Change) → AreEach (Judges db J) xs cs → AreHoused J cs
housed_of db J [] cs none = subst (AreHoused J) (sym none) tt
housed_of db J (x ∷ xs) cs (None, rest, is, each, are) = subst (AreHoused J) (sym are) (housed_of db J xs rest each)
housed_of db J (x ∷ xs) cs (Some c, rest, is, each, are) =
    subst (AreHoused J) (sym are) ((x, is.0), spares_each c (swept_spares db J x c is.1) rest, housed_of db J xs rest each)

interface_stays : (J : Journal) (c : Change) (x : Iface) (p : Interface) → SparesIndex c p.index → IsInterfaceOf J x p → IsInterfaceOf (fact_of c ∷ J) x p
interface_stays J (Stopped q) x p spares is = record { there = is.there; index = is.index; name = is.name; radio = is.radio; slot = is.slot; kind = is.kind }
interface_stays J (Powered q power) x p spares is = record { there = is.there; index = is.index; name = is.name; radio = is.radio; slot = is.slot; kind = is.kind }
interface_stays J (Dropped q) x p spares is = record { there = is.there; index = is.index; name = is.name; radio = is.radio; slot = is.slot; kind = is.kind }
interface_stays J (Ended q) x p spares is = record {
  there = Contains-kept (is_apart q.index) (ifaces_of J) x is.there (rw (ne_eqb x.index q.index (λ same. spares (is.index ∙ same))) refl);
  index = is.index;
  name = is.name;
  radio = is.radio;
  slot = is.slot;
  kind = is.kind;
}

housed_stays : (J : Journal) (c : Change) (cs : List Change) → SparesEach c cs → AreHoused J cs → AreHoused (fact_of c ∷ J) cs
housed_stays J c [] spares housed = tt
housed_stays J c (d ∷ cs) (spares, later) ((x, is), apart, housed) = ((x, interface_stays J c x (interface_in d) spares is), apart, housed_stays J c cs later housed)

pub due_before : (db : List Domain) (facts : List Fact) (J : Journal) → EachMayFollow db (after facts J) → EachMayFollow db J
due_before db [] J due = due
due_before db (f ∷ facts) J due = (due_before db facts (f ∷ J) due).1

pub can_come : (db : List Domain) (J : Journal) (cs : List Change) → EachMayFollow db (after (facts_of cs) J) → AreHoused J cs → CanAllCome db J cs
can_come db J [] due housed = tt
can_come db J (c ∷ cs) due (first, spares, housed) =
    ((due_before db (facts_of cs) (fact_of c ∷ J) due).0, first, can_come db (fact_of c ∷ J) cs due (housed_stays J c cs spares housed))

-- ---- their effects

effect_alike : (J : Journal) (c : Change) (x : Iface) → indexed J (interface_in c).index ≡ Some x → (interface_in c).name ≡ x.name → effect_in c ≡ effect_of J (fact_of c)
effect_alike J (Stopped p) x is name = rw is (ap (λ n. Some (EffectStopped n)) name)
effect_alike J (Powered p power) x is name = rw is (ap (λ n. Some (Power n power)) name)
effect_alike J (Dropped p) x is name = rw is (ap (λ n. Some (EffectDropped n)) name)
effect_alike J (Ended p) x is name = refl

-- told by the interfaces of a journal that has the same ones
pub effects_alike : (db : List Domain) (J K : Journal) (cs : List Change) → EachMayFollow db K → ((i : ℕ) → indexed J i ≡ indexed K i) → AreHoused K cs
    → filter_map effect_in cs ≡ effects_of J (facts_of cs)
effects_alike db J K [] due same housed = refl
effects_alike db J K (c ∷ cs) due same ((x, is), spares, housed) =
    let found : indexed J (interface_in c).index ≡ Some x = same (interface_in c).index ∙ ap (indexed K) is.index ∙ indexed_listed db K x due is.there in
    ap (λ o. cons_option o (filter_map effect_in cs)) (effect_alike J c x found is.name)
    ∙ ap (λ es. cons_option (effect_of J (fact_of c)) es) (effects_alike db J K cs due same housed)

-- ---- sweeps of wanted interfaces

pub wanted_all : (xs : List Iface) → wanted None xs ≡ xs
wanted_all [] = refl
wanted_all (x ∷ xs) = ap (λ ys. x ∷ ys) (wanted_all xs)

pub sweep_of_all : (db : List Domain) (J : Journal) (xs : List Iface) (new : Core) (row row' : List (Option Seen)) (effects : List Effect) → IsSweepOf db J (wanted None xs) new row row' effects
    → IsSweepOf db J xs new row row' effects
sweep_of_all db J xs new row row' effects sweep = subst (λ ys. IsSweepOf db J ys new row row' effects) (wanted_all xs) sweep

-- what they give may come
pub sweep_can_come : (db : List Domain) (J : Journal) (only : Option ℕ) (cs : List Change) → EachMayFollow db J → AreEach (Judges db J) (wanted only (ifaces_of J)) cs → CanAllCome db J cs
sweep_can_come db J only cs due each =
    can_come db J cs
    (swept_due db J (wanted only (ifaces_of J)) (facts_of cs) due (apart-filter (is_wanted only) (ifaces_of J) (ifaces_apart db J due))
    (λ x has. (Contains-filter (is_wanted only) (ifaces_of J) x has).1) (swept_of db J (wanted only (ifaces_of J)) cs each)).due
    (housed_of db J (wanted only (ifaces_of J)) cs each)

pub swept_whole : (db : List Domain) (J : Journal) (only : Option ℕ) (cs taken told : List Change) (old new : Core) (row row' : List (Option Seen)) (effects : List Effect) → Keeps db old J
    → AreEach (Judges db J) (wanted only (ifaces_of J)) cs → taken ≡ cs → told ≡ cs → (Keeps db old J → CanAllCome db J taken → Keeps db new (after (facts_of taken) J)) → AreEachTold taken row row'
    → effects ≡ filter_map effect_in told → IsSweepOf db J (wanted only (ifaces_of J)) new row row' effects
swept_whole db J only cs taken told old new row row' effects s each is_taken is_told keeps tells are =
    let can = sweep_can_come db J only cs s.due each in
    record {
      changes = cs;
      judged = each;
      can = can;
      keeps = subst (λ ds. Keeps db new (after (facts_of ds) J)) is_taken (keeps s (subst (CanAllCome db J) (sym is_taken) can));
      told = subst (λ ds. AreEachTold ds row row') is_taken tells;
      effects_are = are ∙ ap (filter_map effect_in) is_told;
    }
