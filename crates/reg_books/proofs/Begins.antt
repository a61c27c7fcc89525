-- CheckBegins in a slot are checks of the interface that has the slot.
use Rattle.std.proofs.Common.{◌≡◌, ℕ, List, [], ◌∷◌, ◌++◌, Some, sym, ap, subst, ◌∙◌, inl, inr, ne_eqb}
use Rattle.std.proofs.lemmas.Bool.{cases_eq}
use Rattle.rule_tables.specs.declared.domain.Domain.{Domain}
use Rattle.chan_def.specs.declared.definition.ChanDef.{ChanDef}
use Rattle.dfs_states.specs.Calls.{Begin, HasBegin}
use Rattle.reg_journal.specs.Facts.{Fact, Journal, check_begun}
use Rattle.reg_journal.specs.Present.{Check, radio_of, check_of}
use Rattle.reg_journal.specs.Due.{EachMayFollow}
use Rattle.reg_journal.specs.Radar.{HasCheck}
use Rattle.reg_books.specs.Slots.{slot_of}
use Rattle.reg_books.proofs.Apart.{slots_apart}
use Rattle.reg_books.proofs.CallOf.{comes_from, call-begin}
use Rattle.reg_journal.proofs.Homes.{home_of, radio_of_home}
use Rattle.reg_journal.proofs.LastCheck.{check_before, home_indexed, check_home}
use Rattle.reg_journal.proofs.Later.{due_older, radio_later}
use Rattle.reg_books.proofs.Later.{slot_later}
use Rattle.reg_books.proofs.Over.{whole_at, calls_over, over_at, from_over}
use Rattle.reg_journal.proofs.Splits.{check_front}

-- ---- where facts stand

-- a fact among the newer ones came where it might
pub due_at : (db : List Domain) (facts newer between base : Journal) (f : Fact) → EachMayFollow db (facts ++ base) → facts ≡ newer ++ f ∷ between
    → EachMayFollow db (f ∷ (between ++ base))
due_at db facts newer between base f due at = due_older db newer (f ∷ (between ++ base)) (subst (EachMayFollow db) (whole_at facts newer between base f at) due)

-- an interface that was there was on the radio that it has
pub home_back : (db : List Domain) (newer base : Journal) (i q r : ℕ) → EachMayFollow db (newer ++ base) → home_of base i ≡ Some q
    → radio_of (newer ++ base) i ≡ Some r → home_of base i ≡ Some r
home_back db newer base i q r due home radio =
    let was = radio_later db newer base i q due (radio_of_home db base i q (due_older db newer base due) home) in
    home ∙ sym was ∙ radio

-- so was one with a running check
pub running_home : (db : List Domain) (newer base : Journal) (i r : ℕ) (k : Check) → EachMayFollow db (newer ++ base) → radio_of (newer ++ base) i ≡ Some r
    → check_of base i ≡ Some k → home_of base i ≡ Some r
running_home db newer base i r k due radio check =
    let home = check_home db base i k (due_older db newer base due) check in
    home_back db newer base i home.0 r due home.1 radio

-- and one on which a check began
pub home_begun : (db : List Domain) (J : Journal) (i r : ℕ) (chan : ChanDef) (length : ℕ) → EachMayFollow db (check_begun i chan length ∷ J)
    → radio_of J i ≡ Some r → home_of J i ≡ Some r
home_begun db J i r chan length due radio =
    let home = home_indexed J i due.0.0.0 in
    home_back db [] J i home.0 r due.1 home.1 radio

-- it was on that radio when the check began
pub radio_begun : (db : List Domain) (newer older : Journal) (i r : ℕ) (chan : ChanDef) (length : ℕ)
    → EachMayFollow db (newer ++ check_begun i chan length ∷ older) → radio_of (newer ++ check_begun i chan length ∷ older) i ≡ Some r → radio_of older i ≡ Some r
radio_begun db newer older i r chan length due radio =
    let base : Journal = check_begun i chan length ∷ older in
    let due' = due_older db newer base due in
    let home = home_indexed older i due'.0.0.0 in
    let was : radio_of base i ≡ Some home.0 = radio_of_home db older i home.0 due'.1 home.1 in
    was ∙ sym (radio_later db newer base i home.0 due was) ∙ radio

-- ---- begins

-- a check began on an interface of the radio, which has the slot
pub record BeganIn (facts base : Journal) (r slot : ℕ) : Type 0 where
  pub newer : Journal
  pub iface : ℕ
  pub chan : ChanDef
  pub length : ℕ
  pub between : Journal
  pub at : facts ≡ newer ++ check_begun iface chan length ∷ between
  pub radio : radio_of (between ++ base) iface ≡ Some r
  pub in_slot : slot_of (between ++ base) iface ≡ slot

-- each begin in the slot is such a one
pub began_in : (db : List Domain) (facts base : Journal) (r slot : ℕ) → HasBegin (calls_over db facts base r) slot → BeganIn facts base r slot
began_in db facts base r slot has =
    let over = from_over db facts base r has.begun.newer (Begin slot has.chan has.length) has.begun.older has.begun.at in
    let from = comes_from db over.fact (over.between ++ base) r (Begin slot has.chan has.length) over.is in
    record {
      newer = over.newer;
      iface = from.0;
      chan = has.chan;
      length = has.length;
      between = over.between;
      at = over.at ∙ ap (λ f. over.newer ++ f ∷ over.between) from.1;
      radio = from.2;
      in_slot = from.3;
    }

-- a check that began on an interface began in its slot
pub begin_of_check : (db : List Domain) (facts base : Journal) (i r : ℕ) → EachMayFollow db (facts ++ base) → radio_of (facts ++ base) i ≡ Some r
    → HasCheck facts i → HasBegin (calls_over db facts base r) (slot_of (facts ++ base) i)
begin_of_check db facts base i r due radio has =
    let before : Journal = has.older ++ base in
    let begun : Journal = check_begun i has.chan has.length ∷ before in
    let whole = whole_at facts has.newer has.older base (check_begun i has.chan has.length) has.begun in
    let due' : EachMayFollow db (has.newer ++ begun) = subst (EachMayFollow db) whole due in
    let radio' = radio_begun db has.newer before i r has.chan has.length due' (subst (λ xs. radio_of xs i ≡ Some r) whole radio) in
    let slots : slot_of (facts ++ base) i ≡ slot_of before i = ap (λ xs. slot_of xs i) whole ∙ slot_later db has.newer begun i r due' radio' in
    subst (λ n. HasBegin (calls_over db facts base r) n) (sym slots) (record {
      chan = has.chan;
      length = has.length;
      begun = record {
        newer = calls_over db has.newer begun r;
        older = calls_over db has.older base r;
        at = over_at db facts has.newer has.older base (check_begun i has.chan has.length) r (Begin (slot_of before i) has.chan has.length) has.begun
            (call-begin db before r i has.chan has.length radio');
      };
    })

-- a check that began in the slot of a running one, since or just before that one did, is on the same interface
pub began_again : (db : List Domain) (facts base : Journal) (i r : ℕ) (k : Check) → EachMayFollow db (facts ++ base) → radio_of base i ≡ Some r
    → check_of (facts ++ base) i ≡ Some k → HasBegin (calls_over db facts base r) (slot_of base i) → HasCheck facts i
began_again db facts base i r k due radio check has =
    let began = began_in db facts base r (slot_of base i) has in
    let fact : Fact = check_begun began.iface began.chan began.length in
    let before : Journal = began.between ++ base in
    let whole = whole_at facts began.newer began.between base fact began.at in
    let due' : EachMayFollow db (began.newer ++ fact ∷ before) = subst (EachMayFollow db) whole due in
    let due_begun : EachMayFollow db (fact ∷ before) = due_older db began.newer (fact ∷ before) due' in
    elim (cases_eq began.iface i) [
      | inl same ↦ this began same
      | inr other ↦ elim (check_before db began.newer (fact ∷ before) i k due' (subst (λ xs. check_of xs i ≡ Some k) whole check)) [
        | inl again ↦ subst (λ xs. HasCheck xs i) (sym began.at) (check_front began.newer (fact ∷ began.between) i again)
        | inr was ↦
            let radio' = radio_later db began.between base i r due_begun.1 radio in
            let runs : check_of before i ≡ Some k = rw (ne_eqb i began.iface (λ same. other (sym same))) at was in
            let home = running_home db [] before i r k due_begun.1 radio' runs in
            let home' = home_begun db before began.iface r began.chan began.length due_begun began.radio in
            let slot : slot_of before i ≡ slot_of base i = slot_later db began.between base i r due_begun.1 radio in
            this began (slots_apart db before began.iface i r due_begun.1 home' home (began.in_slot ∙ sym slot))
      ]
    ]
  where
    this : (began : BeganIn facts base r (slot_of base i)) → began.iface ≡ i → HasCheck facts i
    this began same = record {
      newer = began.newer;
      chan = began.chan;
      length = began.length;
      older = began.between;
      begun = began.at ∙ ap (λ n. began.newer ++ check_begun n began.chan began.length ∷ began.between) same;
    }
