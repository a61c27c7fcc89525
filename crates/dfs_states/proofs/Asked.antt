-- What a book answers.
use Rattle.std.proofs.Common.{◌≡◌, ℕ, zero, suc, ◌+◌, ◌≤◌, ◌<◌, List, [], ◌∷◌, ◌++◌, length, map, take, get_or, Contains, Bool, Option, Some, None, arith, refl, sym, ap, subst, ◌∙◌}
use Rattle.std.proofs.lemmas.List.{length-map, map-append, get_or-map, get_or_default, take_more}
use Rattle.std.proofs.lemmas.List.Elements.{All-push}
use Rattle.chan_def.specs.declared.definition.ChanDef.{ChanDef}
use Rattle.dfs_states.specs.Book.{Book}
use Rattle.dfs_states.specs.Calls.{Call, Begin, moment_of}
use Rattle.dfs_states.specs.Greatest.{IsMost}
use Rattle.dfs_states.specs.Meaning.{HasNonoccupancy, IsPastNonoccupancy, IsFreeSlot, IsBookState, IsBookAnswer, IsRunning}
use Rattle.dfs_states.specs.StandsFor.{IsCheck, IsPlace, BookStandsFor}
use Rattle.dfs_states.specs.inner.Steps.{ArePlaces}
use Rattle.dfs_states.specs.declared.check.Check.{Check}
use Rattle.dfs_states.specs.declared.dfs.Dfs.{Dfs}
use Rattle.dfs_states.specs.declared.dfs.Dfs.TheVariants.{Usable}
use Rattle.dfs_states.specs.declared.place.Place.{Place}

-- the latest end of a nonoccupancy is past or present, or there is none
pub quiet_means : (calls : List Call) (khz moment : ℕ) (until : Option ℕ) → moment_of calls ≡ moment → IsMost (HasNonoccupancy calls khz) until
    → ((n : ℕ) → until ≡ Some n → n ≤ moment) → IsPastNonoccupancy calls khz
quiet_means calls khz moment None now is over = λ until barred. absurd (is until barred)
quiet_means calls khz moment (Some most) now is over = λ until barred.
    let below = is.none_above until barred in
    let past = over most refl in
    omega arith

-- the answer for a centre of the book
pub answer_there : (book : Book) (channels : List ℕ) (opening : Bool) (calls : List Call) (khz : ℕ) (dfs : Dfs) (p : Place) → BookStandsFor book channels opening calls
    → Contains book.places p → p.khz ≡ khz → (IsPlace opening calls p → IsBookState opening calls p.khz dfs) → IsBookAnswer channels opening calls khz dfs
answer_there book channels opening calls khz dfs p stands has same means = record {
  of_channel = λ listed. subst (λ k. IsBookState opening calls k dfs) same (means is);
  of_other = λ unlisted. absurd (unlisted (subst (λ ks. Contains ks khz) stands.centres (subst (λ k. Contains (map centre book.places) k) same listed)));
}
  where
    centre : Place → ℕ
    centre q = q.khz

    is : IsPlace opening calls p
    is = subst (IsPlace opening calls) has.2 (stands.places has.0 p has.1)

    listed : Contains (map centre book.places) p.khz
    listed =
        let below = has.1 in
        (has.0, omega (arith, length-map book.places centre), get_or-map centre book.places has.0 p p.khz has.1 ∙ ap centre has.2)

-- and for any other
pub answer_none : (book : Book) (channels : List ℕ) (opening : Bool) (calls : List Call) (khz : ℕ) → BookStandsFor book channels opening calls
    → ((p : Place) → Contains book.places p → p.khz ≡ khz → ⊥) → IsBookAnswer channels opening calls khz Usable
answer_none book channels opening calls khz stands none = record {
  of_channel = λ listed. absurd (apart (subst (λ ks. Contains ks khz) (sym stands.centres) listed));
  of_other = λ unlisted. refl;
}
  where
    centre : Place → ℕ
    centre q = q.khz

    some_place : Place
    some_place = record { khz = khz; until = None; since = None; used = None; counts = [] }

    apart : Contains (map centre book.places) khz → ⊥
    apart listed =
        let below = listed.1 in
        let within : listed.0 < length book.places = omega (arith, length-map book.places centre) in
        let p = get_or book.places listed.0 some_place in
        none p (listed.0, within, get_or_default book.places listed.0 p some_place within)
        (sym (get_or-map centre book.places listed.0 some_place khz within) ∙ listed.2)

pub running_means : (calls : List Call) (slot : ℕ) (check : Check) → IsCheck calls slot (Some check) → IsRunning calls slot (Some (check.chan, check.end))
running_means calls slot check is = (check.start, is)

abbrev pub no_check : Option Check
no_check = None

-- so many empty slots
abbrev pub slots : {X : Type 0} → ℕ → List (Option X)
slots zero = []
slots (suc n) = None ∷ slots n

pub idle_means : (calls : List Call) (slot : ℕ) (check : Option Check) → check ≡ None → IsCheck calls slot check → IsRunning calls slot None
idle_means calls slot check none is = subst (λ o. IsCheck calls slot o) none is

-- one more channel, on which nothing has happened
pub places_more : (channels : List ℕ) (places : List Place) (i d : ℕ) (p : Place) → i < length channels → p.khz ≡ get_or channels i d → ((opening : Bool) → IsPlace opening [] p)
    → ArePlaces (take i channels) places → ArePlaces (take (i + 1) channels) (places ++ p ∷ [])
places_more channels places i d p within same is are = record {
  centres = map-append (λ q. q.khz) places (p ∷ []) ∙ cc (are.centres, same, take_more channels i d within);
  each = λ opening. All-push (IsPlace opening []) places p (are.each opening) (is opening);
}

pub stands_opening : (channels : List ℕ) (places : List Place) (lasts : Bool) (checks : List (Option Check)) (operations : List (Option ChanDef))
    → ArePlaces channels places → ((slot : ℕ) → get_or checks slot None ≡ None) → ((slot : ℕ) → get_or operations slot None ≡ None)
    → BookStandsFor (record { moment = 0; lasts = lasts; checks = checks; operations = operations; places = places }) channels lasts []
stands_opening channels places lasts checks operations are empty unset = record {
  due = tt;
  moment = refl;
  lasts = refl;
  centres = are.centres;
  checks = λ slot. subst (λ o. IsCheck [] slot o) (sym (empty slot)) (idle slot);
  operations = unset;
  places = are.each lasts;
}
  where
    nothing : (newer : List Call) (call : Call) (older : List Call) → [] ≡ newer ++ call ∷ older → ⊥
    nothing [] call older at = cc
    nothing (x ∷ newer) call older at = cc

    idle : (slot : ℕ) → IsFreeSlot [] slot
    idle slot = λ busy. nothing busy.runs.newer (Begin slot busy.chan busy.runs.length) busy.runs.older busy.runs.begun

-- each of them is empty
pub empty_at : {X : Type 0} (n slot : ℕ) → get_or (slots {X = X} n) slot None ≡ None
empty_at zero slot = refl
empty_at (suc n) zero = refl
empty_at {X} (suc n) (suc slot) = empty_at {X = X} n slot
