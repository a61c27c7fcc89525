-- The core keeps the journal with one more fact.
use Rattle.std.proofs.Common.{◌≡◌, ℕ, ◌<◌, ◌==◌, false, List, ◌∷◌, length, get_or, arith, sym, subst}
use Rattle.std.proofs.lemmas.List.{get_or_default}
use Rattle.std.proofs.Math.ListN.{set}
use Rattle.rule_tables.specs.declared.domain.Domain.{Domain}
use Rattle.reg_journal.specs.Facts.{Fact, Journal}
use Rattle.core_parts.specs.Kept.{KeepsPlace, KeepsRadios}
use Rattle.reg_books.specs.Sparing.{SparesRadio}
use Rattle.core_parts.specs.declared.radio.RadioPlace.{RadioPlace}
use Rattle.core_parts.specs.declared.radio.RadioPlace.TheVariants.{Free}
use Rattle.core_parts.proofs.Unchanged.{KeepsRadios-at}

-- what is kept of a radio stands in its place
pub place_kept : (db : List Domain) (J : Journal) (places : List RadioPlace) (r k : ℕ) (place : RadioPlace) → KeepsRadios db J places → length places ≡ 8 → k ≡ r → k < 8
    → KeepsPlace db J r (get_or places k place)
place_kept db J places r k place kept eight same below =
    subst (λ n. KeepsPlace db J n (get_or places k place)) same
    (subst (KeepsPlace db J k) (sym (get_or_default places k place Free (omega (arith, below, eight)))) (kept k below))

-- a fact that spares each radio but one, whose place is written
pub kept_at : (db : List Domain) (J : Journal) (f : Fact) (radios : List RadioPlace) (r k : ℕ) (old new : RadioPlace) → KeepsRadios db J radios
    → ((q : ℕ) → (q == r) ≡ false → SparesRadio J q f) → length radios ≡ 8 → k < 8 → k ≡ r → old ≡ get_or radios k old
    → (KeepsPlace db J r old → KeepsPlace db (f ∷ J) r new) → KeepsRadios db (f ∷ J) (set radios k new)
kept_at db J f radios r k old new keeps spares eight below same at step =
    let place = subst (KeepsPlace db J r) (sym at) (place_kept db J radios r k old keeps eight same below) in
    KeepsRadios-at db J f radios k new (omega (arith, below, eight)) (λ q other. spares q (subst (λ n. (q == n) ≡ false) same other))
    (subst (λ n. KeepsPlace db (f ∷ J) n new) (sym same) (step place)) keeps
