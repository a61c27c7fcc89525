-- Blocks that cover a control channel.
use Rattle.std.proofs.Common.{◌≡◌, ℕ, ◌^◌, ◌<◌, List, length, get_or, Contains, Option, Some, None, MatchOption, IfSome, sym, subst, ◌∙◌}
use Rattle.std.proofs.lemmas.List.{get_or_default}
use Rattle.chan_def.specs.Covered.{IsInside}
use Rattle.chan_def.specs.Words.{blocks_80, blocks_160, GivesCentre}
use Rattle.chan_def.specs.declared.iw_word.IwWord.TheVariants.{Vht80, Vht160}

-- where no element by its place covers the control channel, none does
pub none_inside : (blocks : List ℕ) (width control : ℕ) → ((k : ℕ) → k < length blocks → IsInside width (get_or blocks k 0) control → ⊥)
    → (centre : ℕ) → Contains blocks centre → IsInside width centre control → ⊥
none_inside blocks width control none centre has inside =
    let same : get_or blocks has.0 0 ≡ centre = get_or_default blocks has.0 0 centre has.1 ∙ has.2 in
    none has.0 has.1 (subst (λ (b : ℕ). IsInside width b control) (sym same) inside)

-- the block that covers the control channel is the centre that the word gives
pub centre-80 : (block : Option ℕ) (control : ℕ)
    → MatchOption block ((b : ℕ) → Contains blocks_80 b → IsInside 80000 b control → ⊥) (λ b. Contains blocks_80 b × IsInside 80000 b control)
    → IfSome block (λ b. b < 2 ^ 32)
    → MatchOption block ((b : ℕ) → GivesCentre Vht80 control b → ⊥) (λ b. GivesCentre Vht80 control b)
centre-80 None control none fits = λ b gives. none b gives.placed gives.covers_control
centre-80 (Some b) control is fits = record { placed = is.0; covers_control = is.1; fits = fits }

pub centre-160 : (block : Option ℕ) (control : ℕ)
    → MatchOption block ((b : ℕ) → Contains blocks_160 b → IsInside 160000 b control → ⊥) (λ b. Contains blocks_160 b × IsInside 160000 b control)
    → IfSome block (λ b. b < 2 ^ 32)
    → MatchOption block ((b : ℕ) → GivesCentre Vht160 control b → ⊥) (λ b. GivesCentre Vht160 control b)
centre-160 None control none fits = λ b gives. none b gives.placed gives.covers_control
centre-160 (Some b) control is fits = record { placed = is.0; covers_control = is.1; fits = fits }
