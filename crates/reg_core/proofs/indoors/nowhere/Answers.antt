use Rattle.std.proofs.Common.{◌≡◌, ℕ, zero, suc, false, [], ◌∷◌, get_or, refl}
use Rattle.reg_core.proofs.indoors.nowhere.Goals as goal

all_false : (r : ℕ) → get_or (false ∷ false ∷ false ∷ false ∷ false ∷ false ∷ false ∷ false ∷ []) r false ≡ false
all_false zero = refl
all_false (suc zero) = refl
all_false (suc (suc zero)) = refl
all_false (suc (suc (suc zero))) = refl
all_false (suc (suc (suc (suc zero)))) = refl
all_false (suc (suc (suc (suc (suc zero))))) = refl
all_false (suc (suc (suc (suc (suc (suc zero)))))) = refl
all_false (suc (suc (suc (suc (suc (suc (suc zero))))))) = refl
all_false (suc (suc (suc (suc (suc (suc (suc (suc r)))))))) = refl

pub returns : goal.returns
returns c = all_false
