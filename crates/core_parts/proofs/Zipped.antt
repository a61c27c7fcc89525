-- Two lists whose elements go together, one behind the other.
use Rattle.std.proofs.Common.{List, [], ◌∷◌, ◌++◌}
use Rattle.std.specs.List.{AllZip}

pub zip_append : {A B : Type 0} (R : A → B → Type 0) (xs us : List A) (ys vs : List B) → AllZip R xs ys → AllZip R us vs → AllZip R (xs ++ us) (ys ++ vs)
zip_append R [] us [] vs one other = other
zip_append R [] us (y ∷ ys) vs one other = absurd one
zip_append R (x ∷ xs) us [] vs one other = absurd one
zip_append R (x ∷ xs) us (y ∷ ys) vs one other = (one.0, zip_append R xs us ys vs one.1 other)
