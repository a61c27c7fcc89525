-- No hint empties the global list.
use Rattle.std.proofs.Common.{◌<◌, List, [], ◌∷◌, length, arith}
use Rattle.std.proofs.lemmas.List.{length-append}
use Rattle.reg_hints.specs.Table.{State, Hinted, Treated, Own, treatment, left_by, after_all, hinted_code}
use Rattle.reg_hints.specs.declared.hint.Hint.{Hint}
use Rattle.reg_hints.specs.declared.hint.Hint.TheVariants.{User, Driver, Element}
use Rattle.reg_hints.specs.declared.hint.Treatment.{Treatment}
use Rattle.reg_hints.specs.declared.hint.Treatment.TheVariants.{Replace, Intersect, Already, Ignore}

left_some : (t : Treatment) (h : Hint) (s : State) → 0 < length s.global → 0 < length (left_by t h s).global
left_some Replace h s some = omega arith
left_some Intersect h s some = omega (arith, length-append s.global (hinted_code h ∷ []))
left_some Already (User a) s some = some
left_some Already (Driver r a) s some = some
left_some Already (Element r a deaf) s some = some
left_some Ignore h s some = some

pub never_empty : (hinted : List Hinted) → 0 < length (after_all hinted).global
never_empty [] = omega arith
never_empty (Treated h ∷ earlier) = left_some (treatment (after_all earlier) h) h (after_all earlier) (never_empty earlier)
never_empty (Own r a ∷ earlier) = never_empty earlier
