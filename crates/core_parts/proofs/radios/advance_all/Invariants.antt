use Rattle.core_parts.specs.declared.radio.RadioPlace.TheVariants.{Free}
use Rattle.core_parts.proofs.KeptOn.{Advances}
use Rattle.core_parts.proofs.Places.{AreDone}
use Rattle.core_parts.proofs.radios.advance_all.Given as goal

abbrev pub invariant-loop-place : goal.invariant-loop-place
invariant-loop-place l = AreDone (Advances l.now) Free l.initial.radios l.radios l.place-index
