use Rattle.std.proofs.Common.{arith}
use Rattle.core_parts.specs.declared.radio.RadioPlace.TheVariants.{Free}
use Rattle.core_parts.proofs.KeptOn.{Advances}
use Rattle.core_parts.proofs.Places.{all_done, none_done, one_more_done}
use Rattle.core_parts.proofs.radios.advance_all.Goals as goal

pub loop-place-init : goal.loop-place-init
loop-place-init c = none_done (Advances c.args.now) Free c.args.radios.now

pub loop-place-preserved : goal.loop-place-preserved
loop-place-preserved c =
    let same = c.loop-place.auto.radios in
    let within = c.loop-place-test.true in
    one_more_done (Advances c.args.now) Free c.args.radios.now c.loop-place.radios c.loop-place.place-index c.place-item.result c.advance.new.self c.loop-place.invariant
    (omega (arith, same, within)) (λ db J kept due. c.advance.ensures.kept db J c.loop-place.place-index kept due)

pub returns : goal.returns
returns c = let same = c.loop-place.auto.radios in let end = c.loop-place-test.false in record {
  kept = λ db J kept due r below.
      all_done (Advances c.args.now) Free c.args.radios.now c.loop-place.radios c.loop-place.place-index c.loop-place.invariant (omega (arith, same, end))
      (λ r db J free due. free) r db J (kept r below) due;
}
