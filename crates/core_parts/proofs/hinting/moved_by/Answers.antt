use Rattle.std.proofs.Common.{arith, get_or, ap, ◌∙◌}
use Rattle.std.proofs.lemmas.List.{get_or_default, length-set}
use Rattle.core_parts.specs.Hinting.{place_moved}
use Rattle.core_parts.specs.declared.radio.RadioPlace.TheVariants.{Free}
use Rattle.core_parts.proofs.Flagged.{flags_more}
use Rattle.core_parts.proofs.hinting.moved_by.Goals as goal

pub loop-number-preserved : goal.loop-number-preserved
loop-number-preserved c =
    let db = c.args.domains.now in
    let before = c.args.before.now in
    let after = c.args.after.now in
    let hint = c.args.hint.now in
    let radios = c.args.radios.now in
    let n = c.loop-number.number in
    let place = c.index-radios-number.result in
    let eight = c.requires.eight in
    let below = c.loop-number-test.true in
    let long = c.loop-number.invariant.long in
    record {
      long = length-set c.loop-number.moved n c.is_place_moved.result ∙ long;
      flags = flags_more c.loop-number.moved (λ r. place_moved db before after hint r (get_or radios r Free)) n c.is_place_moved.result (omega (arith, eight, below, long)) c.loop-number.invariant.flags
          (c.is_place_moved.ensures ∙ ap (place_moved db before after hint n) (c.index-radios-number.is ∙ get_or_default radios n place Free below));
    }

pub returns : goal.returns
returns c =
    let eight = c.requires.eight in
    let end = c.loop-number-test.false in
    λ r below. c.loop-number.invariant.flags r (omega (arith, eight, end, below))
