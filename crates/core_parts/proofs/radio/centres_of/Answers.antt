use Rattle.std.proofs.Common.{arith, sym, ap, ◌∙◌, map, ◌++◌, ◌∷◌, []}
use Rattle.std.proofs.lemmas.Option.{slice_get_within}
use Rattle.core_parts.proofs.Taken.{map-take_got, take_to_end}
use Rattle.core_parts.proofs.radio.centres_of.Goals as goal

pub channels-preserved : goal.channels-preserved
channels-preserved c =
    let chans = c.args.chans.now.chans in
    let here = sym c.in-Some.ensures in
    let within = slice_get_within chans c.channels.i c.in-Some.chan here in
    record {
      centres = c.in_ok-push.ensures.items ∙ ap (λ khz. khz ++ c.in-Some.chan.khz ∷ []) c.channels.invariant.centres
          ∙ sym (map-take_got (λ c. c.khz) chans c.channels.i c.in-Some.chan here);
      within = omega (arith, within);
    }

pub returns : goal.returns
returns c = c.channels.invariant.centres ∙ ap (map (λ c. c.khz)) (take_to_end c.args.chans.now.chans c.channels.i (sym c.in_default.ensures))
