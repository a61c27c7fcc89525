use Rattle.std.proofs.Common.{refl, sym, ◌∙◌}
use Rattle.nl_attrs.proofs.StreamLaws.{feed_step, none_from_test, held_more}
use Rattle.nl_attrs.proofs.decoder.Decoder.feed.Goals as goal

pub returns-clause-stream : goal.returns-clause-stream
returns-clause-stream c =
    let free = none_from_test c.self.inside.fault (sym c.is_some.ensures ∙ c.if-is_some.false) in
    rw (← c.self.view_is) (λ fed given before. feed_step _ _ c.args.piece.now fed given free (held_more c.self.inside.bytes.items c.close_up-self-inside.new.bytes.items _ _ c.self.inside.start _ c.close_up-self-inside.ensures.within c.close_up-self-inside.ensures.rest c.in_ok-extend_from_slice.ensures.items) refl free before)
