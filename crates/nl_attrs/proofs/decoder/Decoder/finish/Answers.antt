use Rattle.std.proofs.Common.{inl}
use Rattle.nl_attrs.proofs.StreamLaws.{fault_step}
use Rattle.nl_attrs.proofs.decoder.Decoder.finish.Goals as goal

pub returns-in-Some-clause-stream : goal.returns-in-Some-clause-stream
returns-in-Some-clause-stream c =
    rw (← c.self.view_is) (λ fed given before. inl (fault_step _ c.in-Some.fault fed given c.in-Some.is before))
