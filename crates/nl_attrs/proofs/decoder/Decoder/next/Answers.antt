use Rattle.std.proofs.Common.{rules}
use Rattle.nl_attrs.proofs.StreamLaws.{fault_step, give_step, takes_found}
use Rattle.nl_attrs.proofs.decoder.Decoder.next.Goals as goal

pub returns-in-Some-clause-stream : goal.returns-in-Some-clause-stream
returns-in-Some-clause-stream c =
    rw (← c.self.view_is) (λ fed given before. (before, fault_step _ c.in-Some.fault fed given c.in-Some.is before))

pub returns-in-Ok-Some-clause-stream : goal.returns-in-Ok-Some-clause-stream
returns-in-Ok-Some-clause-stream c =
    rw (← c.self.view_is) (λ fed given before. give_step _ _ c.in-Ok-Some.message fed given (takes_found _ c.self.inside.bytes.items c.self.inside.start c.self.inside.taken c.in-Ok-Some.length c.self.inside.fault c.in-Ok-Some.message c.deref.ensures.value (search rules) (rw c.in-Ok-Some.field-0-is at c.in-Ok-Some.ensures.message)) before)
