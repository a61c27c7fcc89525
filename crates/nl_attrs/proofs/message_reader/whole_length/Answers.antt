use Rattle.nl_attrs.proofs.Fronts.{whole_found}
use Rattle.nl_attrs.proofs.message_reader.whole_length.Goals as goal

pub returns : goal.returns
returns c =
    whole_found _ _ c.in_default.ensures c.if-held-lt4.false c.u32_at-length.ensures c.if-held-length.false
