use Rattle.std.proofs.Common.{refl}
use Rattle.nl_attrs.proofs.HeadLaws.{head-front, isnt_long}
use Rattle.nl_attrs.proofs.message_head.head_of.Goals as goal

pub fields_of-requires : goal.fields_of-requires
fields_of-requires c = isnt_long c.args.m.now c.requires

pub returns : goal.returns
returns c =
    let fields = c.fields_of.ensures in
    rw (c.head_array.ensures, head-front, fields.length_is, fields.kind_is, fields.flags_is, fields.seq_is, fields.pid_is) refl
