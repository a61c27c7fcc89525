use Rattle.std.proofs.Common.{arith}
use Rattle.nl_attrs.proofs.Written.{generic_is}
use Rattle.nl_attrs.proofs.HeadLaws.{short_each}
use Rattle.nl_attrs.proofs.message_writer.put_generic.Goals as goal

pub returns-clause-message : goal.returns-clause-message
returns-clause-message c =
    generic_is _ _ _ _ _ _ _ (omega arith) (omega arith) (omega arith) (omega arith) (c.requires.family, c.requires.kinds) (omega arith) (omega arith) (short_each c.args.attrs.now (omega (arith, c.requires.fit.few))) c.requires.fit.bytes c.requires.fit.few

pub returns-in_err-put_head-clause-message : goal.returns-in_err-put_head-clause-message
returns-in_err-put_head-clause-message c =
    generic_is _ _ _ _ _ _ _ (omega arith) (omega arith) (omega arith) (omega arith) (c.requires.family, c.requires.kinds) (omega arith) (omega arith) (short_each c.args.attrs.now (omega (arith, c.requires.fit.few))) c.requires.fit.bytes c.requires.fit.few

pub returns-in_err-append-clause-message : goal.returns-in_err-append-clause-message
returns-in_err-append-clause-message c =
    generic_is _ _ _ _ _ _ _ (omega arith) (omega arith) (omega arith) (omega arith) (c.requires.family, c.requires.kinds) (omega arith) (omega arith) (short_each c.args.attrs.now (omega (arith, c.requires.fit.few))) c.requires.fit.bytes c.requires.fit.few

pub returns-in_err-put_attrs-clause-message : goal.returns-in_err-put_attrs-clause-message
returns-in_err-put_attrs-clause-message c =
    generic_is _ _ _ _ _ _ _ (omega arith) (omega arith) (omega arith) (omega arith) (c.requires.family, c.requires.kinds) (omega arith) (omega arith) (short_each c.args.attrs.now (omega (arith, c.requires.fit.few))) c.requires.fit.bytes c.requires.fit.few

pub put_attrs-requires-clause-short : goal.put_attrs-requires-clause-short
put_attrs-requires-clause-short c = short_each c.args.attrs.now (omega (arith, c.requires.fit.few))
