use Rattle.std.proofs.Common.{sym, subst}
use Rattle.db_writer.specs.inner.Filed.{AreFiled}
use Rattle.db_writer.proofs.gather.collections_of.Goals as goal

pub collection_record-requires-clause-there : goal.collection_record-requires-clause-there
collection_record-requires-clause-there c =
    subst (AreFiled c.args.sections.now) (sym c.domain-item.is) (c.requires.there c.loop-domain.domain-index c.domain-item.result c.loop-domain-test.true)
