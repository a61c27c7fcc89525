use Rattle.std.proofs.Common.{subst}
use Rattle.rule_tables.specs.FileFormat.{CollectionAt}
use Rattle.db_reader.specs.inner.Parts.{IsCollectionStop}
use Rattle.db_reader.proofs.Entered.{entry_stop, new_entry}
use Rattle.db_reader.proofs.Stops.{handed_on}
use Rattle.db_reader.proofs.entries.read_entry.Goals as goal

pub returns-in_err-domain : goal.returns-in_err-domain
returns-in_err-domain c =
    let b = c.args.bytes.now in
    let k = c.args.k in
    let code = c.in_ok-alpha2.ensures in
    handed_on c.from_residual-in_err-domain.result c.in_err-domain.field-0.0 _ _ c.from_residual-in_err-domain.ensures.1
    (entry_stop b k c.args.db.now c.in_ok-alpha2.alpha2 c.in_err-domain.field-0.0 c.requires.so_far code.0 code.1 code.2
    (subst (λ i. IsCollectionStop b i c.in_ok-alpha2.alpha2 c.in_err-domain.field-0.0) c.target_at-place.ensures.target c.in_err-domain.ensures))

pub returns : goal.returns
returns c =
    let b = c.args.bytes.now in
    let d = c.in_ok-domain.domain in
    let code = c.in_ok-alpha2.ensures in
    new_entry b c.args.k c.args.db.now d c.in_ok-alpha2.alpha2 c.requires.so_far code.0 code.1 code.2 c.in_ok-domain.ensures.0
    (subst (λ i. CollectionAt b i d.region d.rules) c.target_at-place.ensures.target c.in_ok-domain.ensures.1)
