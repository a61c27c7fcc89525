use Rattle.std.proofs.Common.{◌≡◌, ◌+◌, ◌≤◌, ◌∙◌, refl, subst, sym}
use Rattle.rule_tables.specs.Regions.{region_number}
use Rattle.rule_tables.specs.FileFormat.{u8_at}
use Rattle.rule_tables.specs.FileFaults.{HasCollection, HasRegion}
use Rattle.db_reader.proofs.Collected.{rules_stop}
use Rattle.db_reader.proofs.Records.{low_region}
use Rattle.db_reader.proofs.Stops.{handed_on}
use Rattle.db_reader.proofs.collection.read_collection.Goals as goal

pub returns-in_err-rules-in-Some : goal.returns-in_err-rules-in-Some
returns-in_err-rules-in-Some c =
    let b = c.args.bytes.now in
    let i = c.args.place in
    let there : HasCollection b i = c.if-not-has_collection.ensures.0 refl in
    let byte : u8_at b (i + 2) ≡ region_number c.in-Some.region = sym c.u8_at-number.ensures ∙ c.in-Some.ensures in
    let region : HasRegion b i = record { collection = there; region = subst (λ n. n ≤ 3) (sym byte) (low_region c.in-Some.region) } in
    handed_on c.from_residual.result c.in_err-rules-in-Some.field-0.0 _ _ c.from_residual.ensures.1
    (rules_stop b i c.args.alpha2 c.in_err-rules-in-Some.field-0.0 region c.in_err-rules-in-Some.ensures)
