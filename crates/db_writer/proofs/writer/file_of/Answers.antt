use Rattle.std.proofs.Common.{◌++◌, ◌∙◌, ap, arith}
use Rattle.db_writer.specs.inner.Planned.{sections_in, planned_file}
use Rattle.db_writer.proofs.Reach.{can_be_written, same_file}
use Rattle.db_writer.proofs.writer.file_of.Goals as goal

pub put_file-requires : goal.put_file-requires
put_file-requires c =
    let is = c.last_collection-words.ensures c.args.domains.now c.in_ok-plan.ensures.plan in
    can_be_written _ _ c.requires c.in_ok-plan.ensures.plan (omega (arith, is, c.if-words-gt-REACH.false))

pub returns-clause-file : goal.returns-clause-file
returns-clause-file c = (
  sections_in c.in_ok-plan.plan,
  c.in_ok-plan.ensures.plan.sections,
  c.in_ok-put_file.ensures
      ∙ ap (λ bytes. bytes ++ planned_file c.args.domains.now c.in_ok-plan.plan) c.new-bytes.ensures.empty
      ∙ same_file _ _ c.in_ok-plan.ensures.plan,
)
