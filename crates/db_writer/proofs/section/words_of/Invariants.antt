use Rattle.std.proofs.Common.{◌≡◌, ◌*◌, ◌≤◌, sum_by, take}
use Rattle.db_writer.proofs.section.words_of.Given as goal

abbrev pub invariant-loop-one : goal.invariant-loop-one
invariant-loop-one g l = record {
  exact : l.words ≡ sum_by g.T.Record.words (take l.one-index l.records);
  small : l.words ≤ 65 * l.one-index;
}
