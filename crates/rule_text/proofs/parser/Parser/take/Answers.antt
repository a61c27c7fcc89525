use Rattle.std.proofs.Common.{rules, ◌≡◌, length}
use Rattle.rule_text.proofs.EmptyTaken.{taken_empty}
use Rattle.rule_text.proofs.Assembled.{nothing_from_length}
use Rattle.rule_text.proofs.parser.Parser.take.Goals as goal

pub returns-then-is_empty : goal.returns-then-is_empty
returns-then-is_empty c = λ above at sound stands.
    let none : length c.args.line.now ≡ 0 = search rules in
    taken_empty above c.args.line.now c.args.self.now (nothing_from_length c.args.line.now none) stands
