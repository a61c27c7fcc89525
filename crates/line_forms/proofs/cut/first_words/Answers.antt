use Rattle.std.proofs.Common.{◌≡◌, ◌≤◌, length, rules}
use Rattle.line_forms.specs.Words.{words_of}
use Rattle.line_forms.proofs.Cutting.{cut-all, cut-full}
use Rattle.line_forms.proofs.cut.first_words.Goals as goal

pub returns-in_default : goal.returns-in_default
returns-in_default c =
    let few : length c.loop-i.words ≤ 16 = search rules in
    cut-all _ c.loop-i.words (words_of c.args.line.now) _ few c.loop-i.invariant.1 c.in_default.ensures

pub returns : goal.returns
returns c =
    let full : length c.loop-i.words ≡ 16 = search rules in
    cut-full _ c.loop-i.words (words_of c.args.line.now) _ full c.loop-i.invariant.1
