use Rattle.std.proofs.Common.{◌∙◌, sym, refl}
use Rattle.line_forms.proofs.WordCuts.{words-none, words-taken}
use Rattle.line_forms.proofs.words.cut_word.Goals as goal

pub returns-then-is_empty : goal.returns-then-is_empty
returns-then-is_empty c = words-none c.args.line.now c.leading-start.result c.leading-start.ensures (sym c.is_empty.ensures ∙ c.if-is_empty.true)

pub returns : goal.returns
returns c =
    words-taken c.args.line.now _ c.leading-start.result c.leading-end.result refl c.leading-start.ensures (sym c.is_empty.ensures ∙ c.if-is_empty.false) c.leading-end.ensures
