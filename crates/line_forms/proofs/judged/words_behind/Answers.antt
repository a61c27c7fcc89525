use Rattle.std.proofs.Common.{◌∙◌, ap, drop}
use Rattle.std.proofs.lemmas.List.{drop-drop}
use Rattle.line_forms.specs.Words.{words_of}
use Rattle.line_forms.proofs.judged.words_behind.Goals as goal

pub loop-i-preserved : goal.loop-i-preserved
loop-i-preserved c = c.skip.ensures ∙ ap (λ ws. drop 1 ws) c.loop-i.invariant ∙ drop-drop 1 c.loop-i.i (words_of c.args.line.now)
