use Rattle.std.proofs.Common.{◌≡◌, ℕ, ◌<◌, get_or}
use Rattle.line_forms.specs.Words.{is_line_blank}
use Rattle.line_forms.proofs.words.leading.Given as goal

abbrev pub invariant-loop-i : goal.invariant-loop-i
invariant-loop-i l = (k : ℕ) → k < l.i → is_line_blank (get_or l.line k 0) ≡ l.blank
