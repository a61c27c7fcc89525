use Rattle.std.proofs.Common.{◌≡◌, drop}
use Rattle.text_lines.specs.inner.Reading.{after_word}
use Rattle.text_lines.proofs.scanner.after_word.Given as goal

-- what is left of the word and of the bytes reads as the whole
abbrev pub invariant-loop-byte : goal.invariant-loop-byte
invariant-loop-byte l = after_word (drop l.byte-index l.word) l.rest ≡ after_word l.word l.bytes
