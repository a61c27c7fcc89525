-- How far the lines of a text were read, and what a line that isn't taken means for the text.
use Rattle.std.proofs.Common.{◌≡◌, ℕ, ◌+◌, ◌<◌, ◌≤◌, List, [], ◌∷◌, ◌++◌, length, reverse, Option, Some, None, IfSome, MatchOption, Bor, arith, refl, sym, ◌∙◌, ap, inl}
use Rattle.std.specs.Option.{option_copied}
use Rattle.std.proofs.lemmas.List.{append-nil, append_assoc, get_or_at, length-append, length-reverse, length_push, reverse-append, take-append-le, take_all}
use Rattle.text_lines.specs.declared.fault.LineStop.{LineStop}
use Rattle.text_lines.specs.declared.fault.LineStop.TheVariants.{Kind, OutOfMemory}
use Rattle.text_lines.specs.declared.fault.TextKind.{TextKind}
use Rattle.rule_text.specs.declared.parser.Parser.{Parser}
use Rattle.rule_text.specs.Faults.{AreAccepted, IsLineFault}
use Rattle.rule_text.specs.Forms.{Form}
use Rattle.text_lines.specs.Lines.{text_lines}
use Rattle.rule_text.specs.inner.State.{AreRead, AreSound, IsLineStop, ParserStands, TakesLine, fault_at}
use Rattle.rule_text.proofs.ReadableFront.{begins_readable}
use Rattle.rule_text.proofs.Unique.{length_accepted, sound_from_accepted}
use Rattle.rule_text.specs.TextOf.{IsParseFault, IsTextFault}

-- the lines of what is left of a text
abbrev pub lines_left : Option (List ℕ) → List (List ℕ)
lines_left None = []
lines_left (Some rest) = text_lines rest

-- how much is left: more than the bytes, since an empty rest is one line still
abbrev pub size_left : Option (List ℕ) → ℕ
size_left None = 0
size_left (Some rest) = length rest + 1

-- nothing is wrong with the lines seen, and the parser holds what they say
pub record ReadSoFar (text : List ℕ) (left : Option (List ℕ)) (number : ℕ) (parser : Parser) : Type 0 where
  pub seen : List (List ℕ)
  pub forms : List Form
  pub lines : text_lines text ≡ seen ++ lines_left left
  pub count : length seen ≡ number
  pub accepted : AreAccepted (reverse seen) forms
  pub stands : ParserStands forms parser
  pub bound : number + size_left left ≤ length text + 1

pub read_nothing : (text : List ℕ) (parser : Parser) → ParserStands [] parser → ReadSoFar text (Some text) 0 parser
read_nothing text parser stands = record {
  seen = [];
  forms = [];
  lines = refl;
  count = refl;
  accepted = tt;
  stands = stands;
  bound = omega arith;
}

pub sound_so_far : (text : List ℕ) (left : Option (List ℕ)) (number : ℕ) (parser : Parser) (so_far : ReadSoFar text left number parser) → AreSound so_far.forms
sound_so_far text left number parser so_far = sound_from_accepted (reverse so_far.seen) so_far.forms so_far.accepted

pub count_so_far : (text : List ℕ) (left : Option (List ℕ)) (number : ℕ) (parser : Parser) (so_far : ReadSoFar text left number parser) → number + 1 ≡ length so_far.forms + 1
count_so_far text left number parser so_far =
    ap (λ n. n + 1) (sym so_far.count ∙ sym (length-reverse so_far.seen) ∙ length_accepted (reverse so_far.seen) so_far.forms so_far.accepted)

-- one line more was taken
pub read_more : (text bytes line : List ℕ) (rest : Option (List ℕ)) (number : ℕ) (old new : Parser) (so_far : ReadSoFar text (Some bytes) number old)
    → text_lines bytes ≡ line ∷ lines_left rest → size_left rest < length bytes + 1 → TakesLine so_far.forms line new → ReadSoFar text rest (number + 1) new
read_more text bytes line rest number old new so_far cut shorter takes = record {
  seen = so_far.seen ++ line ∷ [];
  forms = takes.form ∷ so_far.forms;
  lines = so_far.lines ∙ ap (λ ls. so_far.seen ++ ls) cut ∙ sym (append_assoc so_far.seen (line ∷ []) (lines_left rest));
  count = length_push so_far.seen line ∙ ap (λ n. n + 1) so_far.count;
  accepted = rw (reverse-append so_far.seen (line ∷ [])) (so_far.accepted, takes.good);
  stands = takes.stands;
  bound = let bound = so_far.bound in omega arith;
}

pub read_all : (text : List ℕ) (number : ℕ) (parser : Parser) → ReadSoFar text None number parser → AreRead text parser
read_all text number parser so_far = record {
  forms = so_far.forms;
  accepted = rw (so_far.lines, append-nil so_far.seen) so_far.accepted;
  stands = so_far.stands;
}

-- a line that isn't taken is the text's first faulty line
pub not_taken : (text bytes line : List ℕ) (rest : List (List ℕ)) (number : ℕ) (parser : Parser) (kind : TextKind) (so_far : ReadSoFar text (Some bytes) number parser)
    → text_lines bytes ≡ line ∷ rest → IsLineFault so_far.forms line kind → IsTextFault text (record { line = number + 1; kind = kind })
not_taken text bytes line rest number parser kind so_far cut fault =
    let lines : text_lines text ≡ so_far.seen ++ line ∷ rest = so_far.lines ∙ ap (λ ls. so_far.seen ++ ls) cut in
    let len = length-append so_far.seen (line ∷ rest) in
    let count = so_far.count in (
      number,
      refl,
      inl (record {
        in_range = rw lines (omega (arith, len, count));
        above = so_far.forms;
        accepted = rw (lines, take-append-le number so_far.seen (line ∷ rest) (omega (arith, count)), take_all number so_far.seen (omega (arith, count))) so_far.accepted;
        fault = rw (lines, get_or_at so_far.seen line rest [] number count) fault;
      }),
    )

pub stopped : (text bytes line : List ℕ) (rest : List (List ℕ)) (number : ℕ) (parser : Parser) (stop : LineStop) (so_far : ReadSoFar text (Some bytes) number parser)
    → text_lines bytes ≡ line ∷ rest → IsLineStop so_far.forms line stop → IsParseFault text (fault_at stop (number + 1))
stopped text bytes line rest number parser (Kind kind) so_far cut stop = not_taken text bytes line rest number parser kind so_far cut stop
stopped text bytes line rest number parser OutOfMemory so_far cut stop =
    begins_readable text so_far.seen line rest so_far.forms (so_far.lines ∙ ap (λ ls. so_far.seen ++ ls) cut) so_far.accepted stop

-- what a cut leaves, whether or not a newline ended the line
pub cut_lines : (text line : List ℕ) (rest : Option (Bor (List ℕ))) → MatchOption rest (text_lines text ≡ line ∷ []) (λ r. text_lines text ≡ line ∷ text_lines r.now)
    → text_lines text ≡ line ∷ lines_left (option_copied rest)
cut_lines text line None cut = cut
cut_lines text line (Some r) cut = cut

pub cut_shorter : (text : List ℕ) (rest : Option (Bor (List ℕ))) → IfSome rest (λ r. length r.now < length text) → size_left (option_copied rest) < length text + 1
cut_shorter text None shorter = omega arith
cut_shorter text (Some r) shorter = omega arith
