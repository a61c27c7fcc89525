-- What all that was packed comes to, with one line more, and where it stops.
use Rattle.std.proofs.Common.{◌≡◌, ℕ, ◌+◌, true, false, List, [], ◌∷◌, ◌++◌, length-append, take, Option, Some, None, Result, Ok, Err, OnErr, refl, sym, ap, subst, ◌∙◌, arith, is_err}
use Rattle.std.specs.Io.KnownBytes.{Appends}
use Rattle.std.proofs.KnownBytes.{Appends-nil, Appends-trans}
use Rattle.reg_base.specs.Appended.{AppendsAtMost, AppendsFront}
use Rattle.reg_base.specs.Causes.{HasCause, Rose}
use Rattle.line_forms.specs.Lines.{Says}
use Rattle.line_forms.specs.declared.fault.LineFault.{LineFault}
use Rattle.line_forms.proofs.Saying.{one_meaning}
use Rattle.reg_journal.specs.declared.request.Request.{Request}
use Rattle.core_runs.proofs.Each.{EachGives-more, EachGives-unique}
use Rattle.db_commands.specs.Devices.{StreamAround}
use Rattle.pack_command.specs.Packing.{AreAllPacked, MeetsFaultyLine, PackGives, Packs, SayingPacks, StopsBetweenLines, StopsWithinLine}
use Rattle.pack_command.specs.inner.Steps.{IsPackedTo}
use Rattle.pack_command.specs.declared.packing.Progress.{Progress}

-- ---- one thing each

one_saying : (n : ℕ) (said : Result (Option Request) LineFault) (bytes others : List ℕ) (next next' : ℕ)
    → SayingPacks n said bytes next → SayingPacks n said others next' → (bytes ≡ others) × (next ≡ next')
one_saying n (Ok None) bytes others next next' (none, stays) (none', stays') = (none ∙ sym none', stays ∙ sym stays')
one_saying n (Ok (Some q)) bytes others next next' (one, more) (other, more') = (one.is ∙ sym other.is, more ∙ sym more')
one_saying n (Err fault) bytes others next next' none other = absurd none

one_line : (n : ℕ) (line bytes others : List ℕ) (next next' : ℕ) → PackGives n line bytes [] next → PackGives n line others [] next' → (bytes ≡ others) × (next ≡ next')
one_line n line bytes others next next' (said, says, packs, none) (said', says', packs', none') =
    one_saying n said' bytes others next next' (subst (λ s. SayingPacks n s bytes next) (one_meaning line said said' says says') packs) packs'

pub one_packing : (lines : List (List ℕ)) (bytes others : List ℕ) (n m : ℕ) → Packs lines bytes n → Packs lines others m → (bytes ≡ others) × (n ≡ m)
one_packing lines bytes others n m packs packs' = EachGives-unique PackGives one_line 0 lines bytes others n m packs packs'

-- ---- lines that were packed

pub packed_none : (output : Option (List ℕ)) (progress : Progress) → progress.lines ≡ 0 → progress.requests ≡ 0 → IsPackedTo [] output output progress
packed_none output progress lines none = record { bytes = []; packed = (refl, refl, none); counted = lines; written = Appends-nil output }

pub packed_more : (lines : List (List ℕ)) (line : List ℕ) (a b c : Option (List ℕ)) (message : List ℕ) (progress more : Progress)
    → IsPackedTo lines a b progress → PackGives progress.requests line message [] more.requests → more.lines ≡ progress.lines + 1 → Appends b c message
    → IsPackedTo (lines ++ line ∷ []) a c more
packed_more lines line a b c message progress more so here one written = record {
  bytes = so.bytes ++ message;
  packed = EachGives-more PackGives 0 lines line so.bytes [] message [] progress.requests more.requests so.packed here;
  counted = let counted = so.counted in omega (arith, one, counted, length-append lines (line ∷ []));
  written = Appends-trans a b c so.bytes message so.written written;
}

pub all_written : (lines : List (List ℕ)) (output : StreamAround) (progress : Progress) → IsPackedTo lines output.before output.after progress → AreAllPacked lines output
all_written lines output progress so = record { bytes = so.bytes; requests = progress.requests; packed = so.packed; written = so.written }

-- ---- stops

pub stops_between : (lines : List (List ℕ)) (left : List (List ℕ)) (output : StreamAround) (progress : Progress)
    → IsPackedTo lines output.before output.after progress → StopsBetweenLines (lines ++ left) output
stops_between lines left output progress so = record { first = lines; left = left; parts = refl; before = all_written lines output progress so }

pub meets_fault : (lines : List (List ℕ)) (line : List ℕ) (rest : List (List ℕ)) (number : ℕ) (fault : LineFault) (output : StreamAround) (progress : Progress)
    → Says line (Err fault) → number ≡ progress.lines + 1 → IsPackedTo lines output.before output.after progress → MeetsFaultyLine (lines ++ line ∷ rest) number fault output
meets_fault lines line rest number fault output progress says numbered so = record {
  first = lines;
  line = line;
  rest = rest;
  parts = refl;
  says = says;
  numbered = numbered ∙ ap (λ n. n + 1) so.counted;
  before = all_written lines output progress so;
}

pub stops_within : (lines : List (List ℕ)) (line : List ℕ) (rest : List (List ℕ)) (message : List ℕ) (next : ℕ) (b : Option (List ℕ)) (output : StreamAround) (progress : Progress)
    → PackGives progress.requests line message [] next → AppendsFront b output.after message → IsPackedTo lines output.before b progress → StopsWithinLine (lines ++ line ∷ rest) output
stops_within lines line rest message next b output progress here (n, within, written) so = record {
  first = lines;
  line = line;
  rest = rest;
  parts = refl;
  bytes = so.bytes;
  requests = progress.requests;
  packed = so.packed;
  message = message;
  next = next;
  here = here;
  count = n;
  within = within;
  written = Appends-trans output.before b output.after so.bytes (take n message) so.written written;
}

-- ---- results of writes

on_err : {E : Type 0} (r : Result (Unit {0}) E) (P : Type 0) → true ≡ is_err r → OnErr r P → P
on_err (Ok u) P bad h = absurd cc
on_err (Err e) P bad h = h

pub front_of_failed : {E : Type 0} (r : Result (Unit {0}) E) (a b : Option (List ℕ)) (piece : List ℕ) → true ≡ is_err r → AppendsAtMost a b r piece → AppendsFront a b piece
front_of_failed (Ok u) a b piece bad h = absurd cc
front_of_failed (Err e) a b piece bad h = h

pub all_of_written : {E : Type 0} (r : Result (Unit {0}) E) (a b : Option (List ℕ)) (piece : List ℕ) → false ≡ is_err r → AppendsAtMost a b r piece → Appends a b piece
all_of_written (Ok u) a b piece good h = h
all_of_written (Err e) a b piece good h = absurd cc

pub cause_of : {E : Type 0} (w : Result (Unit {0}) E) (before after : ℕ) → true ≡ is_err w → HasCause before after w → Rose before after
cause_of w before after bad cause = on_err w (Rose before after) bad cause.failed
