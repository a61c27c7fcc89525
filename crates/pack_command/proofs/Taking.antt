-- Bytes that are taken into the cutter: each line is packed as its newline comes, and the last one at the end.
use Rattle.std.proofs.Common.{◌≡◌, ℕ, ◌+◌, ◌<◌, ◌≤◌, ◌==◌, Bool, true, false, List, [], ◌∷◌, ◌++◌, take, drop, get_or, add-one, drop-cons, take-append-drop, append_assoc, length, length-append, Option, inl, inr, refl, sym, ap, subst, ◌∙◌, arith}
use Rattle.iw_commands.specs.Cutting.{IsCut, OpenLine, opened, with_byte}
use Rattle.iw_commands.specs.Scripts.{script_lines}
use Rattle.iw_commands.specs.declared.cutter.Cut.{Cut}
use Rattle.db_commands.specs.Devices.{StreamAround}
use Rattle.script_run.specs.inner.Turns.{IsCutOf, IsHeld}
use Rattle.script_run.proofs.Cutting.{cut_ended, cut_held, cut_line, cut_more, cut_none, ended_here, held_more, held_none, lines_at_end, lines_at_newline}
use Rattle.pack_command.specs.Packing.{AreAllPacked}
use Rattle.pack_command.specs.inner.Steps.{HasLineRoom, IsPackedTo, IsPackedSoFar, IsPackStop, StopsAmong}
use Rattle.pack_command.specs.declared.packing.Progress.{Progress}
use Rattle.pack_command.specs.declared.packing.Stop.{Stop}
use Rattle.pack_command.proofs.Packed.{all_written, packed_none}

-- ---- a byte more

pub reads_none : (cutter : OpenLine) (output : Option (List ℕ)) (progress : Progress) → cutter ≡ opened → progress.lines ≡ 0 → progress.requests ≡ 0 → IsPackedSoFar [] cutter output output progress
reads_none cutter output progress is lines none =
    record { lines = []; begun = []; cut = cut_none; holds = subst (IsHeld []) (sym is) held_none; few = omega arith; so_far = packed_none output progress lines none }

pub takes_byte : (bytes : List ℕ) (b : ℕ) (cutter marked : OpenLine) (before after : Option (List ℕ)) (progress : Progress) → (b == 10) ≡ false → marked ≡ with_byte b cutter
    → IsPackedSoFar bytes cutter before after progress → IsPackedSoFar (bytes ++ b ∷ []) marked before after progress
takes_byte bytes b cutter marked before after progress isnt is so = record {
  lines = so.lines;
  begun = so.begun ++ b ∷ [];
  cut = cut_more bytes so.lines so.begun b isnt so.cut;
  holds = subst (IsHeld (so.begun ++ b ∷ [])) (sym is) (held_more so.begun cutter b isnt so.holds);
  few = let few = so.few in omega (arith, few, length-append bytes (b ∷ []), length-append so.begun (b ∷ []));
  so_far = so.so_far;
}

-- the cutter's answer for the line that a newline ended
cut_marked : (line : List ℕ) (cutter marked : OpenLine) (b : ℕ) (cut : Cut) → (b == 10) ≡ true → marked ≡ with_byte b cutter → IsHeld line cutter → IsCut marked cut → IsCutOf line cut
cut_marked line cutter marked b cut ends is holds cuts = cut_ended line cutter b cut ends holds (subst (λ k. IsCut k cut) is cuts)

-- the newline came, and the line was packed
pub takes_line : (bytes : List ℕ) (b : ℕ) (cutter marked cleared : OpenLine) (cut : Cut) (before mid after : Option (List ℕ)) (progress more : Progress)
    → (b == 10) ≡ true → marked ≡ with_byte b cutter → IsCut marked cut → cleared ≡ opened
    → ((lines : List (List ℕ)) (this : List ℕ) → IsCutOf this cut → IsPackedTo lines before mid progress → IsPackedTo (lines ++ this ∷ []) before after more)
    → IsPackedSoFar bytes cutter before mid progress → IsPackedSoFar (bytes ++ b ∷ []) cleared before after more
takes_line bytes b cutter marked cleared cut before mid after progress more ends is cuts clear packed so = record {
  lines = so.lines ++ so.begun ∷ [];
  begun = [];
  cut = cut_line bytes so.lines so.begun b ends so.cut;
  holds = subst (IsHeld []) (sym clear) held_none;
  few = let few = so.few in omega (arith, few, length-append bytes (b ∷ []), length-append so.lines (so.begun ∷ []));
  so_far = packed so.lines so.begun (cut_marked so.begun cutter marked b cut ends is so.holds cuts) so.so_far;
}

-- the newline came, and the packing of the line stopped
pub stops_line : (bytes : List ℕ) (b : ℕ) (more : List ℕ) (cutter marked : OpenLine) (cut : Cut) (mid : Option (List ℕ)) (output : StreamAround) (stop : Stop) (progress : Progress)
    → (b == 10) ≡ true → marked ≡ with_byte b cutter → IsCut marked cut
    → ((lines : List (List ℕ)) (this : List ℕ) (rest : List (List ℕ)) → IsCutOf this cut → IsPackedTo lines output.before mid progress → IsPackStop (lines ++ this ∷ rest) output stop)
    → IsPackedSoFar bytes cutter output.before mid progress → StopsAmong (bytes ++ b ∷ more) output stop
stops_line bytes b more cutter marked cut mid output stop progress ends is cuts stops so =
    let (rest, last, are) = ended_here bytes so.lines so.begun b ends so.cut more in
    (so.lines ++ so.begun ∷ rest, last, are, stops so.lines so.begun rest (cut_marked so.begun cutter marked b cut ends is so.holds cuts) so.so_far)

-- ---- the bytes of a piece

pub bytes_more : (taken piece : List ℕ) (i b : ℕ) → take (i + 1) piece ≡ take i piece ++ b ∷ [] → (taken ++ take i piece) ++ b ∷ [] ≡ taken ++ take (i + 1) piece
bytes_more taken piece i b more = append_assoc taken (take i piece) (b ∷ []) ∙ ap (λ xs. taken ++ xs) (sym more)

bytes_whole : (taken piece : List ℕ) (i b : ℕ) → i < length piece → b ≡ get_or piece i 0 → (taken ++ take i piece) ++ b ∷ drop (i + 1) piece ≡ taken ++ piece
bytes_whole taken piece i b within is =
    append_assoc taken (take i piece) (b ∷ drop (i + 1) piece)
    ∙ ap (λ xs. taken ++ xs) (ap (λ x. take i piece ++ x ∷ drop (i + 1) piece) is ∙ ap (λ n. take i piece ++ get_or piece i 0 ∷ drop n piece) (add-one i)
    ∙ ap (λ xs. take i piece ++ xs) (sym (drop-cons piece i 0 within)) ∙ take-append-drop i piece)

-- the packing stopped at a byte of the piece
pub stops_whole : (taken piece : List ℕ) (i b : ℕ) (output : StreamAround) (stop : Stop) → i < length piece → b ≡ get_or piece i 0
    → StopsAmong ((taken ++ take i piece) ++ b ∷ drop (i + 1) piece) output stop → StopsAmong (taken ++ piece) output stop
stops_whole taken piece i b output stop within is = subst (λ bytes. StopsAmong bytes output stop) (bytes_whole taken piece i b within is)

-- ---- the end

pub last_none : (script : List ℕ) (cutter : OpenLine) (cut : Cut) (output : StreamAround) (progress : Progress) → IsCut cutter cut → ((this : List ℕ) → IsCutOf this cut → this ≡ [])
    → IsPackedSoFar script cutter output.before output.after progress → AreAllPacked (script_lines script) output
last_none script cutter cut output progress is none so =
    subst (λ lines. AreAllPacked lines output) (lines_at_newline script so.lines so.begun so.cut (none so.begun (cut_held so.begun cutter cut so.holds is)))
    (all_written so.lines output progress so.so_far)

pub last_packed : (script : List ℕ) (cutter : OpenLine) (cut other : Cut) (mid : Option (List ℕ)) (output : StreamAround) (progress more : Progress) → IsCut cutter cut → ((this : List ℕ) → IsCutOf this cut → this ≡ [] → ⊥)
    → IsCut cutter other
    → ((lines : List (List ℕ)) (this : List ℕ) → IsCutOf this other → IsPackedTo lines output.before mid progress → IsPackedTo (lines ++ this ∷ []) output.before output.after more)
    → IsPackedSoFar script cutter output.before mid progress → AreAllPacked (script_lines script) output
last_packed script cutter cut other mid output progress more is some is' packed so =
    subst (λ lines. AreAllPacked lines output) (lines_at_end script so.lines so.begun so.cut (some so.begun (cut_held so.begun cutter cut so.holds is)))
    (all_written (so.lines ++ so.begun ∷ []) output more (packed so.lines so.begun (cut_held so.begun cutter other so.holds is') so.so_far))

pub last_stops : (script : List ℕ) (cutter : OpenLine) (cut other : Cut) (mid : Option (List ℕ)) (output : StreamAround) (stop : Stop) (progress : Progress) → IsCut cutter cut → ((this : List ℕ) → IsCutOf this cut → this ≡ [] → ⊥)
    → IsCut cutter other
    → ((lines : List (List ℕ)) (this : List ℕ) (rest : List (List ℕ)) → IsCutOf this other → IsPackedTo lines output.before mid progress → IsPackStop (lines ++ this ∷ rest) output stop)
    → IsPackedSoFar script cutter output.before mid progress → IsPackStop (script_lines script) output stop
last_stops script cutter cut other mid output stop progress is some is' stops so =
    subst (λ lines. IsPackStop lines output stop) (lines_at_end script so.lines so.begun so.cut (some so.begun (cut_held so.begun cutter cut so.holds is)))
    (stops so.lines so.begun [] (cut_held so.begun cutter other so.holds is') so.so_far)

-- ---- numbers

-- a line that holds a byte has a number
pub number_left : (cutter : OpenLine) (lines : ℕ) (cut : Cut) → HasLineRoom cutter lines → IsCut cutter cut → ((this : List ℕ) → IsCutOf this cut → this ≡ [] → ⊥) → lines < 4294967295
number_left cutter lines cut (inl none) is some = absurd (some [] (cut_held [] cutter cut (subst (IsHeld []) (sym none) held_none) is) refl)
number_left cutter lines cut (inr room) is some = room

-- nothing is held of an empty line
held_nothing : (cutter : OpenLine) → IsHeld [] cutter → cutter ≡ opened
held_nothing cutter holds = by cutter.too_long refl
  where
    by : (long : Bool) → cutter.too_long ≡ long → cutter ≡ opened
    by true is = let many = holds.long is in absurd (omega (arith, many))
    by false is = let ended = holds.unended in let bytes = holds.whole is in
        λ i. record { bytes = bytes i; too_long = is i; ended = ended i }

pub has_room : (taken : List ℕ) (cutter : OpenLine) (before after : Option (List ℕ)) (progress : Progress) → length taken ≤ 4294967295 → IsPackedSoFar taken cutter before after progress → HasLineRoom cutter progress.lines
has_room taken cutter before after progress within so = by so.begun so.holds so.few
  where
    by : (begun : List ℕ) → IsHeld begun cutter → length so.lines + length begun ≤ length taken → HasLineRoom cutter progress.lines
    by [] holds few = inl (held_nothing cutter holds)
    by (b ∷ bs) holds few = let counted = so.so_far.counted in inr (omega (arith, counted, few, within))

pub lines_fit : (taken : List ℕ) (cutter : OpenLine) (before after : Option (List ℕ)) (progress : Progress) → IsPackedSoFar taken cutter before after progress → progress.lines ≤ length taken
lines_fit taken cutter before after progress so = let counted = so.so_far.counted in let few = so.few in omega (arith, counted, few)
