-- Bytes that are taken into the cutter: each line is answered as its newline comes, and the last one at the end.
use Rattle.std.proofs.Common.{◌≡◌, ◌≢◌, ℕ, ◌+◌, ◌-◌, ◌<◌, ◌≤◌, ◌==◌, suc, arith, refl, append-nil, Bool, true, false, List, [], ◌∷◌, ◌++◌, take, drop, get_or, take-append-drop, append_assoc, length, Option, Result, Ok, Err, OnOk, IfErr, IsTrue, sym, ap, subst, ◌∙◌}
use Rattle.std.proofs.Math.Seq.{take-add}
use Rattle.std.proofs.lemmas.Bool.Decides.{nat_tests}
use Rattle.std.proofs.lemmas.List.{get_or-take, length-append, length-drop, length-take-le, take_all, take_rest}
use Rattle.std.specs.Result.{IsErrAnd}
use Rattle.rule_tables.specs.declared.domain.Domain.{Domain}
use Rattle.radio_drv.specs.Seen.{Seen}
use Rattle.reg_core.specs.declared.core_state.Core.{Core}
use Rattle.iw_commands.specs.Cutting.{IsCut, OpenLine, opened, with_byte}
use Rattle.iw_commands.specs.Scripts.{script_lines}
use Rattle.iw_commands.specs.declared.cutter.Cut.{Cut}
use Rattle.db_commands.specs.Devices.{DriversAround, StreamAround}
use Rattle.script_run.specs.Output.{LineGives}
use Rattle.core_runs.specs.Answered.{IsAnswered}
use Rattle.script_run.specs.inner.Turns.{HaltsAmong, IsCutAt, IsCutOf, IsHalt, IsHeld, IsReadSoFar}
use Rattle.core_runs.specs.Turns.{IsRunSoFar}
use Rattle.script_run.specs.declared.answering.Halt.{Halt}
use Rattle.script_run.proofs.Cutting.{cut_ended, cut_held, cut_line, cut_more, ended_here, held_more, held_none, lines_at_end, lines_at_newline}
use Rattle.core_runs.proofs.Turning.{ends_whole}

-- ---- results

pub map_ok : {T E : Type 0} (r : Result T E) (P Q : Type 0) → (P → Q) → OnOk r P → OnOk r Q
map_ok (Ok v) P Q f p = f p
map_ok (Err e) P Q f p = tt

pub map_err : {T E : Type 0} (r : Result T E) (P Q : E → Type 0) → ((e : E) → P e → Q e) → IfErr r P → IfErr r Q
map_err (Ok v) P Q f p = tt
map_err (Err e) P Q f p = f e p

-- what a callee answered, and `?` handed on
pub handed_on : {T E : Type 0} (r : Result T E) (e : E) (Q : E → Type 0) → IsErrAnd r (λ f. f ≡ e) → Q e → IfErr r Q
handed_on (Ok v) e Q is q = absurd is
handed_on (Err f) e Q is q = subst Q (sym is) q

pub not_empty : (b : Bool) → IsTrue b → b ≡ false → ⊥
not_empty b is isnt = cc

-- ---- a byte more

pub takes_byte : (db : List Domain) (bytes : List ℕ) (b : ℕ) (cutter marked : OpenLine) (before after : Option (List ℕ)) (core : Core) (heard heard' : List (Option Seen)) → (b == 10) ≡ false → marked ≡ with_byte b cutter
    → IsReadSoFar db bytes cutter before after core heard heard' → IsReadSoFar db (bytes ++ b ∷ []) marked before after core heard heard'
takes_byte db bytes b cutter marked before after core heard heard' isnt is so = record {
  lines = so.lines;
  begun = so.begun ++ b ∷ [];
  cut = cut_more bytes so.lines so.begun b isnt so.cut;
  holds = subst (IsHeld (so.begun ++ b ∷ [])) (sym is) (held_more so.begun cutter b isnt so.holds);
  so_far = so.so_far;
}

-- the cutter's answer for the line that a newline ended
cut_marked : (line : List ℕ) (cutter marked : OpenLine) (b : ℕ) (cut : Cut) → (b == 10) ≡ true → marked ≡ with_byte b cutter → IsHeld line cutter → IsCut marked cut → IsCutOf line cut
cut_marked line cutter marked b cut ends is holds cuts = cut_ended line cutter b cut ends holds (subst (λ k. IsCut k cut) is cuts)

-- the newline came, and the line was answered
pub takes_line : (db : List Domain) (bytes : List ℕ) (b : ℕ) (cutter marked cleared : OpenLine) (cut : Cut) (before mid after : Option (List ℕ)) (core core' : Core) (heard first heard' : List (Option Seen))
    → (b == 10) ≡ true → marked ≡ with_byte b cutter → IsCut marked cut → cleared ≡ opened
    → ((lines : List (List ℕ)) (this : List ℕ) → IsCutOf this cut → IsRunSoFar (LineGives db) db lines before mid core heard first → IsRunSoFar (LineGives db) db (lines ++ this ∷ []) before after core' heard heard')
    → IsReadSoFar db bytes cutter before mid core heard first → IsReadSoFar db (bytes ++ b ∷ []) cleared before after core' heard heard'
takes_line db bytes b cutter marked cleared cut before mid after core core' heard first heard' ends is cuts clear answered so = record {
  lines = so.lines ++ so.begun ∷ [];
  begun = [];
  cut = cut_line bytes so.lines so.begun b ends so.cut;
  holds = subst (IsHeld []) (sym clear) held_none;
  so_far = answered so.lines so.begun (cut_marked so.begun cutter marked b cut ends is so.holds cuts) so.so_far;
}

-- the newline came, and the answering of the line stopped
pub halts_line : (db : List Domain) (bytes : List ℕ) (b : ℕ) (more : List ℕ) (cutter marked : OpenLine) (cut : Cut) (mid : Option (List ℕ)) (output : StreamAround) (drivers : DriversAround) (halt : Halt) (core : Core) (first : List (Option Seen))
    → (b == 10) ≡ true → marked ≡ with_byte b cutter → IsCut marked cut
    → ((lines : List (List ℕ)) (this : List ℕ) (rest : List (List ℕ)) → IsCutOf this cut → IsRunSoFar (LineGives db) db lines output.before mid core drivers.before first → IsHalt db (lines ++ this ∷ rest) output drivers halt)
    → IsReadSoFar db bytes cutter output.before mid core drivers.before first → HaltsAmong db (bytes ++ b ∷ more) output drivers halt
halts_line db bytes b more cutter marked cut mid output drivers halt core first ends is cuts stops so =
    let (rest, last, are) = ended_here bytes so.lines so.begun b ends so.cut more in
    (so.lines ++ so.begun ∷ rest, last, are, stops so.lines so.begun rest (cut_marked so.begun cutter marked b cut ends is so.holds cuts) so.so_far)

-- ---- the bytes of a piece

-- ---- bytes before a newline

isnt_newline : (b : ℕ) → b ≢ 10 → (b == 10) ≡ false
isnt_newline b h = grind (arith, nat_tests)

cuts_more : (bs bytes : List ℕ) (lines : List (List ℕ)) (begun : List ℕ) → ((k : ℕ) → k < length bs → get_or bs k 0 ≢ 10) → IsCutAt bytes lines begun → IsCutAt (bytes ++ bs) lines (begun ++ bs)
cuts_more [] bytes lines begun plain cut = subst (λ l. IsCutAt l lines (begun ++ [])) (sym (append-nil bytes)) (subst (λ l. IsCutAt bytes lines l) (sym (append-nil begun)) cut)
cuts_more (b ∷ bs) bytes lines begun plain cut =
    let more = cuts_more bs (bytes ++ b ∷ []) lines (begun ++ b ∷ []) (λ k lt. plain (suc k) (omega arith)) (cut_more bytes lines begun b (isnt_newline b (plain 0 (omega arith))) cut) in
    subst (λ l. IsCutAt l lines (begun ++ (b ∷ bs))) (append_assoc bytes (b ∷ []) bs) (subst (λ l. IsCutAt ((bytes ++ b ∷ []) ++ bs) lines l) (append_assoc begun (b ∷ []) bs) more)

-- the line with these bytes kept
abbrev keeping : OpenLine → List ℕ → OpenLine
keeping cutter bytes = record { bytes = bytes; too_long = cutter.too_long; ended = cutter.ended }

-- the first of the bytes are kept, none of them a newline
pub takes_front : (db : List Domain) (taken piece : List ℕ) (n : ℕ) (cutter kept : OpenLine) (before after : Option (List ℕ)) (core : Core) (heard heard' : List (Option Seen)) → n ≤ length piece
    → ((k : ℕ) → k < n → get_or piece k 0 ≢ 10) → kept ≡ record { bytes = cutter.bytes ++ take n piece; too_long = cutter.too_long; ended = cutter.ended }
    → IsReadSoFar db taken cutter before after core heard heard' → IsReadSoFar db (taken ++ take n piece) kept before after core heard heard'
takes_front db taken piece n cutter kept before after core heard heard' le plain is so = record {
  lines = so.lines;
  begun = so.begun ++ take n piece;
  cut = cuts_more (take n piece) taken so.lines so.begun front so.cut;
  holds = subst (IsHeld (so.begun ++ take n piece)) (sym is) held;
  so_far = so.so_far;
}
  where
    front : (k : ℕ) → k < length (take n piece) → get_or (take n piece) k 0 ≢ 10
    front k lt =
        let below : k < n = omega (arith, lt, length-take-le n piece le) in
        subst (λ x. x ≢ 10) (sym (get_or-take n piece k 0 below)) (plain k below)

    held : IsHeld (so.begun ++ take n piece) (keeping cutter (cutter.bytes ++ take n piece))
    held = record {
      unended = so.holds.unended;
      whole = λ short. ap (λ l. l ++ take n piece) (so.holds.whole short);
      long = λ long. let fewer = so.holds.long long in omega (arith, fewer, length-append so.begun (take n piece));
    }

-- where none is kept, the line stays
pub none_kept : (cutter kept : OpenLine) (piece : List ℕ) (n : ℕ) → n ≡ 0 → kept ≡ record { bytes = cutter.bytes ++ take n piece; too_long = cutter.too_long; ended = cutter.ended } → kept ≡ cutter
none_kept cutter kept piece n none is = is ∙ ap (λ m. keeping cutter (cutter.bytes ++ take m piece)) none ∙ ap (keeping cutter) (append-nil cutter.bytes)

pub first_taken : (taken piece : List ℕ) → 0 < length piece → taken ++ get_or piece 0 0 ∷ [] ≡ taken ++ take 1 piece
first_taken taken [] some = absurd (omega arith)
first_taken taken (b ∷ bs) some = refl

pub halts_first : (db : List Domain) (taken piece : List ℕ) (output : StreamAround) (drivers : DriversAround) (halt : Halt) → 0 < length piece
    → HaltsAmong db (taken ++ get_or piece 0 0 ∷ drop 1 piece) output drivers halt → HaltsAmong db (taken ++ piece) output drivers halt
halts_first db taken [] output drivers halt some h = absurd (omega arith)
halts_first db taken (b ∷ bs) output drivers halt some h = h

-- ---- piece by piece

pub on_within : (bytes : List ℕ) (i n : ℕ) → i ≤ length bytes → n ≤ length (take (length bytes - i) (drop i bytes)) → i + n ≤ length bytes
on_within bytes i n le few =
    let size = ap length (take_rest bytes i) ∙ length-drop i bytes in
    omega (arith, le, few, size)

pub bytes_on : (taken bytes : List ℕ) (i n : ℕ) → (taken ++ take i bytes) ++ take n (take (length bytes - i) (drop i bytes)) ≡ taken ++ take (i + n) bytes
bytes_on taken bytes i n =
    append_assoc taken (take i bytes) (take n (take (length bytes - i) (drop i bytes)))
    ∙ ap (λ l. taken ++ l) (ap (λ l. take i bytes ++ take n l) (take_rest bytes i) ∙ sym (take-add i n bytes))

pub bytes_rest : (taken bytes : List ℕ) (i : ℕ) → (taken ++ take i bytes) ++ take (length bytes - i) (drop i bytes) ≡ taken ++ bytes
bytes_rest taken bytes i =
    append_assoc taken (take i bytes) (take (length bytes - i) (drop i bytes))
    ∙ ap (λ l. taken ++ l) (ap (λ l. take i bytes ++ l) (take_rest bytes i) ∙ take-append-drop i bytes)

pub bytes_all : (taken bytes : List ℕ) (i : ℕ) → length bytes ≤ i → taken ++ take i bytes ≡ taken ++ bytes
bytes_all taken bytes i past = ap (λ l. taken ++ l) (take_all i bytes past)

-- ---- the end

pub last_none : (db : List Domain) (script : List ℕ) (cutter : OpenLine) (cut : Cut) (output : StreamAround) (drivers : DriversAround) (core : Core) → IsCut cutter cut → ((this : List ℕ) → IsCutOf this cut → this ≡ [])
    → IsReadSoFar db script cutter output.before output.after core drivers.before drivers.after → IsAnswered (LineGives db) (script_lines script) output drivers
last_none db script cutter cut output drivers core is none so =
    subst (λ lines. IsAnswered (LineGives db) lines output drivers) (lines_at_newline script so.lines so.begun so.cut (none so.begun (cut_held so.begun cutter cut so.holds is)))
    (ends_whole (LineGives db) db so.lines output drivers core so.so_far)

pub last_answered : (db : List Domain) (script : List ℕ) (cutter : OpenLine) (cut other : Cut) (mid : Option (List ℕ)) (output : StreamAround) (drivers : DriversAround) (core core' : Core) (first : List (Option Seen)) → IsCut cutter cut → ((this : List ℕ) → IsCutOf this cut → this ≡ [] → ⊥)
    → IsCut cutter other
    → ((lines : List (List ℕ)) (this : List ℕ) → IsCutOf this other → IsRunSoFar (LineGives db) db lines output.before mid core drivers.before first → IsRunSoFar (LineGives db) db (lines ++ this ∷ []) output.before output.after core' drivers.before drivers.after)
    → IsReadSoFar db script cutter output.before mid core drivers.before first → IsAnswered (LineGives db) (script_lines script) output drivers
last_answered db script cutter cut other mid output drivers core core' first is some is' answered so =
    subst (λ lines. IsAnswered (LineGives db) lines output drivers) (lines_at_end script so.lines so.begun so.cut (some so.begun (cut_held so.begun cutter cut so.holds is)))
    (ends_whole (LineGives db) db (so.lines ++ so.begun ∷ []) output drivers core' (answered so.lines so.begun (cut_held so.begun cutter other so.holds is') so.so_far))

pub last_halts : (db : List Domain) (script : List ℕ) (cutter : OpenLine) (cut other : Cut) (mid : Option (List ℕ)) (output : StreamAround) (drivers : DriversAround) (halt : Halt) (core : Core) (first : List (Option Seen)) → IsCut cutter cut → ((this : List ℕ) → IsCutOf this cut → this ≡ [] → ⊥)
    → IsCut cutter other
    → ((lines : List (List ℕ)) (this : List ℕ) (rest : List (List ℕ)) → IsCutOf this other → IsRunSoFar (LineGives db) db lines output.before mid core drivers.before first → IsHalt db (lines ++ this ∷ rest) output drivers halt)
    → IsReadSoFar db script cutter output.before mid core drivers.before first → IsHalt db (script_lines script) output drivers halt
last_halts db script cutter cut other mid output drivers halt core first is some is' stops so =
    subst (λ lines. IsHalt db lines output drivers halt) (lines_at_end script so.lines so.begun so.cut (some so.begun (cut_held so.begun cutter cut so.holds is)))
    (stops so.lines so.begun [] (cut_held so.begun cutter other so.holds is') so.so_far)
