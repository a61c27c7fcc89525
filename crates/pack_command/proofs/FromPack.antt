-- What follows from the end of `pack`, where its script is told: all its messages, the fault of its first faulty line, or the length.
use Rattle.std.proofs.Common.{◌≡◌, ℕ, ◌+◌, ◌<◌, ◌≤◌, zero, suc, List, [], ◌∷◌, ◌++◌, length, All, Option, Some, Result, Ok, Err, inl, inr, refl, sym, ap, subst, ◌∙◌, append_assoc, arith}
use Rattle.std.proofs.lemmas.List.Elements.{All-cons}
use Rattle.std.specs.Prelude.{◌⊎◌}
use Rattle.std.specs.declared.alloc.Global.{Global}
use Rattle.std.specs.declared.string.String.{String}
use Rattle.core_runs.specs.Given.{EachGives}
use Rattle.line_forms.specs.Lines.{Says}
use Rattle.line_forms.specs.declared.fault.LineFault.{LineFault}
use Rattle.line_forms.proofs.Saying.{one_meaning}
use Rattle.reg_journal.specs.declared.request.Request.{Request}
use Rattle.iw_commands.specs.Scripts.{script_lines}
use Rattle.db_commands.specs.Devices.{Devices, HasFault, IsRead, script_limit}
use Rattle.db_commands.specs.Status.{EndsWith}
use Rattle.db_commands.proofs.FromConversion.{not_longer, of_told}
use Rattle.db_commands.specs.declared.status.InputFault.TheVariants.{Text, Database, Layout, CacTime, NoCountry, Line, Wire}
use Rattle.db_commands.specs.declared.status.Status.{Status}
use Rattle.db_commands.specs.declared.status.Status.TheVariants.{Done, Usage, Refused, ReadFault, WriteFault, NoMemory, TooLong}
use Rattle.script_run.specs.Taken.{HasLines}
use Rattle.pack_command.specs.Pack.{HasFaultyLine, HasPackScript, IsGood, IsPackStatus, MayPack, WritesMessages}
use Rattle.pack_command.specs.Packing.{AreAllPacked, MeetsFaultyLine, PackGives, SayingPacks}
use Rattle.pack_command.proofs.Fronts.{lines_first}

-- ---- good lines

not_both : (line : List ℕ) (asked : Option Request) (fault : LineFault) → Says line (Ok asked) → Says line (Err fault) → ⊥
not_both line asked fault good bad = let same = one_meaning line (Ok asked) (Err fault) good bad in absurd cc

saying_good : (n : ℕ) (line : List ℕ) (said : Result (Option Request) LineFault) (bytes : List ℕ) (next : ℕ) → Says line said → SayingPacks n said bytes next → IsGood line
saying_good n line (Ok asked) bytes next says packs = (asked, says)
saying_good n line (Err fault) bytes next says packs = absurd packs

-- lines that were packed are good
packed_good : (n : ℕ) (lines : List (List ℕ)) (bytes failed : List ℕ) (last : ℕ) → EachGives PackGives n lines bytes failed last → All IsGood lines
packed_good n [] bytes failed last none = λ k d within. absurd (omega (arith, within))
packed_good n (line ∷ lines) bytes failed last (first, failed_first, k, (said, says, packs, none), rest, failed_rest, there, all, all_failed) =
    All-cons IsGood line lines (saying_good n line said first k says packs) (packed_good k lines rest failed_rest last there)

-- among good lines none has a fault
none_faulty : (first : List (List ℕ)) (line : List ℕ) (rest : List (List ℕ)) (fault : LineFault) → All IsGood (first ++ line ∷ rest) → Says line (Err fault) → ⊥
none_faulty [] line rest fault good bad = let (asked, says) = good zero [] (omega arith) in not_both line asked fault says bad
none_faulty (l ∷ ls) line rest fault good bad = none_faulty ls line rest fault (λ k d within. good (suc k) d (omega (arith, within))) bad

-- ---- the first faulty line

-- where lines are parted at a first faulty line in two ways, the two are one
same_place : (first others : List (List ℕ)) (line other : List ℕ) (rest rest' : List (List ℕ)) (fault fault' : LineFault) → first ++ line ∷ rest ≡ others ++ other ∷ rest'
    → All IsGood first → All IsGood others → Says line (Err fault) → Says other (Err fault') → (length first ≡ length others) × (fault ≡ fault')
same_place [] [] line other rest rest' fault fault' same good good' bad bad' =
    let is : line ≡ other = cc in
    let faults = one_meaning line (Err fault) (Err fault') bad (subst (λ l. Says l (Err fault')) (sym is) bad') in
    (refl, cc)
same_place [] (k ∷ ks) line other rest rest' fault fault' same good good' bad bad' =
    let is : line ≡ k = cc in
    let (asked, says) = good' zero [] (omega arith) in
    absurd (not_both k asked fault says (subst (λ l. Says l (Err fault)) is bad))
same_place (l ∷ ls) [] line other rest rest' fault fault' same good good' bad bad' =
    let is : l ≡ other = cc in
    let (asked, says) = good zero [] (omega arith) in
    absurd (not_both l asked fault' says (subst (λ l. Says l (Err fault')) (sym is) bad'))
same_place (l ∷ ls) (k ∷ ks) line other rest rest' fault fault' same good good' bad bad' =
    let is : ls ++ line ∷ rest ≡ ks ++ other ∷ rest' = cc in
    let (places, faults) = same_place ls ks line other rest rest' fault fault' is (λ i d within. good (suc i) d (omega (arith, within))) (λ i d within. good' (suc i) d (omega (arith, within))) bad bad' in
    (ap suc places, faults)

-- ---- all of it

written_of : (d : Devices) (script : List ℕ) → d.input.before ≡ Some script → IsRead script_limit d.input (λ given. AreAllPacked (script_lines given) d.output) → WritesMessages d script
written_of d script told read = record { at_end = read.at_end; written = subst (λ given. AreAllPacked (script_lines given) d.output) (sym (of_told _ script _ told read.good.all)) read.good.holds }

-- a script of good lines meets no fault
no_fault_met : (d : Devices) (script : List ℕ) (number : ℕ) (fault : LineFault) → d.input.before ≡ Some script → All IsGood (script_lines script)
    → HasLines d.input (λ lines. MeetsFaultyLine lines number fault d.output) → ⊥
no_fault_met d script number fault told good met =
    let (lines, rest, first, meets) = lines_first d.input script (λ lines. MeetsFaultyLine lines number fault d.output) told met in
    none_faulty meets.first meets.line (meets.rest ++ rest) fault
    (subst (All IsGood) (first ∙ ap (λ ls. ls ++ rest) meets.parts ∙ append_assoc meets.first (meets.line ∷ meets.rest) rest) good) meets.says

pub packed_from : (words : List (String Global)) (d : Devices) (status : Status) (script : List ℕ) → MayPack words d script → IsPackStatus d.input d.output status
    → (status ≡ NoMemory) ⊎ ((status ≡ Done) × WritesMessages d script)
packed_from words d Done script may read = inr (refl, written_of d script may.has_script.told read)
packed_from words d Usage script may none = absurd none
packed_from words d (Refused (Line number fault)) script may met = absurd (no_fault_met d script number fault may.has_script.told may.good met)
packed_from words d (Refused (Text fault)) script may none = absurd none
packed_from words d (Refused (Database fault)) script may none = absurd none
packed_from words d (Refused (Layout many)) script may none = absurd none
packed_from words d (Refused (CacTime country rule)) script may none = absurd none
packed_from words d (Refused (NoCountry code)) script may none = absurd none
packed_from words d (Refused (Wire place fault)) script may none = absurd none
packed_from words d ReadFault script may (rose, lines) = absurd (may.has_script.reads rose)
packed_from words d WriteFault script may (rose, lines) = absurd (may.writes rose)
packed_from words d NoMemory script may lines = inl refl
packed_from words d TooLong script may (longer, lines) =
    let above = of_told _ script _ may.has_script.told longer in
    absurd (omega (arith, above, may.within))

-- ---- the fault

-- the fault that was met is that of the first faulty line
met_fault : (d : Devices) (script : List ℕ) (number other : ℕ) (fault fault' : LineFault) → d.input.before ≡ Some script → HasFaultyLine script number fault
    → HasLines d.input (λ lines. MeetsFaultyLine lines other fault' d.output) → (other ≡ number) × (fault' ≡ fault)
met_fault d script number other fault fault' told has met =
    let (lines, rest, first, meets) = lines_first d.input script (λ lines. MeetsFaultyLine lines other fault' d.output) told met in
    let (places, faults) = same_place meets.first has.first meets.line has.line (meets.rest ++ rest) has.rest fault' fault
    (sym (first ∙ ap (λ ls. ls ++ rest) meets.parts ∙ append_assoc meets.first (meets.line ∷ meets.rest) rest) ∙ has.parts)
    (packed_good 0 meets.first meets.before.bytes [] meets.before.requests meets.before.packed) has.good meets.says has.says in
    (meets.numbered ∙ ap (λ n. n + 1) places ∙ sym has.numbered, faults)

packed_all_good : (d : Devices) (script : List ℕ) → WritesMessages d script → All IsGood (script_lines script)
packed_all_good d script done = packed_good 0 (script_lines script) done.written.bytes [] done.written.requests done.written.packed

pub packed_fault : (words : List (String Global)) (d : Devices) (status : Status) (script : List ℕ) (number : ℕ) (fault : LineFault) → HasPackScript words d script → length script ≤ script_limit
    → HasFaultyLine script number fault → IsPackStatus d.input d.output status → EndsWith status (Refused (Line number fault)) ⊎ HasFault d.output
packed_fault words d Done script number fault has within faulty read =
    absurd (none_faulty faulty.first faulty.line faulty.rest fault (subst (All IsGood) faulty.parts (packed_all_good d script (written_of d script has.told read))) faulty.says)
packed_fault words d Usage script number fault has within faulty none = absurd none
packed_fault words d (Refused (Line other fault')) script number fault has within faulty met =
    let (places, faults) = met_fault d script number other fault fault' has.told faulty met in
    inl (inr (rw (places, faults) refl))
packed_fault words d (Refused (Text fault')) script number fault has within faulty none = absurd none
packed_fault words d (Refused (Database fault')) script number fault has within faulty none = absurd none
packed_fault words d (Refused (Layout many)) script number fault has within faulty none = absurd none
packed_fault words d (Refused (CacTime country rule)) script number fault has within faulty none = absurd none
packed_fault words d (Refused (NoCountry code)) script number fault has within faulty none = absurd none
packed_fault words d (Refused (Wire place fault')) script number fault has within faulty none = absurd none
packed_fault words d ReadFault script number fault has within faulty (rose, lines) = absurd (has.reads rose)
packed_fault words d WriteFault script number fault has within faulty (rose, lines) = inr rose
packed_fault words d NoMemory script number fault has within faulty lines = inl (inl refl)
packed_fault words d TooLong script number fault has within faulty (longer, lines) =
    let above = of_told _ script _ has.told longer in
    absurd (omega (arith, above, within))

-- ---- the length

pub packed_long : (words : List (String Global)) (d : Devices) (status : Status) (script : List ℕ) → HasPackScript words d script → script_limit < length script
    → All IsGood (script_lines script) → IsPackStatus d.input d.output status → EndsWith status TooLong ⊎ HasFault d.output
packed_long words d Done script has above good read = absurd (not_longer script_limit d.input script _ has.told above read)
packed_long words d Usage script has above good none = absurd none
packed_long words d (Refused (Line number fault)) script has above good met = absurd (no_fault_met d script number fault has.told good met)
packed_long words d (Refused (Text fault)) script has above good none = absurd none
packed_long words d (Refused (Database fault)) script has above good none = absurd none
packed_long words d (Refused (Layout many)) script has above good none = absurd none
packed_long words d (Refused (CacTime country rule)) script has above good none = absurd none
packed_long words d (Refused (NoCountry code)) script has above good none = absurd none
packed_long words d (Refused (Wire place fault)) script has above good none = absurd none
packed_long words d ReadFault script has above good (rose, lines) = absurd (has.reads rose)
packed_long words d WriteFault script has above good (rose, lines) = inr rose
packed_long words d NoMemory script has above good lines = inl (inl refl)
packed_long words d TooLong script has above good longer = inl (inr refl)
