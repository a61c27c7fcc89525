-- What follows from the answer of the top call, where what is lent is told.
use Rattle.std.proofs.Common.{◌≡◌, ◌↔◌, ℕ, ◌<◌, ◌≤◌, Bool, IsTrue, false, List, [], ◌∷◌, codes, length, get_or, ◌⊎◌, inl, inr, sym, ◌∙◌, ap, subst, arith}
use Rattle.std.specs.Prelude.{map, string_bytes}
use Rattle.std.specs.declared.alloc.Global.{Global}
use Rattle.std.specs.declared.string.String.{String}
use Rattle.regtool.specs.Answer.{ConvertsTo, IsCommand, IsStatusOf, IsComplete, MakesTo, NamesDatabaseFile, PacksTo, RunsTo, TellsFault, TellsLength, WiresTo}
use Rattle.db_commands.specs.Conversions.{IsConversion, NamesConversion, command_words}
use Rattle.db_commands.specs.Converted.{IsConverted}
use Rattle.db_commands.specs.Devices.{AreLeft, Devices, IsUnread, IsUntouched, input_limit}
use Rattle.db_commands.specs.Status.{EndsWith}
use Rattle.make_command.specs.Make.{IsMakeStatus, NamesMake}
use Rattle.pack_command.specs.Pack.{IsPackStatus, NamesPack}
use Rattle.rule_tables.specs.FileFaults.{IsDbFault}
use Rattle.rule_tables.specs.declared.file_fault.DbFault.{DbFault}
use Rattle.script_run.specs.Run.{HasFile, IsRunStatus, NamesRun}
use Rattle.wire_run.specs.Wire.{IsWireStatus, NamesWire}
use Rattle.db_commands.specs.declared.conversion.Conversion.{Conversion}
use Rattle.db_commands.specs.declared.conversion.Conversion.TheVariants.{Compile, Decompile, Check, Lint, Common}
use Rattle.db_commands.specs.declared.status.InputFault.TheVariants.{Database}
use Rattle.db_commands.specs.declared.status.Status.{Status}
use Rattle.db_commands.specs.declared.status.Status.TheVariants.{Done, Usage, Refused, ReadFault, WriteFault, NoMemory, TooLong}
use Rattle.db_commands.proofs.FromConversion.{Names-unique, completed, told_fault, told_length}
use Rattle.make_command.proofs.FromMake.{NamesMake-unique, made_from}
use Rattle.pack_command.proofs.FromPack.{packed_fault, packed_from, packed_long}
use Rattle.script_run.proofs.FromRun.{ran_fault, ran_long_file, ran_long_script, ran_whole}
use Rattle.wire_run.proofs.FromWire.{wired_fault, wired_file_fault, wired_long, wired_long_file, wired_whole}

-- ---- the answer

pub answer_of_run : (words : List (String Global)) (d : Devices) (name : List ℕ) (status : Status) → NamesRun words name → IsRunStatus d name status → IsStatusOf words d status
answer_of_run words d name Done named run = inr (inl (name, named, run))
answer_of_run words d name Usage named run = absurd run
answer_of_run words d name (Refused fault) named run = inr (inl (name, named, run))
answer_of_run words d name ReadFault named run = inr (inl (name, named, run))
answer_of_run words d name WriteFault named run = inr (inl (name, named, run))
answer_of_run words d name NoMemory named run = inr (inl (name, named, run))
answer_of_run words d name TooLong named run = inr (inl (name, named, run))

-- `wire` knows its words
wired_usage : (d : Devices) (name : List ℕ) → IsWireStatus d name Usage → ⊥
wired_usage d name (inl (none, input, silent)) = none
wired_usage d name (inr there) = there.holds.2

pub answer_of_wire : (words : List (String Global)) (d : Devices) (name : List ℕ) (status : Status) → NamesWire words name → IsWireStatus d name status → IsStatusOf words d status
answer_of_wire words d name Done named wired = inr (inr (inl (name, named, wired)))
answer_of_wire words d name Usage named wired = absurd (wired_usage d name wired)
answer_of_wire words d name (Refused fault) named wired = inr (inr (inl (name, named, wired)))
answer_of_wire words d name ReadFault named wired = inr (inr (inl (name, named, wired)))
answer_of_wire words d name WriteFault named wired = inr (inr (inl (name, named, wired)))
answer_of_wire words d name NoMemory named wired = inr (inr (inl (name, named, wired)))
answer_of_wire words d name TooLong named wired = inr (inr (inl (name, named, wired)))

pub answer_of_make : (words : List (String Global)) (d : Devices) (n : ℕ) (status : Status) → NamesMake words n → IsMakeStatus n d.output d.drivers status → IsUnread d.files → IsUntouched d.input → IsStatusOf words d status
answer_of_make words d n Done named make unread untouched = inr (inr (inr (inl (n, named, make, unread, untouched))))
answer_of_make words d n Usage named make unread untouched = absurd make
answer_of_make words d n (Refused fault) named make unread untouched = absurd make
answer_of_make words d n ReadFault named make unread untouched = absurd make
answer_of_make words d n WriteFault named make unread untouched = inr (inr (inr (inl (n, named, make, unread, untouched))))
answer_of_make words d n NoMemory named make unread untouched = inr (inr (inr (inl (n, named, make, unread, untouched))))
answer_of_make words d n TooLong named make unread untouched = absurd make

pub answer_of_pack : (words : List (String Global)) (d : Devices) (status : Status) → NamesPack words → IsPackStatus d.input d.output status → IsUnread d.files → AreLeft d.drivers → IsStatusOf words d status
answer_of_pack words d Done named packed unread left = inr (inr (inr (inr (named, packed, unread, left))))
answer_of_pack words d Usage named packed unread left = absurd packed
answer_of_pack words d (Refused fault) named packed unread left = inr (inr (inr (inr (named, packed, unread, left))))
answer_of_pack words d ReadFault named packed unread left = inr (inr (inr (inr (named, packed, unread, left))))
answer_of_pack words d WriteFault named packed unread left = inr (inr (inr (inr (named, packed, unread, left))))
answer_of_pack words d NoMemory named packed unread left = inr (inr (inr (inr (named, packed, unread, left))))
answer_of_pack words d TooLong named packed unread left = inr (inr (inr (inr (named, packed, unread, left))))

-- words of none of the forms are no command
pub no_command : (words : List (String Global)) → (IsConversion words → ⊥) → ((name : List ℕ) → NamesRun words name → ⊥) → ((name : List ℕ) → NamesWire words name → ⊥) → ((n : ℕ) → NamesMake words n → ⊥)
    → (NamesPack words → ⊥) → IsCommand words → ⊥
no_command words none no_run no_wire no_make no_pack (inl named) = none named
no_command words none no_run no_wire no_make no_pack (inr (inl (name, inl named))) = no_run name named
no_command words none no_run no_wire no_make no_pack (inr (inl (name, inr named))) = no_wire name named
no_command words none no_run no_wire no_make no_pack (inr (inr (inl (n, named)))) = no_make n named
no_command words none no_run no_wire no_make no_pack (inr (inr (inr named))) = no_pack named

pub not_named : (named : Bool) (P : Type 0) → IsTrue named ↔ P → named ≡ false → P → ⊥
not_named named P both isnt holds = let is = both.1 holds in absurd cc

-- ---- which command was done

-- Forms differ in how many words they have, or in the first byte of the first.
abbrev count : List (String Global) → ℕ
count words = length (map string_bytes words)

abbrev initial : List (String Global) → ℕ
initial words = get_or (get_or (map string_bytes words) 0 []) 0 0

abbrev Looks : List (String Global) → ℕ → ℕ → Type 0
Looks words n b = (count words ≡ n) × (initial words ≡ b)

looks_run : (words : List (String Global)) (name : List ℕ) → NamesRun words name → Looks words 2 114
looks_run words name named = (ap length named, ap (λ ws. get_or (get_or ws 0 []) 0 0) named)

looks_wire : (words : List (String Global)) (name : List ℕ) → NamesWire words name → Looks words 2 119
looks_wire words name named = (ap length named, ap (λ ws. get_or (get_or ws 0 []) 0 0) named)

looks_make : (words : List (String Global)) (n : ℕ) → NamesMake words n → Looks words 2 109
looks_make words n (word, named, number) = (ap length named, ap (λ ws. get_or (get_or ws 0 []) 0 0) named)

looks_pack : (words : List (String Global)) → NamesPack words → Looks words 1 112
looks_pack words named = (ap length named, ap (λ ws. get_or (get_or ws 0 []) 0 0) named)

-- a conversion has not two words, and its first byte is less than that of `pack`
conversion_apart : (c : Conversion) → (length (command_words c) ≡ 2 → ⊥) × (get_or (get_or (command_words c) 0 []) 0 0 ≡ 112 → ⊥)
conversion_apart Compile = (λ two. omega (arith, two), λ p. omega (arith, p))
conversion_apart Decompile = (λ two. omega (arith, two), λ p. omega (arith, p))
conversion_apart Check = (λ two. omega (arith, two), λ p. omega (arith, p))
conversion_apart Lint = (λ two. omega (arith, two), λ p. omega (arith, p))
conversion_apart (Common one other) = (λ two. omega (arith, two), λ p. omega (arith, p))

not_two : (words : List (String Global)) (c : Conversion) (b : ℕ) → NamesConversion words c → Looks words 2 b → ⊥
not_two words c b named looks = (conversion_apart c).0 (ap length (sym named.spelled) ∙ looks.0)

not_packed : (words : List (String Global)) (c : Conversion) → NamesConversion words c → NamesPack words → ⊥
not_packed words c named packs = (conversion_apart c).1 (ap (λ ws. get_or (get_or ws 0 []) 0 0) (sym named.spelled) ∙ (looks_pack words packs).1)

apart : (words : List (String Global)) (n m a b : ℕ) → Looks words n a → Looks words m b → (n ≡ m → a ≡ b → ⊥) → ⊥
apart words n m a b one other differ = differ (sym one.0 ∙ other.0) (sym one.1 ∙ other.1)

second-unique : (words : List (String Global)) (first name other : List ℕ) → map string_bytes words ≡ first ∷ name ∷ [] → map string_bytes words ≡ first ∷ other ∷ [] → name ≡ other
second-unique words first name other one two = ap (λ ws. get_or ws 1 []) (sym one ∙ two)

-- the conversion that the words name is the one that was done
converted : (words : List (String Global)) (d : Devices) (c : Conversion) (status : Status) → NamesConversion words c → ConvertsTo words d status → IsConverted c d.input d.output status
converted words d c status named (other, there, done, unread, left) =
    subst (λ e. IsConverted e d.input d.output status) (Names-unique words other c there named) done

-- What was done of the five, but for `Usage`.
abbrev IsOneOf : List (String Global) → Devices → Status → Type 0
IsOneOf words d status = ConvertsTo words d status ⊎ (RunsTo words d status ⊎ (WiresTo words d status ⊎ (MakesTo words d status ⊎ PacksTo words d status)))

done_of : (words : List (String Global)) (d : Devices) (status : Status) → IsCommand words → IsStatusOf words d status → IsOneOf words d status
done_of words d Done command answer = answer
done_of words d Usage command answer = absurd (answer.0 command)
done_of words d (Refused fault) command answer = answer
done_of words d ReadFault command answer = answer
done_of words d WriteFault command answer = answer
done_of words d NoMemory command answer = answer
done_of words d TooLong command answer = answer

convert_of : (words : List (String Global)) (d : Devices) (c : Conversion) (status : Status) → NamesConversion words c → IsOneOf words d status → IsConverted c d.input d.output status
convert_of words d c status named (inl converts) = converted words d c status named converts
convert_of words d c status named (inr (inl (name, runs, done))) = absurd (not_two words c 114 named (looks_run words name runs))
convert_of words d c status named (inr (inr (inl (name, wires, done)))) = absurd (not_two words c 119 named (looks_wire words name wires))
convert_of words d c status named (inr (inr (inr (inl (n, makes, done, unread, untouched))))) = absurd (not_two words c 109 named (looks_make words n makes))
convert_of words d c status named (inr (inr (inr (inr (packs, done, unread, left))))) = absurd (not_packed words c named packs)

run_of : (words : List (String Global)) (d : Devices) (name : List ℕ) (status : Status) → NamesRun words name → IsOneOf words d status → IsRunStatus d name status
run_of words d name status named (inl (c, converts, done, unread, left)) = absurd (not_two words c 114 converts (looks_run words name named))
run_of words d name status named (inr (inl (other, runs, done))) = subst (λ n. IsRunStatus d n status) (second-unique words (codes "run") other name runs named) done
run_of words d name status named (inr (inr (inl (other, wires, done)))) = absurd (apart words 2 2 114 119 (looks_run words name named) (looks_wire words other wires) (λ n b. omega (arith, b)))
run_of words d name status named (inr (inr (inr (inl (n, makes, done, unread, untouched))))) =
    absurd (apart words 2 2 114 109 (looks_run words name named) (looks_make words n makes) (λ n b. omega (arith, b)))
run_of words d name status named (inr (inr (inr (inr (packs, done, unread, left))))) = absurd (apart words 2 1 114 112 (looks_run words name named) (looks_pack words packs) (λ n b. omega (arith, b)))

wire_of : (words : List (String Global)) (d : Devices) (name : List ℕ) (status : Status) → NamesWire words name → IsOneOf words d status → IsWireStatus d name status
wire_of words d name status named (inl (c, converts, done, unread, left)) = absurd (not_two words c 119 converts (looks_wire words name named))
wire_of words d name status named (inr (inl (other, runs, done))) = absurd (apart words 2 2 119 114 (looks_wire words name named) (looks_run words other runs) (λ n b. omega (arith, b)))
wire_of words d name status named (inr (inr (inl (other, wires, done)))) = subst (λ n. IsWireStatus d n status) (second-unique words (codes "wire") other name wires named) done
wire_of words d name status named (inr (inr (inr (inl (n, makes, done, unread, untouched))))) =
    absurd (apart words 2 2 119 109 (looks_wire words name named) (looks_make words n makes) (λ n b. omega (arith, b)))
wire_of words d name status named (inr (inr (inr (inr (packs, done, unread, left))))) = absurd (apart words 2 1 119 112 (looks_wire words name named) (looks_pack words packs) (λ n b. omega (arith, b)))

make_of : (words : List (String Global)) (d : Devices) (n : ℕ) (status : Status) → NamesMake words n → IsOneOf words d status → IsMakeStatus n d.output d.drivers status
make_of words d n status named (inl (c, converts, done, unread, left)) = absurd (not_two words c 109 converts (looks_make words n named))
make_of words d n status named (inr (inl (name, runs, done))) = absurd (apart words 2 2 109 114 (looks_make words n named) (looks_run words name runs) (λ n b. omega (arith, b)))
make_of words d n status named (inr (inr (inl (name, wires, done)))) = absurd (apart words 2 2 109 119 (looks_make words n named) (looks_wire words name wires) (λ n b. omega (arith, b)))
make_of words d n status named (inr (inr (inr (inl (m, makes, done, unread, untouched))))) = subst (λ m. IsMakeStatus m d.output d.drivers status) (NamesMake-unique words m n makes named) done
make_of words d n status named (inr (inr (inr (inr (packs, done, unread, left))))) = absurd (apart words 2 1 109 112 (looks_make words n named) (looks_pack words packs) (λ n b. omega (arith, b)))

pack_of : (words : List (String Global)) (d : Devices) (status : Status) → NamesPack words → IsOneOf words d status → IsPackStatus d.input d.output status
pack_of words d status named (inl (c, converts, done, unread, left)) = absurd (not_packed words c converts named)
pack_of words d status named (inr (inl (name, runs, done))) = absurd (apart words 1 2 112 114 (looks_pack words named) (looks_run words name runs) (λ n b. omega (arith, b)))
pack_of words d status named (inr (inr (inl (name, wires, done)))) = absurd (apart words 1 2 112 119 (looks_pack words named) (looks_wire words name wires) (λ n b. omega (arith, b)))
pack_of words d status named (inr (inr (inr (inl (n, makes, done, unread, untouched))))) =
    absurd (apart words 1 2 112 109 (looks_pack words named) (looks_make words n makes) (λ n b. omega (arith, b)))
pack_of words d status named (inr (inr (inr (inr (packs, done, unread, left))))) = done

-- ---- from the answer

convert_from : (words : List (String Global)) (d : Devices) (c : Conversion) (status : Status) → NamesConversion words c → IsStatusOf words d status → IsConverted c d.input d.output status
convert_from words d c status named answer = convert_of words d c status named (done_of words d status (inl (c, named)) answer)

run_from : (words : List (String Global)) (d : Devices) (name : List ℕ) (status : Status) → NamesRun words name → IsStatusOf words d status → IsRunStatus d name status
run_from words d name status named answer = run_of words d name status named (done_of words d status (inr (inl (name, inl named))) answer)

wire_from : (words : List (String Global)) (d : Devices) (name : List ℕ) (status : Status) → NamesWire words name → IsStatusOf words d status → IsWireStatus d name status
wire_from words d name status named answer = wire_of words d name status named (done_of words d status (inr (inl (name, inr named))) answer)

make_from : (words : List (String Global)) (d : Devices) (n : ℕ) (status : Status) → NamesMake words n → IsStatusOf words d status → IsMakeStatus n d.output d.drivers status
make_from words d n status named answer = make_of words d n status named (done_of words d status (inr (inr (inl (n, named)))) answer)

pack_from : (words : List (String Global)) (d : Devices) (status : Status) → NamesPack words → IsStatusOf words d status → IsPackStatus d.input d.output status
pack_from words d status named answer = pack_of words d status named (done_of words d status (inr (inr (inr named))) answer)

-- ---- what comes of it

faulty_database : (words : List (String Global)) (d : Devices) (status : Status) (name bytes : List ℕ) (fault : DbFault) → IsStatusOf words d status → NamesDatabaseFile words name → HasFile d name bytes
    → length bytes ≤ input_limit → IsDbFault bytes fault → EndsWith status (Refused (Database fault))
faulty_database words d status name bytes fault answer (inl named) file within is = ran_fault d name status bytes fault file within is (run_from words d name status named answer)
faulty_database words d status name bytes fault answer (inr named) file within is = wired_file_fault d name status bytes fault file within is (wire_from words d name status named answer)

long_database : (words : List (String Global)) (d : Devices) (status : Status) (name bytes : List ℕ) → IsStatusOf words d status → NamesDatabaseFile words name → HasFile d name bytes → input_limit < length bytes
    → EndsWith status TooLong
long_database words d status name bytes answer (inl named) file above = ran_long_file d name status bytes file above (run_from words d name status named answer)
long_database words d status name bytes answer (inr named) file above = wired_long_file d name status bytes file above (wire_from words d name status named answer)

pub complete_from : (words : List (String Global)) (d : Devices) (status : Status) → IsStatusOf words d status → IsComplete words d status
complete_from words d status answer = record {
  conversion = λ c input ds may. completed words d c status input ds (convert_from words d c status may.has_input.form answer) may;
  run = λ name db script named may. ran_whole d name status db script may (run_from words d name status named answer);
  wire = λ name db stream messages named may. wired_whole d name status db stream messages may (wire_from words d name status named answer);
  make = λ n may. made_from words d n status may (make_from words d n status may.form answer);
  pack = λ script may. packed_from words d status script may (pack_from words d status may.has_script.form answer);
}

pub fault_from : (words : List (String Global)) (d : Devices) (status : Status) → IsStatusOf words d status → TellsFault words d status
fault_from words d status answer = record {
  conversion = λ c input fault has within is. told_fault words d c status input fault (convert_from words d c status has.form answer) has within is;
  database = λ name bytes fault named file within is. faulty_database words d status name bytes fault answer named file within is;
  stream = λ name db stream place fault named has within faulty. wired_fault d name status db stream place fault has within faulty (wire_from words d name status named answer);
  pack = λ script number fault has within faulty. packed_fault words d status script number fault has within faulty (pack_from words d status has.form answer);
}

pub length_from : (words : List (String Global)) (d : Devices) (status : Status) → IsStatusOf words d status → TellsLength words d status
length_from words d status answer = record {
  conversion = λ c input has above. told_length words d c status input (convert_from words d c status has.form answer) has above;
  database = λ name bytes named file above. long_database words d status name bytes answer named file above;
  script = λ name db script named has above. ran_long_script d name status db script has above (run_from words d name status named answer);
  stream = λ name db stream named has above good. wired_long d name status db stream has above good (wire_from words d name status named answer);
  pack = λ script has above good. packed_long words d status script has above good (pack_from words d status has.form answer);
}
