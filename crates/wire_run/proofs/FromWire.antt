-- What follows from the end of `wire`, where its database file and its stream are told: all answers, or the fault of the stream, or the
-- length.
use Rattle.std.proofs.Common.{◌≡◌, ℕ, ◌+◌, ◌<◌, ◌≤◌, ◌⊎◌, List, [], ◌++◌, length, take, Some, None, inl, inr, refl, sym, ap, subst, ◌∙◌, arith}
use Rattle.std.specs.Io.KnownBytes.{Appends}
use Rattle.std.proofs.lemmas.List.{length-append, take_all}
use Rattle.rule_tables.specs.FileFaults.{IsDbFault}
use Rattle.rule_tables.specs.declared.domain.Domain.{Domain}
use Rattle.rule_tables.specs.declared.file_fault.DbFault.{DbFault}
use Rattle.nl_attrs.specs.Messages.{all_spelled}
use Rattle.nl_attrs.specs.Streams.{AreMessages, IsTruncated}
use Rattle.nl_attrs.specs.declared.fault.AttrFault.{AttrFault}
use Rattle.nl_attrs.specs.declared.fault.AttrFault.TheVariants.{Truncated}
use Rattle.nl_attrs.specs.declared.message.Msg.{Msg}
use Rattle.nl_attrs.proofs.StreamLaws.{fault_ends, one_stream, read_back}
use Rattle.core_runs.specs.Answered.{IsAnswered}
use Rattle.core_runs.specs.Driven.{AreSteady}
use Rattle.core_runs.specs.Given.{EachGives}
use Rattle.core_runs.proofs.Drivers.{none_fails}
use Rattle.db_commands.specs.Status.{EndsWith}
use Rattle.db_commands.specs.Devices.{Devices, HasFault, IsRead, input_limit}
use Rattle.db_commands.specs.declared.status.InputFault.TheVariants.{Text, Database, Layout, CacTime, NoCountry, Line, Wire}
use Rattle.db_commands.specs.declared.status.Status.{Status}
use Rattle.db_commands.specs.declared.status.Status.TheVariants.{Done, Usage, Refused, ReadFault, WriteFault, NoMemory, TooLong}
use Rattle.db_commands.proofs.FromConversion.{not_longer, of_told}
use Rattle.script_run.specs.Run.{HasFile, HasInputOver}
use Rattle.script_run.proofs.FromFile.{accepted_file, faulty_file, long_file, same_database}
use Rattle.script_run.proofs.Told.{taken_within}
use Rattle.wire_run.specs.Answering.{AreAnswers, MessageGives}
use Rattle.wire_run.specs.Streaming.{EndsEarly, HasTaken, IsStreamOf, IsWiring, MeetsStreamFault, stream_limit}
use Rattle.wire_run.specs.Wire.{HasNoFault, IsStreamFault, IsWireStatus, MayWire, WritesAnswers}

-- ---- streams

-- a stream of messages has these and no fault
whole : (stream : List ℕ) (messages : List Msg) → IsStreamOf stream messages → AreMessages stream messages None
whole stream messages (each, parts) = subst (λ bytes. AreMessages bytes messages None) (sym parts) (read_back messages each)

no_fault : (stream : List ℕ) (ms ns : List Msg) (fault : AttrFault) → AreMessages stream ms (Some fault) → AreMessages stream ns None → ⊥
no_fault stream ms ns fault one other = let (same, faults) = one_stream stream ms ns (Some fault) None one other in absurd cc

-- bytes are left behind the messages of a stream, so it isn't these alone
left_behind : (stream : List ℕ) (ms ns : List Msg) (fault : AttrFault) → AreMessages stream ms None → IsTruncated stream ms fault → IsStreamOf stream ns → ⊥
left_behind stream ms ns fault are truncated is =
    let (same, faults) = one_stream stream ms ns None None are (whole stream ns is) in
    let parts : all_spelled ns ≡ all_spelled ns ++ truncated.rest = sym is.1 ∙ truncated.parts ∙ ap (λ (l : List Msg). all_spelled l ++ truncated.rest) same in
    let lengths = ap length parts ∙ length-append (all_spelled ns) truncated.rest in
    omega (arith, lengths, truncated.left)

-- one count of bytes is left behind the messages
one_left : (stream : List ℕ) (ms ns : List Msg) (e f : AttrFault) → ms ≡ ns → IsTruncated stream ms e → IsTruncated stream ns f → e ≡ f
one_left stream ms ns e f same one other =
    let parts : all_spelled ns ++ one.rest ≡ all_spelled ns ++ other.rest = ap (λ (l : List Msg). all_spelled l ++ one.rest) (sym same) ∙ sym one.parts ∙ other.parts in
    let lengths = sym (length-append (all_spelled ns) one.rest) ∙ ap length parts ∙ length-append (all_spelled ns) other.rest in
    let left : length one.rest ≡ length other.rest = omega (arith, lengths) in
    one.is ∙ ap Truncated left ∙ sym other.is

-- the fault that was met within the limit is one of what is told within it
met_within : (d : Devices) (db : List Domain) (stream : List ℕ) (place : ℕ) (fault : AttrFault) → d.input.before ≡ Some stream
    → HasTaken d.input (λ taken. MeetsStreamFault db place fault taken d.output d.drivers)
    → (messages : List Msg) × AreMessages (take stream_limit stream) messages (Some fault) × (place ≡ length (all_spelled messages))
met_within d db stream place fault told met =
    let (front, rest, parts, (messages, are, stands, answered)) = taken_within stream_limit d.input stream (λ taken. MeetsStreamFault db place fault taken d.output d.drivers) told met in
    (messages, subst (λ bytes. AreMessages bytes messages (Some fault)) (sym parts) (fault_ends front rest messages fault are), stands)

-- and of all that is told, where that is within the limit
met_in : (d : Devices) (db : List Domain) (stream : List ℕ) (place : ℕ) (fault : AttrFault) → d.input.before ≡ Some stream → length stream ≤ stream_limit
    → HasTaken d.input (λ taken. MeetsStreamFault db place fault taken d.output d.drivers)
    → (messages : List Msg) × AreMessages stream messages (Some fault) × (place ≡ length (all_spelled messages))
met_in d db stream place fault told within met =
    let (messages, are, stands) = met_within d db stream place fault told met in
    (messages, subst (λ bytes. AreMessages bytes messages (Some fault)) (take_all stream_limit stream within) are, stands)

-- the stream that was read to its end is the one that is told
read_told : (d : Devices) (stream : List ℕ) (P : List ℕ → Type 0) → d.input.before ≡ Some stream → IsRead stream_limit d.input P → P stream
read_told d stream P told read = subst P (sym (of_told _ stream _ told read.good.all)) read.good.holds

-- ---- all answers

answers_of : (d : Devices) (db : List Domain) (messages : List Msg) → IsAnswered (MessageGives db) messages d.output d.drivers → AreSteady d.drivers.before
    → (bytes : List ℕ) × AreAnswers db messages bytes × Appends d.output.before d.output.after bytes
answers_of d db messages done steady =
    let none = none_fails d.drivers.before done.failed steady done.follow.gone_on.unsteady in
    (done.text, (done.last, subst (λ f. EachGives (MessageGives db) [] messages done.text f done.last) none done.given), done.written)

refused_none : (d : Devices) (name : List ℕ) (db : List Domain) (stream : List ℕ) (messages : List Msg) (place : ℕ) (fault : AttrFault) → MayWire d name db stream messages
    → HasTaken d.input (λ taken. MeetsStreamFault db place fault taken d.output d.drivers) ⊎ IsRead stream_limit d.input (λ given. EndsEarly db place fault given d.output d.drivers) → ⊥
refused_none d name db stream messages place fault may (inl met) =
    let (ms, are, stands) = met_in d db stream place fault may.has_stream.told may.within met in
    no_fault stream ms messages fault are (whole stream messages may.is)
refused_none d name db stream messages place fault may (inr read) =
    let (ms, are, truncated, stands, answered) = read_told d stream (λ given. EndsEarly db place fault given d.output d.drivers) may.has_stream.told read in
    left_behind stream ms messages fault are truncated may.is

answered_whole : (d : Devices) (name : List ℕ) (status : Status) (db : List Domain) (stream : List ℕ) (messages : List Msg) → MayWire d name db stream messages → IsWiring db d.input d.output d.drivers status
    → (status ≡ NoMemory) ⊎ ((status ≡ Done) × WritesAnswers d db messages)
answered_whole d name Done db stream messages may read =
    let (ms, is, done) = read_told d stream (λ given. (ms : List Msg) × IsStreamOf given ms × IsAnswered (MessageGives db) ms d.output d.drivers) may.has_stream.told read in
    let (same, faults) = one_stream stream ms messages None None (whole stream ms is) (whole stream messages may.is) in
    let all = subst (λ l. IsAnswered (MessageGives db) l d.output d.drivers) same done in
    inr (refl, record { at_end = read.at_end; answered = all; answers = answers_of d db messages all })
answered_whole d name Usage db stream messages may none = absurd none
answered_whole d name (Refused (Wire place fault)) db stream messages may met = absurd (refused_none d name db stream messages place fault may met)
answered_whole d name (Refused (Text fault)) db stream messages may none = absurd none
answered_whole d name (Refused (Database fault)) db stream messages may none = absurd none
answered_whole d name (Refused (Layout many)) db stream messages may none = absurd none
answered_whole d name (Refused (CacTime country rule)) db stream messages may none = absurd none
answered_whole d name (Refused (NoCountry code)) db stream messages may none = absurd none
answered_whole d name (Refused (Line number fault)) db stream messages may none = absurd none
answered_whole d name ReadFault db stream messages may (rose, taken) = absurd (may.has_stream.reads rose)
answered_whole d name WriteFault db stream messages may (rose, taken) = absurd (may.writes rose)
answered_whole d name NoMemory db stream messages may taken = inl refl
answered_whole d name TooLong db stream messages may (longer, taken) =
    let above = of_told _ stream _ may.has_stream.told longer in
    absurd (omega (arith, above, may.within))

pub wired_whole : (d : Devices) (name : List ℕ) (status : Status) (db : List Domain) (stream : List ℕ) (messages : List Msg) → MayWire d name db stream messages → IsWireStatus d name status
    → (status ≡ NoMemory) ⊎ ((status ≡ Done) × WritesAnswers d db messages)
wired_whole d name status db stream messages may (inl at_file) = inl (accepted_file d name db status may.has_stream.file at_file)
wired_whole d name status db stream messages may (inr there) =
    answered_whole d name status db stream messages may (same_database d name db (λ db. IsWiring db d.input d.output d.drivers status) may.has_stream.file there)

-- ---- the file

pub wired_file_fault : (d : Devices) (name : List ℕ) (status : Status) (bytes : List ℕ) (fault : DbFault) → HasFile d name bytes → length bytes ≤ input_limit → IsDbFault bytes fault → IsWireStatus d name status
    → EndsWith status (Refused (Database fault))
wired_file_fault d name status bytes fault file within is wired = faulty_file d name bytes fault status (λ db. IsWiring db d.input d.output d.drivers status) file within is wired

pub wired_long_file : (d : Devices) (name : List ℕ) (status : Status) (bytes : List ℕ) → HasFile d name bytes → input_limit < length bytes → IsWireStatus d name status → EndsWith status TooLong
wired_long_file d name status bytes file above wired = long_file d name bytes status (λ db. IsWiring db d.input d.output d.drivers status) file above wired

-- ---- the fault of the stream

-- a stream with a fault isn't messages alone
never_whole : (stream : List ℕ) (place : ℕ) (fault : AttrFault) (ms : List Msg) → IsStreamFault stream place fault → IsStreamOf stream ms → ⊥
never_whole stream place fault ms (ns, inl faulty, stands) is = no_fault stream ns ms fault faulty (whole stream ms is)
never_whole stream place fault ms (ns, inr (are, truncated), stands) is = left_behind stream ns ms fault are truncated is

abbrev refusal : ℕ → AttrFault → Status
refusal place fault = Refused (Wire place fault)

-- the fault that was met is the stream's
met_is : (stream : List ℕ) (place other : ℕ) (fault fault' : AttrFault) (ms : List Msg) → IsStreamFault stream place fault → AreMessages stream ms (Some fault') → other ≡ length (all_spelled ms)
    → refusal other fault' ≡ refusal place fault
met_is stream place other fault fault' ms (ns, inl faulty, stands) are here =
    let (same, faults) = one_stream stream ms ns (Some fault') (Some fault) are faulty in
    let is : fault' ≡ fault = cc in
    let places : other ≡ place = here ∙ ap (λ (l : List Msg). length (all_spelled l)) same ∙ sym stands in
    rw (places, is) refl
met_is stream place other fault fault' ms (ns, inr (waits, truncated), stands) are here = absurd (no_fault stream ms ns fault' are waits)

-- and so is that of its end
end_is : (stream : List ℕ) (place other : ℕ) (fault fault' : AttrFault) (ms : List Msg) → IsStreamFault stream place fault → AreMessages stream ms None → IsTruncated stream ms fault' → other ≡ length (all_spelled ms)
    → refusal other fault' ≡ refusal place fault
end_is stream place other fault fault' ms (ns, inl faulty, stands) are truncated here = absurd (no_fault stream ns ms fault faulty are)
end_is stream place other fault fault' ms (ns, inr (waits, other_truncated), stands) are truncated here =
    let (same, faults) = one_stream stream ms ns None None are waits in
    let is : fault' ≡ fault = one_left stream ms ns fault' fault same truncated other_truncated in
    let places : other ≡ place = here ∙ ap (λ (l : List Msg). length (all_spelled l)) same ∙ sym stands in
    rw (places, is) refl

answered_fault : (d : Devices) (name : List ℕ) (status : Status) (db : List Domain) (stream : List ℕ) (place : ℕ) (fault : AttrFault) → HasInputOver d name db stream → length stream ≤ stream_limit
    → IsStreamFault stream place fault → IsWiring db d.input d.output d.drivers status → EndsWith status (Refused (Wire place fault)) ⊎ HasFault d.output
answered_fault d name Done db stream place fault has within faulty read =
    let (ms, is, done) = read_told d stream (λ given. (ms : List Msg) × IsStreamOf given ms × IsAnswered (MessageGives db) ms d.output d.drivers) has.told read in
    absurd (never_whole stream place fault ms faulty is)
answered_fault d name Usage db stream place fault has within faulty none = absurd none
answered_fault d name (Refused (Wire other fault')) db stream place fault has within faulty (inl met) =
    let (ms, are, here) = met_in d db stream other fault' has.told within met in
    inl (inr (met_is stream place other fault fault' ms faulty are here))
answered_fault d name (Refused (Wire other fault')) db stream place fault has within faulty (inr read) =
    let (ms, are, truncated, here, answered) = read_told d stream (λ given. EndsEarly db other fault' given d.output d.drivers) has.told read in
    inl (inr (end_is stream place other fault fault' ms faulty are truncated here))
answered_fault d name (Refused (Text fault')) db stream place fault has within faulty none = absurd none
answered_fault d name (Refused (Database fault')) db stream place fault has within faulty none = absurd none
answered_fault d name (Refused (Layout many)) db stream place fault has within faulty none = absurd none
answered_fault d name (Refused (CacTime country rule)) db stream place fault has within faulty none = absurd none
answered_fault d name (Refused (NoCountry code)) db stream place fault has within faulty none = absurd none
answered_fault d name (Refused (Line number fault')) db stream place fault has within faulty none = absurd none
answered_fault d name ReadFault db stream place fault has within faulty (rose, taken) = absurd (has.reads rose)
answered_fault d name WriteFault db stream place fault has within faulty (rose, taken) = inr rose
answered_fault d name NoMemory db stream place fault has within faulty taken = inl (inl refl)
answered_fault d name TooLong db stream place fault has within faulty (longer, taken) =
    let above = of_told _ stream _ has.told longer in
    absurd (omega (arith, above, within))

pub wired_fault : (d : Devices) (name : List ℕ) (status : Status) (db : List Domain) (stream : List ℕ) (place : ℕ) (fault : AttrFault) → HasInputOver d name db stream → length stream ≤ stream_limit
    → IsStreamFault stream place fault → IsWireStatus d name status → EndsWith status (Refused (Wire place fault)) ⊎ HasFault d.output
wired_fault d name status db stream place fault has within faulty (inl at_file) = inl (inl (accepted_file d name db status has.file at_file))
wired_fault d name status db stream place fault has within faulty (inr there) =
    answered_fault d name status db stream place fault has within faulty (same_database d name db (λ db. IsWiring db d.input d.output d.drivers status) has.file there)

-- ---- the length

answered_long : (d : Devices) (name : List ℕ) (status : Status) (db : List Domain) (stream : List ℕ) → HasInputOver d name db stream → stream_limit < length stream → HasNoFault stream
    → IsWiring db d.input d.output d.drivers status → EndsWith status TooLong ⊎ HasFault d.output
answered_long d name Done db stream has above good read = absurd (not_longer stream_limit d.input stream _ has.told above read)
answered_long d name Usage db stream has above good none = absurd none
answered_long d name (Refused (Wire place fault)) db stream has above (ns, none) (inl met) =
    let (ms, are, here) = met_within d db stream place fault has.told met in
    absurd (no_fault (take stream_limit stream) ms ns fault are none)
answered_long d name (Refused (Wire place fault)) db stream has above good (inr read) = absurd (not_longer stream_limit d.input stream _ has.told above read)
answered_long d name (Refused (Text fault)) db stream has above good none = absurd none
answered_long d name (Refused (Database fault)) db stream has above good none = absurd none
answered_long d name (Refused (Layout many)) db stream has above good none = absurd none
answered_long d name (Refused (CacTime country rule)) db stream has above good none = absurd none
answered_long d name (Refused (NoCountry code)) db stream has above good none = absurd none
answered_long d name (Refused (Line number fault)) db stream has above good none = absurd none
answered_long d name ReadFault db stream has above good (rose, taken) = absurd (has.reads rose)
answered_long d name WriteFault db stream has above good (rose, taken) = inr rose
answered_long d name NoMemory db stream has above good taken = inl (inl refl)
answered_long d name TooLong db stream has above good longer = inl (inr refl)

pub wired_long : (d : Devices) (name : List ℕ) (status : Status) (db : List Domain) (stream : List ℕ) → HasInputOver d name db stream → stream_limit < length stream → HasNoFault stream
    → IsWireStatus d name status → EndsWith status TooLong ⊎ HasFault d.output
wired_long d name status db stream has above good (inl at_file) = inl (inl (accepted_file d name db status has.file at_file))
wired_long d name status db stream has above good (inr there) =
    answered_long d name status db stream has above good (same_database d name db (λ db. IsWiring db d.input d.output d.drivers status) has.file there)
