-- What follows of a database file that is told, for a command that reads one.
use Rattle.std.proofs.Common.{◌≡◌, ℕ, ◌<◌, ◌≤◌, ◌⊎◌, List, length, inl, inr, sym, ◌∙◌, ap, subst, refl, arith}
use Rattle.rule_tables.specs.FileFaults.{IsDbFault}
use Rattle.rule_tables.specs.FileFormat.{ReadsAs}
use Rattle.rule_tables.specs.declared.domain.Domain.{Domain}
use Rattle.rule_tables.specs.declared.file_fault.DbFault.{DbFault}
use Rattle.db_reader.proofs.OneDatabase.{ReadsAs-unique}
use Rattle.db_reader.proofs.OneFault.{IsDbFault-unique, ReadsAs-no_fault}
use Rattle.db_commands.specs.Status.{EndsWith}
use Rattle.db_commands.specs.Devices.{AreGood, Devices, input_limit}
use Rattle.db_commands.specs.declared.status.InputFault.TheVariants.{Database}
use Rattle.db_commands.specs.declared.status.Status.{Status}
use Rattle.db_commands.specs.declared.status.Status.TheVariants.{Done, Usage, Refused, ReadFault, WriteFault, NoMemory, TooLong}
use Rattle.db_commands.proofs.FromConversion.{of_told}
use Rattle.script_run.specs.Run.{EndsAtFile, HasAcceptedFile, HasDatabase, HasFile, IsNoDatabase}

-- the file of the name was read as what it is told to hold
same_file : (d : Devices) (name bytes : List ℕ) (P : List ℕ → Type 0) → HasFile d name bytes → AreGood input_limit (d.files.before name) P → P bytes
same_file d name bytes P file good = subst P (sym (of_told _ bytes _ file.told good.all)) good.holds

-- it is the database as which it is accepted
pub same_database : (d : Devices) (name : List ℕ) (db : List Domain) (P : List Domain → Type 0) → HasAcceptedFile d name db → HasDatabase d name P → P db
same_database d name db P has there =
    let (es, reads, holds) = same_file d name has.bytes (λ bytes. (es : List Domain) × ReadsAs bytes es × P es) has.file there in
    subst P (ReadsAs-unique has.bytes es db reads has.accepted) holds

-- a file that is accepted gives a database
pub accepted_file : (d : Devices) (name : List ℕ) (db : List Domain) (status : Status) → HasAcceptedFile d name db → EndsAtFile d name status → status ≡ NoMemory
accepted_file d name db (Refused fault) has (none, input, silent) =
    let (f, is, told) = same_file d name has.bytes (λ bytes. (f : DbFault) × IsDbFault bytes f × (fault ≡ Database f)) has.file none in
    absurd (ReadsAs-no_fault has.bytes db f has.accepted is)
accepted_file d name db ReadFault has (rose, input, silent) = absurd (has.file.files rose)
accepted_file d name db NoMemory has (none, input, silent) = refl
accepted_file d name db TooLong has (longer, input, silent) =
    let above = of_told _ has.bytes _ has.file.told longer in
    absurd (omega (arith, above, has.within))
accepted_file d name db Done has (none, input, silent) = absurd none
accepted_file d name db Usage has (none, input, silent) = absurd none
accepted_file d name db WriteFault has (none, input, silent) = absurd none

-- ---- a file with a fault

-- no database was read from it
no_database : (d : Devices) (name bytes : List ℕ) (fault : DbFault) (P : List Domain → Type 0) → HasFile d name bytes → IsDbFault bytes fault → HasDatabase d name P → ⊥
no_database d name bytes fault P file is there =
    let (db, reads, holds) = same_file d name bytes (λ bytes. (db : List Domain) × ReadsAs bytes db × P db) file there in
    ReadsAs-no_fault bytes db fault reads is

fault_there : (d : Devices) (name bytes : List ℕ) (fault : DbFault) (status : Status) → HasFile d name bytes → length bytes ≤ input_limit → IsDbFault bytes fault
    → IsNoDatabase (d.files.before name) d.files.faults_before d.files.faults_after status → EndsWith status (Refused (Database fault))
fault_there d name bytes fault (Refused other) file within is none =
    let (f, found, told) = same_file d name bytes (λ bytes. (f : DbFault) × IsDbFault bytes f × (other ≡ Database f)) file none in
    inr (ap Refused (told ∙ ap Database (IsDbFault-unique bytes f fault found is)))
fault_there d name bytes fault ReadFault file within is rose = absurd (file.files rose)
fault_there d name bytes fault NoMemory file within is none = inl refl
fault_there d name bytes fault TooLong file within is longer =
    let above = of_told _ bytes _ file.told longer in
    absurd (omega (arith, above, within))
fault_there d name bytes fault Done file within is none = absurd none
fault_there d name bytes fault Usage file within is none = absurd none
fault_there d name bytes fault WriteFault file within is none = absurd none

pub faulty_file : (d : Devices) (name bytes : List ℕ) (fault : DbFault) (status : Status) (P : List Domain → Type 0) → HasFile d name bytes → length bytes ≤ input_limit → IsDbFault bytes fault
    → EndsAtFile d name status ⊎ HasDatabase d name P → EndsWith status (Refused (Database fault))
faulty_file d name bytes fault status P file within is (inl (none, input, silent)) = fault_there d name bytes fault status file within is none
faulty_file d name bytes fault status P file within is (inr there) = absurd (no_database d name bytes fault P file is there)

-- ---- a file above the limit

long_good : (d : Devices) (name bytes : List ℕ) (P : List ℕ → Type 0) → HasFile d name bytes → input_limit < length bytes → AreGood input_limit (d.files.before name) P → ⊥
long_good d name bytes P file above good =
    let is : bytes ≡ good.given = of_told _ bytes _ file.told good.all in
    let long : input_limit < length good.given = subst (λ xs. input_limit < length xs) is above in
    omega (arith, long, good.within)

long_there : (d : Devices) (name bytes : List ℕ) (status : Status) → HasFile d name bytes → input_limit < length bytes
    → IsNoDatabase (d.files.before name) d.files.faults_before d.files.faults_after status → EndsWith status TooLong
long_there d name bytes (Refused fault) file above none = absurd (long_good d name bytes _ file above none)
long_there d name bytes ReadFault file above rose = absurd (file.files rose)
long_there d name bytes NoMemory file above none = inl refl
long_there d name bytes TooLong file above longer = inr refl
long_there d name bytes Done file above none = absurd none
long_there d name bytes Usage file above none = absurd none
long_there d name bytes WriteFault file above none = absurd none

pub long_file : (d : Devices) (name bytes : List ℕ) (status : Status) (P : List Domain → Type 0) → HasFile d name bytes → input_limit < length bytes
    → EndsAtFile d name status ⊎ HasDatabase d name P → EndsWith status TooLong
long_file d name bytes status P file above (inl (none, input, silent)) = long_there d name bytes status file above none
long_file d name bytes status P file above (inr there) = absurd (long_good d name bytes _ file above there)
