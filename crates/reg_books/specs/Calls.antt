-- The calls of a radio's book: what the journal says of moments, of the radio's checks and radar, of its interfaces' operations,
-- and of its region.
use Rattle.std.specs.Prelude.{◌≡◌, ℕ, ◌==◌, Bool, false, ◌&&◌, List, [], ◌∷◌, Option, Some, None, if◌then◌else◌}
use Rattle.std.specs.Option.{option_map_or}
use Rattle.chan_def.specs.Kinds.{initiates}
use Rattle.chan_def.specs.declared.definition.ChanDef.{ChanDef}
use Rattle.rule_tables.specs.declared.code.Region.TheVariants.{Etsi}
use Rattle.rule_tables.specs.declared.domain.Domain.{Domain}
use Rattle.dfs_states.specs.Calls.{Call, Advance, Radar, Begin, DropCheck, Operate, RegionChanged}
use Rattle.reg_journal.specs.Facts.{Fact, Journal, moment_is, radio_added, radio_removed, hinted, radar_met, started, stopped, check_begun, check_dropped}
use Rattle.rule_tables.specs.Regions.{is_same_region}
use Rattle.reg_journal.specs.Applicable.{region_of}
use Rattle.reg_journal.specs.OnAir.{is_on}
use Rattle.reg_journal.specs.Present.{indexed}
use Rattle.reg_books.specs.Slots.{slot_of}

-- whether checks last on the radio: its region is that of ETSI
abbrev pub checks_last_on : List Domain → Journal → ℕ → Bool
checks_last_on db J r = is_same_region (region_of db J r) Etsi

-- whether they lasted at first, before there were facts
abbrev pub opening_of : List Domain → ℕ → Bool
opening_of db r = checks_last_on db [] r

-- a change of the radio's region, where the fact makes one
abbrev pub region_call : List Domain → Fact → Journal → ℕ → Option Call
region_call db f J r = if is_same_region (region_of db (f ∷ J) r) (region_of db J r) then None else Some (RegionChanged (checks_last_on db (f ∷ J) r))

-- the interface of this index is there, and sends first
abbrev pub sends_first : Journal → ℕ → Bool
sends_first J i = option_map_or (λ x. initiates x.kind) (indexed J i) false

-- an operation of the interface of this index, or that it has none, where it is on the radio and sends first
abbrev pub operation_call : Journal → ℕ → ℕ → Option ChanDef → Option Call
operation_call J r i chan = if is_on J i r && sends_first J i then Some (Operate (slot_of J i) chan) else None

-- the call that a fact is for the book of the radio, after these older facts: none or one
abbrev pub call_of : List Domain → Fact → Journal → ℕ → Option Call
call_of db (moment_is moment) J r = Some (Advance moment)
call_of db (radar_met q chan) J r = if r == q then Some (Radar chan) else None
call_of db (check_begun i chan length) J r = if is_on J i r then Some (Begin (slot_of J i) chan length) else None
call_of db (check_dropped i) J r = if is_on J i r then Some (DropCheck (slot_of J i)) else None
call_of db (started i chan power) J r = operation_call J r i (Some chan)
call_of db (stopped i) J r = operation_call J r i None
call_of db (hinted hint) J r = region_call db (hinted hint) J r
call_of db (radio_added q profile) J r = region_call db (radio_added q profile) J r
call_of db (radio_removed q) J r = region_call db (radio_removed q) J r
call_of db f J r = None

-- the call before the others, where there is one
abbrev pub pushed : Option Call → List Call → List Call
pushed None calls = calls
pushed (Some call) calls = call ∷ calls

-- the calls of the radio's book, the newest first
abbrev pub calls_of : List Domain → Journal → ℕ → List Call
calls_of db [] r = []
calls_of db (f ∷ J) r = pushed (call_of db f J r) (calls_of db J r)

-- the fact is the start of the interface's operation on the channel, or its stop
abbrev pub TellsOperation : Fact → ℕ → Option ChanDef → Type 0
TellsOperation f i None = f ≡ stopped i
TellsOperation f i (Some chan) = (power : ℕ) × (f ≡ started i chan power)
