-- Why bytes give no database.
use Rattle.std.specs.Prelude.{ℕ, List}
use Rattle.rule_tables.specs.FileFaults.{HasHeader, IsDbFault}
use Rattle.db_reader.specs.declared.fault.ReadFault.{ReadFault}
use Rattle.db_reader.specs.declared.fault.ReadFault.TheVariants.{Bad, OutOfMemory}

-- The first fault of the file, or out of memory: memory is asked for only behind a good header, so a fault of the header is
-- told without it.
abbrev pub IsReadFault : List ℕ → ReadFault → Type 0
IsReadFault b (Bad fault) = IsDbFault b fault
IsReadFault b OutOfMemory = HasHeader b
