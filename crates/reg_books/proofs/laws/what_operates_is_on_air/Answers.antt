use Rattle.reg_books.proofs.AirEntries.{on_air_entry}
use Rattle.reg_books.proofs.Broadcast.{driven_where_followed, on_air_once}
use Rattle.reg_books.proofs.laws.what_operates_is_on_air.Goals as goal

pub returns-clause-entries : goal.returns-clause-entries
returns-clause-entries c = on_air_entry

pub returns-clause-once : goal.returns-clause-once
returns-clause-once c = on_air_once

pub returns-clause-driven : goal.returns-clause-driven
returns-clause-driven c = driven_where_followed
