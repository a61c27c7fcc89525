-- The one file of a database says the database.
use Rattle.std.proofs.Common.{◌≡◌, ℕ, List, refl, sym, subst, arith}
use Rattle.rule_tables.specs.Databases.{IsDb}
use Rattle.rule_tables.specs.FileFormat.{ReadsAs}
use Rattle.rule_tables.specs.declared.domain.Domain.{Domain}
use Rattle.db_writer.specs.LaidOut.{LaidOut, IsWithinReach, last_collection}
use Rattle.db_writer.proofs.Law.{reads_as}
use Rattle.db_writer.proofs.Unique.{EndsIn-unique}

pub says_database : (ds : List Domain) (bytes : List ℕ) → IsDb ds → LaidOut ds bytes → IsWithinReach ds → ReadsAs bytes ds
says_database ds bytes db (s, are, is) (words, ends, small) =
    let same : last_collection ds s ≡ words = EndsIn-unique ds (last_collection ds s) words (s, are, refl) ends in
    subst (λ b. ReadsAs b ds) (sym is) (reads_as ds s db are (omega (arith, same, small)))
