-- What a fact that speaks to books leaves of the radios.
use Rattle.std.proofs.Common.{◌≡◌, ℕ, ◌<◌, ◌==◌, false, List, ◌∷◌, length, get_or, map, Some, refl, sym, subst, ◌∙◌}
use Rattle.std.proofs.Math.ListN.{set}
use Rattle.rule_tables.specs.declared.domain.Domain.{Domain}
use Rattle.chan_flags.specs.Records.{AreRecords}
use Rattle.rule_intersect.specs.Tables.{IsTableOf}
use Rattle.dfs_states.specs.Book.{Book}
use Rattle.dfs_states.specs.Calls.{Call}
use Rattle.dfs_states.specs.Meaning.{EachMayBeCalled, MayBeCalled}
use Rattle.dfs_states.specs.StandsFor.{BookStandsFor}
use Rattle.reg_journal.specs.Applicable.{applies, custom_domains, driver_code_of}
use Rattle.reg_journal.specs.Due.{EachMayFollow}
use Rattle.reg_journal.specs.Facts.{Fact, Journal, radar_met, started, stopped, check_begun, check_dropped}
use Rattle.reg_journal.specs.Present.{is_used, profile_of}
use Rattle.reg_books.specs.Calls.{call_of, calls_of, opening_of, pushed}
use Rattle.core_parts.specs.Kept.{KeepsPlace, KeepsRadio, KeepsRadios}
use Rattle.core_parts.specs.BookCalls.{SpeaksToBooks, call_in}
use Rattle.reg_books.specs.Sparing.{SparesRadio}
use Rattle.core_parts.specs.declared.book_call.BookCall.{BookCall}
use Rattle.core_parts.specs.declared.radio.Radio.{Radio}
use Rattle.core_parts.specs.declared.radio.RadioPlace.{RadioPlace}
use Rattle.core_parts.specs.declared.radio.RadioPlace.TheVariants.{Free, Removed, There}
use Rattle.reg_books.proofs.DueCalls.{due_calls}
use Rattle.core_parts.proofs.KeptPlaces.{kept_at}
