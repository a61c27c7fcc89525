-- What the command ends with.
use Rattle.std.proofs.Common.{◌≡◌, ℕ, List, [], Option, refl, sym, subst, append-nil}
use Rattle.reg_journal.specs.declared.reply.Reply.{Reply}
use Rattle.db_commands.specs.Devices.{IsUntouched, DriversAround, around}
use Rattle.reg_make.specs.Domains.{made_domains}
use Rattle.reg_make.specs.Made.{made_requests}
use Rattle.make_command.specs.Counts.{counts_line}
use Rattle.make_command.specs.Make.{IsMadeWhole, IsMadeInPart}
use Rattle.make_command.specs.declared.counts.Counts.{Counts}
use Rattle.make_command.specs.inner.Making.{AllAnswered, AreCounts, SomeAnswered}

pub made_whole : (n : ℕ) (counts : Counts) (drivers : DriversAround) (line : List ℕ) (P : List ℕ → Type 0) → AllAnswered made_domains (made_requests n) counts drivers.before drivers.after
    → ((replies : List Reply) → AreCounts counts replies → line ≡ counts_line replies) → P line → IsMadeWhole n drivers P
made_whole n counts drivers line P all says written = record {
  replies = all.replies;
  failed = all.failed;
  last = all.last;
  given = all.given;
  follow = all.follow;
  line = subst P (says all.replies all.counted) written;
}

pub made_in_part : (n : ℕ) (drivers : DriversAround) → SomeAnswered made_domains (made_requests n) drivers.before drivers.after → IsMadeInPart n drivers
made_in_part n drivers some = record { first = some.first; left = some.left; parts = some.parts; replies = some.replies; failed = some.failed; last = some.last; given = some.given; follow = some.follow }

pub made_unwritten : (n : ℕ) (counts : Counts) (drivers : DriversAround) → AllAnswered made_domains (made_requests n) counts drivers.before drivers.after → IsMadeInPart n drivers
made_unwritten n counts drivers all = record {
  first = made_requests n;
  left = [];
  parts = sym (append-nil (made_requests n));
  replies = all.replies;
  failed = all.failed;
  last = all.last;
  given = all.given;
  follow = all.follow;
}

pub untouched : (held : Option (List ℕ)) (count : ℕ) → IsUntouched (around held held count count)
untouched held count = record { bytes = refl; faults = refl }
