-- the sections so far are those that the messages so far tell
use Rattle.std.proofs.Common.{◌≡◌, List, All, map, take}
use Rattle.nl_attrs.specs.Messages.{attrs_in}
use Rattle.reg_journal.specs.declared.report.Section.{Section}
use Rattle.nl80211_replies.specs.Dumps.{section_attrs}
use Rattle.reply_reading.specs.inner.Reading.{IsToldSection}
use Rattle.reply_reading.proofs.sections.sections_in.Given as goal

abbrev pub invariant-loop-msg : goal.invariant-loop-msg
invariant-loop-msg l = (told : List Section) → All IsToldSection told → map attrs_in l.msgs ≡ map section_attrs told → l.sections ≡ take l.msg-index told
