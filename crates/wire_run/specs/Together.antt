-- What a script gives as lines, and what its requests give as messages.
use Rattle.std.specs.Prelude.{◌≡◌, ℕ, ◌+◌, List, [], ◌∷◌, ◌++◌}
use Rattle.std.specs.List.{flat_map}
use Rattle.rule_tables.specs.declared.domain.Domain.{Domain}
use Rattle.reg_journal.specs.Facts.{Journal}
use Rattle.reg_journal.specs.declared.reply.Reply.{Reply}
use Rattle.reg_journal.specs.declared.request.Request.{Request}
use Rattle.iw_commands.specs.Printed.{text_of_reply}
use Rattle.nl_attrs.specs.Messages.{all_spelled}
use Rattle.nl_attrs.specs.declared.message.Msg.{Msg}
use Rattle.nl80211_cmds.specs.Requests.{message_of}
use Rattle.nl80211_replies.specs.Dumps.{reply_messages}
use Rattle.core_runs.specs.Given.{EachGives, RequestGives}
use Rattle.wire_run.specs.Answering.{MessageGives}
use Rattle.wire_run.specs.Streaming.{IsStreamOf}

-- the messages of the requests, numbered from that number on
abbrev pub messages_from : ℕ → List Request → List Msg
messages_from seq [] = []
messages_from seq (q ∷ qs) = message_of q seq ∷ messages_from (seq + 1) qs

-- the messages of the replies to them, one behind the other
abbrev pub answers_from : ℕ → List Request → List Reply → List ℕ
answers_from seq (q ∷ qs) (reply ∷ replies) = all_spelled (reply_messages (message_of q seq) reply) ++ answers_from (seq + 1) qs replies
answers_from seq qs replies = []

-- There is one course of requests and replies: the packed bytes are the requests' messages, the text is that of the replies, and what
-- these messages give are the messages of the same replies.
pub record IsOneCourse (db : List Domain) (J : Journal) (n : ℕ) (packed text failed : List ℕ) (last : Journal) : Type 0 where
  pub requests : List Request
  pub replies : List Reply
  pub course : EachGives (RequestGives db) J requests replies failed last
  pub printed : text ≡ flat_map text_of_reply replies
  pub stream : IsStreamOf packed (messages_from (n + 1) requests)
  pub wired : EachGives (MessageGives db) J (messages_from (n + 1) requests) (answers_from (n + 1) requests replies) failed last
