-- What a message gives: the messages of its reply, or the errno where it asks nothing.
use Rattle.std.specs.Prelude.{◌≡◌, ℕ, ℤ, ◌⊎◌, List, []}
use Rattle.rule_tables.specs.declared.domain.Domain.{Domain}
use Rattle.reg_journal.specs.Facts.{Journal}
use Rattle.reg_journal.specs.Replies.{Steps}
use Rattle.reg_journal.specs.declared.reply.Reply.{Reply}
use Rattle.reg_journal.specs.declared.request.Request.{Request}
use Rattle.reg_books.specs.DriverRows.{driven_radio}
use Rattle.reg_core.specs.Stepping.{is_failed}
use Rattle.nl_attrs.specs.Messages.{all_spelled, spelled}
use Rattle.nl_attrs.specs.declared.message.Msg.{Msg}
use Rattle.nl80211_cmds.specs.Errors.{error_answer}
use Rattle.nl80211_cmds.specs.Requests.{IsRequestFault, MsgAsks}
use Rattle.nl80211_cmds.specs.declared.fault.RequestFault.TheVariants.{Errno}
use Rattle.nl80211_replies.specs.Dumps.{reply_messages}
use Rattle.core_runs.specs.Given.{EachGives, HaveFailed}

-- The message asks a request. It is answered by the messages of the one reply, one behind the other.
pub record IsAnsweredByReply (db : List Domain) (J : Journal) (m : Msg) (bytes failed : List ℕ) (next : Journal) : Type 0 where
  pub request : Request
  pub asks : MsgAsks m request
  pub reply : Reply
  pub steps : Steps db J request (is_failed reply) reply next
  pub failing : HaveFailed (is_failed reply) (driven_radio J request) failed
  pub is : bytes ≡ all_spelled (reply_messages m reply)

-- The message asks nothing. It is answered by the errno that says why, and the journal stays.
pub record IsAnsweredByErrno (J : Journal) (m : Msg) (bytes failed : List ℕ) (next : Journal) : Type 0 where
  pub errno : ℤ
  pub fault : IsRequestFault m (Errno errno)
  pub is : bytes ≡ spelled (error_answer m errno)
  pub none : failed ≡ []
  pub stays : next ≡ J

-- What a message gives, the radios whose drivers failed, and the next journal.
abbrev pub MessageGives : List Domain → Journal → Msg → List ℕ → List ℕ → Journal → Type 0
MessageGives db J m bytes failed next = IsAnsweredByReply db J m bytes failed next ⊎ IsAnsweredByErrno J m bytes failed next

-- what messages give one behind the other, from the empty journal on, with no driver failing
abbrev pub AreAnswers : List Domain → List Msg → List ℕ → Type 0
AreAnswers db messages bytes = (last : Journal) × EachGives (MessageGives db) [] messages bytes [] last
