-- Which messages are a reply.
use Rattle.std.specs.Prelude.{◌≡◌, ◌≤◌, List, length, All, Result, Ok, Err}
use Rattle.chan_flags.specs.declared.record.Chan.{Chan}
use Rattle.dfs_states.specs.declared.dfs.Dfs.{Dfs}
use Rattle.nl_attrs.specs.Messages.{IsMsg}
use Rattle.nl_attrs.specs.declared.message.Msg.{Msg}
use Rattle.nl_attrs.specs.declared.message.Msg.TheVariants.{Generic}
use Rattle.reg_journal.specs.Forms.{IsShownAnswer, IsShownSection, IsShownState, IsWholeMhz}
use Rattle.reg_journal.specs.declared.reply.Reply.{Reply}
use Rattle.reg_journal.specs.declared.reply.Reply.TheVariants.{Plain, Regs, Channels, Radio as OfRadio, Iface}
use Rattle.nl80211_replies.specs.Dumps.{reply_messages}
use Rattle.reply_reading.specs.Typed.{IsTypedReply}
use Rattle.reply_reading.specs.declared.fault.ReplyFault.{ReplyFault}
use Rattle.reply_reading.specs.declared.fault.ReplyFault.TheVariants as faults

-- Messages can tell the reply: a list of sections or of channels isn't empty, a section has at most 1,024 rows without the lengths of
-- their checks, codes are of capital letters and digits, and subchannels, channels and definitions are whole MHz.
abbrev pub CanBeTold : Reply → Type 0
CanBeTold (Plain answer effects) = IsShownAnswer answer
CanBeTold (Regs sections) = (1 ≤ length sections) × All IsShownSection sections
CanBeTold (Channels radio list) = (1 ≤ length list) × All (λ (shown : Chan × Dfs). IsWholeMhz shown.0.khz) list
CanBeTold (OfRadio report) = Unit {0}
CanBeTold (Iface report) = IsShownState report.state

-- a command of some family
abbrev pub IsGeneric : Msg → Type 0
IsGeneric (Generic family flags seq pid cmd version attrs) = Unit {0}
IsGeneric other = ⊥

-- a request that `encode` can write
pub record IsRequest (m : Msg) : Type 0 where
  pub generic : IsGeneric m
  pub msg : IsMsg m

-- The messages are those of the reply to some request.
pub record AreReply (msgs : List Msg) (reply : Reply) : Type 0 where
  pub request : Msg
  pub is : IsRequest request
  pub told : CanBeTold reply
  pub messages : msgs ≡ reply_messages request reply

-- The messages are no reply's to any request.
abbrev pub AreNoReply : List Msg → Type 0
AreNoReply msgs = (reply : Reply) → IsTypedReply reply → AreReply msgs reply → ⊥

abbrev pub IsReplyFault : List Msg → ReplyFault → Type 0
IsReplyFault msgs faults.NotAReply = AreNoReply msgs
IsReplyFault msgs faults.OutOfMemory = Unit {0}

-- what reading gives where the messages are the reply's: it, unless memory runs out
abbrev pub GivesReply : Result Reply ReplyFault → Reply → Type 0
GivesReply (Ok given) reply = given ≡ reply
GivesReply (Err fault) reply = fault ≡ faults.OutOfMemory
