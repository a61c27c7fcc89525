-- Comparing messages with those that were written.
use Rattle.std.specs.Prelude.{◌≡◌, ℕ, ◌%◌, ◌<◌, ◌≤◌, List, [], take, Option, Some, IsSomeAnd}
use Rattle.std.specs.List.{AllZip}
use Rattle.nl_attrs.specs.Messages.{pid_of, seq_of, spelled}
use Rattle.nl_attrs.specs.declared.message.Msg.{Msg}
use Rattle.nl_attrs.specs.declared.message.Msg.TheVariants.{Error, Generic}
use Rattle.reply_reading.specs.Replies.{IsRequest}

-- the first bytes of some request with this sequence number and this port
pub record IsRequestHead (seq pid : ℕ) (head : List ℕ) : Type 0 where
  pub request : Msg
  pub is : IsRequest request
  pub seq_is : seq_of request ≡ seq
  pub pid_is : pid_of request ≡ pid
  pub head_is : take 16 (spelled request) ≡ head

-- the numbers in a head are those of a request with this sequence number and this port
pub record IsHeadSaid (length family said_seq said_pid : Option ℕ) (seq pid : ℕ) : Type 0 where
  pub length_is : IsSomeAnd length (λ n. (20 ≤ n) × (n ≤ 65536) × (n % 4 ≡ 0))
  pub family_is : IsSomeAnd family (λ n. (16 ≤ n) × (n < 65536))
  pub seq_is : said_seq ≡ Some seq
  pub pid_is : said_pid ≡ Some pid

-- the message is the one that was written, but for the head that an Error message repeats
abbrev pub IsWritten : Msg → Msg → Type 0
IsWritten msg (Error flags seq pid code head) = (given : List ℕ) × (msg ≡ Error flags seq pid code given) × IsRequestHead seq pid given
IsWritten msg written = msg ≡ written

abbrev pub AreWritten : List Msg → List Msg → Type 0
AreWritten msgs written = AllZip IsWritten msgs written

-- a request without attributes that has this sequence number and this port
abbrev pub bare_request : ℕ → ℕ → Msg
bare_request seq pid = Generic 32 0 seq pid 0 0 []
