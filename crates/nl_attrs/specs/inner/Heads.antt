-- The head of a message.
use Rattle.std.specs.Prelude.{◌≡◌, ℕ, List, ◌++◌, length}
use Rattle.nl_attrs.specs.Messages.{head_bytes, spelled, type_of, header_flags, seq_of, pid_of}
use Rattle.nl_attrs.specs.declared.message.Head.{Head}
use Rattle.nl_attrs.specs.declared.message.Msg.{Msg}

-- what a head and what stands behind it write
abbrev pub headed_bytes : Head → List ℕ → List ℕ
headed_bytes head body = head_bytes head.length head.kind head.flags head.seq head.pid ++ body

-- the head of the message
pub record IsHeadOf (m : Msg) (head : Head) : Type 0 where
  pub length_is : head.length ≡ length (spelled m)
  pub kind_is : head.kind ≡ type_of m
  pub flags_is : head.flags ≡ header_flags m
  pub seq_is : head.seq ≡ seq_of m
  pub pid_is : head.pid ≡ pid_of m
