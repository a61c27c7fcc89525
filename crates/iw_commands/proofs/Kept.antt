-- What was there before a text is appended still stands first.
use Rattle.std.proofs.Common.{◌≡◌, ℕ, List, [], ◌++◌, Result, Ok, Err, append_assoc, append-nil, ◌∙◌, sym}
use Rattle.std.specs.Prelude.{OnErr, OnOk}
use Rattle.iw_commands.specs.Printed.{KeepsFront}

pub kept-same : (one other : List ℕ) → other ≡ one → KeepsFront one other
kept-same one other e = record { more = []; is = e ∙ sym (append-nil one) }

pub kept-appended : {T E : Type 0} (r : Result T E) (one other piece : List ℕ) → OnOk r (other ≡ one ++ piece) → OnErr r (other ≡ one) → KeepsFront one other
kept-appended (Ok x) one other piece ok err = record { more = piece; is = ok }
kept-appended (Err e) one other piece ok err = kept-same one other err

pub kept-then : (one other third : List ℕ) → KeepsFront one other → KeepsFront other third → KeepsFront one third
kept-then one other third first second = record { more = first.more ++ second.more; is = rw (second.is, first.is) (append_assoc one first.more second.more) }

pub ruleset steps = (kept-then, kept-same)
