-- Which starts of a script are answered with a power: those that are granted.
use Rattle.std.specs.Prelude.{◌≡◌, ℕ, List, [], Some, Ok, codes, take}
use Rattle.rule_tables.specs.declared.domain.Domain.{Domain}
use Rattle.chan_def.specs.declared.definition.ChanDef.{ChanDef}
use Rattle.chan_def.specs.declared.kind.Kind.{Kind}
use Rattle.reg_journal.specs.Facts.{Journal}
use Rattle.reg_journal.specs.Granted.{IsGranted, IsStartable}
use Rattle.reg_journal.specs.Present.{Iface, named}
use Rattle.reg_journal.specs.declared.reply.Answer.TheVariants.{Started}
use Rattle.reg_journal.specs.declared.reply.Reply.TheVariants.{Plain}
use Rattle.reg_journal.specs.declared.request.Request.TheVariants.{Start}
use Rattle.line_forms.specs.Lines.{Says}
use Rattle.iw_commands.specs.Printed.{text_of_reply}
use Rattle.script_run.specs.Output.{LineGives}

-- A start on the interface was answered by this text. Where it is granted with a power, and its driver didn't fail, the text tells
-- that power; and a text that tells a power is that of one with which it is granted.
pub record IsAnsweredStart (db : List Domain) (J : Journal) (x : Iface) (c : ChanDef) (text failed : List ℕ) : Type 0 where
  pub granted : (power : ℕ) → IsGranted db J x c power → failed ≡ [] → text ≡ text_of_reply (Plain (Started power) [])
  pub only : take 8 text ≡ codes "started " → (power : ℕ) × IsGranted db J x c power × (failed ≡ []) × (text ≡ text_of_reply (Plain (Started power) []))

-- So it is where the line asks for a start on an interface of that kind which is free for it.
abbrev pub StartsWhereGranted : List Domain → Journal → List ℕ → List ℕ → List ℕ → Type 0
StartsWhereGranted db J line text failed =
    (name : List ℕ) (kind : Kind) (c : ChanDef) (x : Iface) → Says line (Ok (Some (Start name kind c))) → named J name ≡ Some x → IsStartable J x kind
    → IsAnsweredStart db J x c text failed

-- what a line gives, with what that says of a start
abbrev pub LineGrants : List Domain → Journal → List ℕ → List ℕ → List ℕ → Journal → Type 0
LineGrants db J line text failed next = LineGives db J line text failed next × StartsWhereGranted db J line text failed
