-- What a message of a command is answered.
use Rattle.std.proofs.Common.{◌≡◌, ℕ, ◌%◌, List, Ok, Err, refl, sym, subst, inl, inr}
use Rattle.std.specs.Prelude.{IfOk, IfErr, Result}
use Rattle.reg_journal.specs.declared.request.Request.{Request}
use Rattle.nl_attrs.specs.declared.attr.Attr.{Attr}
use Rattle.nl_attrs.specs.declared.message.Msg.TheVariants.{Generic}
use Rattle.nl80211_cmds.specs.Commands.{fields_of, IsOfCommand}
use Rattle.nl80211_cmds.specs.Drafts.{asked_request, nothing_told}
use Rattle.nl80211_cmds.specs.Fields.{FieldsTell}
use Rattle.nl80211_cmds.specs.Requests.{AsksBy, GivesRequest, IsMeant, IsRequestFault, IsSupportedHint, IsUnsupported, MsgAsks}
use Rattle.nl80211_cmds.specs.inner.Reading.{IsAnswerBy, Supports, main_command}
use Rattle.nl80211_cmds.specs.declared.command.Command.{Command}
use Rattle.nl80211_cmds.specs.declared.command.Command.TheVariants as commands
use Rattle.nl80211_cmds.specs.declared.draft.Draft.{Draft}
use Rattle.nl80211_cmds.specs.declared.fault.RequestFault.{RequestFault}
use Rattle.nl80211_cmds.specs.declared.fault.RequestFault.TheVariants as request_faults
use Rattle.nl80211_cmds.specs.declared.field.Field.{Field}
use Rattle.reg_journal.specs.Forms.{IsLineRequest}
use Rattle.nl80211_cmds.proofs.LineAsked.{line_asked}
use Rattle.nl80211_cmds.proofs.Meanings.{hints-apart, one_request}
use Rattle.nl80211_cmds.proofs.Named.{numbered_is, same_main}

pub asks_made : (command : Command) (flags : ℕ) (attrs : List Attr) (q : Request) (told : Draft) (list : List Field) (first : Draft) → flags % 2 ≡ 1 → IsMeant command attrs → list ≡ fields_of command → first ≡ nothing_told
    → FieldsTell list attrs first told → q ≡ asked_request command told → AsksBy command flags attrs q
asks_made command flags attrs q told list first odd meant list_is first_is tells is =
    let P : List Field → Type 0 = λ fields. FieldsTell fields attrs first told in
    let Q : Draft → Type 0 = λ d. FieldsTell (fields_of command) attrs d told in
    record { flagged = odd; meant = meant; told = told; tells = subst Q first_is (subst P list_is tells); is = is }

-- what holds of the command that stands for it holds of the command
main_number : (c : Command) (family number : ℕ) → IsOfCommand (main_command c) family number → IsOfCommand c family number
main_number commands.SetWiphyChannel family number is = record { family_is = is.family_is; number_is = is.number_is }
main_number c family number is = is

main_supported : (c : Command) (attrs : List Attr) → IsSupportedHint (main_command c) attrs → IsSupportedHint c attrs
main_supported commands.SetWiphyChannel attrs is = tt
main_supported c attrs is = is

number_of : (c main : Command) (family number : ℕ) (attrs : List Attr) → main_command c ≡ main → Supports family number attrs main → IsOfCommand c family number
number_of c main family number attrs e is =
    let P : Command → Type 0 = λ x. IsOfCommand x family number in
    main_number c family number (subst P (sym e) (numbered_is family number main is.0))

supported_of : (c main : Command) (family number : ℕ) (attrs : List Attr) → main_command c ≡ main → Supports family number attrs main → IsSupportedHint c attrs
supported_of c main family number attrs e is = let P : Command → Type 0 = λ x. IsSupportedHint x attrs in main_supported c attrs (subst P (sym e) is.1)

-- a message of a command that is supported isn't unsupported
supports : (family flags number seq pid version : ℕ) (attrs : List Attr) (main : Command) → Supports family number attrs main → IsUnsupported (Generic family flags seq pid number version attrs) → ⊥
supports family flags number seq pid version attrs main is (inl none) = none main (numbered_is family number main is.0)
supports family flags number seq pid version attrs main is (inr (hint, others)) =
    let P : Command → Type 0 = λ x. IsSupportedHint x attrs in
    hints-apart _ (subst P (sym (same_main family number commands.ReqSetReg main is.0 hint)) is.1) others

asks_nothing : (family flags number seq pid version : ℕ) (attrs : List Attr) (main : Command) (q : Request) → Supports family number attrs main → ((c : Command) (r : Request) → main_command c ≡ main → AsksBy c flags attrs r → ⊥)
    → MsgAsks (Generic family flags seq pid number version attrs) q → ⊥
asks_nothing family flags number seq pid version attrs main q is none (c, asks) = none c q (same_main family number c main is.0 asks.command_is) asks.asks

pub answer_asks : (family flags number seq pid version : ℕ) (attrs : List Attr) (main : Command) (r : Result Request RequestFault) → Supports family number attrs main → IsAnswerBy main flags attrs r
    → IfOk r (MsgAsks (Generic family flags seq pid number version attrs))
answer_asks family flags number seq pid version attrs main (Ok q) is (c, e, asks) =
    (c, record { command_is = number_of c main family number attrs e is; supported = supported_of c main family number attrs e is; asks = asks })
answer_asks family flags number seq pid version attrs main (Err fault) is answer = tt

pub answer_line : (family flags number seq pid version : ℕ) (attrs : List Attr) (main : Command) (r : Result Request RequestFault) → Supports family number attrs main → IsAnswerBy main flags attrs r → IfOk r IsLineRequest
answer_line family flags number seq pid version attrs main (Ok q) is answer =
    line_asked (Generic family flags seq pid number version attrs) q (answer_asks family flags number seq pid version attrs main (Ok q) is answer)
answer_line family flags number seq pid version attrs main (Err fault) is answer = tt

pub answer_fault : (family flags number seq pid version : ℕ) (attrs : List Attr) (main : Command) (r : Result Request RequestFault) → Supports family number attrs main → IsAnswerBy main flags attrs r
    → IfErr r (IsRequestFault (Generic family flags seq pid number version attrs))
answer_fault family flags number seq pid version attrs main (Ok q) is answer = tt
answer_fault family flags number seq pid version attrs main (Err (request_faults.Errno errno)) is (e, none) =
    inr (e, supports family flags number seq pid version attrs main is, λ q. asks_nothing family flags number seq pid version attrs main q is none)
answer_fault family flags number seq pid version attrs main (Err request_faults.OutOfMemory) is (c, e, any) =
    (c, number_of c main family number attrs e is, any)

pub answer_asked : (family flags number seq pid version : ℕ) (attrs : List Attr) (main : Command) (r : Result Request RequestFault) (q : Request) → Supports family number attrs main → IsAnswerBy main flags attrs r
    → MsgAsks (Generic family flags seq pid number version attrs) q → GivesRequest r q
answer_asked family flags number seq pid version attrs main (Ok given) q is answer asks =
    one_request (Generic family flags seq pid number version attrs) given q (answer_asks family flags number seq pid version attrs main (Ok given) is answer) asks
answer_asked family flags number seq pid version attrs main (Err (request_faults.Errno errno)) q is (e, none) asks = absurd (asks_nothing family flags number seq pid version attrs main q is none asks)
answer_asked family flags number seq pid version attrs main (Err request_faults.OutOfMemory) q is answer asks = refl
