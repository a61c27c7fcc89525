-- A message asks one request.
use Rattle.std.proofs.Common.{◌≡◌, ℕ, Bool, true, false, List, Option, None, Some, refl, sym, ap, subst, ◌∙◌, inl, inr}
use Rattle.std.specs.Prelude.{IfSome, IsSomeAnd}
use Rattle.std.proofs.lemmas.Option.{same_Some}
use Rattle.reg_journal.specs.declared.request.Request.{Request}
use Rattle.nl_attrs.specs.declared.attr.Attr.{Attr}
use Rattle.nl_attrs.specs.declared.message.Msg.{Msg}
use Rattle.nl_attrs.specs.declared.message.Msg.TheVariants.{Generic, Error, Done}
use Rattle.nl80211_cmds.specs.Commands.{fields_of, IsOfCommand}
use Rattle.nl80211_cmds.specs.Drafts.{asked_request, nothing_told}
use Rattle.nl80211_cmds.specs.Fields.{FieldsTell}
use Rattle.nl80211_cmds.specs.Requests.{AsksAs, AsksBy, IsMeant, IsSupportedHint, IsOthersHint, IsUnsupported, MsgAsks}
use Rattle.nl80211_cmds.specs.Values.{AreFourZeros}
use Rattle.nl80211_cmds.specs.inner.Reading.{main_command}
use Rattle.nl80211_cmds.specs.declared.command.Command.{Command}
use Rattle.nl80211_cmds.specs.declared.command.Command.TheVariants as commands
use Rattle.nl80211_cmds.specs.declared.draft.Draft.{Draft}
use Rattle.nl80211_cmds.proofs.Named.{named}
use Rattle.nl80211_cmds.proofs.OneField.{one_draft}

-- ---- the command that is meant

is_channel : Command → Bool
is_channel commands.SetWiphyChannel = true
is_channel c = false

channel_is : (c : Command) → is_channel c ≡ true → c ≡ commands.SetWiphyChannel
unfolding is_channel
channel_is commands.SetWiphyChannel e = refl
channel_is c e = absurd cc

plain_is : (c : Command) → is_channel c ≡ false → main_command c ≡ c
unfolding is_channel
plain_is commands.SetWiphyChannel e = absurd cc
plain_is c e = refl

-- a power and a channel aren't meant both
apart : (attrs : List Attr) → IsMeant commands.SetWiphyChannel attrs → IsMeant commands.SetWiphyPower attrs → ⊥
apart attrs channel power = let none = rw channel.0 at power.0 in cc

mixed : (attrs : List Attr) (c d : Command) → is_channel c ≡ true → is_channel d ≡ false → main_command c ≡ main_command d → IsMeant c attrs → IsMeant d attrs → ⊥
mixed attrs c d channel plain e one two =
    let P : Command → Type 0 = λ x. IsMeant x attrs in
    let is_power : d ≡ commands.SetWiphyPower = sym (plain_is d plain) ∙ sym e ∙ ap main_command (channel_is c channel) in
    apart attrs (subst P (channel_is c channel) one) (subst P is_power two)

same_by : (attrs : List Attr) (c d : Command) (a b : Bool) → is_channel c ≡ a → is_channel d ≡ b → main_command c ≡ main_command d → IsMeant c attrs → IsMeant d attrs → c ≡ d
same_by attrs c d true true x y e one two = channel_is c x ∙ sym (channel_is d y)
same_by attrs c d true false x y e one two = absurd (mixed attrs c d x y e one two)
same_by attrs c d false true x y e one two = absurd (mixed attrs d c y x (sym e) two one)
same_by attrs c d false false x y e one two = sym (plain_is c x) ∙ e ∙ plain_is d y

pub same_command : (attrs : List Attr) (c d : Command) → main_command c ≡ main_command d → IsMeant c attrs → IsMeant d attrs → c ≡ d
same_command attrs c d e one two = same_by attrs c d (is_channel c) (is_channel d) refl refl e one two

-- ---- hints

pub hints-apart : (o : Option (List ℕ)) → IfSome o AreFourZeros → IsSomeAnd o (λ p. AreFourZeros p → ⊥) → ⊥
hints-apart None users others = others
hints-apart (Some p) users others = others users

pub supported-plain : (c : Command) (attrs : List Attr) → (c ≡ commands.ReqSetReg → ⊥) → IsSupportedHint c attrs
supported-plain commands.ReqSetReg attrs isnt = absurd (isnt refl)
supported-plain c attrs isnt = tt

pub main-hint : (c : Command) → main_command c ≡ commands.ReqSetReg → c ≡ commands.ReqSetReg
main-hint commands.SetWiphyChannel e = absurd cc
main-hint c e = e

-- ---- requests

pub asks-one : (c : Command) (flags : ℕ) (attrs : List Attr) (q other : Request) → AsksBy c flags attrs q → AsksBy c flags attrs other → q ≡ other
asks-one c flags attrs q other one two =
    one.is ∙ ap (asked_request c) (one_draft (fields_of c) attrs nothing_told one.told two.told one.tells two.tells) ∙ sym two.is

-- the request of the command that is meant is that of each command of its number
pub asks-same : (c d : Command) (flags : ℕ) (attrs : List Attr) (q other : Request) → main_command c ≡ main_command d → AsksBy c flags attrs q → AsksBy d flags attrs other → q ≡ other
asks-same c d flags attrs q other e one two =
    let P : Command → Type 0 = λ x. AsksBy x flags attrs other in
    asks-one c flags attrs q other one (subst P (sym (same_command attrs c d e one.meant two.meant)) two)

-- where the fields of the command that is meant aren't told, nothing is asked
pub asks-not : (c d : Command) (flags : ℕ) (attrs : List Attr) (q : Request) → main_command d ≡ main_command c → IsMeant c attrs → ((told : Draft) → FieldsTell (fields_of c) attrs nothing_told told → ⊥) → AsksBy d flags attrs q → ⊥
asks-not c d flags attrs q e meant untold asks =
    let P : Command → Type 0 = λ x. FieldsTell (fields_of x) attrs nothing_told asks.told in
    untold asks.told (subst P (same_command attrs d c e asks.meant meant) asks.tells)

one_main : (family number : ℕ) (c d : Command) → IsOfCommand c family number → IsOfCommand d family number → main_command c ≡ main_command d
one_main family number c d one two = same_Some (main_command c) (main_command d) (sym (named c family number one) ∙ named d family number two)

pub one_request : (m : Msg) (q other : Request) → MsgAsks m q → MsgAsks m other → q ≡ other
one_request (Generic family flags seq pid number version attrs) q other (c, one) (d, two) =
    asks-same c d flags attrs q other (one_main family number c d one.command_is two.command_is) one.asks two.asks
one_request (Error flags seq pid code head) q other one two = absurd one
one_request (Done flags seq pid code) q other one two = absurd one

unsupported-by : (family flags number : ℕ) (attrs : List Attr) (c : Command) (q : Request) → IsOfCommand commands.ReqSetReg family number → IsOthersHint attrs → AsksAs c family flags number attrs q → ⊥
unsupported-by family flags number attrs c q hint others asks =
    let P : Command → Type 0 = λ x. IsSupportedHint x attrs in
    let same = main-hint c (one_main family number c commands.ReqSetReg asks.command_is hint) in
    hints-apart _ (subst P same asks.supported) others

pub unsupported : (m : Msg) (q : Request) → IsUnsupported m → MsgAsks m q → ⊥
unsupported (Generic family flags seq pid number version attrs) q (inl none) (c, asks) = none c asks.command_is
unsupported (Generic family flags seq pid number version attrs) q (inr (hint, others)) (c, asks) = unsupported-by family flags number attrs c q hint others asks
unsupported (Error flags seq pid code head) q none asks = asks
unsupported (Done flags seq pid code) q none asks = asks
