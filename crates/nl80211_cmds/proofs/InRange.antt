-- The kinds of the attributes of a command fit their field.
use Rattle.std.proofs.Common.{◌≡◌, ℕ, ◌<◌, ◌≤◌, Bool, true, List, [], ◌∷◌, ◌++◌, All, refl, sym, ap, subst, ◌∙◌, arith, ltb-true}
use Rattle.std.specs.Prelude.{nat_lt}
use Rattle.std.specs.List.{list_all}
use Rattle.std.proofs.lemmas.Bool.{and_parts}
use Rattle.std.proofs.lemmas.List.Elements.{All-cons, All-nil}
use Rattle.chan_flags.specs.declared.verdict.PowerSetting.TheVariants.{Auto, Limit, Fixed}
use Rattle.nl_attrs.specs.declared.attr.Attr.{Attr}
use Rattle.nl80211_cmds.specs.Commands.{family_number, fields_of}
use Rattle.nl80211_cmds.specs.Fields.{fields_attrs}
use Rattle.nl80211_cmds.specs.declared.command.Command.{Command}
use Rattle.nl80211_cmds.specs.declared.command.Command.TheVariants as commands
use Rattle.nl80211_cmds.specs.declared.draft.Draft.{Draft}
use Rattle.nl80211_cmds.specs.declared.field.Field.{Field}
use Rattle.nl80211_cmds.specs.declared.family.Family.{Family}
use Rattle.nl80211_cmds.specs.declared.family.Family.TheVariants.{Nl80211, Simulation}

abbrev pub has_kind : Attr → Bool
has_kind a = nat_lt a.kind 16384

pub kinds : (attrs : List Attr) → list_all has_kind attrs ≡ true → All (λ a. a.kind < 16384) attrs
kinds [] h = All-nil (λ a. a.kind < 16384)
kinds (a ∷ attrs) h =
    let p = and_parts (has_kind a) (list_all has_kind attrs) h in
    All-cons (λ x. x.kind < 16384) a attrs (ltb-true a.kind 16384 p.0) (kinds attrs p.1)

each_has : (c : Command) (d : Draft) → list_all has_kind (fields_attrs (fields_of c) d) ≡ true
each_has commands.SetWiphyPower d =
    elim d.setting as (λ s. list_all has_kind (fields_attrs (fields_of commands.SetWiphyPower) (record d { setting = s })) ≡ true) [ Auto ↦ refl | Limit p ↦ refl | Fixed p ↦ refl ]
each_has c d = refl

some_family : (f : Family) → 16 ≤ family_number f
some_family Nl80211 = omega arith
some_family Simulation = omega arith

pub made_range : (command : Command) (family : Family) (number : ℕ) (list : List Field) (told : Draft) (start attrs : List Attr) → number ≡ family_number family → list ≡ fields_of command → start ≡ []
    → attrs ≡ start ++ fields_attrs list told → (16 ≤ number) × All (λ a. a.kind < 16384) attrs
made_range command family number list told start attrs number_is list_is start_is is =
    let parts : attrs ≡ fields_attrs (fields_of command) told =
    is ∙ ap (λ (x : List Attr). x ++ fields_attrs list told) start_is ∙ ap (λ (x : List Field). fields_attrs x told) list_is in
    let P : List Attr → Type 0 = All (λ a. a.kind < 16384) in
    (rw number_is (some_family family), subst P (sym parts) (kinds (fields_attrs (fields_of command) told) (each_has command told)))
