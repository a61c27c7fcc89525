-- Commands by their numbers.
use Rattle.std.proofs.Common.{◌≡◌, ℕ, ◌==◌, Bool, true, false, cond, List, [], ◌∷◌, Option, None, Some, refl, sym, subst, ◌∙◌, inl, inr}
use Rattle.std.specs.Prelude.{◌⊎◌}
use Rattle.std.specs.List.{find}
use Rattle.std.proofs.lemmas.Bool.{and_parts, eqb-true}
use Rattle.std.proofs.lemmas.Option.{same_Some}
use Rattle.nl80211_cmds.specs.Commands.{command_number, family_number, family_of, is_command, numbered_command, IsOfCommand}
use Rattle.nl80211_cmds.specs.inner.Reading.{main_command}
use Rattle.nl80211_cmds.specs.declared.command.TheConstants.{COMMANDS}
use Rattle.nl80211_cmds.specs.declared.command.Command.{Command}
use Rattle.nl80211_cmds.specs.declared.command.Command.TheVariants as commands

-- each command is found by its number, or the other one of that number is
found : (c : Command) → numbered_command (family_number (family_of c)) (command_number c) ≡ Some (main_command c)
found commands.SetWiphyChannel = refl
found c = refl

pub named : (c : Command) (family number : ℕ) → IsOfCommand c family number → numbered_command family number ≡ Some (main_command c)
named c family number is = rw (← is.family_is, ← is.number_is) (found c)

chosen : {X : Type 0} (b : Bool) (y x : X) (rest : Option X) → cond b (Some y) rest ≡ Some x → ((b ≡ true) × (y ≡ x)) ⊎ (rest ≡ Some x)
chosen true y x rest e = inl (refl, same_Some y x e)
chosen false y x rest e = inr e

find_true : {X : Type 0} (p : X → Bool) (xs : List X) (x : X) → find p xs ≡ Some x → p x ≡ true
find_true p [] x e = absurd cc
find_true {X = X} p (y ∷ ys) x e =
    elim (chosen (p y) y x (find p ys) e) [
      | inl here ↦ let P : X → Type 0 = λ z. p z ≡ true in subst P here.1 here.0
      | inr later ↦ find_true p ys x later
    ]

-- what is found has the number
pub numbered_is : (family number : ℕ) (c : Command) → numbered_command family number ≡ Some c → IsOfCommand c family number
numbered_is family number c e =
    let p = and_parts (family_number (family_of c) == family) (command_number c == number)
    (find_true (is_command family number) COMMANDS c e) in
    record { family_is = eqb-true _ _ p.0; number_is = eqb-true _ _ p.1 }

-- where none is found, no command has the number
pub none_named : (family number : ℕ) → numbered_command family number ≡ None → (c : Command) → IsOfCommand c family number → ⊥
none_named family number none c is = let some = named c family number is in cc

-- all commands of one number stand for the same one
pub same_main : (family number : ℕ) (c d : Command) → numbered_command family number ≡ Some d → IsOfCommand c family number → main_command c ≡ d
same_main family number c d e is = same_Some (main_command c) d (sym (named c family number is) ∙ e)
