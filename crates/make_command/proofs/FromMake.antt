-- What follows from the end of `make`: where nothing keeps it, the whole line.
use Rattle.std.proofs.Common.{◌≡◌, ℕ, List, [], get_or, inl, inr, refl, sym, ap, ◌∙◌}
use Rattle.std.proofs.lemmas.Option.{same_Some}
use Rattle.std.specs.Prelude.{◌⊎◌}
use Rattle.std.specs.declared.alloc.Global.{Global}
use Rattle.std.specs.declared.string.String.{String}
use Rattle.core_runs.proofs.Drivers.{none_fails}
use Rattle.line_forms.specs.Spelling.{number_within}
use Rattle.db_commands.specs.Devices.{Devices}
use Rattle.make_command.specs.Make.{IsMakeStatus, MayMake, NamesMake, WritesCounts}
use Rattle.db_commands.specs.declared.status.Status.{Status}
use Rattle.db_commands.specs.declared.status.Status.TheVariants.{Done, Usage, Refused, ReadFault, WriteFault, NoMemory, TooLong}

pub NamesMake-unique : (words : List (String Global)) (n m : ℕ) → NamesMake words n → NamesMake words m → n ≡ m
NamesMake-unique words n m (word, one, is) (other, two, is') =
    let same : word ≡ other = ap (λ ws. get_or ws 1 []) (sym one ∙ two) in
    same_Some n m (sym is ∙ ap (number_within 1 1000000) same ∙ is')

pub made_from : (words : List (String Global)) (d : Devices) (n : ℕ) (status : Status) → MayMake words d n → IsMakeStatus n d.output d.drivers status
    → (status ≡ NoMemory) ⊎ ((status ≡ Done) × WritesCounts d n)
made_from words d n Done may made = inr (refl, record { made = made; none_fails = λ steady. none_fails d.drivers.before made.failed steady made.follow.gone_on.unsteady })
made_from words d n WriteFault may (fault, made) = absurd (may.writes fault)
made_from words d n NoMemory may made = inl refl
made_from words d n Usage may made = absurd made
made_from words d n (Refused fault) may made = absurd made
made_from words d n ReadFault may made = absurd made
made_from words d n TooLong may made = absurd made
