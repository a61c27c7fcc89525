-- Why a request is refused: conditions that name refusals, and their order.
use Rattle.std.specs.Prelude.{◌≡◌, ℕ, ◌⊎◌}
use Rattle.chan_def.specs.declared.definition.ChanDef.{ChanDef}
use Rattle.chan_flags.specs.Verdicts.{BarsFirst}
use Rattle.reg_journal.specs.declared.refusal.Refusal.{Refusal}

-- some refusal comes by the cause
abbrev pub SomeComes : (Refusal → Type 0) → Type 0
SomeComes cause = (e : Refusal) × cause e

-- no refusal comes by the cause
abbrev pub IsFree : (Refusal → Type 0) → Type 0
IsFree cause = (e : Refusal) → cause e → ⊥

-- The refusals of the one cause come before those of the next.
infixr 4 ◌before◌
abbrev pub ◌before◌ : (Refusal → Type 0) → (Refusal → Type 0) → Refusal → Type 0
one before next = λ e. one e ⊎ (IsFree one × next e)

-- this refusal, where the condition holds
abbrev pub Where : Type 0 → Refusal → Refusal → Type 0
Where condition refusal = λ e. condition × (e ≡ refusal)

-- the refusal that names the lowest of the channel's subchannels which are barred
abbrev pub AtLowest : (ℕ → Type 0) → ChanDef → (ℕ → Refusal) → Refusal → Type 0
AtLowest bars c refusal = λ e. (s : ℕ) × BarsFirst bars c s × (e ≡ refusal s)
