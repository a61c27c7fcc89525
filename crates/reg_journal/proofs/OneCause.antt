-- Causes name one refusal at most.
use Rattle.std.proofs.Common.{◌≡◌, ℕ, sym, ap, ◌∙◌, inl, inr}
use Rattle.chan_def.specs.declared.definition.ChanDef.{ChanDef}
use Rattle.chan_flags.proofs.OneAnswer.{BarsFirst-unique}
use Rattle.reg_journal.specs.Causes.{◌before◌, Where, AtLowest}
use Rattle.reg_journal.specs.declared.refusal.Refusal.{Refusal}

abbrev pub NamesOne : (Refusal → Type 0) → Type 0
NamesOne cause = (e other : Refusal) → cause e → cause other → e ≡ other

pub one-where : (P : Type 0) (x : Refusal) → NamesOne (Where P x)
one-where P x e other here there = here.1 ∙ sym there.1

pub one-before : (one next : Refusal → Type 0) → NamesOne one → NamesOne next → NamesOne (one before next)
one-before one next first second e other (inl here) (inl there) = first e other here there
one-before one next first second e other (inl here) (inr there) = absurd (there.0 e here)
one-before one next first second e other (inr here) (inl there) = absurd (here.0 other there)
one-before one next first second e other (inr here) (inr there) = second e other here.1 there.1

pub one-at_lowest : (bars : ℕ → Type 0) (c : ChanDef) (refusal : ℕ → Refusal) → NamesOne (AtLowest bars c refusal)
one-at_lowest bars c refusal e other here there = here.2 ∙ ap refusal (BarsFirst-unique bars c here.0 there.0 here.1 there.1) ∙ sym there.2
