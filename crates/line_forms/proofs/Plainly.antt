-- Lines that are the start of an access point with a frequency and no word of iw behind it.
use Rattle.std.proofs.Common.{◌≡◌, ℕ, ◌<◌, ◌≤◌, Bool, true, false, List, [], length, take, drop, IsTrue, refl, ◌∙◌, sym, arith}
use Rattle.std.specs.Prelude.{not}
use Rattle.std.proofs.lemmas.List.{length-take}
use Rattle.line_forms.specs.Faults.{StartsPlainly, begins_iw_word}
use Rattle.line_forms.specs.Told.{Told, nothing}
use Rattle.line_forms.specs.inner.Walking.{StopsAlong}
use Rattle.line_forms.specs.declared.judged.TheConstants.{AP_FRONT}
use Rattle.line_forms.specs.declared.walker.End.{End}
use Rattle.line_forms.proofs.Walks.{leads-length, stops-begin, stops-most}

not-true : (b : Bool) → IsTrue (not b) → b ≡ false
not-true false h = refl
not-true true h = absurd cc

pub plainly-seven : (ws : List (List ℕ)) (k : ℕ) (end : End) (e : Told) (b : Bool) → StopsAlong AP_FRONT nothing ws k end e → 7 ≤ k → b ≡ begins_iw_word (drop 7 ws)
    → (IsTrue (not b) → StartsPlainly ws) × (StartsPlainly ws → IsTrue (not b))
plainly-seven ws k end e b stops far is =
    let begin = stops-begin AP_FRONT nothing ws k end e 7 stops far in (
      λ h. record { told = begin.0; front = begin.1; without = sym is ∙ not-true b h },
      λ h. let without : b ≡ false = is ∙ h.without in rw without refl,
    )

pub plainly-not : (ws : List (List ℕ)) (k : ℕ) (end : End) (e : Told) → StopsAlong AP_FRONT nothing ws k end e → k < 7
    → (IsTrue false → StartsPlainly ws) × (StartsPlainly ws → IsTrue false)
plainly-not ws k end e stops few = (
  λ h. absurd cc,
  λ h.
      let size : length (take 7 ws) ≡ 7 = leads-length (take 7 ws) AP_FRONT nothing h.told h.front in
      let enough = length-take 7 ws in
      let most = stops-most AP_FRONT nothing ws k end e 7 [] h.told stops (grind arith) h.front in
      absurd (omega arith),
)
