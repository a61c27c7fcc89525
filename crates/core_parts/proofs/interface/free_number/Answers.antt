use Rattle.std.proofs.Common.{ℕ, ◌≡◌, ◌==◌, ◌&&◌, Bool, true, false, not, List, map, below_more, arith, sym, ap, ◌∙◌}
use Rattle.std.specs.List.{list_any}
use Rattle.core_parts.specs.Interfaces.{is_on_radio, interfaces_on}
use Rattle.core_parts.specs.declared.interface.Interface.{Interface}
use Rattle.core_parts.proofs.KeptInterfaces.{any_mapped_filter, find_no_number, find_number}
use Rattle.core_parts.proofs.interface.free_number.Goals as goal

-- the slot is taken, or isn't
abbrev taken : List Interface → ℕ → ℕ → Bool
taken interfaces r k = list_any (λ (p : Interface). is_on_radio r p && p.slot == k) interfaces

abbrev passes : List Interface → ℕ → ℕ → Bool
passes interfaces r k = not (list_any (λ m. m == k) (map (λ (p : Interface). p.slot) (interfaces_on interfaces r)))

passes_same : (interfaces : List Interface) (r k : ℕ) (b : Bool) → taken interfaces r k ≡ b → passes interfaces r k ≡ not b
passes_same interfaces r k b is = ap not (sym (any_mapped_filter (is_on_radio r) (λ (p : Interface). p.slot) k interfaces) ∙ is)

pub returns-then-not-is_taken-clause-number : goal.returns-then-not-is_taken-clause-number
returns-then-not-is_taken-clause-number c =
    let interfaces = c.args.interfaces.now in
    let r = c.args.radio in
    let n = c.loop-number.number in
    let below = c.loop-number-test.true in
    find_number (passes interfaces r) 0 8 n (omega arith) (omega (arith, below)) (λ k low high. passes_same interfaces r k true (c.loop-number.invariant k high))
    (passes_same interfaces r n false (sym c.is_taken.ensures ∙ c.if-not-is_taken.true))

pub loop-number-preserved : goal.loop-number-preserved
loop-number-preserved c =
    below_more (λ k. taken c.args.interfaces.now c.args.radio k ≡ true) c.loop-number.number c.loop-number.invariant (sym c.is_taken.ensures ∙ c.if-not-is_taken.false)

pub returns-clause-number : goal.returns-clause-number
returns-clause-number c =
    let interfaces = c.args.interfaces.now in
    let r = c.args.radio in
    let end = c.loop-number-test.false in
    find_no_number (passes interfaces r) 0 8 (λ k low high. passes_same interfaces r k true (c.loop-number.invariant k (omega (arith, high, end))))
