-- The report on a database, a domain at a time.
use Rattle.std.proofs.Common.{◌≡◌, ℕ, ◌+◌, ◌*◌, ◌<◌, ◌≤◌, List, [], ◌++◌, length, get_or, take, map, All, arith, refl, sym, subst, ap, ◌∙◌, append-nil, append_assoc, is_none, cond}
use Rattle.std.proofs.lemmas.Grind.{flat_map-append}
use Rattle.std.proofs.lemmas.List.{map-append}
use Rattle.std.proofs.lemmas.List.Sums.{sum_by-append}
use Rattle.rule_tables.specs.declared.domain.Domain.{Domain}
use Rattle.db_lint.specs.Notes.{AreFirstNotes}
use Rattle.db_lint.specs.declared.notes.RuleNote.{RuleNote}
use Rattle.db_lint.proofs.Noted.{notes_step}
use Rattle.db_text.specs.Printed.{ended, text_of_lines}
use Rattle.db_commands.specs.Reports.{note_line, silent_count}
use Rattle.db_commands.specs.inner.Noted.{AreNotedLines}

-- before the first
pub noted_none : (text : List ℕ) → AreNotedLines [] text text 0
noted_none text = record { notes = []; are = refl; lines = sym (append-nil text); count = refl }

-- one domain more: its notes are all that is in the list
pub noted_step : (ds : List Domain) (i : ℕ) (d : Domain) (own : List RuleNote) (before old new : List ℕ) (silent more : ℕ) → i < length ds → d ≡ get_or ds i d
    → AreNotedLines (take i ds) before old silent → AreFirstNotes d (length d.rules) own → new ≡ old ++ text_of_lines (map note_line own) → more ≡ silent_count own
    → AreNotedLines (take (i + 1) ds) before new (silent + more)
noted_step ds i d own before old new silent more below is so_far are grown counted = record {
  notes = so_far.notes ++ own;
  are = notes_step ds i d so_far.notes (so_far.notes ++ own) own below is refl so_far.are are;
  lines = grown ∙ ap (λ xs. xs ++ text_of_lines (map note_line own)) so_far.lines
      ∙ append_assoc before (text_of_lines (map note_line so_far.notes)) (text_of_lines (map note_line own))
      ∙ ap (λ xs. before ++ xs) (sym (joined so_far.notes own));
  count = both silent more (silent_count so_far.notes) (silent_count own) so_far.count counted ∙ sym (sum_by-append (λ (x : RuleNote). cond (is_none x.least) 1 0) so_far.notes own);
}
  where
    joined : (xs ys : List RuleNote) → text_of_lines (map note_line (xs ++ ys)) ≡ text_of_lines (map note_line xs) ++ text_of_lines (map note_line ys)
    joined xs ys = ap text_of_lines (map-append note_line xs ys) ∙ flat_map-append ended (map note_line xs) (map note_line ys)

    both : (a b c e : ℕ) → a ≡ c → b ≡ e → a + b ≡ c + e
    both a b c e p q = omega (arith, p, q)

-- each domain has few rules, so there are few notes
pub few_noted : (ds : List Domain) (i : ℕ) (d : Domain) (own : List RuleNote) (silent more : ℕ) → i < length ds → d ≡ get_or ds i d → All (λ (x : Domain). length x.rules ≤ 128) ds
    → AreFirstNotes d (length d.rules) own → silent ≤ 128 * i → more ≤ length own → silent + more ≤ 128 * (i + 1)
few_noted ds i d own silent more below is short are small few =
    let here = subst (λ (x : Domain). length x.rules ≤ 128) (sym is) (short i d below) in
    let count = are.count in
    omega (arith, here, count, small, few)
