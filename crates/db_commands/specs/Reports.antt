-- What is written of a database: its counts, the notes on its rules, and what two of its countries allow together.
use Rattle.std.specs.Prelude.{◌≡◌, ℕ, ◌/◌, List, [], ◌∷◌, ◌++◌, length, map, sum_by, count_by, codes, decimal, Option, Some, None, is_none, if◌then◌else◌}
use Rattle.rule_tables.specs.declared.domain.Domain.{Domain}
use Rattle.reg_base.specs.Texts.{line_of}
use Rattle.db_lint.specs.CommonLists.{AreCommon}
use Rattle.db_lint.specs.Notes.{AreNotes}
use Rattle.db_lint.specs.declared.entry.Common.{Common}
use Rattle.db_lint.specs.declared.notes.RuleNote.{RuleNote}
use Rattle.db_text.specs.Printed.{text_of_lines}
use Rattle.db_text.specs.PrintedRules.{flags_part}

-- ---- counts

-- how many rules the domains have in all
abbrev pub rule_count : List Domain → ℕ
rule_count ds = sum_by (λ d. length d.rules) ds

-- `C countries, R rules` and a newline
abbrev pub count_line : List Domain → List ℕ
count_line ds = line_of (decimal (length ds) ++ (codes " countries, " ++ (decimal (rule_count ds) ++ codes " rules")))

-- ---- notes on rules

-- the least channel that a rule governs; or where it governs none, which rule governs the least channel that it holds; or
-- that it holds none
abbrev pub reach_text : Option ℕ → Option ℕ → Option ℕ → List ℕ
reach_text (Some khz) held by = codes "governs " ++ decimal (khz / 1000) ++ codes " MHz"
reach_text None (Some khz) (Some rule) = codes "hidden by " ++ decimal rule ++ codes " at " ++ decimal (khz / 1000)
reach_text None (Some khz) None = codes "no channel"
reach_text None None by = codes "no channel"

-- the line of a note
unfoldable pub note_line : RuleNote → List ℕ
note_line note =
    (note.alpha2.a ∷ note.alpha2.b ∷ []) ++ codes " rule " ++ decimal note.rule ++ codes ": " ++ reach_text note.least note.held note.by
    ++ (if note.narrow then codes ", narrow" else []) ++ (if note.idle_auto then codes ", idle AUTO-BW" else [])

-- how many of the notes are on rules that govern no channel
abbrev pub silent_count : List RuleNote → ℕ
silent_count notes = count_by (λ note. is_none note.least) notes

-- `C countries, R rules, H without a channel`
abbrev pub totals_text : ℕ → ℕ → ℕ → List ℕ
totals_text countries rules silent =
    decimal countries ++ (codes " countries, " ++ (decimal rules ++ (codes " rules, " ++ (decimal silent ++ codes " without a channel"))))

-- the totals of a database and of the notes on it
abbrev pub lint_totals : List Domain → List RuleNote → List ℕ
lint_totals ds notes = totals_text (length ds) (rule_count ds) (silent_count notes)

-- the text is a line for each note on the database, and a last line with the counts
abbrev pub IsLintReport : List Domain → List ℕ → Type 0
IsLintReport ds text = (notes : List RuleNote) × AreNotes ds notes × (text ≡ text_of_lines (map note_line notes) ++ line_of (lint_totals ds notes))

-- ---- what two countries allow together

-- the line of a channel
unfoldable pub common_line : Common → List ℕ
common_line c =
    codes "\t" ++ decimal (c.khz / 1000) ++ codes " " ++ decimal (c.width_khz / 1000) ++ codes " MHz " ++ decimal c.eirp_mbm ++ codes " mBm" ++ flags_part c.flags

-- the text is a line for each channel that both have a rule for, and a last line with their number
abbrev pub IsCommonReport : Domain → Domain → List ℕ → Type 0
IsCommonReport a b text = (list : List Common) × AreCommon a b list × (text ≡ text_of_lines (map common_line list) ++ line_of (decimal (length list) ++ codes " channels"))
