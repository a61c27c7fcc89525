use Rattle.text_lines.proofs.Names.{wmm_name_at-none, wmm_name_at-reads}
use Rattle.text_lines.proofs.Words.{match_then}
use Rattle.text_lines.proofs.wmm_reader.wmm_name_of.Goals as goal

pub returns : goal.returns
returns c = record { name = match_then _ _ _ (wmm_name_at-none c.args.line.now) (λ name. wmm_name_at-reads c.args.line.now name.now) c.wmm_name_at.ensures }
