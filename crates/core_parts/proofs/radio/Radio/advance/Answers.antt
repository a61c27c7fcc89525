use Rattle.core_parts.proofs.KeptOn.{advanced}
use Rattle.core_parts.proofs.radio.Radio.advance.Goals as goal

pub returns : goal.returns
returns c = record {
  kept = λ db J r kept due.
      advanced db J r c.args.now c.args.self.now c.advance.new.self kept due (λ call_due. c.advance.ensures.stands_for _ _ _ kept.book call_due);
}
