use Rattle.core_parts.proofs.BookNotes.{noted}
use Rattle.core_parts.proofs.radio.Radio.note.Goals as goal

pub returns-in-Radar : goal.returns-in-Radar
returns-in-Radar c = record {
  kept = λ db J r f kept speaks is due.
      let is' = rw c.in-Radar.is at is in
      noted db J r c.args.self.now f _ c.radar.new.self kept speaks is' due (λ may. c.radar.ensures.stands_for _ _ _ kept.book may);
}

pub returns-in-Begin : goal.returns-in-Begin
returns-in-Begin c = record {
  kept = λ db J r f kept speaks is due.
      let is' = rw c.in-Begin.is at is in
      noted db J r c.args.self.now f _ c.begin.new.self kept speaks is' due (λ may. c.begin.ensures.stands_for _ _ _ kept.book may);
}

pub returns-in-DropCheck : goal.returns-in-DropCheck
returns-in-DropCheck c = record {
  kept = λ db J r f kept speaks is due.
      let is' = rw c.in-DropCheck.is at is in
      noted db J r c.args.self.now f _ c.drop_check.new.self kept speaks is' due (λ may. c.drop_check.ensures.stands_for _ _ _ kept.book may);
}

pub returns-in-Operate : goal.returns-in-Operate
returns-in-Operate c = record {
  kept = λ db J r f kept speaks is due.
      let is' = rw c.in-Operate.is at is in
      noted db J r c.args.self.now f _ c.operate.new.self kept speaks is' due (λ may. c.operate.ensures.stands_for _ _ _ kept.book may);
}

pub returns-in-Rest : goal.returns-in-Rest
returns-in-Rest c = record {
  kept = λ db J r f kept speaks is due.
      let is' = rw c.in-Rest.is at is in
      noted db J r c.args.self.now f _ c.operate-in-Rest.new.self kept speaks is' due (λ may. c.operate-in-Rest.ensures.stands_for _ _ _ kept.book may);
}
