use Rattle.std.proofs.Common.{◌∙◌, sym, rules}
use Rattle.db_text.proofs.Noted.{lacks_noted, has_noted, numbered_more, lacks_place}
use Rattle.db_text.proofs.wmm_names.WmmNames.add.Goals as goal

pub returns-then-contains_key-clause-rules : goal.returns-then-contains_key-clause-rules
returns-then-contains_key-clause-rules c =
    has_noted c.args.self.now.rules.items c.args.wmm.now c.args.self.now.numbers c.requires
    (rw (← c.key_of-key.ensures) (sym c.contains_key.ensures ∙ c.if-contains_key.true))

pub returns-clause-rules : goal.returns-clause-rules
returns-clause-rules c =
    c.in_ok-push.ensures.items
    ∙ sym (lacks_noted c.args.self.now.rules.items c.args.wmm.now c.args.self.now.numbers c.requires
    (rw (← c.key_of-key.ensures) (sym c.contains_key.ensures ∙ c.if-contains_key.false)))

pub returns-clause-numbered : goal.returns-clause-numbered
returns-clause-numbered c =
    rw c.in_ok-push.ensures.items (numbered_more c.args.self.now.rules.items c.args.wmm.now c.len.result c.args.self.now.numbers c.insert.new.self c.requires
    (lacks_place c.args.self.now.rules.items c.args.wmm.now c.args.self.now.numbers c.requires
    (rw (← c.key_of-key.ensures) (sym c.contains_key.ensures ∙ c.if-contains_key.false)))
    (search rules)
    (rw (← c.key_of-key.ensures) (c.in_ok-insert.ensures.updates.0)))
