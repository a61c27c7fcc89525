use Rattle.std.proofs.Common.{◌≡◌, ◌∙◌, sym, rules, length}
use Rattle.db_text.specs.Printed.{same_wmm, wmm_numbers}
use Rattle.db_text.proofs.Noted.{position-none, position-place}
use Rattle.db_text.proofs.wmm_names.WmmNames.place_of.Goals as goal

pub returns-in-Some : goal.returns-in-Some
returns-in-Some c =
    position-place (same_wmm c.args.wmm.now) c.args.self.now.rules.items c.in-Some.place.now
    (sym (c.requires (wmm_numbers c.args.wmm.now)) ∙ rw (← c.key_of.ensures) (sym c.in-Some.ensures.value))

pub returns-in-None : goal.returns-in-None
returns-in-None c =
    let e : c.len.result ≡ length c.args.self.now.rules.items = search rules in
    e ∙ sym (position-none (same_wmm c.args.wmm.now) c.args.self.now.rules.items
    (sym (c.requires (wmm_numbers c.args.wmm.now)) ∙ rw (← c.key_of.ensures) (sym c.in-None.ensures.value)))
