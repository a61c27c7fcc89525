use Rattle.std.proofs.Common.{[], refl, sym, ◌∙◌}
use Rattle.std.proofs.lemmas.List.{append-nil}
use Rattle.nl_attrs.specs.Messages.{spelled}
use Rattle.nl_attrs.specs.Attributes.{attr_bytes}
use Rattle.nl_attrs.proofs.Apart.{attr-apart}
use Rattle.nl_attrs.proofs.AttrLaws.{one_list, one_place, no_breach}
use Rattle.nl_attrs.proofs.MsgApart.{msg-apart}
use Rattle.nl_attrs.proofs.Told.{attrs_told}
use Rattle.nl_attrs.proofs.laws.one_spelling.Goals as goal

pub returns-clause-message : goal.returns-clause-message
returns-clause-message c m n more is_m is_n e =
    let same = msg-apart m n more [] is_m is_n (e ∙ sym (append-nil (spelled n))) in
    (same.1, same.0)

pub returns-clause-attr : goal.returns-clause-attr
returns-clause-attr c a b more is_a is_b e =
    let same = attr-apart a b more [] is_a is_b (e ∙ sym (append-nil (attr_bytes b))) in
    (same.1, same.0)

pub returns-clause-list : goal.returns-clause-list
returns-clause-list c = one_list

pub returns-clause-place : goal.returns-clause-place
returns-clause-place c = one_place

pub returns-clause-never_both : goal.returns-clause-never_both
returns-clause-never_both c xs k each breach = no_breach _ k xs breach each refl

pub returns-clause-exists : goal.returns-clause-exists
returns-clause-exists c = attrs_told
