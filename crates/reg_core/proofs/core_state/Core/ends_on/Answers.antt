use Rattle.std.proofs.Common.{refl, ◌∙◌}
use Rattle.core_parts.proofs.Named.{radio_is_no_cause}
use Rattle.reg_core.proofs.core_state.Core.ends_on.Goals as goal

pub returns-in_default : goal.returns-in_default
returns-in_default c = λ db J s. (c.in_default.ensures.kept db J s.radios, refl)

pub add_ends_on-requires : goal.add_ends_on-requires
add_ends_on-requires c =
    let core = c.requires.core in
    let s = core.keeps in
    record {
      parts = record {
        db = core.db;
        journal = core.journal;
        parts = record { due = s.due; interfaces_are = c.as_slice.ensures.items ∙ s.interfaces; radio_is = c.in-Some.ensures.kept core.db core.journal s.radios };
      };
      empty = c.requires.empty;
    }

pub returns : goal.returns
returns c = λ db J s.
    let keeps = c.in-Some.ensures.kept db J s.radios in (
      radio_is_no_cause db J c.args.number c.in-Some.radio.now keeps,
      c.add_ends_on.ensures.added db J (record { due = s.due; interfaces_are = c.as_slice.ensures.items ∙ s.interfaces; radio_is = keeps }),
    )
