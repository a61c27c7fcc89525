use Rattle.std.proofs.Common.{refl, sym, subst}
use Rattle.std.proofs.lemmas.List.Elements.{All-push}
use Rattle.freq_range.specs.Ascending.{AreAllAscending}
use Rattle.freq_range.specs.Channels.{IsCentre}
use Rattle.freq_range.proofs.Picked.{picked-all, picked-leave}
use Rattle.db_lint.specs.CommonLists.{IsCommon, IsCommonChannel}
use Rattle.db_lint.proofs.Together.{common_step}
use Rattle.db_lint.proofs.joint.common.Goals as goal
use Rattle.db_lint.proofs.joint.common.Goals.{in-Some+in_ok-push, in_default}

pub loop-khz-preserved : goal.loop-khz-preserved
loop-khz-preserved c = elim c.match-common_on.branch [
  | in-Some+in_ok-push w ↦ rw (w.list-is, w.in_ok-push.ensures.ok) (record {
    channels = common_step c.args.a.now c.args.b.now _ c.loop-khz.khz-index _ _ _
        (subst (AreAllAscending IsCentre) (sym c.as_slice-khz-items.ensures.items) c.in_ok-channels.ensures.channels) c.loop-khz-test.true refl
        w.in-Some.ensures.common.0 w.in-Some.ensures.common.1 c.loop-khz.invariant.channels;
    each = All-push (IsCommon c.args.a.now c.args.b.now) _ _ c.loop-khz.invariant.each w.in-Some.ensures.common.1;
  })
  | in_default w ↦ rw w.list-is (record {
    channels = picked-leave (IsCommonChannel c.args.a.now c.args.b.now) _ _ _ _ c.loop-khz-test.true refl (λ is. w.in_default.ensures.common is.both) c.loop-khz.invariant.channels;
    each = c.loop-khz.invariant.each;
  })
]

pub returns : goal.returns
returns c = record {
  common = record {
    channels = picked-all IsCentre (IsCommonChannel c.args.a.now c.args.b.now) _ _ _
        (subst (AreAllAscending IsCentre) (sym c.as_slice-khz-items.ensures.items) c.in_ok-channels.ensures.channels)
        c.loop-khz-test.false (λ khz is. is.centre) c.loop-khz.invariant.channels;
    each = c.loop-khz.invariant.each;
  };
}
