use Rattle.std.proofs.Common.{◌++◌, ◌+◌, arith, drop, le_trans, refl, subst, take}
use Rattle.std.proofs.lemmas.List.{take_more}
use Rattle.db_commands.specs.Devices.{around}
use Rattle.script_run.proofs.Taking.{handed_on}
use Rattle.pack_command.specs.inner.Steps.{IsPackedSoFar}
use Rattle.pack_command.proofs.Taking.{bytes_more, stops_whole}
use Rattle.pack_command.proofs.packing.pack_bytes.Goals as goal

pub returns-in_err-pack_byte-clause-stopped : goal.returns-in_err-pack_byte-clause-stopped
returns-in_err-pack_byte-clause-stopped g c = handed_on c.from_residual.result c.in_err-pack_byte.field-0.0 _ c.from_residual.ensures.1 (λ taken before n m so.
    stops_whole taken c.args.bytes.now c.loop-byte.byte-index _ (around before (g.K.Sink.held c.pack_byte.new.out) n m) _
    c.loop-byte-test.true refl
    (c.in_err-pack_byte.ensures.stopped (taken ++ take c.loop-byte.byte-index c.args.bytes.now) (drop (c.loop-byte.byte-index + 1) c.args.bytes.now) before n m
    (c.loop-byte.invariant.so_far taken before so)))

pub pack_byte-requires-clause-room : goal.pack_byte-requires-clause-room
pack_byte-requires-clause-room g c = let room = c.loop-byte.invariant.room in omega (arith, room, c.loop-byte-test.true)

pub loop-byte-preserved : goal.loop-byte-preserved
loop-byte-preserved g c = record {
  room = let room = c.loop-byte.invariant.room in let one = c.in_ok-pack_byte.ensures.lines in omega (arith, room, one);
  fewer = c.in_ok-pack_byte.ensures.fewer;
  later = le_trans c.loop-byte.invariant.later c.pack_byte.ensures.later;
  unended = c.pack_byte.ensures.unended;
  so_far = λ taken before so.
      subst (λ bytes. IsPackedSoFar bytes c.pack_byte.new.cutter before (g.K.Sink.held c.pack_byte.new.out) c.pack_byte.new.progress)
      (bytes_more taken c.args.bytes.now c.loop-byte.byte-index _ (take_more c.args.bytes.now c.loop-byte.byte-index 0 c.loop-byte-test.true))
      (c.in_ok-pack_byte.ensures.packed (taken ++ take c.loop-byte.byte-index c.args.bytes.now) before (c.loop-byte.invariant.so_far taken before so));
}
