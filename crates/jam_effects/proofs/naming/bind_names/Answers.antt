use Rattle.jam_effects.proofs.ClosingUndoesOpening.{framed_after}
use Rattle.jam_effects.proofs.ChangesKeepTheFrames.{same_then, same_bound, same_equal}
use Rattle.jam_effects.proofs.ChangesGoTextByText.{next_bound, all_bound}
use Rattle.jam_effects.proofs.naming.bind_names.Goals as goal

pub loop-name-preserved : goal.loop-name-preserved
loop-name-preserved c =
    let now = c.loop-name.world in
    let bound = c.in_ok-bind_copy.ensures.ok in
    record {
      framed = framed_after (c.name-item.result, c.args.value.now) now c.bind_copy.new.world bound c.loop-name.invariant.framed;
      bound = next_bound c.args.names.now c.loop-name.name-index c.name-item.result c.args.value.now c.args.world.now now c.bind_copy.new.world c.loop-name-test.true c.name-item.is bound c.loop-name.invariant.bound;
      same = same_then c.args.world.now now c.bind_copy.new.world c.loop-name.invariant.same (same_bound c.name-item.result c.args.value.now now c.bind_copy.new.world bound);
    }

pub returns-in_err-bind_copy-clause-same : goal.returns-in_err-bind_copy-clause-same
returns-in_err-bind_copy-clause-same c = same_then c.args.world.now c.loop-name.world c.bind_copy.new.world c.loop-name.invariant.same (same_equal c.loop-name.world c.bind_copy.new.world c.in_err-bind_copy.ensures.err)

pub returns-clause-ok : goal.returns-clause-ok
returns-clause-ok c = all_bound c.args.names.now c.loop-name.name-index c.args.value.now c.args.world.now c.loop-name.world c.loop-name-test.false c.loop-name.invariant.bound
