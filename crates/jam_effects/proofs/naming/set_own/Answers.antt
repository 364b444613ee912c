use Rattle.std.proofs.lemmas.Result.{err_from_is_err_and}
use Rattle.jam_effects.specs.Naming.{set_own_in, for_each}
use Rattle.jam_effects.specs.Spots.{spot_of}
use Rattle.jam_effects.proofs.ChangesKeepTheFrames.{same_then}
use Rattle.jam_effects.proofs.ChangesGoTextByText.{next_made, next_refused, all_made}
use Rattle.jam_effects.proofs.naming.set_own.Goals as goal

pub loop-target-preserved : goal.loop-target-preserved
loop-target-preserved c = record {
  so_far = next_made c.args.targets.now c.loop-target.target-index c.target-item.result (λ target. for_each c.args.names.now (set_own_in target c.args.sign c.args.value.now)) c.args.world.now c.loop-target.world c.set_own_names.new.world
      c.loop-target-test.true c.target-item.is c.in_ok-set_own_names.ensures.made c.loop-target.invariant.so_far;
  same = same_then c.args.world.now c.loop-target.world c.set_own_names.new.world c.loop-target.invariant.same c.in_ok-set_own_names.ensures.same;
}

pub returns-in_err-set_own_names-clause-made : goal.returns-in_err-set_own_names-clause-made
returns-in_err-set_own_names-clause-made c =
    let p = err_from_is_err_and c.from_residual.result c.from_residual.ensures.1 in
    rw (p.1, p.2)
    (next_refused c.args.targets.now c.loop-target.target-index c.target-item.result (λ target. for_each c.args.names.now (set_own_in target c.args.sign c.args.value.now)) (spot_of c.args.at.now) c.in_err-set_own_names.field-0.0 c.args.world.now c.loop-target.world c.set_own_names.new.world
    c.loop-target-test.true c.target-item.is c.in_err-set_own_names.ensures.made c.loop-target.invariant.so_far)

pub returns-in_err-set_own_names-clause-same : goal.returns-in_err-set_own_names-clause-same
returns-in_err-set_own_names-clause-same c = same_then c.args.world.now c.loop-target.world c.set_own_names.new.world c.loop-target.invariant.same c.in_err-set_own_names.ensures.same

pub returns-clause-made : goal.returns-clause-made
returns-clause-made c = all_made c.args.targets.now c.loop-target.target-index (λ target. for_each c.args.names.now (set_own_in target c.args.sign c.args.value.now)) c.args.world.now c.loop-target.world c.loop-target-test.false c.loop-target.invariant.so_far
