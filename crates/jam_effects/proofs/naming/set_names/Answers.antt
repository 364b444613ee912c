use Rattle.std.proofs.lemmas.Result.{err_from_is_err_and}
use Rattle.jam_effects.specs.Naming.{set_name_in}
use Rattle.jam_effects.specs.Spots.{spot_of}
use Rattle.jam_effects.proofs.ChangesKeepTheFrames.{same_then}
use Rattle.jam_effects.proofs.ChangesGoTextByText.{next_made, next_refused, all_made}
use Rattle.jam_effects.proofs.naming.set_names.Goals as goal

pub loop-name-preserved : goal.loop-name-preserved
loop-name-preserved c = record {
  so_far = next_made c.args.names.now c.loop-name.name-index c.name-item.result (set_name_in c.args.sign c.args.value.now) c.args.world.now c.loop-name.world c.set_name.new.world
      c.loop-name-test.true c.name-item.is c.in_ok-set_name.ensures.made c.loop-name.invariant.so_far;
  same = same_then c.args.world.now c.loop-name.world c.set_name.new.world c.loop-name.invariant.same c.in_ok-set_name.ensures.same;
}

pub returns-in_err-set_name-clause-made : goal.returns-in_err-set_name-clause-made
returns-in_err-set_name-clause-made c =
    let p = err_from_is_err_and c.from_residual.result c.from_residual.ensures.1 in
    rw (p.1, p.2)
    (next_refused c.args.names.now c.loop-name.name-index c.name-item.result (set_name_in c.args.sign c.args.value.now) (spot_of c.args.at.now) c.in_err-set_name.field-0.0 c.args.world.now c.loop-name.world c.set_name.new.world
    c.loop-name-test.true c.name-item.is c.in_err-set_name.ensures.made c.loop-name.invariant.so_far)

pub returns-in_err-set_name-clause-same : goal.returns-in_err-set_name-clause-same
returns-in_err-set_name-clause-same c = same_then c.args.world.now c.loop-name.world c.set_name.new.world c.loop-name.invariant.same c.in_err-set_name.ensures.same

pub returns-clause-made : goal.returns-clause-made
returns-clause-made c = all_made c.args.names.now c.loop-name.name-index (set_name_in c.args.sign c.args.value.now) c.args.world.now c.loop-name.world c.loop-name-test.false c.loop-name.invariant.so_far
