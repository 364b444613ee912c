use Rattle.jam_effects.specs.Spots.{spot_of}
use Rattle.jam_effects.proofs.SettingNamesIsOneChange.{add_refused}
use Rattle.jam_effects.proofs.ChangesKeepTheFrames.{same_appended}
use Rattle.jam_effects.proofs.naming.add_name.Goals as goal

pub returns-in-Err-clause-made : goal.returns-in-Err-clause-made
returns-in-Err-clause-made c =
    add_refused c.args.name.now c.args.value.now c.args.world.now c.in-Err.fault (spot_of c.args.at.now) c.expand_fault.result
    (rw (c.assigned.ensures, c.as_str-2.ensures.value) at c.in-Err.ensures) c.expand_fault.ensures

pub returns-clause-same : goal.returns-clause-same
returns-clause-same c = same_appended _ _ c.args.world.now c.append.new.self c.in_ok-append.ensures.ok
