use Rattle.jam_effects.specs.Spots.{spot_of}
use Rattle.jam_effects.proofs.SettingNamesIsOneChange.{own_too_large}
use Rattle.jam_effects.proofs.naming.add_own_name.Goals as goal

pub returns-in-Err-clause-made : goal.returns-in-Err-clause-made
returns-in-Err-clause-made c =
    own_too_large c.args.target.now c.args.name.now c.args.value.now c.args.world.now c.in-Err.fault (spot_of c.args.at.now) c.expand_fault.result
    (rw (c.own_value-found.ensures, c.as_str-3.ensures.value, c.as_str-4.ensures.value) at c.in-Err.ensures) c.expand_fault.ensures
