use Rattle.std.proofs.Common.{◌≡◌, take}
use Rattle.jam_effects.proofs.naming.copy_list.Given as goal

abbrev pub invariant-loop-param : goal.invariant-loop-param
invariant-loop-param l = l.made.items ≡ take l.param-index l.params
