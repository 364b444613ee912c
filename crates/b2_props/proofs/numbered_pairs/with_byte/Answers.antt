use Rattle.std.proofs.Common.{◌*◌, ◌^◌}
use Rattle.std.proofs.Math.Nat.{mod-add-mod}
use Rattle.b2_props.specs.Numbers.{with_byte}
use Rattle.b2_props.proofs.numbered_pairs.with_byte.Goals as goal

pub returns : goal.returns
unfolding with_byte
returns c = mod-add-mod (c.args.number * 1099511628211) (2 ^ 64) c.args.byte
