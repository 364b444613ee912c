use Rattle.std.proofs.Common.{◌≡◌, ◌++◌, take, drop}
use Rattle.b2_making.specs.Conversions.{with_named}
use Rattle.b2_making.proofs.output.with_named.Given as goal

-- no output before this place has the type
abbrev pub invariant-loop-place : goal.invariant-loop-place
invariant-loop-place l = record {
  same : l.outputs.items ≡ l.fn.outputs;
  so_far : with_named l.named l.fn.outputs ≡ take l.place l.fn.outputs ++ with_named l.named (drop l.place l.fn.outputs);
}
