use Rattle.std.proofs.Common.{◌≡◌}
use Rattle.jam_meaning.specs.Params.{numbered}
use Rattle.jam_values.specs.Bindings.{bindings_of}
use Rattle.jam_values.proofs.bindings.numbered.Given as goal

abbrev pub invariant-loop-place : goal.invariant-loop-place
invariant-loop-place l = bindings_of l.made.items ≡ numbered l.place 49 l.given
