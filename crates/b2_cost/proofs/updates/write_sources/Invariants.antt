-- No child runs.
use Rattle.std.proofs.Common.{◌≡◌, []}
use Rattle.b2_memory.specs.Hosts.{memory_of}
use Rattle.b2_cost.proofs.updates.write_sources.Given as goal

abbrev pub invariant-loop-path : goal.invariant-loop-path
invariant-loop-path l = (memory_of l.host).outside.children.running ≡ []
