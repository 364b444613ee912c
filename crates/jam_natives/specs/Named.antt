-- The paths that a target may name.
use Rattle.std.specs.Prelude.{◌++◌}
use Rattle.jam_journal.specs.Scopes.{Value}
use Rattle.jam_natives.specs.declared.target.StepPaths.{StepPaths}

abbrev pub paths_in : StepPaths → Value
paths_in named = named.outs.now ++ (named.ins.now ++ named.added.now)
