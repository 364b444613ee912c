use Rattle.std.specs.Prelude.{Bool, List}
use Rattle.std.specs.List.{list_all}
use Rattle.b2_memory.specs.declared.running_child.RunningChild.{RunningChild}

-- each child that runs is to end well
abbrev pub all_end_well : List RunningChild → Bool
all_end_well running = list_all (λ child. child.well) running
