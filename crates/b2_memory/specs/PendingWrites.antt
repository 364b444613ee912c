use Rattle.std.specs.Prelude.{List}
use Rattle.std.specs.List.{flat_map}
use Rattle.b2_files.specs.declared.file_bytes.FileBytes.{FileBytes}
use Rattle.b2_memory.specs.declared.running_child.RunningChild.{RunningChild}

-- what the children that run will write
abbrev pub promised : List RunningChild → List FileBytes
promised running = flat_map (λ child. child.entries.items) running
