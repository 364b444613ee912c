use Rattle.std.proofs.Common.{◌≡◌, ◌++◌, map, take}
use Rattle.std.specs.List.{flat_map}
use Rattle.b2_files.specs.Stores.{input_of}
use Rattle.b2_memory.specs.Results.{input_text}
use Rattle.b2_memory.proofs.made.add_inputs.Given as goal

-- the inputs so far are added
abbrev pub invariant-loop-input : goal.invariant-loop-input
invariant-loop-input l = l.bytes.items ≡ l.fn.bytes.items ++ flat_map input_text (map input_of (take l.input-index l.inputs))
