use Rattle.std.proofs.Common.{◌≡◌, map, take}
use Rattle.b2_files.specs.Stores.{write_of}
use Rattle.b2_memory.specs.Results.{made_of}
use Rattle.b2_memory.proofs.memory_job.good_writes.Given as goal

-- the writes to the outputs so far
abbrev pub invariant-loop-out : goal.invariant-loop-out
invariant-loop-out l = map write_of l.entries.items ≡ map (λ out. (out, made_of l.text (map write_of l.held) out)) (take l.out-index l.outs)
