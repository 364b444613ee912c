use Rattle.std.proofs.Common.{◌≡◌, map, take}
use Rattle.b2_host.specs.ChildProcesses.{read_all}
use Rattle.b2_files.specs.Stores.{write_of}
use Rattle.b2_files.specs.StoreDisks.{told}
use Rattle.b2_memory.proofs.memory_job.hold.Given as goal

-- the inputs so far
abbrev pub invariant-loop-path : goal.invariant-loop-path
invariant-loop-path l = map write_of l.held.items ≡ read_all (told l.store).now (take l.path-index l.ins)
