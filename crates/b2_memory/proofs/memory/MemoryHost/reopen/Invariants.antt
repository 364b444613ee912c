use Rattle.std.proofs.Common.{◌≡◌, ◌+◌, length, vec_len}
use Rattle.b2_memory.specs.Memories.{Memory, AllEnded}
use Rattle.b2_memory.specs.Hosts.{memory_of}
use Rattle.b2_memory.proofs.memory.MemoryHost.reopen.Given as goal

-- as many children are left as rounds, and their ends complete those so far
abbrev pub invariant-loop-child : goal.invariant-loop-child
invariant-loop-child l = record {
  left : l._child + vec_len l.self.child_table.running ≡ vec_len l.fn.self.child_table.running;
  ends : (last : Memory) → AllEnded (length l.self.child_table.running.items) (memory_of l.self) last → AllEnded (length l.fn.self.child_table.running.items) (memory_of l.fn.self) last;
}
