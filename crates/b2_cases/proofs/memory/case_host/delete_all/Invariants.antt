use Rattle.std.proofs.Common.{◌≡◌}
use Rattle.b2_memory.specs.Hosts.{told_outside}
use Rattle.b2_cases.specs.Untold.{hidden}
use Rattle.b2_cases.proofs.memory.case_host.delete_all.Given as goal

-- all but the files is as it was
abbrev pub invariant-loop-path : goal.invariant-loop-path
invariant-loop-path l = hidden (told_outside l.memory) ≡ hidden (told_outside l.fn.memory)
