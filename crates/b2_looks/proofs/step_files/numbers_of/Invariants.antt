use Rattle.std.proofs.Common.{◌≡◌, Some, take}
use Rattle.std.specs.List.{AllZip}
use Rattle.b2_host.specs.Disks.{Folder}
use Rattle.b2_facts.specs.Facts.{path_at}
use Rattle.b2_facts.specs.Growth.{Learns, OfNone}
use Rattle.b2_facts.specs.Truth.{StaysTrue}
use Rattle.b2_looks.proofs.step_files.numbers_of.Given as goal

-- the paths so far have their numbers
abbrev pub invariant-loop-path : goal.invariant-loop-path
invariant-loop-path l = record {
  named : AllZip (λ n path. path_at l.facts n ≡ Some path) l.numbers (take l.path-index l.paths);
  learns : Learns l.plan.steps l.plan.roots OfNone l.fn.facts l.facts;
  told : (now : Folder) → StaysTrue l.plan.steps l.plan.roots now l.fn.facts l.facts;
}
