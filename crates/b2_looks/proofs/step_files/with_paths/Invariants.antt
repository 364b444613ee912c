use Rattle.std.proofs.Common.{◌≡◌, map, take}
use Rattle.std.specs.Prelude.{All}
use Rattle.b2_looks.specs.Numbers.{number_in, HasPath}
use Rattle.b2_looks.proofs.step_files.with_paths.Given as goal

-- the numbers so far are there with their paths
abbrev pub invariant-loop-number : goal.invariant-loop-number
invariant-loop-number l = record {
  numbers : map number_in l.named.items ≡ take l.number-index l.members;
  paths : All (HasPath l.facts) l.named.items;
}
