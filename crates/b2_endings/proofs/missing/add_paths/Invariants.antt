use Rattle.std.proofs.Common.{take, Ok}
use Rattle.std.specs.List.{Contains}
use Rattle.b2_endings.specs.Missing.{AsksFiles, ListsMissing}
use Rattle.b2_endings.proofs.missing.add_paths.Given as goal

abbrev pub invariant-loop-path : goal.invariant-loop-path
invariant-loop-path g l = record {
  asks : AsksFiles {T = Unit {0}} l.plan.steps l.plan.roots l.fn.facts (g.F.Files.outside l.fn.files) l.facts (g.F.Files.outside l.files) (Ok tt);
  lists : ListsMissing (Contains (take l.path-index l.paths)) l.facts l.fn.missing l.missing;
}
