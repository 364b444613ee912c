use Rattle.std.proofs.Common.{List, ℕ, take, Ok}
use Rattle.b2_plan.specs.declared.step.Step.{Step}
use Rattle.b2_endings.specs.Missing.{AsksFiles, ListsMissing, IsPathOf}
use Rattle.b2_endings.proofs.missing.add_members.Given as goal

abbrev pub invariant-loop-number : goal.invariant-loop-number
invariant-loop-number g l = record {
  asks : (steps : List Step) (roots : List (List ℕ)) → AsksFiles {T = Unit {0}} steps roots l.fn.facts (g.F.Files.outside l.fn.files) l.facts (g.F.Files.outside l.files) (Ok tt);
  lists : ListsMissing (IsPathOf l.fn.facts (take l.number-index l.members)) l.facts l.fn.missing l.missing;
}
