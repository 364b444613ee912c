use Rattle.std.proofs.Common.{List, ℕ, take, Ok}
use Rattle.b2_plan.specs.declared.step.Step.{Step}
use Rattle.b2_endings.specs.Missing.{AsksFiles, ListsMissing, IsOfLacking}
use Rattle.b2_endings.proofs.missing.add_lacking.Given as goal

abbrev pub invariant-loop-number : goal.invariant-loop-number
invariant-loop-number g l = record {
  asks : (steps : List Step) (roots : List (List ℕ)) → AsksFiles {T = Unit {0}} steps roots l.fn.facts (g.F.Files.outside l.fn.files) l.facts (g.F.Files.outside l.files) (Ok tt);
  lists : ListsMissing (IsOfLacking l.fn.facts l.works (take l.number-index l.numbers)) l.facts l.fn.missing l.missing;
}
