use Rattle.std.proofs.Common.{◌≡◌, take, Some, Ok}
use Rattle.b2_props.specs.Indexing.{IsIndexOf}
use Rattle.b2_refine.specs.Answers.{Answer}
use Rattle.b2_refine.specs.Conditions.{others, given}
use Rattle.b2_refine.proofs.giving.given.Given as goal

-- what the requirements so far give
abbrev pub invariant-loop-requirement : goal.invariant-loop-requirement
invariant-loop-requirement g l = record {
  index : IsIndexOf l.set l.index;
  rules : g.A.Ask.rules l.ask ≡ g.A.Ask.rules l.fn.ask;
  answer : g.A.Ask.answer l.ask ≡ g.A.Ask.answer l.fn.ask;
  kept : g.A.Ask.kept l.ask ≡ g.A.Ask.kept l.fn.ask;
  faults : g.A.Ask.faults l.ask ≡ g.A.Ask.faults l.fn.ask;
  told : (told : Answer g.row.A-Fault.Denot) → g.A.Ask.answer l.fn.ask ≡ Some told → given told l.set (others (take l.requirement-index l.required)) ≡ Ok l.made;
}
