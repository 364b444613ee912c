use Rattle.std.proofs.Common.{◌≡◌, suc, Some, Ok}
use Rattle.b2_props.specs.Sets.{IsSet}
use Rattle.b2_refine.specs.Answers.{Answer}
use Rattle.b2_refine.specs.Conditions.{round_set}
use Rattle.b2_refine.proofs.evaluate.last_rounds.Given as goal

-- the sets of this round and the next one
abbrev pub invariant-loop : goal.invariant-loop
invariant-loop g l = record {
  set : IsSet l.registry l.first;
  next_set : IsSet l.registry l.second;
  rules : g.A.Ask.rules l.ask ≡ g.A.Ask.rules l.fn.ask;
  answer : g.A.Ask.answer l.ask ≡ g.A.Ask.answer l.fn.ask;
  kept : g.A.Ask.kept l.ask ≡ g.A.Ask.kept l.fn.ask;
  faults : g.A.Ask.faults l.ask ≡ g.A.Ask.faults l.fn.ask;
  first_is : (told : Answer g.row.A-Fault.Denot) → g.A.Ask.answer l.fn.ask ≡ Some told → round_set told l.registry l.request l.required l.counter ≡ Ok l.first;
  second_is : (told : Answer g.row.A-Fault.Denot) → g.A.Ask.answer l.fn.ask ≡ Some told → round_set told l.registry l.request l.required (suc l.counter) ≡ Ok l.second;
}
