use Rattle.std.proofs.Common.{◌≡◌, Ok, length, take}
use Rattle.b2_declared.specs.Outcomes.{all_steps}
use Rattle.b2_declared.specs.Gathering.{gathering, nothing_gathered}
use Rattle.b2_declared.specs.Views.{brought}
use Rattle.b2_declared.proofs.gathered.gathered_by.Given as goal

-- what the calls so far add
abbrev pub invariant-loop-call : goal.invariant-loop-call
invariant-loop-call l = record {
  so_far : all_steps (gathering l.registry l.visits) (nothing_gathered l.visits) (take l.call-index l.calls) ≡ Ok (brought l.made);
  projects : length l.made.places.items ≡ length l.visits;
}
