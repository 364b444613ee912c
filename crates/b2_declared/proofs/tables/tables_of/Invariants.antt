use Rattle.std.proofs.Common.{◌≡◌, Ok, length, take}
use Rattle.b2_declared.specs.Outcomes.{all_steps}
use Rattle.b2_declared.specs.Carrying.{carrying, no_tables}
use Rattle.b2_declared.specs.Views.{seen}
use Rattle.b2_declared.proofs.tables.tables_of.Given as goal

-- the calls that were carried out so far
abbrev pub invariant-loop-call : goal.invariant-loop-call
invariant-loop-call l = record {
  so_far : all_steps (carrying l.visits) (no_tables l.visits) (take l.call-index l.calls) ≡ Ok (seen l.tables);
  projects : length l.tables.begun.items ≡ length l.visits;
}
