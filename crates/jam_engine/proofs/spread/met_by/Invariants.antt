use Rattle.std.proofs.Common.{List, [], filter, length, reverse, ℕ, ◌++◌, ◌+◌, ◌≡◌}
use Rattle.std.specs.Prelude.{not}
use Rattle.jam_engine.specs.Spreading.{stacked}
use Rattle.jam_engine.specs.Spreads.{Meets}
use Rattle.jam_engine.specs.Tables.{is_in}
use Rattle.jam_engine.specs.Targets.{has}
use Rattle.jam_engine.proofs.spread.met_by.Given as goal

-- what is met from here on, behind what was met, is what the whole list meets; seen is what was met
abbrev pub invariant-loop-target : goal.invariant-loop-target
invariant-loop-target l = record {
  met : (more : List (List ℕ)) → Meets l.graph l.met (reverse (stacked l.stack.items)) more → Meets l.graph [] l.texts (l.met ++ more);
  seen : (t : List ℕ) → is_in l.seen t ≡ has l.met t;
}

abbrev pub decreases-loop-target : goal.decreases-loop-target
decreases-loop-target l = length (stacked l.stack.items) + length (filter (λ pair. not (is_in l.seen pair.0)) (l.graph.depends ++ l.graph.includes))
