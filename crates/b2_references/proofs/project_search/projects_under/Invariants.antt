use Rattle.b2_references.specs.References.{projects_under}
use Rattle.b2_references.specs.Walking.{IsWalk, turns_left}
use Rattle.b2_references.proofs.TurnsAreEnough.{LeadsTo}
use Rattle.b2_references.proofs.project_search.projects_under.Given as goal

-- the walk leads to the projects that the project stands for
abbrev pub invariant-loop-next : goal.invariant-loop-next
invariant-loop-next l = record {
  walk : IsWalk l.walk;
  leads : LeadsTo l.index (projects_under l.index l.project) l.walk.found.items l.walk.next.items;
}

abbrev pub decreases-loop-next : goal.decreases-loop-next
decreases-loop-next l = turns_left l.index l.walk.found.items l.walk.next.items
