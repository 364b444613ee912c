use Rattle.std.proofs.Common.{◌<◌, subst, sym}
use Rattle.b2_references.specs.References.{projects_under}
use Rattle.b2_references.specs.Walking.{turns_left}
use Rattle.b2_references.proofs.TurnsAreEnough.{LeadsTo, walk_begins_at, walk_goes_on, fewer_turns}
use Rattle.b2_references.proofs.project_search.projects_under.Goals as goal

pub loop-next-init : goal.loop-next-init
loop-next-init c = record {
  walk = c.in_ok-walk.ensures.walk;
  leads = walk_begins_at c.args.index.now c.args.project c.in_ok-walk.walk.found.items c.in_ok-walk.walk.next.items c.in_ok-walk.ensures.found c.in_ok-walk.ensures.next;
}

pub loop-next-smaller : goal.loop-next-smaller
loop-next-smaller c =
    subst (λ xs. turns_left c.args.index.now c.visit.new.self.found.items c.visit.new.self.next.items < turns_left c.args.index.now c.loop-next.walk.found.items xs) (sym c.in-Some.ensures.items)
    (fewer_turns c.args.index.now c.in-Some.next c.loop-next.walk.found.items c.pop.new.self.items c.visit.new.self.found.items c.visit.new.self.next.items c.in_ok-visit.ensures.steps)

pub loop-next-preserved : goal.loop-next-preserved
loop-next-preserved c = record {
  walk = c.in_ok-visit.ensures.walk;
  leads =
      walk_goes_on c.args.index.now (projects_under c.args.index.now c.args.project) c.in-Some.next c.loop-next.walk.found.items c.pop.new.self.items c.visit.new.self.found.items c.visit.new.self.next.items
      (subst (λ xs. LeadsTo c.args.index.now (projects_under c.args.index.now c.args.project) c.loop-next.walk.found.items xs) c.in-Some.ensures.items c.loop-next.invariant.leads) c.in_ok-visit.ensures.steps;
}
