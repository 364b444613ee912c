use Rattle.std.proofs.Common.{◌≡◌, [], ◌∷◌, ◌++◌, subst}
use Rattle.b2_plan.specs.Plans.{Makes}
use Rattle.b2_runs.specs.Runs.{Settled.fresh, on_settled}
use Rattle.b2_runs.specs.NumberLaws.{NeedsGrow, LacksGrow, StaleStepStays, FreshStepStays, FreshStepSettles}
use Rattle.b2_runs.proofs.NumberHasOneStep.{one_step}
use Rattle.b2_runs.proofs.ClosureStays.{known_grows}
use Rattle.b2_runs.proofs.SettledStays.{closure_on_settled, settled_grows, verdict_stays, closure_on_settled_stays}

pub needs_grow : NeedsGrow
needs_grow u events event i k apart may r = record {
  step = r.step;
  at = r.at;
  other = r.other;
  path = r.path;
  known = known_grows (on_settled u events) (on_settled u (events ++ event ∷ [])) u.build r.step r.path (λ p x s. (settled_grows u events apart event may p s.0, s.1)) r.known;
  makes = r.makes;
}

pub lacks_grow : LacksGrow
lacks_grow u events event i apart may l = record {
  step = l.step;
  at = l.at;
  path = l.path;
  known = known_grows (on_settled u events) (on_settled u (events ++ event ∷ [])) u.build l.step l.path (λ p x s. (settled_grows u events apart event may p s.0, s.1)) l.known;
  missing = l.missing;
}

pub stale_step_stays : StaleStepStays
stale_step_stays u events event i apart may s = record {
  step = s.step;
  at = s.at;
  members = s.members;
  closure = closure_on_settled_stays u events event s.step s.members apart may s.closure;
  stale = λ f. s.stale ((verdict_stays u events event s.step s.members apart may ((closure_on_settled u events s.step s.members apart).0 s.closure).1).1 f);
}

pub fresh_step_stays : FreshStepStays
fresh_step_stays u events event step apart may f = record {
  members = f.members;
  closure = closure_on_settled_stays u events event step f.members apart may f.closure;
  is_fresh = (verdict_stays u events event step f.members apart may ((closure_on_settled u events step f.members apart).0 f.closure).1).0 f.is_fresh;
}

pub fresh_step_settles : FreshStepSettles
fresh_step_settles u events i step apart at not_started f = λ other path makes.
    let same : other ≡ step = one_step u.build.steps i other step makes.at at in
    let (closure, inside) = (closure_on_settled u events step f.members apart).0 f.closure in
    fresh i step path f.members (subst (λ s. Makes u.build.steps i s path) same makes) not_started closure inside f.is_fresh
