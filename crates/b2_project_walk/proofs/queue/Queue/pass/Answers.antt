use Rattle.std.proofs.Common.{[], ap, sym, ◌∙◌, arith}
use Rattle.b2_project_walk.specs.Directories.{is_visited}
use Rattle.b2_project_walk.proofs.VisitsGrowByOne.{passed_one, new_at}
use Rattle.b2_project_walk.proofs.queue.Queue.pass.Goals as goal
use Rattle.b2_project_walk.proofs.queue.Queue.pass.Goals.{then-loop-passed-test+else-has, else-loop-passed-test}

pub loop-passed-preserved : goal.loop-passed-preserved
loop-passed-preserved c =
    let dirs = c.args.self.now.dirs.items in
    let visits = c.args.visits.now in
    let dir = c.index.result.now in
    record {
      none = passed_one visits dirs c.loop-passed.passed dir (omega (arith, c.loop-passed-test.true, c.len.ensures)) c.loop-passed.invariant.none
          (ap (λ d. is_visited d visits) (sym c.index.ensures) ∙ sym c.has.ensures ∙ c.if-has.true);
      short = omega (arith, c.loop-passed-test.true, c.len.ensures);
    }

pub returns-clause-front : goal.returns-clause-front
returns-clause-front c =
    let dirs = c.args.self.now.dirs.items in
    let visits = c.args.visits.now in
    elim c.loop-passed-test.branch [
      | then-loop-passed-test+else-has w ↦ new_at visits dirs c.loop-passed.passed w.index.result.now c.loop-passed.invariant.none
          (λ inside. ap (λ d. is_visited d visits) (sym w.index.ensures) ∙ sym w.has.ensures ∙ w.if-has.false)
      | else-loop-passed-test w ↦ new_at visits dirs c.loop-passed.passed [] c.loop-passed.invariant.none (λ inside. absurd (omega (arith, inside, w.loop-passed-test.false, c.len.ensures)))
    ]
