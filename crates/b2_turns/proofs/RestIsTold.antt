-- Where no step can be looked at the schedule has what the run has, and the log lacks no line that is called for.
use Rattle.std.proofs.Common.{◌≡◌, inl, inr, ℕ, ◌+◌, List, length, Some, sym, ap, subst, ◌∙◌, arith}
use Rattle.b2_host.specs.declared.children.ChildEvent.{ChildEvent}
use Rattle.b2_host.specs.Disks.{Disk}
use Rattle.b2_host.specs.Outside.{Read}
use Rattle.b2_plan.specs.declared.step.Step.{Step}
use Rattle.b2_plan.specs.declared.plan.Plan.{Plan}
use Rattle.b2_plan.specs.Closures.{Known}
use Rattle.b2_log.specs.declared.line.LogLine.{LogLine}
use Rattle.b2_runs.specs.Staleness.{Update}
use Rattle.b2_runs.specs.Runs.{on_settled}
use Rattle.b2_runs.specs.Outcomes.{IsSettledStep}
use Rattle.b2_runs.specs.Numbers.{NeededOf.of_needed}
use Rattle.b2_runs.specs.LogCourses.{LacksNoLine}
use Rattle.b2_runs.proofs.ClosureByPresent.{seen_is_clean}
use Rattle.b2_runs.proofs.NumberHasOneStep.{one_step}
use Rattle.b2_runs.proofs.ReadsLeaveLines.{stands_is_scanned}
use Rattle.b2_runs.proofs.StaleStepStays.{fresh_step_settles}
use Rattle.b2_sched.specs.Schedules.{IsSettled, IsNeeded, CanLook}
use Rattle.b2_sched.specs.Joins.{IsToldTrue, IsTold, IsToldStarts, IsAtRest}
use Rattle.b2_sched.specs.Sound.{IsSound}
use Rattle.b2_sched.proofs.SetsAgreeWithTheRun.{needed_joins}
use Rattle.b2_sched.proofs.StartsAgreeWithTheRun.{settled_joins}
use Rattle.b2_reach.specs.declared.sights.Sights.{Sights}
use Rattle.b2_reach.specs.Laws.{IsTrueInRun, IsAsFarInRun}
use Rattle.b2_reach.proofs.MembersAreKnown.{known_has_line}
use Rattle.b2_board.specs.Works.{IsWorkOn, IsToldNeed}
use Rattle.b2_board.specs.Boards.{IsSeen}
use Rattle.b2_board.proofs.WorkStaysInOrder.{maker_told}
use Rattle.b2_board.proofs.NeededAreSteps.{board_is_judged}
use Rattle.b2_board.proofs.ScheduleSaysWhatRunSays.{board_tells_true, board_tells_all}
use Rattle.b2_looks.specs.declared.looks.Looks.{Looks}
use Rattle.b2_looks.specs.Looks.{AreLooks, Follows}
use Rattle.b2_looks.specs.UnderWay.{IsUnderWay, AreTrueLooks, IsUpdateBy}
use Rattle.b2_looks.proofs.LookIsTold.{run_truth}
use Rattle.b2_turns.specs.Laws.{AtRestIsTold}

module _ (u : Update) (events : List ChildEvent) (first : List LogLine) (reads : List Read) (disk : Disk) (plan : Plan) (s : Sights) (l : Looks) (by : IsUpdateBy plan l u) (sound : IsSound l.board.sched) (is : AreLooks plan 0 s.facts l) (none : (i : ℕ) → CanLook l.board.sched i → ⊥)
    (follows : Follows events l) (under : IsUnderWay u events first reads disk s) (looks : AreTrueLooks u events disk s l) where
  -- ---- the schedule

  truth : IsTrueInRun u events disk (IsSettled l.board.sched) s.facts
  truth = run_truth u events first reads disk s l under looks

  so : IsToldTrue u events l.board.sched
  so =
      let told = board_tells_true u events disk plan 0 s.facts l.board by.steps by.wanted truth is.board in
      record {
        sound = sound;
        size = subst (λ (steps : List Step). length l.board.sched.states ≡ length steps + 1) (sym by.steps) is.board.size;
        firsts = told.0;
        needs = told.1;
        lacks = told.2;
        settled = λ i needed settled. looks.settled i settled;
        failed = follows.failed;
      }

  starts : IsToldStarts u events l.board.sched
  starts = record { jobs = sym by.jobs; stale = looks.stale; not_started = λ i stale. follows.not_started i (inr stale); started = follows.started; count = follows.count }

  rest : IsAtRest l.board.sched
  rest = record { no_look = none; judged = board_is_judged plan s.facts l.board is.board }

  told : IsTold u events l.board.sched
  told =
      let settled = settled_joins u events l.board.sched under.apart under.run so starts rest follows.done_well in
      record { so = so; all = board_tells_all u events disk plan s.facts l.board by.steps by.wanted truth is.board none settled; settled = settled }

  -- ---- the log

  -- a needed step was looked at as far as can be in the run
  module _ (i : ℕ) (needed : IsNeeded l.board.sched i) where
    seen : IsSeen l.board.sched s.facts l.board.works.items i
    seen = is.board.seen i (λ zero. (let some = (sound.steps i needed).some in omega (arith, some, zero))) needed (none i)

    on : IsWorkOn u.build.steps l.board.sched s.facts i seen.work
    on = subst (λ steps. IsWorkOn steps l.board.sched s.facts i seen.work) (sym by.steps) (is.board.work i seen.work seen.begun)

    far : IsAsFarInRun u events s.facts seen.work.reach
    far = record {
      whole = seen.looked.as_far.whole;
      waiting = λ n number file among known made there.
          seen.looked.as_far.waiting n number file among known made (go number there (maker_told u.build.steps l.board.sched s.facts i seen.work on seen.looked.told number (record { number = n; among = on.reach.in_order.pending n among; file = file; file_is = known; made = made })));
    }
      where
        go : (number : ℕ) → IsSettledStep u events number → IsToldNeed l.board.sched seen.work.waiting i number → IsSettled l.board.sched number
        go number there (inl settled) = settled
        go number there (inr need) = told.settled number (of_needed number i needed need.0) there

  lacks_none : LacksNoLine u events disk.now s.journal
  lacks_none = record {
    scanned = λ path bytes to. (
        let needed = (needed_joins u events l.board.sched told to.input.number).1 to.input.needed in
        let work = on to.input.number needed in
        let known = subst (λ step. Known u.build (on_settled u events) step path) (one_step u.build.steps to.input.number to.input.step work.step to.input.at work.at) to.input.known in
        let (stamp, stands) = known_has_line u events disk l.board.sched work.step s.facts (seen to.input.number needed).work.reach truth work.reach (far to.input.number needed) s.journal path bytes under.lined known (sym (ap (λ scan. scan path) under.update.scanned) ∙ to.scanned) to.settled in
        let shown = (seen_is_clean u events disk path (Some bytes) under.apart under.run under.sound).0 to.settled in
        stands_is_scanned u events disk s.journal path bytes stamp under.sight.consistent under.sight.scans shown.1.0 stands);
    migrated = λ step members to. (
        let needed = (needed_joins u events l.board.sched told to.number).1 to.needed in
        let settled = told.settled to.number needed (fresh_step_settles u events to.number step under.apart to.at to.not_started (record { members = members; closure = to.closure; is_fresh = to.is_fresh })) in
        looks.migrated to.by_digest to.number step members settled to.at to.not_started to.closure);
  }

pub at_rest_is_told : AtRestIsTold
at_rest_is_told u events first reads disk plan s l by sound is none follows under looks = record {
  told = told u events first reads disk plan s l by sound is none follows under looks;
  starts = starts u events first reads disk plan s l by sound is none follows under looks;
  rest = rest u events first reads disk plan s l by sound is none follows under looks;
  lacks_none = lacks_none u events first reads disk plan s l by sound is none follows under looks;
}
