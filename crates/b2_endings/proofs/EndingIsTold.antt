-- What is named at the end of a run is so in the run.
use Rattle.std.proofs.Common.{◌≡◌, ◌∙◌, ◌⊎◌, inl, inr, ℕ, Bool, false, List, Option, Some, None, Result, Ok, IfOk, refl, sym, ap, subst}
use Rattle.std.specs.List.{Contains}
use Rattle.std.specs.Option.{IfSome}
use Rattle.b2_host.specs.declared.children.ChildEvent.{ChildEvent}
use Rattle.b2_host.specs.Disks.{Disk}
use Rattle.b2_host.specs.Outside.{Outside, Read}
use Rattle.b2_plan.specs.declared.step.Step.{Step}
use Rattle.b2_plan.specs.declared.plan.Plan.{Plan}
use Rattle.b2_plan.specs.Plans.{Apart, Makes, step_at}
use Rattle.b2_plan.specs.Sources.{IsGiven, IsMissing}
use Rattle.b2_plan.specs.Closures.{Known.input}
use Rattle.b2_log.specs.declared.line.LogLine.{LogLine}
use Rattle.b2_runs.specs.Staleness.{Update}
use Rattle.b2_runs.specs.Runs.{on_settled, Needed, IsRun, IsRunSoFar}
use Rattle.b2_runs.specs.Outcomes.{IsSettledStep, IsMissed, IsListOf, Skipped, Skipped.missing as skipped_missing}
use Rattle.b2_runs.specs.Outcomes as run
use Rattle.b2_runs.specs.Numbers.{LacksSource}
use Rattle.b2_runs.specs.Numbers as by_number
use Rattle.b2_runs.proofs.FirstElementOrLater.{Contains_nil, some_element}
use Rattle.b2_runs.proofs.NumberHasOneStep.{one_step}
use Rattle.b2_runs.proofs.ClosureStays.{missing_is_input}
use Rattle.b2_runs.proofs.RunGoesOn.{started_has_closure, done_was_started}
use Rattle.b2_runs.proofs.NothingStartsAfterwards.{settled_closure}
use Rattle.b2_runs.proofs.NeededByNumbers.{closed_by_numbers}
use Rattle.b2_sched.specs.Schedules.{Schedule, IsSettled, IsFailed, IsSkipped, IsRunning, IsStale, CanLook, QuitsNow, NoneStuck}
use Rattle.b2_sched.specs.Ends as by_schedule
use Rattle.b2_sched.proofs.SetsAgreeWithTheRun.{needed_joins, left_joins, skipped_joins, none_stuck_joins, quits_stuck_none, cycle_joins}
use Rattle.b2_facts.specs.declared.stop.FilesStop.{FilesStop}
use Rattle.b2_facts.specs.declared.file_facts.FileFacts.{FileFacts}
use Rattle.b2_facts.specs.Facts.{Knowledge, IsFile, IsAbout, path_at}
use Rattle.b2_facts.specs.Growth.{Learns, OfNone}
use Rattle.b2_facts.specs.Truth.{IsBuildOf, AreTrue, StaysTrue}
use Rattle.b2_facts.specs.Asks.{IsGivenBy, IsNotGivenBy, IsMissingAt}
use Rattle.b2_facts.proofs.FactsTellSources.{facts_tell_given}
use Rattle.b2_reach.specs.declared.sights.Sights.{Sights}
use Rattle.b2_reach.specs.Laws.{IsTrueInRun}
use Rattle.b2_reach.proofs.GrowthComposes.{both_same}
use Rattle.b2_reach.proofs.TruthIsKept.{about_plan}
use Rattle.b2_reach.proofs.MembersAreKnown.{members_are_known}
use Rattle.b2_board.specs.declared.work.Work.{Work}
use Rattle.b2_board.specs.Boards.{work_at, IsBoardOf}
use Rattle.b2_looks.specs.declared.looks.Looks.{Looks}
use Rattle.b2_looks.specs.Looks.{AreLooks}
use Rattle.b2_looks.specs.UnderWay.{IsUnderWay, AreTrueLooks, IsUpdateBy}
use Rattle.b2_turns.specs.AtRest.{IsToldAtRest}
use Rattle.b2_endings.specs.declared.failed_lists.FailedLists.{FailedLists}
use Rattle.b2_endings.specs.declared.ending.Ending.{Ending}
use Rattle.b2_endings.specs.declared.ending.Ending.TheVariants as endings
use Rattle.b2_endings.specs.Endings.{EndingIsTrue, EndingTold}
use Rattle.b2_endings.specs.Missing.{AsksFiles, IsGivenOrListed, IsOfLacking, lacking_in, NoneIsStuck, AreNamed}
use Rattle.b2_endings.proofs.LackingAreSkipped.{skipped_left, lacking_is, is_lacking}

-- ---- in a run

-- a step that lacks a source is left
lacks_is_left : (u : Update) (events : List ChildEvent) (i : ℕ) → Apart u.build.steps u.build.roots → IsRunSoFar u events → Needed u events i
    → LacksSource u events i → run.IsLeft u events i
lacks_is_left u events i apart so_far needed lack = record {
  needed = needed;
  not_settled = λ settled.
      (let (out, among) = some_element lack.step.outs (apart.some_out i lack.step lack.at) in
      let makes : Makes u.build.steps i lack.step out = record { at = lack.at; among = among } in
      let (members, closure) = settled_closure u events apart so_far i lack.step out makes (settled lack.step out makes) in
      (closed_by_numbers u events i lack.step members apart lack.at closure).0 lack);
  not_failed = λ bad.
      (let (members, closure) = started_has_closure u events i lack.step apart so_far (done_was_started u events i false so_far bad) lack.at in
      (closed_by_numbers u events i lack.step members apart lack.at closure).0 lack);
}

-- ---- where nothing is to be looked at

module _ (plan : Plan) (l : Looks) (quit : Bool) (u : Update) (events : List ChildEvent) (first : List LogLine) (reads : List Read) (disk : Disk) (s : Sights)
    (by : IsUpdateBy plan l u) (same : u.quit ≡ quit) (ran : IsRun u events) (way : IsUnderWay u events first reads disk s) (true_so : AreTrueLooks u events disk s l) (rest : IsToldAtRest u events disk s l) where
  quits_there : QuitsNow l.board.sched quit → by_number.QuitsNow u events
  quits_there q = record { quit = same ∙ q.quits; failed = q.failed; bad = (rest.told.so.failed q.failed).0 q.bad }

  quits_here : by_number.QuitsNow u events → QuitsNow l.board.sched quit
  quits_here q = record { quits = sym same ∙ q.quit; failed = q.failed; bad = (rest.told.so.failed q.failed).1 q.bad }

  -- steps need one another
  cycle_is_true : (list : List ℕ) → (QuitsNow l.board.sched quit → ⊥) → by_schedule.IsStepCycle l.board.sched list → EndingIsTrue u events (endings.StepCycle list)
  cycle_is_true list goes cycle = cycle_joins u events l.board.sched list rest.told (λ q. goes (quits_here q)) cycle.cycle

  -- none is stuck
  none_stuck : QuitsNow l.board.sched quit ⊎ NoneStuck l.board.sched → run.NoneStuck u events
  none_stuck (inl q) = quits_stuck_none u events l.board.sched rest.told (quits_there q)
  none_stuck (inr none) = none_stuck_joins u events l.board.sched rest.told none

  failed_list : (list : List ℕ) → IsListOf (IsFailed l.board.sched) list → IsListOf (run.IsFailed events) list
  failed_list list is = record { rising = is.rising; each = λ i c. (rest.told.so.failed i).0 (is.each i c); whole = λ i bad. is.whole i ((rest.told.so.failed i).1 bad) }

  skipped_there : (i : ℕ) → IsSkipped l.board.sched quit i → Skipped u events i
  skipped_there i is = (skipped_joins u events l.board.sched rest.told i).0 (subst (λ b. IsSkipped l.board.sched b i) (sym same) is)

  skipped_here : (i : ℕ) → Skipped u events i → IsSkipped l.board.sched quit i
  skipped_here i is = subst (λ b. IsSkipped l.board.sched b i) same ((skipped_joins u events l.board.sched rest.told i).1 is)

  skipped_list : (list : List ℕ) → IsListOf (IsSkipped l.board.sched quit) list → IsListOf (Skipped u events) list
  skipped_list list is = record { rising = is.rising; each = λ i c. skipped_there i (is.each i c); whole = λ i bad. is.whole i (skipped_here i bad) }

  -- what is known is true in the run
  truth : IsTrueInRun u events disk (IsSettled l.board.sched) s.facts
  truth = record { apart = way.apart; sound = way.sound; update = way.update; sources = way.sight.sources; about = way.sight.about; facts = way.sight.facts; so = true_so.settled }

  build : IsBuildOf plan.steps plan.roots u.build
  build = record { steps_are = by.steps; roots_are = by.roots; inc = way.update.build.inc; looks = way.update.build.looks }

  -- ---- which files are missing

  module _ (board : IsBoardOf u.build.steps u.build.wanted 0 s.facts l.board.sched l.board.works.items) (g : Knowledge) (learns : Learns plan.steps plan.roots OfNone s.facts g) (stays : StaysTrue plan.steps plan.roots disk.now s.facts g)
      (lists : FailedLists) (are : AreNamed plan l quit s.facts g lists) where
    about_then : IsAbout plan.steps plan.roots s.facts
    about_then = about_plan plan.steps plan.roots u.build s.facts build way.sight.about

    true_now : AreTrue u.build disk.now g
    true_now = stays u.build build way.sight.sources about_then way.sight.facts

    told_given : (n : ℕ) (path : List ℕ) (file : FileFacts) → IsFile g n path file
        → (IsGivenBy file → IsGiven u.build path) × (IsNotGivenBy file → IsGiven u.build path → ⊥)
    told_given n path file is = facts_tell_given plan.steps plan.roots u.build disk.now g n path file build way.sight.sources (learns.about about_then) true_now is

    missing_at : (path : List ℕ) → IsMissingAt g path → IsMissing u.build path
    missing_at path m = (told_given m.number path m.file m.is_file).1 m.not_given

    -- what is asked for is listed where it is missing, and else given
    listed : (path : List ℕ) → IsGivenOrListed g lists.missing path → IsMissing u.build path → Contains lists.missing path
    listed path is missing = elim is.so [ inl given ↦ absurd (missing ((told_given is.number path is.file is.is_file).0 given)) | inr there ↦ there ]

    given : (path : List ℕ) → IsGivenOrListed g lists.missing path → (Contains lists.missing path → ⊥) → IsGiven u.build path
    given path is none = elim is.so [ inl so ↦ (told_given is.number path is.file is.is_file).0 so | inr there ↦ absurd (none there) ]

    -- a missing member of a step that lacks some is an input of a needed step
    input_of : (path : List ℕ) → IsMissing u.build path → IsOfLacking s.facts l.board.works.items lists.skipped path
        → (i : ℕ) × (step : Step) × Needed u events i × (step_at u.build.steps i ≡ Some step) × Contains step.ins path
    input_of path missing (i, among, (n, member, at)) = go (work_at l.board.works.items i) refl member
      where
        needed : Needed u events i
        needed = (needed_joins u events l.board.sched rest.told i).0 (skipped_left l.board.sched quit i (are.skipped.each i among)).needed

        go : (o : Option Work) → work_at l.board.works.items i ≡ o → Contains (lacking_in o) n
            → (k : ℕ) × (step : Step) × Needed u events k × (step_at u.build.steps k ≡ Some step) × Contains step.ins path
        go None e c = absurd (Contains_nil n c)
        go (Some w) e c =
            let on = board.work i w e in
            let known = members_are_known u events disk l.board.sched on.step s.facts w.reach truth on.reach n path (lacking_is w n c).1 at in
            (i, on.step, needed, on.at, missing_is_input (on_settled u events) u.build on.step path known missing)

    -- a missing input of a needed step is a member of a skipped step that lacks some
    of_input : (path : List ℕ) (i : ℕ) (step : Step) → IsMissing u.build path → Needed u events i → step_at u.build.steps i ≡ Some step
        → Contains step.ins path → IsOfLacking s.facts l.board.works.items lists.skipped path
    of_input path i step missing needed at among = (i, skipped, there)
      where
        lack : LacksSource u events i
        lack = record { step = step; at = at; path = path; known = input path among; missing = missing }

        left : run.IsLeft u events i
        left = lacks_is_left u events i way.apart ran.each needed lack

        skipped : Contains lists.skipped i
        skipped = are.skipped.whole i (skipped_here i (skipped_missing i step path left at (input path among) missing))

        there : (n : ℕ) × Contains (lacking_in (work_at l.board.works.items i)) n × (path_at s.facts n ≡ Some path)
        there =
            let told = board.lacks i (rest.told.all.lacks i ((left_joins u events l.board.sched rest.told i).1 left) lack) in
            let on = board.work i told.work told.begun in
            let (n, member, named) = on.reach.of_step.ins path (subst (λ (x : Step). Contains x.ins path) (one_step u.build.steps i step on.step at on.at) among) in
            (n, subst (λ o. Contains (lacking_in o) n) (sym told.begun) (is_lacking told.work n told.lacks member), named)

    wanted_asked : (path : List ℕ) → Contains u.build.wanted path → IsGivenOrListed g lists.missing path
    wanted_asked path among = are.missing.asked path (inr (subst (λ (w : List (List ℕ)). Contains w path) by.wanted among))

    missed_each : (path : List ℕ) → Contains lists.missing path → IsMissed u events path
    missed_each path c = elim (are.missing.each path c) [
      | inl none ↦ absurd (Contains_nil path none)
      | inr (asked, so) ↦ (
          let missing = missing_at path so in
          record {
            missing = missing;
            asked = elim asked [ inl lacking ↦ inr (input_of path missing lacking) | inr wanted ↦ inl (subst (λ (w : List (List ℕ)). Contains w path) (sym by.wanted) wanted) ];
          })
    ]

    missed_whole : (path : List ℕ) → IsMissed u events path → Contains lists.missing path
    missed_whole path m = elim m.asked [
      | inl wanted ↦ listed path (wanted_asked path wanted) m.missing
      | inr (i, step, needed, at, among) ↦ listed path (are.missing.asked path (inl (of_input path i step m.missing needed at among))) m.missing
    ]

    -- none is stuck, and these are the lists
    lists_are_true : QuitsNow l.board.sched quit ⊎ NoneStuck l.board.sched → EndingIsTrue u events (endings.Ended lists)
    lists_are_true none = (
      none_stuck none,
      record {
        failed = failed_list lists.failed are.failed;
        skipped = skipped_list lists.skipped are.skipped;
        missing = record { rising = are.rising; each = missed_each; whole = missed_whole };
      },
      λ path wanted absent. given path (wanted_asked path wanted) absent,
    )

-- ---- at the exits

-- what is told of two disks
abbrev IsToldEnd : Plan → Looks → Bool → Sights → Result Ending FilesStop → Disk → Disk → Type 0
IsToldEnd plan l quit s result before after = (u : Update) (events : List ChildEvent) (first : List LogLine) (reads : List Read) → IsUpdateBy plan l u → u.quit ≡ quit → IsRun u events
    → IsUnderWay u events first reads before s → AreTrueLooks u events before s l → IsToldAtRest u events before s l → IfOk result (EndingIsTrue u events)

module _ (plan : Plan) (l : Looks) (quit : Bool) (s : Sights) (x : Outside) where
  pub cycle_told : (list : List ℕ) → (QuitsNow l.board.sched quit → ⊥) → by_schedule.IsStepCycle l.board.sched list
      → EndingTold plan l quit x s x (Ok (endings.StepCycle list))
  cycle_told list goes cycle = both_same (IsToldEnd plan l quit s (Ok (endings.StepCycle list))) x.disk x.disk refl
      (λ disk at u events first reads by same ran way true_so rest. cycle_is_true plan l quit u events first reads disk s by same ran way true_so rest list goes cycle)

  -- the board is one of the update
  board_of : (u : Update) → IsUpdateBy plan l u → AreLooks plan 0 s.facts l → IsBoardOf u.build.steps u.build.wanted 0 s.facts l.board.sched l.board.works.items
  board_of u by is = subst (λ p. IsBoardOf p u.build.wanted 0 s.facts l.board.sched l.board.works.items) (sym by.steps) (subst (λ w. IsBoardOf plan.steps w 0 s.facts l.board.sched l.board.works.items) (sym by.wanted) is.board)

  pub lists_told : (g : Knowledge) (y : Outside) (lists : FailedLists) → AreLooks plan 0 s.facts l → AsksFiles plan.steps plan.roots s.facts x g y (Ok lists)
      → AreNamed plan l quit s.facts g lists → QuitsNow l.board.sched quit ⊎ NoneStuck l.board.sched
      → EndingTold plan l quit x s y (Ok (endings.Ended lists))
  lists_told g y lists is asks are none = both_same (IsToldEnd plan l quit s (Ok (endings.Ended lists))) x.disk y.disk (ap (λ (o : Outside). o.disk) asks.host)
      (λ disk at u events first reads by same ran way true_so rest.
      lists_are_true plan l quit u events first reads disk s by same ran way true_so rest (board_of u by is) g asks.learns (subst (λ o. IfSome o (λ d. StaysTrue plan.steps plan.roots d.now s.facts g)) at asks.told) lists are none)

-- where nothing goes on none is stuck
pub none_goes_on : (s : Schedule) (quit : Bool) → ((i : ℕ) → CanLook s i → ⊥) → ((i : ℕ) → IsRunning s i → ⊥) → QuitsNow s quit ⊎ ((i : ℕ) → IsStale s i → ⊥)
    → NoneIsStuck s quit → QuitsNow s quit ⊎ NoneStuck s
none_goes_on s quit looks runs starts (inl quits) = inl quits
none_goes_on s quit looks runs starts (inr (inr none)) = inr none
none_goes_on s quit looks runs starts (inr (inl (inl running))) = absurd (runs running.0 running.1)
none_goes_on s quit looks runs starts (inr (inl (inr (inr looked)))) = absurd (looks looked.0 looked.1)
none_goes_on s quit looks runs starts (inr (inl (inr (inl stale)))) = elim starts [ inl quits ↦ inl quits | inr none ↦ absurd (none stale.0 stale.1) ]
