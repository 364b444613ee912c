-- What a look at one step tells of an update that is under way.
use Rattle.std.proofs.Common.{◌≡◌, ◌↔◌, inl, inr, ℕ, zero, suc, ◌<◌, ◌≤◌, true, List, [], ◌++◌, length, Option, Some, None, Result, Ok, Err, refl, sym, ap, subst, ◌∙◌, append-nil, arith}
use Rattle.std.specs.List.{Contains}
use Rattle.b2_host.specs.declared.children.ChildEvent.{ChildEvent}
use Rattle.b2_host.specs.Disks.{Disk, bytes_at}
use Rattle.b2_host.specs.ChildProcesses.{BothTold}
use Rattle.b2_host.specs.Outside.{Outside, Read}
use Rattle.b2_host.specs.FileCalls.{log_path}
use Rattle.b2_host.specs.LogChanges.{ChangesOnlyAt}
use Rattle.b2_host.specs.ReadsAdded.{adds_none}
use Rattle.b2_plan.specs.declared.step.Step.{Step}
use Rattle.b2_plan.specs.declared.plan.Plan.{Plan}
use Rattle.b2_plan.specs.Plans.{step_at}
use Rattle.b2_plan.specs.Closures.{Known}
use Rattle.b2_log.specs.declared.line.LogLine.{LogLine}
use Rattle.b2_runs.specs.Staleness.{Update, paths_with_bytes}
use Rattle.b2_runs.specs.Runs.{on_settled, Needed}
use Rattle.b2_runs.specs.Numbers.{MakesWanted, NeedsStep, NeededOf, NeededOf.first as first_needed, NeededOf.of_needed}
use Rattle.b2_runs.specs.Soundness.{Distinguishes, IsSound}
use Rattle.b2_runs.specs.FileReads.{IsInput, IsTooBig.to_scan as big_to_scan}
use Rattle.b2_runs.proofs.NeededByNumbers.{needed_by_numbers}
use Rattle.b2_runs.proofs.ClosureByPresent.{seen_is_clean}
use Rattle.b2_sched.specs.Schedules.{Schedule, state_of, IsStep, IsSettled, IsNeeded, IsFirst, Needs}
use Rattle.b2_facts.specs.declared.stop.FilesStop.{FilesStop}
use Rattle.b2_facts.specs.declared.stop.FilesStop.TheVariants as stops
use Rattle.b2_facts.specs.declared.file_facts.FileLook.TheVariants as seen
use Rattle.b2_facts.specs.Facts.{path_at}
use Rattle.b2_facts.specs.Truth.{IsBuildOf, IsReadAs}
use Rattle.b2_facts.proofs.ListsAtPlaces.{some_is, get_some}
use Rattle.b2_reach.specs.declared.sights.Sights.{Sights}
use Rattle.b2_reach.specs.Courses.{IsDueToRead}
use Rattle.b2_reach.specs.Reaches.{IsReachOf}
use Rattle.b2_reach.specs.Sightings.{IsTrueSight, StaysTrueSight, StaysLined, TellsTooBig, IsTooBigTold, LearnsMore}
use Rattle.b2_reach.specs.Laws.{IsTrueInRun}
use Rattle.b2_reach.proofs.MembersAreKnown.{read_is_known, too_big_is_known}
use Rattle.b2_board.specs.declared.board.Board.{Board}
use Rattle.b2_board.specs.declared.work.Work.{Work}
use Rattle.b2_board.specs.Boards.{NeedsMore, work_at, members_in, members_of}
use Rattle.b2_board.proofs.ScheduleSaysWhatRunSays.{board_tells_true}
use Rattle.b2_looks.specs.declared.looks.Looks.{Looks}
use Rattle.b2_looks.specs.Looks.{AreLooks}
use Rattle.b2_looks.specs.UnderWay.{IsUnderWay, AreTrueLooks, IsStopOf, IsUpdateBy, LookTold}
use Rattle.b2_looks.proofs.FilesAreNumbered.{named_grow}
use Rattle.b2_looks.proofs.UpdateStays.{IsGoing, is_going, sound_moved}
use Rattle.b2_looks.proofs.JudgementEnds.{under_from}
use Rattle.b2_looks.proofs.StepsAreLookedAt.{looked_state}
use Rattle.b2_reach.specs.Files.{IsNumberAtHand}
use Rattle.b2_looks.proofs.LooseAreBlank.{blank_learned, hand_not_loose}
use Rattle.b2_looks.proofs.LooksAreTold.{Tells}
use Rattle.b2_looks.proofs.ScansGoOn.{told_of, IsCalledAt, IsOn, Ends, Goes, course_on, stop_on}

pub both_by : (P R : Disk → Disk → Type 0) (o p : Option Disk) → BothTold P o p → ((a b : Disk) → o ≡ Some a → p ≡ Some b → R a b) → BothTold R o p
both_by P R None None told f = tt
both_by P R None (Some b) told f = absurd told
both_by P R (Some a) None told f = absurd told
both_by P R (Some a) (Some b) told f = f a b refl refl

unasked_stands : (stamp : ℕ) → seen.Unasked ≡ seen.Stands stamp → ⊥
unasked_stands stamp e = let f : seen.Unasked ≡ seen.Stands stamp = e in cc

-- the step with a number within the plan
pub plan_step : (steps : List Step) (number : ℕ) → 0 < number → number ≤ length steps → (step : Step) × (step_at steps number ≡ Some step)
plan_step steps zero some within = absurd (omega (arith, some))
plan_step steps (suc place) some within = get_some steps place (omega (arith, within))

-- what is needed by a schedule that was told the truth is needed in the run
pub needed_in_run : (u : Update) (events : List ChildEvent) (s : Schedule) → ((i : ℕ) → IsFirst s i ↔ MakesWanted u i) → ((i k : ℕ) → IsNeeded s i → Needs s i k → NeedsStep u events i k) → (i : ℕ) → IsNeeded s i → NeededOf (MakesWanted u) (NeedsStep u events) i
needed_in_run u events s firsts needs i (first_needed k f) = first_needed k ((firsts k).0 f)
needed_in_run u events s firsts needs i (of_needed k j n r) = of_needed k j (needed_in_run u events s firsts needs j n) (needs j k n r)

pub run_truth : (u : Update) (events : List ChildEvent) (first : List LogLine) (reads : List Read) (disk : Disk) (s : Sights) (l : Looks) → IsUnderWay u events first reads disk s → AreTrueLooks u events disk s l → IsTrueInRun u events disk (IsSettled l.board.sched) s.facts
run_truth u events first reads disk s l under looks = record { apart = under.apart; sound = under.sound; update = under.update; sources = under.sight.sources; about = under.sight.about; facts = under.sight.facts; so = looks.settled }

-- a step that is needed by the schedule is needed in the run
pub run_needed : (plan : Plan) (but : ℕ) (u : Update) (events : List ChildEvent) (first : List LogLine) (reads : List Read) (disk : Disk) (s : Sights) (l : Looks) → AreLooks plan but s.facts l → IsUpdateBy plan l u → IsUnderWay u events first reads disk s → AreTrueLooks u events disk s l → (number : ℕ) → IsNeeded l.board.sched number → Needed u events number
run_needed plan but u events first reads disk s l is by under looks number needed =
    let told = board_tells_true u events disk plan but s.facts l.board by.steps by.wanted (run_truth u events first reads disk s l under looks) is.board in
    (needed_by_numbers u events number).1 (needed_in_run u events l.board.sched told.0 told.1 number needed)

-- ---- a look

module _ (plan : Plan) (number : ℕ) (l : Looks) (board : Board) (s t : Sights) (x y : Outside) (is_step : IsStep l.board.sched number) (needed : IsNeeded l.board.sched number) (is : AreLooks plan number s.facts l)
    (reach : (work : Work) (step : Step) → work_at board.works.items number ≡ Some work → step_at plan.steps number ≡ Some step → IsReachOf plan.steps (IsSettled l.board.sched) step t.facts work.reach) where
  the_step : (step : Step) × (step_at plan.steps number ≡ Some step)
  the_step = let low = is_step.within in let size = is.board.size in plan_step plan.steps number is_step.some (omega (arith, low, size))

  module _ {T : Type 0} (r : Result T FilesStop) (grows : LearnsMore true plan.steps plan.roots (IsSettled l.board.sched) (members_of board number) s x t y r) (u : Update) (events : List ChildEvent) (first : List LogLine) (reads : List Read) (before after : Disk) (before_is : x.disk ≡ Some before) (after_is : y.disk ≡ Some after)
      (by : IsUpdateBy plan l u) (distinct : Distinguishes u after.past) (under : IsUnderWay u events first reads before s) (looks : AreTrueLooks u events before s l) where
    build : IsBuildOf plan.steps plan.roots u.build
    build = record { steps_are = by.steps; roots_are = by.roots; inc = under.update.build.inc; looks = under.update.build.looks }

    only : ChangesOnlyAt log_path before after
    only = told_of (ChangesOnlyAt log_path) x.disk y.disk before after before_is after_is grows.only_log.files

    sight : IsTrueSight u after t
    sight = told_of (StaysTrueSight plan.steps plan.roots s t) x.disk y.disk before after before_is after_is grows.told u under.apart build under.sight

    sound : IsSound u events after
    sound = sound_moved u events first reads before after s.journal (is_going u events first reads before s under) only sight.consistent distinct

    truth : IsTrueInRun u events after (IsSettled l.board.sched) t.facts
    truth = record { apart = under.apart; sound = sound; update = under.update; sources = sight.sources; about = sight.about; facts = sight.facts; so = looks.settled }

    input : (path : List ℕ) → Known u.build (on_settled u events) the_step.0 path → IsInput u events path
    input path known = record { number = number; needed = run_needed plan number u events first reads before s l is by under looks number needed; step = the_step.0; at = ap (λ (ss : List Step). step_at ss number) by.steps ∙ the_step.1; known = known }

    reach_is : (work : Work) → work_at board.works.items number ≡ Some work → IsReachOf u.build.steps (IsSettled l.board.sched) the_step.0 t.facts work.reach
    reach_is work e = subst (λ ss. IsReachOf ss (IsSettled l.board.sched) the_step.0 t.facts work.reach) (sym by.steps) (reach work the_step.0 e the_step.1)

    none_among : {X : Type 0} (n : ℕ) → work_at board.works.items number ≡ None → Contains (members_of board number) n → X
    none_among n e among = absurd (let in_none = subst (λ o. Contains (members_in o) n) e among in omega (arith, in_none.1))

    called : (log : List LogLine) (path : List ℕ) (stamp : ℕ) (due : IsDueToRead plan.steps (IsSettled l.board.sched) t.facts (members_of board number) log path stamp) → IsCalledAt u events after.now path stamp due.file
    called log path stamp due = go (work_at board.works.items number) refl
      where
        go : (o : Option Work) → work_at board.works.items number ≡ o → IsCalledAt u events after.now path stamp due.file
        go None e = none_among due.number e due.among
        go (Some work) e = (
            let due_so = subst (λ ms. IsDueToRead u.build.steps (IsSettled l.board.sched) t.facts ms log path stamp) (ap members_in e) (subst (λ ss. IsDueToRead ss (IsSettled l.board.sched) t.facts (members_of board number) log path stamp) (sym by.steps) due) in
            let (known, scanned, stands, (bytes, value)) = read_is_known u events after l.board.sched the_step.0 t.facts work.reach truth (reach_is work e) log path stamp due_so in
            let shown = (seen_is_clean u events after path (Some bytes) under.apart under.run sound).0 value in
            let told = sight.facts.files due.number path due.file due.is_file in
            record {
              scanned = ap (λ scan. scan path) under.update.scanned ∙ scanned;
              input = input path known;
              not_log = λ log_too. (let blank = sight.log_unseen due.number due.file (record { path_is = subst (λ p. path_at t.facts due.number ≡ Some p) log_too due.is_file.path_is; file_is = due.is_file.file_is }) in unasked_stands stamp (sym blank.unseen ∙ due.stands));
              stands = stands;
              bytes = bytes;
              value = value;
              includes = λ list e. (let (read, has, made) = subst (IsReadAs (u.build.inc path) (bytes_at after.now path)) e told.includes in made ∙ ap (u.build.inc path) (some_is read bytes (sym has ∙ shown.1.0)));
            })

    abbrev On : Outside → List LogLine → Disk → Type 0
    On = IsOn u events first plan.steps (IsSettled l.board.sched) t.facts (members_of board number) after distinct called x reads s.journal before

    started : Goes u events first plan.steps (IsSettled l.board.sched) t.facts (members_of board number) after distinct called x reads s.journal before s.journal x
    started disk disk_is =
        let start : On x s.journal before = record { more = []; adds = adds_none x.reads x.reads refl; agrees = λ path apart. sym (only.others path apart); going = subst (λ rs. IsGoing u events first rs before s.journal) (sym (append-nil reads)) (is_going u events first reads before s under); noted = λ i step ms at not inside had. had } in
        subst (On x s.journal) (some_is before disk (sym before_is ∙ disk_is)) start

    ends : Ends u events first plan.steps (IsSettled l.board.sched) t.facts (members_of board number) after distinct called x reads s.journal before y
    ends disk disk_is old among = subst (λ (d : Disk). Contains d.past old) (some_is disk after (sym disk_is ∙ after_is)) among

    big : (stop : FilesStop) → TellsTooBig {T = T} plan.steps (IsSettled l.board.sched) t.facts (members_of board number) y (Err stop) → IsStopOf u events after t.facts stop
    big stops.Host told = tt
    big stops.OutOfMemory told = tt
    big (stops.TooBig n size) told = go (work_at board.works.items number) refl
      where
        go : (o : Option Work) → work_at board.works.items number ≡ o → IsStopOf u events after t.facts (stops.TooBig n size)
        go None e = none_among n e told.among
        go (Some work) e = (
            let so = subst (λ ms. IsTooBigTold u.build.steps (IsSettled l.board.sched) t.facts ms n size y) (ap members_in e) (subst (λ ss. IsTooBigTold ss (IsSettled l.board.sched) t.facts (members_of board number) n size y) (sym by.steps) told) in
            let (known, scanned, (bytes, value, many, more)) = too_big_is_known u events after l.board.sched the_step.0 t.facts work.reach n size y truth (reach_is work e) so after_is in
            (so.path, so.is_file.path_is, big_to_scan bytes (record { scanned = ap (λ scan. scan so.path) under.update.scanned ∙ scanned; input = input so.path known; settled = value }) many more))

  -- all went well
  pub look_told : {T : Type 0} (v : T) → NeedsMore l.board.sched board.sched → LearnsMore true plan.steps plan.roots (IsSettled l.board.sched) (members_of board number) s x t y (Ok v) → LookTold plan x l s y (record l { board = board }) t (Ok v)
  look_told {T} v more grows = both_by (ChangesOnlyAt log_path) (Tells plan x l s y (record l { board = board }) t (Ok v)) x.disk y.disk grows.only_log.files (λ before after before_is after_is u events first reads by distinct follows under looks.
      let w = course_on u events first plan.steps (IsSettled l.board.sched) t.facts (members_of board number) after distinct (called (Ok v) grows u events first reads before after before_is after_is by distinct under looks) x reads s.journal before s.journal t.journal x y grows.course
      (ends (Ok v) grows u events first reads before after before_is after_is by distinct under looks) (started (Ok v) grows u events first reads before after before_is after_is by distinct under looks) after after_is in
      let state : (i : ℕ) → state_of board.sched i ≡ state_of l.board.sched i = looked_state plan number s.facts t.facts l board more in
      let truly = sight (Ok v) grows u events first reads before after before_is after_is by distinct under looks in
      let lined = told_of (StaysLined plan.steps plan.roots s t) x.disk y.disk before after before_is after_is (grows.lined refl) u under.apart (build (Ok v) grows u events first reads before after before_is after_is by distinct under looks) under.sight under.lined in
      record {
        more = w.more;
        adds = w.adds;
        after = (
          under_from u events first reads (reads ++ w.more) before after s t t.journal under w.going refl grows.by_digest truly lined
              (blank_learned (IsNumberAtHand plan.steps (IsSettled l.board.sched) t.facts) events s.facts t.facts grows.learns.only (hand_not_loose plan.steps events l t.facts follows) under.blank),
          record {
            settled = λ i settled. looks.settled i (sym (state i) ∙ settled);
            stale = λ i stale. looks.stale i (sym (state i) ∙ stale);
            ready = λ i numbers which kept. (
                let c = looks.ready i numbers (elim which [ inl stale ↦ inl (sym (state i) ∙ stale) | inr runs ↦ inr (sym (state i) ∙ runs) ]) kept in
                record { step = c.step; at = c.at; members = c.members; closure = c.closure; named = record { outs = named_grow s.facts t.facts grows.learns.grows numbers.outs c.step.outs c.named.outs; ins = named_grow s.facts t.facts grows.learns.grows numbers.ins (paths_with_bytes c.members) c.named.ins } });
            migrated = λ on i step ms settled at not closure. w.noted i step ms at not (λ m value among. (closure.each m value among).1.0) (looks.migrated on i step ms (sym (state i) ∙ settled) at not closure);
          },
        );
      })

  -- it stopped
  pub look_stopped : {T : Type 0} (stop : FilesStop) → LearnsMore {T = T} true plan.steps plan.roots (IsSettled l.board.sched) (members_of board number) s x t y (Err stop) → LookTold {T = T} plan x l s y (record l { board = board }) t (Err stop)
  look_stopped {T} stop grows = both_by (ChangesOnlyAt log_path) (Tells {T = T} plan x l s y (record l { board = board }) t (Err stop)) x.disk y.disk grows.only_log.files (λ before after before_is after_is u events first reads by distinct follows under looks.
      let h = stop_on u events first plan.steps (IsSettled l.board.sched) t.facts (members_of board number) after distinct (called {T = T} (Err stop) grows u events first reads before after before_is after_is by distinct under looks) x reads s.journal before t.facts s.journal t.journal x y grows.course
      (ends {T = T} (Err stop) grows u events first reads before after before_is after_is by distinct under looks) (started {T = T} (Err stop) grows u events first reads before after before_is after_is by distinct under looks) after after_is in
      record { more = h.more; adds = h.adds; after = h.halted stop (big {T = T} (Err stop) grows u events first reads before after before_is after_is by distinct under looks stop grows.too_big) })
