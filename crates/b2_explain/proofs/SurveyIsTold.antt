-- What a look and a judgement of a survey tell where files are visible.
use Rattle.std.proofs.Common.{◌≡◌, ◌⊎◌, inl, inr, ℕ, Bool, true, false, List, [], get_or, Option, Some, None, Result, Ok, Err, refl, sym, ap, subst, ◌∙◌, arith}
use Rattle.std.specs.Prelude.{MatchResult}
use Rattle.std.specs.List.{Contains}
use Rattle.b2_host.specs.declared.children.ChildEvent.TheVariants.{Start, Done}
use Rattle.b2_host.specs.Disks.{Disk}
use Rattle.b2_host.specs.ChildProcesses.{BothTold}
use Rattle.b2_host.specs.Outside.{Outside}
use Rattle.b2_plan.specs.declared.step.Step.{Step}
use Rattle.b2_plan.specs.declared.plan.Plan.{Plan}
use Rattle.b2_plan.specs.Plans.{step_at}
use Rattle.b2_log.specs.declared.line.Record.{Record}
use Rattle.b2_log.specs.Finding.{find_record}
use Rattle.b2_runs.specs.Staleness.{Update, IsFresh, paths_with_bytes}
use Rattle.b2_runs.specs.Runs.{Needed}
use Rattle.b2_runs.specs.AfterLaws.{seen}
use Rattle.b2_runs.specs.FileReads.{IsInput, IsTooBig.to_scan as big_to_scan}
use Rattle.b2_runs.specs.Outcomes.{IsSettledStep}
use Rattle.b2_runs.specs.Soundness.{IsSound}
use Rattle.b2_runs.proofs.ClosureByPresent.{seen_is_clean}
use Rattle.b2_runs.proofs.DiskStaysSound.{sound_at_entry}
use Rattle.b2_runs.proofs.FirstElementOrLater.{Contains_nil}
use Rattle.b2_runs.proofs.LastLineIsFound.{found_is_there}
use Rattle.b2_runs.proofs.NeededByNumbers.{needed_by_numbers}
use Rattle.b2_runs.proofs.NumberHasOneStep.{one_step}
use Rattle.b2_runs.proofs.StaleStepStays.{fresh_step_settles}
use Rattle.b2_sched.specs.declared.state.State.{State}
use Rattle.b2_sched.specs.declared.state.State.TheVariants as states
use Rattle.b2_sched.specs.Schedules.{IsStep, IsSettled, IsNeeded}
use Rattle.b2_facts.specs.Facts.{Knowledge}
use Rattle.b2_facts.specs.Growth.{Learns, OfNone}
use Rattle.b2_facts.specs.Truth.{StaysTrue}
use Rattle.b2_facts.specs.declared.stop.FilesStop.{FilesStop}
use Rattle.b2_facts.specs.declared.stop.FilesStop.TheVariants as stops
use Rattle.b2_reach.specs.declared.sights.Sights.{Sights}
use Rattle.b2_reach.specs.Reaches.{IsReachOf}
use Rattle.b2_reach.specs.Sightings.{IsTrueSight, StaysTrueSight, TellsTooBig, IsTooBigTold, LearnsMore}
use Rattle.b2_reach.specs.Laws.{IsUpdateOf, IsTrueInRun}
use Rattle.b2_reach.proofs.MembersAreKnown.{too_big_is_known}
use Rattle.b2_reach.proofs.TruthIsKept.{sight_grows}
use Rattle.b2_verdicts.specs.declared.point.Point.{Point}
use Rattle.b2_verdicts.specs.declared.step_numbers.StepNumbers.{StepNumbers}
use Rattle.b2_verdicts.specs.VerdictCalls.{IsOfStep}
use Rattle.b2_verdicts.specs.Cases.{AreNumbersOf, IsCase, IsNotfileTold, IsDoneTold}
use Rattle.b2_verdicts.specs.Points.{IsByStamps, IsPointBy}
use Rattle.b2_verdicts.proofs.VerdictsTell.{verdict_tells}
use Rattle.b2_board.specs.declared.board.Board.{Board}
use Rattle.b2_board.specs.declared.work.Work.{Work}
use Rattle.b2_board.specs.Works.{IsWorkOn}
use Rattle.b2_board.specs.Boards.{IsBoard, IsOver, NeedsMore, work_at, members_in, members_of}
use Rattle.b2_board.proofs.ScheduleSaysWhatRunSays.{board_tells_true}
use Rattle.b2_looks.specs.Numbers.{AreNumbersBy}
use Rattle.b2_looks.proofs.ClosureIsFound as closed
use Rattle.b2_looks.proofs.FilesAreNumbered.{named_grow}
use Rattle.b2_looks.proofs.JudgementTells.{not_log}
use Rattle.b2_looks.proofs.LookIsTold.{plan_step, needed_in_run}
use Rattle.b2_explain.specs.declared.survey.Survey.{Survey}
use Rattle.b2_explain.specs.Entries.{AreTrueLines}
use Rattle.b2_explain.specs.Surveys.{IsEntry, AreSurveyed, IsTrueSurvey, IsStopOf, SurveyTold}

-- ---- told moments

-- what a survey tells of one disk
abbrev pub Told : {T : Type 0} → Plan → Bool → Survey → Survey → Result T FilesStop → Disk → Type 0
Told plan all y z result disk = (u : Update) → IsEntry plan all u → u.build.folder ≡ disk.now → AreTrueLines u disk.past → IsTrueSurvey u disk y
    → MatchResult result (λ x. IsTrueSurvey u disk z) (IsStopOf u disk z.sights.facts)

-- what is told of the disk as it stands is told of both moments, where it stays
pub told_by : {T : Type 0} (plan : Plan) (all : Bool) (a : Outside) (y : Survey) (b : Outside) (z : Survey) (result : Result T FilesStop) → b.disk ≡ a.disk → ((disk : Disk) → a.disk ≡ Some disk → Told plan all y z result disk) → SurveyTold plan all a y b z result
told_by {T} plan all a y b z result same told = subst (λ o. BothTold (λ disk later. Told plan all y z result disk) a.disk o) (sym same) (go a.disk told)
  where
    go : (o : Option Disk) → ((disk : Disk) → o ≡ Some disk → Told plan all y z result disk) → BothTold (λ disk later. Told plan all y z result disk) o o
    go None h = tt
    go (Some disk) h = h disk refl

-- one part, and then another
pub told_then : {T S : Type 0} (plan : Plan) (all : Bool) (a : Outside) (y : Survey) (b : Outside) (z : Survey) (c : Outside) (w : Survey) (v : T) (result : Result S FilesStop) → b.disk ≡ a.disk → c.disk ≡ b.disk → SurveyTold plan all a y b z (Ok v) → SurveyTold plan all b z c w result → SurveyTold plan all a y c w result
told_then {T} {S} plan all a y b z c w v result same also first next =
    told_by plan all a y c w result (also ∙ same) (λ disk e u entry folder lines is.
    (let one = at_first disk e u entry folder lines is in
    at_next disk e u entry folder lines one))
  where
    at_first : (disk : Disk) → a.disk ≡ Some disk → Told plan all y z (Ok v) disk
    at_first disk e = (
        let t = subst (λ o. BothTold (λ disk later. Told plan all y z (Ok v) disk) o o) e (subst (λ o. BothTold (λ disk later. Told plan all y z (Ok v) disk) a.disk o) same first) in t)

    at_next : (disk : Disk) → a.disk ≡ Some disk → Told plan all z w result disk
    at_next disk e = (
        let t = subst (λ o. BothTold (λ disk later. Told plan all z w result disk) o o) e (subst (λ o. BothTold (λ disk later. Told plan all z w result disk) o o) same (subst (λ o. BothTold (λ disk later. Told plan all z w result disk) b.disk o) also next)) in t)

-- a stop is handed on
pub told_err : (T : Type 0) {S : Type 0} (plan : Plan) (all : Bool) (a : Outside) (y : Survey) (b : Outside) (z : Survey) (stop : FilesStop) (result : Result S FilesStop) → result ≡ Err stop → SurveyTold {T = T} plan all a y b z (Err stop) → SurveyTold {T = S} plan all a y b z result
told_err T {S} plan all a y b z stop result e told = subst (SurveyTold {T = S} plan all a y b z) (sym e) told

-- another value of the same
pub told_ok : {T S : Type 0} (plan : Plan) (all : Bool) (a : Outside) (y : Survey) (b : Outside) (z : Survey) (v : T) (x : S) → SurveyTold plan all a y b z (Ok v) → SurveyTold plan all a y b z (Ok x)
told_ok plan all a y b z v x told = told

-- no memory is left, where nothing is promised then
pub told_no_memory : {S : Type 0} (plan : Plan) (all : Bool) (a : Outside) (y : Survey) (b : Outside) (z : Survey) (result : Result S FilesStop) → b.disk ≡ a.disk → result ≡ Err stops.OutOfMemory → SurveyTold {T = S} plan all a y b z result
told_no_memory {S} plan all a y b z result same e = subst (SurveyTold {T = S} plan all a y b z) (sym e) (told_by {T = S} plan all a y b z (Err stops.OutOfMemory) same (λ disk at u entry folder lines is. tt))

pub told_failed : {S : Type 0} (plan : Plan) (all : Bool) (a : Outside) (y : Survey) (b : Outside) (z : Survey) (result : Result S FilesStop) → b.disk ≡ a.disk → result ≡ Err stops.Host → SurveyTold {T = S} plan all a y b z result
told_failed {S} plan all a y b z result same e = subst (SurveyTold {T = S} plan all a y b z) (sym e) (told_by {T = S} plan all a y b z (Err stops.Host) same (λ disk at u entry folder lines is. tt))

-- nothing is done
pub told_same : (plan : Plan) (all : Bool) (a : Outside) (y : Survey) (v : Unit {0}) → SurveyTold plan all a y a y (Ok v)
told_same plan all a y v = told_by plan all a y a y (Ok v) refl (λ disk at u entry folder lines is. is)

-- ---- an update at entry

module _ (plan : Plan) (all : Bool) (u : Update) (disk : Disk) (entry : IsEntry plan all u) (folder : u.build.folder ≡ disk.now) (lines : AreTrueLines u disk.past) where
  pub sound_entry : (s : Sights) → IsTrueSight u disk s → IsSound u [] disk
  sound_entry s sight = sound_at_entry u disk sight.consistent lines.records (λ path. ap (λ f. f path) folder) (λ on. absurd (let e : true ≡ false = sym on ∙ entry.by_stamps in cc))

  pub own_update : IsUpdateOf u.build.steps u.build.roots u
  own_update = record {
    build = record { steps_are = refl; roots_are = refl; inc = entry.update.build.inc; looks = entry.update.build.looks };
    scanned = entry.update.scanned;
    digest = entry.update.digest;
  }

  pub truth_entry : (settled : ℕ → Type 0) (s : Sights) → IsTrueSight u disk s → ((i : ℕ) → settled i → IsSettledStep u [] i) → IsTrueInRun u [] disk settled s.facts
  truth_entry settled s sight so = record {
    apart = entry.apart;
    sound = sound_entry s sight;
    update = own_update;
    sources = sight.sources;
    about = sight.about;
    facts = sight.facts;
    so = so;
  }

  -- a step that is needed by the schedule is needed
  pub needed_entry : (y : Survey) (but number : ℕ) → AreSurveyed plan all but y → IsTrueSurvey u disk y → IsNeeded y.board.sched number → Needed u [] number
  needed_entry y but number surveyed is needed =
      let told = board_tells_true u [] disk plan but y.sights.facts y.board entry.update.build.steps_are entry.wanted (truth_entry (IsSettled y.board.sched) y.sights is.sight is.settled) surveyed.board in
      (needed_by_numbers u [] number).1 (needed_in_run u [] y.board.sched told.0 told.1 number needed)

  -- ---- a look

  module _ (number : ℕ) (y : Survey) (board : Board) (t : Sights) (a b : Outside) (step : IsStep y.board.sched number) (needed : IsNeeded y.board.sched number) (surveyed : AreSurveyed plan all number y) (at : a.disk ≡ Some disk) (still : b.disk ≡ a.disk) (is : IsTrueSurvey u disk y)
      (reach : (work : Work) (s : Step) → work_at board.works.items number ≡ Some work → step_at plan.steps number ≡ Some s → IsReachOf plan.steps (IsSettled y.board.sched) s t.facts work.reach) where
    the_step : (s : Step) × (step_at plan.steps number ≡ Some s)
    the_step = (let low = step.within in let size = surveyed.board.size in plan_step plan.steps number step.some (omega (arith, low, size)))

    later_sight : BothTold (StaysTrueSight plan.steps plan.roots y.sights t) a.disk b.disk → IsTrueSight u disk t
    later_sight told = (
        let one = subst (λ o. BothTold (StaysTrueSight plan.steps plan.roots y.sights t) o o) at (subst (λ o. BothTold (StaysTrueSight plan.steps plan.roots y.sights t) a.disk o) still told) in
        one u entry.apart entry.update.build is.sight)

    pub looked_ok : (v : Bool) → LearnsMore false plan.steps plan.roots (IsSettled y.board.sched) (members_of board number) y.sights a t b (Ok v) → t.journal ≡ y.sights.journal → NeedsMore y.board.sched board.sched → IsTrueSurvey u disk (record y { board = board; sights = t })
    looked_ok v grows journal more = record {
      sight = later_sight grows.told;
      tells = λ outs. ap (find_record outs) journal ∙ is.tells outs;
      settled = λ i settled. is.settled i (ap (λ (xs : List State). get_or xs i states.Settled) (sym more.states) ∙ settled);
    }

    too_big : (stop : FilesStop) → IsTrueSight u disk t → TellsTooBig {T = Bool} plan.steps (IsSettled y.board.sched) t.facts (members_of board number) b (Err stop) → IsStopOf u disk t.facts stop
    too_big stops.Host sight told = tt
    too_big stops.OutOfMemory sight told = tt
    too_big (stops.TooBig n size) sight told = go (work_at board.works.items number) refl
      where
        truth : IsTrueInRun u [] disk (IsSettled y.board.sched) t.facts
        truth = truth_entry (IsSettled y.board.sched) t sight is.settled

        go : (o : Option Work) → work_at board.works.items number ≡ o → IsStopOf u disk t.facts (stops.TooBig n size)
        go None e = absurd (let in_none = subst (λ o. Contains (members_in o) n) e told.among in let low = in_none.1 in omega (arith, low))
        go (Some work) e = (
            let so = subst (λ ms. IsTooBigTold u.build.steps (IsSettled y.board.sched) t.facts ms n size b) (ap members_in e) (subst (λ ss. IsTooBigTold ss (IsSettled y.board.sched) t.facts (members_of board number) n size b) (sym entry.update.build.steps_are) told) in
            let reach_is = subst (λ ss. IsReachOf ss (IsSettled y.board.sched) the_step.0 t.facts work.reach) (sym entry.update.build.steps_are) (reach work the_step.0 e the_step.1) in
            let (known, scanned, (bytes, value, many, more)) = too_big_is_known u [] disk y.board.sched the_step.0 t.facts work.reach n size b truth reach_is so (still ∙ at) in
            let own : step_at u.build.steps number ≡ Some the_step.0 = ap (λ (ss : List Step). step_at ss number) entry.update.build.steps_are ∙ the_step.1 in
            let input : IsInput u [] so.path = record { number = number; needed = needed_entry y number number surveyed is needed; step = the_step.0; at = own; known = known } in
            (so.path, so.is_file.path_is, big_to_scan bytes (record { scanned = ap (λ scan. scan so.path) entry.update.scanned ∙ scanned; input = input; settled = value }) many more))

    pub looked_stop : (stop : FilesStop) → LearnsMore {T = Bool} false plan.steps plan.roots (IsSettled y.board.sched) (members_of board number) y.sights a t b (Err stop) → IsStopOf u disk t.facts stop
    looked_stop stop grows = too_big stop (later_sight grows.told) grows.too_big

  -- ---- a judgement

  module _ (number : ℕ) (y : Survey) (needed : IsNeeded y.board.sched number) (surveyed : AreSurveyed plan all number y) (is : IsTrueSurvey u disk y) (between later : Knowledge) (step : Step) (step_is : step_at plan.steps number ≡ Some step) (numbers : StepNumbers)
      (first : Learns plan.steps plan.roots OfNone y.sights.facts between) (first_true : StaysTrue plan.steps plan.roots disk.now y.sights.facts between) (over : IsOver y.board.sched between y.board.works.items number) (board : IsBoard plan number between y.board)
      (files : AreNumbersBy plan.steps y.ran.items between step (members_of y.board number) numbers) (next : Learns plan.steps plan.roots (IsOfStep numbers) between later) (next_true : StaysTrue plan.steps plan.roots disk.now between later) where
    abbrev between_sights : Sights
    between_sights = record y.sights { facts = between }

    between_sight : IsTrueSight u disk between_sights
    between_sight = sight_grows plan.steps plan.roots u disk y.sights between_sights OfNone entry.apart entry.update.build first (first_true u.build) refl (λ n none at. none) is.sight

    truth : IsTrueInRun u [] disk (IsSettled y.board.sched) between
    truth = truth_entry (IsSettled y.board.sched) between_sights between_sight is.settled

    on : IsWorkOn u.build.steps y.board.sched between number over.work
    on = subst (λ ss. IsWorkOn ss y.board.sched between number over.work) (sym entry.update.build.steps_are) (board.work number over.work over.begun)

    own_step : step ≡ on.step
    own_step = one_step u.build.steps number step on.step (ap (λ (ss : List Step). step_at ss number) entry.update.build.steps_are ∙ step_is) on.at

    by : AreNumbersBy u.build.steps y.ran.items between on.step over.work.reach.members numbers
    by = subst (λ ms. AreNumbersBy u.build.steps y.ran.items between on.step ms numbers) (ap members_in over.begun)
        (subst (λ (x : Step). AreNumbersBy u.build.steps y.ran.items between x (members_of y.board number) numbers) own_step
        (subst (λ ss. AreNumbersBy ss y.ran.items between step (members_of y.board number) numbers) (sym entry.update.build.steps_are) files))

    found : closed.IsFound u [] disk y.board.sched between truth tt number over.work on over.looked over.closed numbers by.files.order
    found = closed.closure_found u [] disk y.board.sched between truth tt number over.work on over.looked over.closed numbers by.files

    later_named : AreNumbersOf on.step found.members later numbers
    later_named = record { outs = named_grow between later next.grows numbers.outs on.step.outs found.numbered.outs; ins = named_grow between later next.grows numbers.ins (paths_with_bytes found.members) found.numbered.ins }

    pub later_sight_is : IsTrueSight u disk (record y.sights { facts = later })
    later_sight_is = sight_grows plan.steps plan.roots u disk between_sights (record y.sights { facts = later }) (IsOfStep numbers) entry.apart entry.update.build next (next_true u.build) refl
        (λ n of there. not_log u [] [] on.step numbers found.members number on.at (needed_entry y number number surveyed is needed) found.closure later n entry.apart later_named of there) between_sight

    -- a step that is fresh settles
    pub fresh_settles : IsByStamps all step numbers (find_record step.outs y.sights.journal) later None → IsSettledStep u [] number
    fresh_settles point = fresh_step_settles u [] number on.step entry.apart on.at (λ among. Contains_nil (Start number) among) (record { members = found.members; closure = found.closure; is_fresh = verdict })
      where
        last : Option Record
        last = find_record on.step.outs y.sights.journal

        notfile : (told : Option ℕ) → IsNotfileTold found.members between told → IsNotfileTold found.members later told
        notfile None none = none
        notfile (Some n) (member, there, among) = (member, next.grows.paths n member there, among)

        done : (told : Option ℕ) → IsDoneTold u [] found.members between told → IsDoneTold u [] found.members later told
        done None none = none
        done (Some n) (member, there, of) = (member, next.grows.paths n member there, of)

        case : IsCase u [] on.step found.members numbers last later
        case = record {
          digest = entry.update.digest;
          named = later_named;
          seen = λ path value among. subst (λ now. seen u.build now path value) (sym folder) ((seen_is_clean u [] disk path value entry.apart tt (sound_entry y.sights is.sight)).0 (found.closure.each path value among).1).1;
          notfile = notfile numbers.notfile (closed.notfile_told u [] disk y.board.sched between truth tt number over.work on over.looked over.closed numbers by.files found numbers.notfile by.notfile);
          done = done numbers.done (closed.done_told u [] disk y.board.sched between truth tt number over.work on over.looked over.closed numbers by.files found y.ran.items (λ k. (λ has. absurd (surveyed.none_ran k has), λ told. absurd (Contains_nil (Done k told.0) told.1))) numbers.done by.done);
          found = sym (is.tells on.step.outs);
          outs_named = λ r e. (found_is_there on.step.outs y.sights.journal r e).1;
        }

        own_point : IsByStamps u.all on.step numbers last later None
        own_point = subst (λ a. IsByStamps a on.step numbers last later None) (sym entry.all_is) (subst (λ (x : Step). IsByStamps all x numbers (find_record x.outs y.sights.journal) later None) own_step point)

        verdict : IsFresh u [] on.step found.members
        verdict = verdict_tells u [] on.step found.members numbers last disk u.build later None folder case later_sight_is.facts (subst (λ b. IsPointBy b (Some disk) u.all on.step numbers last later None) (sym entry.by_stamps) own_point)

    -- it was judged
    pub judged_ok : (z : Survey) (t : Sights) (point : Option Point) → z.sights ≡ t → t ≡ record y.sights { facts = later } → IsByStamps all step numbers (find_record step.outs y.sights.journal) later point → ((i : ℕ) → IsSettled z.board.sched i → IsSettled y.board.sched i ⊎ ((i ≡ number) × (point ≡ None))) → IsTrueSurvey u disk z
    judged_ok z t point sights_are t_is by_point settles = record {
      sight = subst (IsTrueSight u disk) (sym (sights_are ∙ t_is)) later_sight_is;
      tells = λ outs. ap (λ (s : Sights). find_record outs s.journal) (sights_are ∙ t_is) ∙ is.tells outs;
      settled = λ i settled. elim (settles i settled) [
        | inl old ↦ is.settled i old
        | inr now ↦ subst (IsSettledStep u []) (sym now.0) (fresh_settles (subst (IsByStamps all step numbers (find_record step.outs y.sights.journal) later) now.1 by_point))
      ];
    }
