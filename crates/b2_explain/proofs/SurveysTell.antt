-- What a survey that is whole tells of an update at entry.
use Rattle.std.proofs.Common.{◌≡◌, ◌⊎◌, ◌↔◌, inl, inr, ℕ, zero, suc, ◌+◌, ◌<◌, Bool, true, false, cond, List, [], ◌∷◌, length, get_or, map, Option, Some, None, refl, sym, ap, subst, ◌∙◌, arith}
use Rattle.std.specs.List.{Contains, count_by}
use Rattle.std.proofs.lemmas.Bool.{cases_lt}
use Rattle.std.proofs.lemmas.List.{get_or_past}
use Rattle.std.proofs.lemmas.Option.{slice_get_within, get_or_from_slice_get}
use Rattle.std.proofs.lemmas.List.Sums.{sum_by-append}
use Rattle.b2_host.specs.declared.children.ChildEvent.TheVariants.{Start, Done}
use Rattle.b2_host.specs.Disks.{Disk}
use Rattle.b2_plan.specs.declared.step.Step.{Step}
use Rattle.b2_plan.specs.declared.plan.Plan.{Plan}
use Rattle.b2_plan.specs.Plans.{step_at, Makes}
use Rattle.b2_plan.specs.Sources.{IsMissing}
use Rattle.b2_log.specs.declared.line.Record.{Record}
use Rattle.b2_log.specs.Finding.{path_of, find_record}
use Rattle.b2_runs.specs.Staleness.{Update}
use Rattle.b2_runs.specs.Runs.{Settled, Needed, Needed.member as needed_member}
use Rattle.b2_runs.specs.Numbers.{MakesWanted, NeedsStep, LacksSource, IsStaleStep}
use Rattle.b2_runs.specs.AfterLaws.{seen}
use Rattle.b2_runs.specs.Soundness.{IsSound as IsSoundDisk}
use Rattle.b2_runs.proofs.DiskStaysSound.{sound_at_entry}
use Rattle.b2_runs.proofs.ClosureByPresent.{seen_is_clean}
use Rattle.b2_runs.proofs.FirstElementOrLater.{Contains_here, Contains_there, Contains_cases, Contains_nil}
use Rattle.b2_runs.proofs.LastLineIsFound.{found_is_there}
use Rattle.b2_runs.proofs.NumberHasOneStep.{one_step}
use Rattle.b2_runs.proofs.StaleByPoint.{stale_by_point}
use Rattle.b2_runs.proofs.StaleStepStays.{fresh_step_settles}
use Rattle.b2_sched.specs.declared.state.State.{State}
use Rattle.b2_sched.specs.declared.state.State.TheVariants as states
use Rattle.b2_sched.specs.Schedules.{Schedule, state_of, IsStep, IsUnjudged, IsStale as IsJudgedStale, IsRunning, IsSettled, IsFailed, IsNeeded, IsFirst, Needs, Lacks, is_running, running}
use Rattle.b2_sched.specs.Joins.{IsToldTrue, IsTold, IsToldStarts, IsAtRest, HasSettled}
use Rattle.b2_sched.proofs.SetsAgreeWithTheRun.{needed_joins}
use Rattle.b2_sched.proofs.StartsAgreeWithTheRun.{settled_joins}
use Rattle.b2_facts.specs.declared.file_facts.FileFacts.{FileFacts}
use Rattle.b2_facts.specs.Facts.{Knowledge, path_at, file_at}
use Rattle.b2_facts.specs.Asks.{IsGivenBy, IsGivenBy.made as given_made, IsGivenBy.source as given_source, IsNotGivenBy}
use Rattle.b2_facts.proofs.ListsAtPlaces.{get_some, at_place}
use Rattle.b2_facts.proofs.FactsTellSources.{facts_tell_given}
use Rattle.b2_reach.specs.Reaches.{IsMissingMember, IsTaken, IsTaken.waits as taken_waits, IsTaken.lacks as taken_lacks, IsTaken.done as taken_done, IsDone.plain as done_plain, IsDone.no_file as done_none, IsDone.gone as done_gone, IsDone.found as done_found}
use Rattle.b2_reach.specs.Files.{IsAtHand.source as hand_source, IsAtHand.made as hand_made}
use Rattle.b2_reach.specs.Laws.{IsUpdateOf, IsTrueInRun}
use Rattle.b2_reach.proofs.FoundMakerMakesPath.{maker_makes}
use Rattle.b2_reach.proofs.MembersAreKnown.{members_are_all_known}
use Rattle.b2_verdicts.specs.declared.point.Point.{Point}
use Rattle.b2_verdicts.specs.declared.step_numbers.StepNumbers.{StepNumbers}
use Rattle.b2_verdicts.specs.Cases.{IsCase, IsNotfileTold, IsDoneTold, Tells}
use Rattle.b2_verdicts.specs.Points.{IsByStamps, IsPointBy}
use Rattle.b2_verdicts.proofs.VerdictsTell.{verdict_tells}
use Rattle.b2_board.specs.declared.work.Work.{Work}
use Rattle.b2_board.specs.Works.{IsWorkOn, IsLookedAt, IsClosed as IsClosedWork}
use Rattle.b2_board.specs.Boards.{IsBoardOf, work_at, members_in, members_of}
use Rattle.b2_board.proofs.NeededAreSteps.{board_is_judged}
use Rattle.b2_board.proofs.ScheduleSaysWhatRunSays.{missing_so, seen_so, far_so, of_update, board_tells_true, board_tells_all}
use Rattle.b2_looks.specs.Numbers.{AreNumbersBy}
use Rattle.b2_looks.proofs.ClosureIsFound as closed
use Rattle.b2_looks.proofs.FilesAreLookedAt.{made_by}
use Rattle.b2_explain.specs.declared.survey.Judged.{Judged}
use Rattle.b2_explain.specs.declared.survey.Survey.{Survey}
use Rattle.b2_explain.specs.Surveys.{judged_at, IsStateOf, IsJudged}
use Rattle.b2_explain.specs.Whys.{IsRead}
use Rattle.b2_explain.specs.Laws.{IsWholeSurvey}
use Rattle.b2_explain.proofs.CauseTellsStart.{settled_maker, settled_bytes}

-- ---- lists

pub map_has : {X Y : Type 0} (g : X → Y) (xs : List X) (x : X) → Contains xs x → Contains (map g xs) (g x)
map_has g [] x among = absurd (Contains_nil x among)
map_has g (v ∷ xs) x among = elim (Contains_cases v x xs among) [
  | inl e ↦ subst (λ z. Contains (map g (v ∷ xs)) (g z)) e (Contains_here (g v) (map g xs))
  | inr later ↦ Contains_there (g v) (g x) (map g xs) (map_has g xs x later)
]

pub map_among : {X Y : Type 0} (g : X → Y) (xs : List X) (z : Y) → Contains (map g xs) z → (x : X) × Contains xs x × (g x ≡ z)
map_among g [] z among = absurd (Contains_nil z among)
map_among g (v ∷ xs) z among = elim (Contains_cases (g v) z (map g xs) among) [
  | inl e ↦ (v, Contains_here v xs, e)
  | inr later ↦ (let (x, inside, e) = map_among g xs z later in (x, Contains_there v x xs inside, e))
]

-- ---- no step runs

stale_running : {A : Type 0} → states.Stale ≡ states.Running → A
stale_running e = absurd (let f : states.Stale ≡ states.Running = e in cc)

settled_running : {A : Type 0} → states.Settled ≡ states.Running → A
settled_running e = absurd (let f : states.Settled ≡ states.Running = e in cc)

unjudged_running : {A : Type 0} → states.Unjudged ≡ states.Running → A
unjudged_running e = absurd (let f : states.Unjudged ≡ states.Running = e in cc)

stale_settled : {A : Type 0} → states.Stale ≡ states.Settled → A
stale_settled e = absurd (let f : states.Stale ≡ states.Settled = e in cc)

unjudged_settled : {A : Type 0} → states.Unjudged ≡ states.Settled → A
unjudged_settled e = absurd (let f : states.Unjudged ≡ states.Settled = e in cc)

unjudged_failed : {A : Type 0} → states.Unjudged ≡ states.Failed → A
unjudged_failed e = absurd (let f : states.Unjudged ≡ states.Failed = e in cc)

stale_failed : {A : Type 0} → states.Stale ≡ states.Failed → A
stale_failed e = absurd (let f : states.Stale ≡ states.Failed = e in cc)

settled_failed : {A : Type 0} → states.Settled ≡ states.Failed → A
settled_failed e = absurd (let f : states.Settled ≡ states.Failed = e in cc)

-- where no place has the test, none is counted
count_none : {X : Type 0} (p : X → Bool) (d : X) (xs : List X) → ((i : ℕ) → i < length xs → p (get_or xs i d) ≡ false) → count_by p xs ≡ 0
count_none p d [] none = refl
count_none p d (x ∷ xs) none =
    let rest = count_none p d xs (λ i low. none (suc i) (omega (arith, low))) in
    let one : ◌≡◌ {A = ℕ} (cond (p x) 1 0) 0 = ap (λ b. cond b 1 0) (none zero (omega arith)) in
    omega (arith, rest, one, sum_by-append (λ z. cond (p z) 1 0) (x ∷ []) xs)

not_running : (s : State) → (s ≡ states.Running → ⊥) → is_running s ≡ false
not_running states.Unjudged not = refl
not_running states.Stale not = refl
not_running states.Running not = absurd (not refl)
not_running states.Settled not = refl
not_running states.Failed not = refl

module _ (u : Update) (disk : Disk) (plan : Plan) (y : Survey) (w : IsWholeSurvey u disk plan y) where
  abbrev pub s : Schedule
  s = y.board.sched

  abbrev pub f : Knowledge
  f = y.sights.facts

  pub steps_are : u.build.steps ≡ plan.steps
  steps_are = w.entry.update.build.steps_are

  -- ---- the disk, and what is known

  pub disk_sound : IsSoundDisk u [] disk
  disk_sound = sound_at_entry u disk w.truth.sight.consistent w.lines.records (λ path. ap (λ folder. folder path) w.folder) (λ on. absurd (let e : true ≡ false = sym on ∙ w.entry.by_stamps in cc))

  pub own_update : IsUpdateOf u.build.steps u.build.roots u
  own_update = record {
    build = record { steps_are = refl; roots_are = refl; inc = w.entry.update.build.inc; looks = w.entry.update.build.looks };
    scanned = w.entry.update.scanned;
    digest = w.entry.update.digest;
  }

  pub truth : IsTrueInRun u [] disk (IsSettled s) f
  truth = record {
    apart = w.entry.apart;
    sound = disk_sound;
    update = own_update;
    sources = w.truth.sight.sources;
    about = w.truth.sight.about;
    facts = w.truth.sight.facts;
    so = w.truth.settled;
  }

  -- ---- the schedule

  board : IsBoardOf u.build.steps u.build.wanted 0 f s y.board.works.items
  board = of_update u plan 0 f s y.board.works.items steps_are w.entry.wanted w.surveyed.board

  -- a step is not judged, or it was: then it is stale or settled
  pub each_step : (i : ℕ) → IsStep s i → IsUnjudged s i ⊎ ((judged : Judged) × (judged_at y i ≡ Some judged) × IsJudged plan u.all y i judged)
  each_step = w.surveyed.each

  state_not : (i : ℕ) (to : State) → (states.Unjudged ≡ to → ⊥) → (states.Stale ≡ to → ⊥) → (states.Settled ≡ to → ⊥) → IsStep s i → state_of s i ≡ to → ⊥
  state_not i to unjudged stale settled is e = elim (each_step i is) [
    | inl not ↦ unjudged (sym not ∙ e)
    | inr (judged, at, so) ↦ by_point judged.point so.state
  ]
    where
      by_point : (point : Option Point) → IsStateOf s i point → ⊥
      by_point None state = settled (sym state ∙ e)
      by_point (Some point) state = stale (sym state ∙ e)

  none_state : (i : ℕ) (to : State) → (states.Unjudged ≡ to → ⊥) → (states.Stale ≡ to → ⊥) → (states.Settled ≡ to → ⊥) → state_of s i ≡ to → ⊥
  none_state zero to unjudged stale settled e = settled (sym board.request ∙ e)
  none_state (suc i) to unjudged stale settled e = elim (cases_lt (suc i) (length s.states)) [
    | inl low ↦ state_not (suc i) to unjudged stale settled (record { some = omega arith; within = low }) e
    | inr past ↦ settled (sym (get_or_past s.states (suc i) states.Settled past) ∙ e)
  ]

  none_runs : (i : ℕ) → IsRunning s i → ⊥
  none_runs i runs = none_state i states.Running (λ e. unjudged_running e) (λ e. stale_running e) (λ e. settled_running e) runs

  none_failed : (i : ℕ) → IsFailed s i → ⊥
  none_failed i bad = none_state i states.Failed (λ e. unjudged_failed e) (λ e. stale_failed e) (λ e. settled_failed e) bad

  running_none : running s ≡ 0
  running_none = count_none is_running states.Settled s.states (λ i low. not_running (get_or s.states i states.Settled) (none_runs i))

  told_so : ((i : ℕ) → IsFirst s i ↔ MakesWanted u i) × ((i k : ℕ) → IsNeeded s i → Needs s i k → NeedsStep u [] i k) × ((i : ℕ) → IsNeeded s i → Lacks s i → LacksSource u [] i)
  told_so = board_tells_true u [] disk plan 0 f y.board steps_are w.entry.wanted truth w.surveyed.board

  pub told_true : IsToldTrue u [] s
  told_true = record {
    sound = w.sound;
    size = board.size;
    firsts = told_so.0;
    needs = told_so.1;
    lacks = told_so.2;
    settled = λ i needed settled. w.truth.settled i settled;
    failed = λ i. (λ bad. absurd (none_failed i bad), λ among. absurd (Contains_nil (Done i false) among));
  }

  -- ---- a step that was judged

  -- the work on a step, all of which is settled
  pub record IsOverSo (i : ℕ) (judged : Judged) : Type 0 where
    pub work : Work
    pub begun : work_at y.board.works.items i ≡ Some work
    pub looked : IsLookedAt s f i work
    pub closed : IsClosedWork s f work
    pub on : IsWorkOn u.build.steps s f i work
    pub by : AreNumbersBy u.build.steps y.ran.items f on.step work.reach.members judged.numbers
    pub first : IsByStamps u.all on.step judged.numbers (find_record on.step.outs y.sights.journal) f judged.point

  pub over_so : (i : ℕ) (judged : Judged) → IsStep s i → IsJudged plan u.all y i judged → IsOverSo i judged
  over_so i judged is so =
      let over = (board.judged i is (judged_not judged.point so.state)).1 in
      let on = board.work i over.work over.begun in
      let at : step_at u.build.steps i ≡ Some so.step = subst (λ (steps : List Step). step_at steps i ≡ Some so.step) (sym steps_are) so.at in
      let same : so.step ≡ on.step = one_step u.build.steps i so.step on.step at on.at in
      record {
        work = over.work;
        begun = over.begun;
        looked = over.looked;
        closed = over.closed;
        on = on;
        by = subst (λ ms. AreNumbersBy u.build.steps y.ran.items f on.step ms judged.numbers) (ap members_in over.begun)
            (subst (λ (x : Step). AreNumbersBy u.build.steps y.ran.items f x (members_of y.board i) judged.numbers) same
            (subst (λ (steps : List Step). AreNumbersBy steps y.ran.items f so.step (members_of y.board i) judged.numbers) (sym steps_are) so.files));
        first = subst (λ (x : Step). IsByStamps u.all x judged.numbers (find_record x.outs y.sights.journal) f judged.point) same so.first;
      }
    where
      judged_not : (point : Option Point) → IsStateOf s i point → IsUnjudged s i → ⊥
      judged_not None state unjudged = unjudged_settled (sym unjudged ∙ state)
      judged_not (Some point) state unjudged = (let e : states.Unjudged ≡ states.Stale = sym unjudged ∙ state in cc)

  module _ (i : ℕ) (judged : Judged) (o : IsOverSo i judged) where
    abbrev pub numbers : StepNumbers
    numbers = judged.numbers

    abbrev pub step : Step
    step = o.on.step

    pub found : closed.IsFound u [] disk s f truth tt i o.work o.on o.looked o.closed judged.numbers o.by.files.order
    found = closed.closure_found u [] disk s f truth tt i o.work o.on o.looked o.closed judged.numbers o.by.files

    notfile : IsNotfileTold found.members f judged.numbers.notfile
    notfile = closed.notfile_told u [] disk s f truth tt i o.work o.on o.looked o.closed judged.numbers o.by.files found judged.numbers.notfile o.by.notfile

    done : IsDoneTold u [] found.members f judged.numbers.done
    done = closed.done_told u [] disk s f truth tt i o.work o.on o.looked o.closed judged.numbers o.by.files found y.ran.items (λ k. (λ has. absurd (w.surveyed.none_ran k has), λ told. absurd (Contains_nil (Done k told.0) told.1))) judged.numbers.done o.by.done

    -- no member is an output of a notfile step, or of one that is done
    pub no_notfile : judged.numbers.notfile ≡ None
    no_notfile = go judged.numbers.notfile notfile
      where
        go : (told : Option ℕ) → IsNotfileTold found.members f told → told ≡ None
        go None is = refl
        go (Some n) (member, at, among) = absurd (settled_bytes u w.entry.apart member (found.closure.each member None among).1)

    pub none_done : judged.numbers.done ≡ None
    none_done = go judged.numbers.done done
      where
        go : (told : Option ℕ) → IsDoneTold u [] found.members f told → told ≡ None
        go None is = refl
        go (Some n) (member, at, is) = absurd (Contains_nil (Done is.number is.well) is.done)

    -- what the log tells of the step
    pub last_is : find_record step.outs u.log ≡ find_record step.outs y.sights.journal
    last_is = sym (w.truth.tells step.outs)

    pub outs_named : (r : Record) → find_record step.outs y.sights.journal ≡ Some r → map path_of r.outs ≡ step.outs
    outs_named r e = (found_is_there step.outs y.sights.journal r e).1

    case : IsCase u [] step found.members judged.numbers (find_record step.outs y.sights.journal) f
    case = record {
      digest = w.entry.update.digest;
      named = found.numbered;
      seen = λ path value among. subst (λ folder. seen u.build folder path value) (sym w.folder) ((seen_is_clean u [] disk path value w.entry.apart tt disk_sound).0 (found.closure.each path value among).1).1;
      notfile = notfile;
      done = done;
      found = last_is;
      outs_named = outs_named;
    }

    -- the verdict is that of the update
    pub verdict : Tells u [] step found.members judged.point
    verdict = verdict_tells u [] step found.members judged.numbers (find_record step.outs y.sights.journal) disk u.build f judged.point w.folder case w.truth.sight.facts
        (subst (λ b. IsPointBy b (Some disk) u.all step judged.numbers (find_record step.outs y.sights.journal) f judged.point) (sym w.entry.by_stamps) o.first)

  -- a step that was judged stale is so
  stale_so : (i : ℕ) → IsJudgedStale s i → IsStaleStep u [] i
  stale_so i stale = elim (each_step i is) [
    | inl not ↦ absurd (let e : states.Unjudged ≡ states.Stale = sym not ∙ stale in cc)
    | inr (judged, at, so) ↦ go judged (over_so i judged is so) judged.point refl so.state
  ]
    where
      not_zero : (i : ℕ) → IsJudgedStale s i → 0 < i
      not_zero zero e = stale_settled (sym e ∙ board.request)
      not_zero (suc i) e = omega arith

      is : IsStep s i
      is = elim (cases_lt (length s.states) (i + 1)) [
        | inl past ↦ absurd (stale_settled (sym stale ∙ get_or_past s.states i states.Settled (omega (arith, past))))
        | inr low ↦ record { some = not_zero i stale; within = omega (arith, low) }
      ]

      go : (judged : Judged) (o : IsOverSo i judged) (point : Option Point) → judged.point ≡ point → IsStateOf s i point → IsStaleStep u [] i
      go judged o None e state = stale_settled (sym stale ∙ state)
      go judged o (Some point) e state = record {
        step = o.on.step;
        at = o.on.at;
        members = (found i judged o).members;
        closure = (found i judged o).closure;
        stale = stale_by_point u [] o.on.step (found i judged o).members (subst (Tells u [] o.on.step (found i judged o).members) e (verdict i judged o));
      }

  -- ---- what the run has

  at_rest : IsAtRest s
  at_rest = record { no_look = w.whole; judged = board_is_judged plan f y.board w.surveyed.board }

  told_starts : IsToldStarts u [] s
  told_starts = record {
    jobs = w.surveyed.jobs ∙ sym w.entry.jobs;
    stale = stale_so;
    not_started = λ i stale among. Contains_nil (Start i) among;
    started = λ i runs. absurd (none_runs i runs);
    count = (let e = running_none in omega (arith, e));
  }

  pub has_settled : HasSettled u [] s
  has_settled = settled_joins u [] s w.entry.apart tt told_true told_starts at_rest (λ i among. absurd (Contains_nil (Done i true) among))

  pub told : IsTold u [] s
  told = record { so = told_true; all = board_tells_all u [] disk plan f y.board steps_are w.entry.wanted truth w.surveyed.board w.whole has_settled; settled = has_settled }

  pub needed_is : (i : ℕ) → IsNeeded s i ↔ Needed u [] i
  needed_is = needed_joins u [] s told

  -- ---- a needed step

  -- the work on a step that was looked at
  pub record IsWorked (i : ℕ) : Type 0 where
    pub work : Work
    pub begun : work_at y.board.works.items i ≡ Some work
    pub looked : IsLookedAt s f i work
    pub on : IsWorkOn u.build.steps s f i work

  pub worked : (i : ℕ) → IsNeeded s i → IsWorked i
  worked i needed =
      let seen = seen_so u [] disk f s y.board.works.items 0 truth board refl w.whole has_settled i needed in
      record { work = seen.work; begun = seen.begun; looked = seen.looked; on = board.work i seen.work seen.begun }

  module _ (i : ℕ) (needed : IsNeeded s i) (k : IsWorked i) where
    abbrev pub members : List ℕ
    members = k.work.reach.members

    pub members_are : members_of y.board i ≡ k.work.reach.members
    members_are = ap members_in k.begun

    -- the step is known to read each member, and nothing else
    pub known_is : (path : List ℕ) → IsRead u k.on.step path ↔ ((n : ℕ) × Contains k.work.reach.members n × (path_at f n ≡ Some path))
    known_is = members_are_all_known u [] disk s k.on.step f k.work.reach truth k.on.reach (far_so u [] disk f s y.board.works.items 0 truth board refl w.whole has_settled i needed k.work k.on k.looked)

    pub file_of : (n : ℕ) → Contains k.work.reach.members n → (file : FileFacts) × (file_at f n ≡ Some file)
    file_of n among = get_some f.files n (k.on.reach.in_order.numbered n among).1

    pub path_of_member : (n : ℕ) → Contains k.work.reach.members n → (path : List ℕ) × (path_at f n ≡ Some path)
    path_of_member n among = get_some f.paths n (k.on.reach.in_order.numbered n among).0

    -- a member is missing by what is known exactly where no file is given there
    pub missing_is : (n : ℕ) (path : List ℕ) → Contains k.work.reach.members n → path_at f n ≡ Some path → IsMissing u.build path → IsMissingMember f k.work.reach.members n
    missing_is n path among at missing =
        let (file, known) = file_of n among in
        let (place, there) = at_place k.work.reach.members n among in
        let low = slice_get_within k.work.reach.members place n there in
        let given : IsGivenBy file → ⊥ = λ by. missing ((facts_tell_given u.build.steps u.build.roots u.build disk.now f n path file own_update.build w.truth.sight.sources (truth.about) w.truth.sight.facts (record { path_is = at; file_is = known })).0 by) in
        record { among = among; file = file; file_is = known; missing = taken_missing n file among known given (k.on.reach.in_order.taken place n file (subst (λ m. place < m) (sym k.looked.as_far.whole) low) there known) }
      where
        made_not : {A : Type 0} (file : FileFacts) (number : ℕ) → (IsGivenBy file → ⊥) → file.maker ≡ Some number → A
        made_not file number given made = absurd (given (given_made number made))

        taken_missing : (n : ℕ) (file : FileFacts) → Contains k.work.reach.members n → file_at f n ≡ Some file → (IsGivenBy file → ⊥) → IsTaken u.build.steps (IsSettled s) f k.work.reach n file → IsNotGivenBy file
        taken_missing n file among known given (taken_waits pending) = (let wait = k.on.reach.in_order.waiting n file pending known in made_not file wait.number given wait.owed.made)
        taken_missing n file among known given (taken_lacks so missing) = missing
        taken_missing n file among known given (taken_done (done_plain is unscanned)) = absurd (given is)
        taken_missing n file among known given (taken_done (done_none owed)) = made_not file owed.number given owed.made
        taken_missing n file among known given (taken_done (done_gone (hand_source stamp unmade rooted stands) none)) = absurd (given (given_source stamp rooted stands))
        taken_missing n file among known given (taken_done (done_gone (hand_made number owed settled) none)) = made_not file number given owed.made
        taken_missing n file among known given (taken_done (done_found targets (hand_source stamp unmade rooted stands) here each)) = absurd (given (given_source stamp rooted stands))
        taken_missing n file among known given (taken_done (done_found targets (hand_made number owed settled) here each)) = made_not file number given owed.made

    pub is_missing : (n : ℕ) (path : List ℕ) → IsMissingMember f k.work.reach.members n → path_at f n ≡ Some path → IsMissing u.build path
    is_missing n path is at = missing_so u [] disk f s y.board.works.items 0 truth board n path is.file (record { path_is = at; file_is = is.file_is }) is.missing

    -- the maker of a member, where it has one
    pub maker_of_member : (n number : ℕ) (path : List ℕ) (file : FileFacts) → path_at f n ≡ Some path → file_at f n ≡ Some file → file.maker ≡ Some number → (maker : Step) × Makes u.build.steps number maker path
    maker_of_member n number path file at known made = maker_makes u.build.steps path number (sym (truth.about.planned n path file (record { path_is = at; file_is = known })).maker ∙ made)

    pub made_member : (n number : ℕ) (maker : Step) (path : List ℕ) (file : FileFacts) → path_at f n ≡ Some path → file_at f n ≡ Some file → Makes u.build.steps number maker path → file.maker ≡ Some number
    made_member n number maker path file at known makes = (truth.about.planned n path file (record { path_is = at; file_is = known })).maker ∙ made_by u.build.steps u.build.roots number maker path w.entry.apart makes

    -- a member's maker is settled where the path is
    pub settled_by : (number : ℕ) (maker : Step) (path : List ℕ) → IsRead u k.on.step path → Makes u.build.steps number maker path → Settled u [] path → IsSettled s number
    settled_by number maker path read makes settled =
        let (ms, closure, still) = settled_maker u w.entry.apart path number maker settled makes in
        has_settled number ((needed_is number).1 (needed_member number maker i k.on.step path ((needed_is i).0 needed) k.on.at read makes))
        (fresh_step_settles u [] number maker w.entry.apart makes.at (λ among. Contains_nil (Start number) among) (record { members = ms; closure = closure; is_fresh = still }))

    -- what the step reads can be listed
    abbrev pub reads : List (List ℕ)
    reads = map (λ n. get_or f.paths n []) k.work.reach.members

    pub reads_are : (path : List ℕ) → IsRead u k.on.step path ↔ Contains reads path
    reads_are path = (
      λ read. let (n, among, at) = (known_is path).0 read in subst (Contains reads) (get_or_from_slice_get f.paths n path [] at) (map_has (λ m. get_or f.paths m []) k.work.reach.members n among),
      λ among.
          let (n, inside, e) = map_among (λ m. get_or f.paths m []) k.work.reach.members path among in
          let (own, at) = path_of_member n inside in
          (known_is path).1 (n, inside, at ∙ ap Some (sym (get_or_from_slice_get f.paths n own [] at) ∙ e)),
    )
