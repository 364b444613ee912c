-- What a look and a judgement do to a survey, at each exit.
use Rattle.std.proofs.Common.{◌≡◌, ◌⊎◌, inl, inr, ℕ, ◌<◌, ◌≤◌, Bool, true, false, List, length, set, Option, Some, None, is_some, Result, Ok, Err, refl, sym, ap, subst, ◌∙◌, arith}
use Rattle.std.specs.Option.{IfSome}
use Rattle.std.specs.List.{Contains, AllPairs}
use Rattle.std.proofs.lemmas.Bool.{cases_eq}
use Rattle.std.proofs.lemmas.List.{length-set}
use Rattle.b2_base.specs.Counts.{Rose}
use Rattle.b2_host.specs.Disks.{Folder, Disk}
use Rattle.b2_host.specs.Outside.{Outside, Risks, Fails}
use Rattle.b2_host.specs.LogChanges.{ChangesOnlyLog}
use Rattle.b2_plan.specs.declared.step.Step.{Step}
use Rattle.b2_plan.specs.declared.plan.Plan.{Plan}
use Rattle.b2_plan.specs.Plans.{step_at}
use Rattle.b2_log.specs.declared.line.LogLine.{LogLine}
use Rattle.b2_log.specs.Finding.{find_record}
use Rattle.b2_sched.specs.declared.state.State.TheVariants as states
use Rattle.b2_sched.specs.Schedules.{Schedule, state_of, IsStep, IsSettled, IsUnjudged, IsNeeded}
use Rattle.b2_sched.specs.SchedulerCalls.{looked_at, with_stale, Settles}
use Rattle.b2_facts.specs.declared.stop.FilesStop.{FilesStop}
use Rattle.b2_facts.specs.declared.stop.FilesStop.TheVariants as stops
use Rattle.b2_facts.specs.Stops.{StopTold}
use Rattle.b2_facts.specs.Facts.{Knowledge, IsNumber, IsAbout}
use Rattle.b2_facts.specs.Growth.{Grows, Learns, OfNone}
use Rattle.b2_facts.specs.Truth.{StaysTrue}
use Rattle.b2_facts.proofs.FactsGrow.{grows_then, number_grows}
use Rattle.b2_facts.proofs.ListsAtPlaces.{some_is, none_some}
use Rattle.b2_reach.specs.declared.sights.Sights.{Sights}
use Rattle.b2_reach.specs.Courses.{CourseToStop.whole as course_whole, CourseTold}
use Rattle.b2_reach.specs.Sightings.{LearnsMore}
use Rattle.b2_reach.specs.Reaches.{IsReachOf}
use Rattle.b2_reach.proofs.LinesStay.{unnoted_is_still}
use Rattle.b2_verdicts.specs.declared.point.Point.{Point}
use Rattle.b2_verdicts.specs.declared.step_numbers.StepNumbers.{StepNumbers}
use Rattle.b2_verdicts.specs.Sights.{AreNumbers}
use Rattle.b2_verdicts.specs.VerdictCalls.{IsOfStep, Always}
use Rattle.b2_verdicts.specs.Points.{IsByStamps}
use Rattle.b2_board.specs.declared.board.Board.{Board}
use Rattle.b2_board.specs.declared.work.Work.{Work}
use Rattle.b2_board.specs.Works.{IsWorkOn}
use Rattle.b2_board.specs.Boards.{IsBoard, IsOver, NeedsMore, work_at, members_in, members_of}
use Rattle.b2_board.proofs.BoardHoldsAsFactsGrow.{board_grows}
use Rattle.b2_board.proofs.WorkStaysInOrder.{makers_grow, looked_grows, closed_grows}
use Rattle.b2_looks.specs.Numbers.{AreNumbersBy}
use Rattle.b2_looks.specs.Looks.{looks_ahead}
use Rattle.b2_looks.proofs.FilesAreNumbered.{outs_numbers, ins_numbers}
use Rattle.b2_looks.proofs.LooksAreKept.{state_now, state_else, ahead_falls}
use Rattle.b2_explain.specs.declared.survey.Survey.{Survey}
use Rattle.b2_explain.specs.Surveys.{judged_at, IsStill, AreSurveyed, SurveyTold}
use Rattle.b2_explain.proofs.SurveyGoesOn.{new_state, numbers_more, surveyed_judged}
use Rattle.b2_explain.proofs.SurveyIsTold.{told_by, told_then, looked_ok, looked_stop, judged_ok}

-- ---- the host

pub still_same : (x y : Outside) → y ≡ x → IsStill x y
still_same x y e = subst (IsStill x) (sym e) refl

pub still_fails : (x y : Outside) → Fails x y → IsStill x y
still_fails x y fails = fails.same ∙ ap (λ r. record x { reads = r; faults = y.faults }) (sym (ap (λ (o : Outside). o.reads) fails.same))

pub still_then : (x y z : Outside) → IsStill x y → IsStill y z → IsStill x z
still_then x y z first next = next ∙ ap (λ (o : Outside). record o { reads = z.reads; faults = z.faults }) first

pub still_disk : (x y : Outside) → IsStill x y → y.disk ≡ x.disk
still_disk x y still = ap (λ (o : Outside). o.disk) still

pub still_risks : (x y : Outside) → IsStill x y → y.risks ≡ x.risks
still_risks x y still = ap (λ (o : Outside). o.risks) still

-- the log may have changed, and its file has not
pub still_log : (x y : Outside) → ChangesOnlyLog x y → y.disk ≡ x.disk → IsStill x y
still_log x y only disk =
    ap (λ d. record y { disk = d }) disk ∙ ap (λ k. record y { disk = x.disk; children = k }) only.children
    ∙ ap (λ w. record y { disk = x.disk; children = x.children; failed_waits = w }) only.failed_waits
    ∙ ap (λ r. record y { disk = x.disk; children = x.children; failed_waits = x.failed_waits; risks = r }) only.risks

pub faults_then : {T : Type 0} (x y z : Outside) (r : Result T FilesStop) → y.risks ≡ x.risks → y.faults ≡ x.faults → StopTold y z r → StopTold x z r
faults_then x y z (Ok v) risks same told = told ∙ same
faults_then x y z (Err stops.Host) risks same told = (ap (λ (r : Risks). r.may_fail) (sym risks) ∙ told.0, subst (λ n. Rose n z.faults) same told.1)
faults_then x y z (Err stops.OutOfMemory) risks same told = told ∙ same
faults_then x y z (Err (stops.TooBig number size)) risks same told = told ∙ same

-- a stop is handed on
pub faults_err : (T : Type 0) {S : Type 0} (x y : Outside) (stop : FilesStop) (r : Result S FilesStop) → r ≡ Err stop → StopTold {T = T} x y (Err stop) → StopTold x y r
faults_err T x y stops.Host r e told = subst (StopTold x y) (sym e) told
faults_err T x y stops.OutOfMemory r e told = subst (StopTold x y) (sym e) told
faults_err T x y (stops.TooBig number size) r e told = subst (StopTold x y) (sym e) told

pub faults_failed : {S : Type 0} (x y : Outside) (r : Result S FilesStop) → r ≡ Err stops.Host → Fails x y → StopTold x y r
faults_failed x y r e fails = subst (StopTold x y) (sym e) (fails.may_fail, fails.rose)

pub faults_no_memory : {S : Type 0} (x y : Outside) (r : Result S FilesStop) → r ≡ Err stops.OutOfMemory → y ≡ x → StopTold x y r
faults_no_memory x y r e same = subst (StopTold x y) (sym e) (ap (λ (o : Outside). o.faults) same)

pub at_disk : (P : Disk → Type 0) (o : Option Disk) (d : Disk) → o ≡ Some d → IfSome o P → P d
at_disk P None d e is = absurd (none_some d e)
at_disk P (Some x) d e is = subst P (some_is x d e) is

-- ---- a look

course_still : {T : Type 0} (steps : List Step) (s : Schedule) (f : Knowledge) (members : List ℕ) (log more : List LogLine) (x y : Outside) (r : Result T FilesStop) → CourseTold false steps (IsSettled s) f members log x more y r → (more ≡ log) × (y.disk ≡ x.disk)
course_still steps s f members log more x y (Ok v) course = unnoted_is_still steps s f members log more x y (course_whole course)
course_still steps s f members log more x y (Err stop) course = unnoted_is_still steps s f members log more x y course

module _ {T : Type 0} (steps : List Step) (roots : List (List ℕ)) (sched : Schedule) (members : List ℕ) (s t : Sights) (x y : Outside) (r : Result T FilesStop) (grows : LearnsMore false steps roots (IsSettled sched) members s x t y r) where
  pub look_journal : t.journal ≡ s.journal
  look_journal = (course_still steps sched t.facts members s.journal t.journal x y r grows.course).0

  pub look_disk : y.disk ≡ x.disk
  look_disk = (course_still steps sched t.facts members s.journal t.journal x y r grows.course).1

  pub look_still : IsStill x y
  look_still = still_log x y grows.only_log look_disk

module _ (plan : Plan) (all : Bool) (number : ℕ) (y : Survey) (board : Board) (t : Sights) (a b : Outside) (step : IsStep y.board.sched number) (needed : IsNeeded y.board.sched number) (surveyed : AreSurveyed plan all number y)
    (reach : (work : Work) (s : Step) → work_at board.works.items number ≡ Some work → step_at plan.steps number ≡ Some s → IsReachOf plan.steps (IsSettled y.board.sched) s t.facts work.reach) where
  pub look_told : (v : Bool) → LearnsMore false plan.steps plan.roots (IsSettled y.board.sched) (members_of board number) y.sights a t b (Ok v) → NeedsMore y.board.sched board.sched → SurveyTold plan all a y b (record y { board = board; sights = t }) (Ok v)
  look_told v grows more = (
      let disk_same = look_disk plan.steps plan.roots y.board.sched (members_of board number) y.sights t a b (Ok v) grows in
      let journal = look_journal plan.steps plan.roots y.board.sched (members_of board number) y.sights t a b (Ok v) grows in
      told_by plan all a y b (record y { board = board; sights = t }) (Ok v) disk_same (λ disk at u entry folder lines is.
      looked_ok plan all u disk entry folder lines number y board t a b step needed surveyed at disk_same is reach v grows journal more))

  pub look_stopped : (stop : FilesStop) → LearnsMore {T = Bool} false plan.steps plan.roots (IsSettled y.board.sched) (members_of board number) y.sights a t b (Err stop) → SurveyTold {T = Bool} plan all a y b (record y { board = board; sights = t }) (Err stop)
  look_stopped stop grows = (
      let disk_same = look_disk {T = Bool} plan.steps plan.roots y.board.sched (members_of board number) y.sights t a b (Err stop) grows in
      told_by {T = Bool} plan all a y b (record y { board = board; sights = t }) (Err stop) disk_same (λ disk at u entry folder lines is.
      looked_stop plan all u disk entry folder lines number y board t a b step needed surveyed at disk_same is reach stop grows))

-- ---- the states after a judgement

states_of : (s t : Schedule) (number : ℕ) (point : Option Point) → (is_some point ≡ true → t ≡ with_stale s number) → (is_some point ≡ false → Settles s number t)
    → (t.jobs ≡ s.jobs) × (t.states ≡ set s.states number (new_state point)) × (length t.looks ≡ length s.looks) × (length t.dependents ≡ length s.dependents)
states_of s t number None stale settles = let is = settles refl in (is.jobs, is.states, is.size, ap length is.dependents)
states_of s t number (Some point) stale settles =
    let e = stale refl in
    (ap (λ (x : Schedule). x.jobs) e, ap (λ (x : Schedule). x.states) e, ap (λ (x : Schedule). length x.looks) e ∙ length-set s.looks number false, ap (λ (x : Schedule). length x.dependents) e)

settles_of : (s t : Schedule) (number : ℕ) (point : Option Point) → t.states ≡ set s.states number (new_state point) → number < length s.states → (i : ℕ) → IsSettled t i → IsSettled s i ⊎ ((i ≡ number) × (point ≡ None))
settles_of s t number point e low i settled = elim (cases_eq i number) [
  | inl same ↦ inr (same, go point (sym (state_now s t number (new_state point) e low) ∙ subst (IsSettled t) same settled))
  | inr other ↦ inl (sym (state_else s t number (new_state point) e i other) ∙ settled)
]
  where
    go : (p : Option Point) → new_state p ≡ states.Settled → p ≡ None
    go None f = refl
    go (Some q) f = (let x : states.Stale ≡ states.Settled = f in cc)

ahead_of : (s t : Schedule) (number : ℕ) (point : Option Point) → t.states ≡ set s.states number (new_state point) → number < length s.states → IsUnjudged s number → length t.looks ≡ length s.states → length t.dependents ≡ length s.states → looks_ahead t ≤ looks_ahead s
ahead_of s t number None e low unjudged looks dependents = ahead_falls s t number states.Settled e low unjudged refl looks dependents
ahead_of s t number (Some point) e low unjudged looks dependents = ahead_falls s t number states.Stale e low unjudged refl looks dependents

-- ---- a judgement

module _ (plan : Plan) (all : Bool) (number : ℕ) (y : Survey) (about : IsAbout plan.steps plan.roots y.sights.facts) (is : AreSurveyed plan all number y) (over : IsOver y.board.sched y.sights.facts y.board.works.items number) where
  abbrev f : Knowledge
  f = y.sights.facts

  on : IsWorkOn plan.steps y.board.sched f number over.work
  on = is.board.work number over.work over.begun

  pub the_step : (step : Step) × (step_at plan.steps number ≡ Some step)
  the_step = (on.step, on.at)

  members_are : members_of y.board number ≡ over.work.reach.members
  members_are = ap members_in over.begun

  pub member_number : (n : ℕ) → Contains (members_of y.board number) n → IsNumber f n
  member_number n among = on.reach.in_order.numbered n (subst (λ ms. Contains ms n) members_are among)

  pub members_once : AllPairs (λ n m. n ≡ m → ⊥) (members_of y.board number)
  members_once = subst (AllPairs (λ n m. n ≡ m → ⊥)) (sym members_are) on.reach.in_order.once

  pub within_works : IsStep y.board.sched number → number < length y.board.works.items
  within_works step = (let low = step.within in let a = is.board.size in let b = is.board.works_size in omega (arith, low, a, b))

  pub within_judged : IsStep y.board.sched number → number < length y.judged.items
  within_judged step = (let low = step.within in let a = is.board.size in let b = is.size in omega (arith, low, a, b))

  over_at : (g : Knowledge) → Grows f g → IsOver y.board.sched g y.board.works.items number
  over_at g grown = record {
    work = over.work;
    begun = over.begun;
    looked = looked_grows plan.steps y.board.sched y.board.sched f g number over.work (makers_grow f g grown) (λ k settled. settled) (λ k need. need) on (λ n m file among known made settled. settled) (λ lacks. lacks) over.looked;
    closed = closed_grows plan.steps y.board.sched y.board.sched f g number over.work (makers_grow f g grown) (λ k settled. settled) (λ k need. need) on over.closed;
  }

  module _ (step : Step) (at : step_at plan.steps number ≡ Some step) (numbers : StepNumbers) (between : Knowledge) (first : Learns plan.steps plan.roots OfNone f between) (files : AreNumbersBy plan.steps y.ran.items between step (members_of y.board number) numbers) where
    between_number : (n : ℕ) → Contains (members_of y.board number) n → IsNumber between n
    between_number n among = number_grows f between first.grows n (member_number n among)

    pub judged_outs : AreNumbers between numbers.outs
    judged_outs = outs_numbers plan.steps between step (members_of y.board number) numbers files.files (first.about about).sizes

    pub judged_ins : AreNumbers between numbers.ins
    judged_ins = ins_numbers plan.steps between step (members_of y.board number) numbers files.files between_number

    module _ (g : Knowledge) (next : Learns plan.steps plan.roots (IsOfStep numbers) between g) (t : Sights) (t_is : t ≡ record y.sights { facts = g }) (point : Option Point) (by_point : IsByStamps all step numbers (find_record step.outs y.sights.journal) g point) where
      pub judged_about : IsAbout plan.steps plan.roots t.facts
      judged_about = subst (λ (s : Sights). IsAbout plan.steps plan.roots s.facts) (sym t_is) (next.about (first.about about))

      module _ (is_step : IsStep y.board.sched number) (needed : IsNeeded y.board.sched number) (unjudged : IsUnjudged y.board.sched number) (z : Survey) (sights_are : z.sights ≡ t) (ran_is : z.ran ≡ y.ran) (works_are : z.board.works ≡ y.board.works)
          (stale : is_some point ≡ true → z.board.sched ≡ with_stale y.board.sched number) (settles : is_some point ≡ false → Settles y.board.sched number z.board.sched) where
        grown : Grows f g
        grown = grows_then f between g first.grows next.grows

        abbrev are_states : (z.board.sched.jobs ≡ y.board.sched.jobs) × (z.board.sched.states ≡ set y.board.sched.states number (new_state point)) × (length z.board.sched.looks ≡ length y.board.sched.looks) × (length z.board.sched.dependents ≡ length y.board.sched.dependents)
        are_states = states_of y.board.sched z.board.sched number point stale settles

        pub judged_ahead : looks_ahead z.board.sched ≤ looks_ahead y.board.sched
        judged_ahead = ahead_of y.board.sched z.board.sched number point are_states.1 is_step.within unjudged (are_states.2 ∙ is.board.looks_size ∙ sym is.board.size) (are_states.3 ∙ is.board.dependents_size ∙ sym is.board.size)

        pub judged_surveyed : length z.judged.items ≡ length y.judged.items → ((i : ℕ) → (i ≡ number → ⊥) → judged_at z i ≡ judged_at y i) → judged_at z number ≡ Some (record { point = point; numbers = numbers })
            → ((p : Plan) (k : Knowledge) → IsOver y.board.sched k y.board.works.items number → IsBoard p number k y.board → IsBoard p 0 k z.board) → AreSurveyed plan all 0 z
        judged_surveyed room others entered board = surveyed_judged plan all number y z (record y.sights { facts = g }) point numbers about grown refl refl is_step unjudged is (sights_are ∙ t_is) ran_is works_are are_states.0 are_states.1 room others entered
            (board plan g (over_at g grown) (board_grows plan number f g y.board about grown is.board))
            (step, at, later_numbers, by_point)
          where
            later_numbers : AreNumbersBy plan.steps y.ran.items g step (members_of y.board number) numbers
            later_numbers = numbers_more plan.steps y.ran.items between g step (members_of y.board number) numbers next.grows between_number files

        pub judged_told : (a b : Outside) (v : Unit {0}) → b.disk ≡ a.disk → ((now : Folder) → StaysTrue plan.steps plan.roots now f between) → IfSome a.disk (λ d. Always d.now → (ss : List Step) (rs : List (List ℕ)) → StaysTrue ss rs d.now between g) → SurveyTold plan all a y b z (Ok v)
        judged_told a b v same first_true next_true = told_by plan all a y b z (Ok v) same (λ disk e u entry folder lines truth.
            judged_ok plan all u disk entry folder lines number y needed is truth between g step at numbers first (first_true disk.now) (over_at between first.grows) (board_grows plan number f between y.board about first.grows is.board) files next
            (at_disk (λ d. Always d.now → (ss : List Step) (rs : List (List ℕ)) → StaysTrue ss rs d.now between g) a.disk disk e next_true tt plan.steps plan.roots)
            z t point sights_are t_is by_point (settles_of y.board.sched z.board.sched number point are_states.1 is_step.within))

-- ---- a step is taken to be looked at

-- what a survey tells stays where a step is being looked at: its states are as they were
pub taken_told : (plan : Plan) (all : Bool) (a : Outside) (y : Survey) (b : Outside) (z : Survey) (board : Board) (number : ℕ) → b.disk ≡ a.disk → board.sched ≡ looked_at z.board.sched number → SurveyTold {T = Unit {0}} plan all a y b z (Ok tt)
    → SurveyTold {T = Unit {0}} plan all a y b (record z { board = board }) (Ok tt)
taken_told plan all a y b z board number same sched told = told_then {T = Unit {0}} {S = Unit {0}} plan all a y b z b (record z { board = board }) tt (Ok tt) same refl told
    (told_by {T = Unit {0}} plan all b z b (record z { board = board }) (Ok tt) refl (λ disk at u entry folder lines is. record {
      sight = is.sight;
      tells = is.tells;
      settled = λ i settled. is.settled i (ap (λ (s : Schedule). state_of s i) (sym sched) ∙ settled);
    }))
