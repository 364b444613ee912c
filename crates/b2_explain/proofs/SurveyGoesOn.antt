-- What was found of steps stays so as facts grow, and as steps are looked at and judged.
use Rattle.std.proofs.Common.{◌≡◌, ◌⊎◌, inl, inr, ℕ, zero, suc, ◌+◌, ◌<◌, Bool, true, false, List, length, get_or, set, replicate, Option, Some, None, refl, sym, ap, subst, ◌∙◌, arith}
use Rattle.std.specs.List.{Contains, AllByRecursion}
use Rattle.std.proofs.lemmas.Bool.{cases_eq}
use Rattle.std.proofs.lemmas.List.{length-set, length-replicate}
use Rattle.b2_plan.specs.declared.step.Step.{Step}
use Rattle.b2_plan.specs.declared.plan.Plan.{Plan}
use Rattle.b2_plan.specs.Plans.{step_at}
use Rattle.b2_log.specs.declared.line.Record.{Record}
use Rattle.b2_log.specs.declared.line.LogLine.{LogLine}
use Rattle.b2_log.specs.declared.line.LogLine.TheVariants as lines
use Rattle.b2_log.specs.Finding.{find_record}
use Rattle.b2_log.specs.Good.{IsRising, IsGood}
use Rattle.b2_runs.proofs.LastLineIsFound.{found_is_there}
use Rattle.b2_sched.specs.declared.state.State.{State}
use Rattle.b2_sched.specs.declared.state.State.TheVariants as states
use Rattle.b2_sched.specs.NumberSets.{Has}
use Rattle.b2_sched.specs.Schedules.{Schedule, state_of, IsStep, IsUnjudged}
use Rattle.b2_sched.specs.SchedulerCalls.{looked_at}
use Rattle.b2_facts.specs.declared.file_facts.FileFacts.{FileFacts}
use Rattle.b2_facts.specs.Facts.{Knowledge, IsNumber, IsAbout}
use Rattle.b2_facts.specs.Growth.{Grows}
use Rattle.b2_facts.proofs.FactsGrow.{grows_same}
use Rattle.b2_facts.proofs.ListsAtPlaces.{some_is, get_some, all_at}
use Rattle.b2_verdicts.specs.declared.point.Point.{Point}
use Rattle.b2_verdicts.specs.declared.point.Point.TheVariants as points
use Rattle.b2_verdicts.specs.declared.step_numbers.StepNumbers.{StepNumbers}
use Rattle.b2_reach.specs.declared.sights.Sights.{Sights}
use Rattle.b2_verdicts.specs.Sights.{AreNumbers, AllAsked, AllStand, stamp_of}
use Rattle.b2_verdicts.specs.Stamps.{IsFirstGone, IsNotOlder, IsFirstOlder}
use Rattle.b2_verdicts.specs.Points.{HasOutputs, IsUpToDate, IsDisagreement, IsByStamps}
use Rattle.b2_verdicts.proofs.DisagreementsStay.{disagreement_more}
use Rattle.b2_verdicts.proofs.WhatIsKnownStays.{stamp_stays, standing_stays, standing_asked, all_asked_more, all_stand_more}
use Rattle.b2_board.specs.declared.board.Board.{Board}
use Rattle.b2_board.specs.declared.work.Work.{Work}
use Rattle.b2_board.specs.Boards.{IsBoard, NeedsMore, work_at, members_in, members_of}
use Rattle.b2_looks.specs.Numbers.{IsOfDone, IsOneOf, HasNoBytes, AreNumbersBy}
use Rattle.b2_looks.proofs.FilesAreNumbered.{outs_numbers, ins_numbers}
use Rattle.b2_looks.proofs.LooksAreKept.{has_bytes_grows, files_grow, state_now, state_else}
use Rattle.b2_explain.specs.declared.survey.Judged.{Judged}
use Rattle.b2_explain.specs.declared.survey.Survey.{Survey}
use Rattle.b2_explain.specs.Surveys.{judged_at, IsStateOf, IsJudged, AreSurveyed}

-- ---- a point, as facts grow

stand_asked : (f : Knowledge) (ns : List ℕ) → AllStand f ns → AllAsked f ns
stand_asked f ns stand k low = let (stamp, is) = stand k low in standing_asked f (get_or ns k 0) stamp is

gone_more : (f g : Knowledge) (ns : List ℕ) (place : ℕ) → Grows f g → AllAsked f ns → IsFirstGone f ns place → IsFirstGone g ns place
gone_more f g ns place grows asked first = record {
  within = first.within;
  gone = stamp_stays f g (get_or ns place 0) grows (asked place first.within) ∙ first.gone;
  others = λ k low. let (stamp, stands) = first.others k low in (stamp, standing_stays f g (get_or ns k 0) stamp grows stands);
}

not_older_more : (f g : Knowledge) (ins : List ℕ) (out : ℕ) → Grows f g → AllAsked f ins → ((written : ℕ) → stamp_of g out ≡ Some written → stamp_of f out ≡ Some written) → IsNotOlder f ins out → IsNotOlder g ins out
not_older_more f g ins out grows asked before not written is k low read read_is =
    not written (before written is) k low read (sym (stamp_stays f g (get_or ins k 0) grows (asked k low)) ∙ read_is)

-- an output that was asked for has its stamp
stamp_before : (f g : Knowledge) (outs : List ℕ) (k : ℕ) → Grows f g → AllStand f outs → k < length outs → (written : ℕ) → stamp_of g (get_or outs k 0) ≡ Some written → stamp_of f (get_or outs k 0) ≡ Some written
stamp_before f g outs k grows stand low written is = sym (stamp_stays f g (get_or outs k 0) grows (stand_asked f outs stand k low)) ∙ is

outputs_more : (all : Bool) (step : Step) (numbers : StepNumbers) (f g : Knowledge) → Grows f g → HasOutputs all step numbers f → HasOutputs all step numbers g
outputs_more all step numbers f g grows has = record { ordinary = has.ordinary; stand = all_stand_more f g numbers.outs grows has.stand }

older_more : (outs ins : List ℕ) (f g : Knowledge) (out member : ℕ) → Grows f g → AllStand f outs → AllAsked f ins → IsFirstOlder f outs ins out member → IsFirstOlder g outs ins out member
older_more outs ins f g out member grows stand asked first = record {
  within = first.within;
  written = first.written;
  written_is = standing_stays f g (get_or outs out 0) first.written grows first.written_is;
  newer = record {
    within = first.newer.within;
    newer = (let (read, is, more) = first.newer.newer in (read, standing_stays f g (get_or ins member 0) read grows is, more));
    others = λ k low read is. first.newer.others k low read (sym (stamp_stays f g (get_or ins k 0) grows (asked k (let within = first.newer.within in omega (arith, low, within)))) ∙ is);
  };
  others = λ k low. not_older_more f g ins (get_or outs k 0) grows asked (stamp_before f g outs k grows stand (let within = first.within in omega (arith, low, within))) (first.others k low);
}

up_to_date_more : (all : Bool) (step : Step) (numbers : StepNumbers) (f g : Knowledge) → Grows f g → IsUpToDate all step numbers f → IsUpToDate all step numbers g
up_to_date_more all step numbers f g grows up = record {
  has_outputs = outputs_more all step numbers f g grows up.has_outputs;
  asked = all_asked_more f g numbers.ins grows up.asked;
  none_older = λ k low. not_older_more f g numbers.ins (get_or numbers.outs k 0) grows up.asked (stamp_before f g numbers.outs k grows up.has_outputs.stand low) (up.none_older k low);
}

-- the first point by stamps stays so
module _ (all : Bool) (step : Step) (numbers : StepNumbers) (last : Option Record) (f g : Knowledge) (grows : Grows f g) (outs : AreNumbers f numbers.outs) (ins : AreNumbers f numbers.ins) where
  differs_more : (point : Option Point) → IsUpToDate all step numbers f → IsDisagreement step numbers last f point → IsDisagreement step numbers last g point
  differs_more point up is = disagreement_more step numbers last f g point (record { grows = grows; outs = outs; ins = ins; asked_outs = stand_asked f numbers.outs up.has_outputs.stand; asked_ins = up.asked }) is

  pub by_stamps_more : (point : Option Point) → IsByStamps all step numbers last f point → IsByStamps all step numbers last g point
  by_stamps_more None (up, none, is) = (up_to_date_more all step numbers f g grows up, none, differs_more None up is)
  by_stamps_more (Some points.All) is = is
  by_stamps_more (Some points.Always) is = is
  by_stamps_more (Some points.Notfile) is = is
  by_stamps_more (Some (points.Lacks out)) (ordinary, asked, first) = (ordinary, all_asked_more f g numbers.outs grows asked, gone_more f g numbers.outs out grows asked first)
  by_stamps_more (Some (points.Older out member)) (has, asked, first) = (outputs_more all step numbers f g grows has, all_asked_more f g numbers.ins grows asked, older_more numbers.outs numbers.ins f g out member grows has.stand asked first)
  by_stamps_more (Some (points.FromNotfile member)) (up, is) = (up_to_date_more all step numbers f g grows up, is)
  by_stamps_more (Some points.NoRecord) (up, none, is) = (up_to_date_more all step numbers f g grows up, none, differs_more (Some points.NoRecord) up is)
  by_stamps_more (Some points.Text) (up, none, is) = (up_to_date_more all step numbers f g grows up, none, differs_more (Some points.Text) up is)
  by_stamps_more (Some (points.Outputs place)) (up, none, is) = (up_to_date_more all step numbers f g grows up, none, differs_more (Some (points.Outputs place)) up is)
  by_stamps_more (Some (points.Inputs place)) (up, none, is) = (up_to_date_more all step numbers f g grows up, none, differs_more (Some (points.Inputs place)) up is)
  by_stamps_more (Some (points.Done member)) (up, none, is) = (up_to_date_more all step numbers f g grows up, none, differs_more (Some (points.Done member)) up is)

-- ---- the files of a step, as facts grow

pub numbers_more : (steps : List Step) (ran : List Bool) (f g : Knowledge) (step : Step) (members : List ℕ) (numbers : StepNumbers) → Grows f g → ((n : ℕ) → Contains members n → IsNumber f n) → AreNumbersBy steps ran f step members numbers → AreNumbersBy steps ran g step members numbers
numbers_more steps ran f g step members numbers grows numbered is = record {
  files = files_grow steps f g step members numbers grows numbered is.files;
  notfile = notfile_more numbers.notfile is.notfile;
  done = done_more numbers.done is.done;
}
  where
    notfile_more : (o : Option ℕ) → IsOneOf (HasNoBytes steps f) members o → IsOneOf (HasNoBytes steps g) members o
    notfile_more None none = λ n among without. none n among (has_bytes_grows steps f g n grows (numbered n among) ∙ without)
    notfile_more (Some n) (among, without) = (among, sym (has_bytes_grows steps f g n grows (numbered n among)) ∙ without)

    done_before : (n : ℕ) → Contains members n → IsOfDone g ran n → IsOfDone f ran n
    done_before n among of =
        let (file, known) = get_some f.files n (numbered n among).1 in
        let (later, at, more) = grows.files n file known in
        let same : later ≡ of.file = some_is later of.file (sym at ∙ of.file_is) in
        record { file = file; file_is = known; maker = of.maker; made = sym more.maker ∙ ap (λ (x : FileFacts). x.maker) same ∙ of.made; done = of.done }

    done_more : (o : Option ℕ) → IsOneOf (IsOfDone f ran) members o → IsOneOf (IsOfDone g ran) members o
    done_more None none = λ n among of. none n among (done_before n among of)
    done_more (Some n) (among, of) = (let (later, at, more) = grows.files n of.file of.file_is in (among, record { file = later; file_is = at; maker = of.maker; made = more.maker ∙ of.made; done = of.done }))

state_same : (s t : Schedule) (i : ℕ) (point : Option Point) → state_of t i ≡ state_of s i → IsStateOf s i point → IsStateOf t i point
state_same s t i None same is = same ∙ is
state_same s t i (Some point) same is = same ∙ is

-- a judgement stays, where the state of the step and the work on it do
pub judged_more : (plan : Plan) (all : Bool) (y z : Survey) (i : ℕ) (judged : Judged) → length y.sights.facts.files ≡ length y.sights.facts.paths → Grows y.sights.facts z.sights.facts → z.ran ≡ y.ran → z.sights.journal ≡ y.sights.journal → state_of z.board.sched i ≡ state_of y.board.sched i
    → members_of z.board i ≡ members_of y.board i → ((n : ℕ) → Contains (members_of y.board i) n → IsNumber y.sights.facts n) → IsJudged plan all y i judged → IsJudged plan all z i judged
judged_more plan all y z i judged sizes grows ran journal state members numbered is = record {
  step = is.step;
  at = is.at;
  files = subst (λ ms. AreNumbersBy plan.steps z.ran.items z.sights.facts is.step ms judged.numbers) (sym members)
      (subst (λ r. AreNumbersBy plan.steps r.items z.sights.facts is.step (members_of y.board i) judged.numbers) (sym ran)
      (numbers_more plan.steps y.ran.items y.sights.facts z.sights.facts is.step (members_of y.board i) judged.numbers grows numbered is.files));
  first = subst (λ log. IsByStamps all is.step judged.numbers (find_record is.step.outs log) z.sights.facts judged.point) (sym journal)
      (by_stamps_more all is.step judged.numbers (find_record is.step.outs y.sights.journal) y.sights.facts z.sights.facts grows
      (outs_numbers plan.steps y.sights.facts is.step (members_of y.board i) judged.numbers is.files.files sizes) (ins_numbers plan.steps y.sights.facts is.step (members_of y.board i) judged.numbers is.files.files numbered) judged.point is.first);
  state = state_same y.board.sched z.board.sched i judged.point state is.state;
}

-- ---- the steps of a survey

-- the members of what a step is known to read have numbers
pub members_numbered : (plan : Plan) (but : ℕ) (f : Knowledge) (b : Board) → IsBoard plan but f b → (i n : ℕ) → Contains (members_of b i) n → IsNumber f n
members_numbered plan but f b is i n among = go (work_at b.works.items i) refl among
  where
    go : (o : Option Work) → work_at b.works.items i ≡ o → Contains (members_in o) n → IsNumber f n
    go None e among = absurd (let low = among.1 in omega (arith, low))
    go (Some work) e among = (is.work i work e).reach.in_order.numbered n among

-- a step's state and the work on it stay: so does what was found of it
module _ (plan : Plan) (all : Bool) (but : ℕ) (y z : Survey) (about : IsAbout plan.steps plan.roots y.sights.facts) (grows : Grows y.sights.facts z.sights.facts) (ran : z.ran ≡ y.ran) (journal : z.sights.journal ≡ y.sights.journal) (judged_same : z.judged ≡ y.judged)
    (state : (i : ℕ) → state_of z.board.sched i ≡ state_of y.board.sched i) (size : length z.board.sched.states ≡ length y.board.sched.states) (is : AreSurveyed plan all but y) where
  each_more : ((i : ℕ) (judged : Judged) → IsJudged plan all y i judged → members_of z.board i ≡ members_of y.board i)
      → (i : ℕ) → IsStep z.board.sched i → IsUnjudged z.board.sched i ⊎ ((judged : Judged) × (judged_at z i ≡ Some judged) × IsJudged plan all z i judged)
  each_more members i step = elim (is.each i (record { some = step.some; within = subst (λ n. i < n) size step.within })) [
    | inl unjudged ↦ inl (state i ∙ unjudged)
    | inr (judged, at, so) ↦ inr (
      judged,
      ap (λ v. get_or v.items i None) judged_same ∙ at,
      judged_more plan all y z i judged about.sizes grows ran journal (state i) (members i judged so) (members_numbered plan but y.sights.facts y.board is.board i) so,
    )
  ]

  pub surveyed_more : (to : ℕ) → IsBoard plan to z.sights.facts z.board → z.board.sched.jobs ≡ y.board.sched.jobs → z.sights.by_digest ≡ y.sights.by_digest → ((i : ℕ) (judged : Judged) → IsJudged plan all y i judged → members_of z.board i ≡ members_of y.board i) → AreSurveyed plan all to z
  surveyed_more to board jobs way members = record {
    board = board;
    jobs = jobs ∙ is.jobs;
    size = ap (λ v. length v.items) judged_same ∙ is.size;
    ran_size = ap (λ v. length v.items) ran ∙ is.ran_size;
    none_ran = λ i has. is.none_ran i (subst (λ v. Has v.items i) ran has);
    way = way ∙ is.way;
    proper = λ outs r e. is.proper outs r (ap (find_record outs) (sym journal) ∙ e);
    each = each_more members;
    unjudged = λ i unjudged. ap (λ v. get_or v.items i None) judged_same ∙ is.unjudged i (sym (state i) ∙ unjudged);
  }

judged_not : {A : Type 0} (s : Schedule) (i : ℕ) (point : Option Point) → IsStateOf s i point → IsUnjudged s i → A
judged_not s i None state unjudged = absurd (let e : states.Unjudged ≡ states.Settled = sym unjudged ∙ state in cc)
judged_not s i (Some point) state unjudged = absurd (let e : states.Unjudged ≡ states.Stale = sym unjudged ∙ state in cc)

-- a step is being looked at
pub surveyed_taken : (plan : Plan) (all : Bool) (number : ℕ) (y : Survey) (b : Board) → IsAbout plan.steps plan.roots y.sights.facts → b.works ≡ y.board.works → b.sched ≡ looked_at y.board.sched number → IsBoard plan number y.sights.facts b → AreSurveyed plan all 0 y → AreSurveyed plan all number (record y { board = b })
surveyed_taken plan all number y b about works sched board is =
    surveyed_more plan all 0 y (record y { board = b }) about (grows_same y.sights.facts) refl refl refl (λ i. ap (λ (s : Schedule). state_of s i) sched) (ap (λ (s : Schedule). length s.states) sched) is number board (ap (λ (s : Schedule). s.jobs) sched) refl
    (λ i judged so. ap (λ v. members_in (work_at v.items i)) works)

-- it was looked at
pub surveyed_looked : (plan : Plan) (all : Bool) (number to : ℕ) (y : Survey) (b : Board) (t : Sights) → IsAbout plan.steps plan.roots y.sights.facts → Grows y.sights.facts t.facts → t.journal ≡ y.sights.journal → t.by_digest ≡ y.sights.by_digest → IsUnjudged y.board.sched number → NeedsMore y.board.sched b.sched
    → ((i : ℕ) → (i ≡ number → ⊥) → work_at b.works.items i ≡ work_at y.board.works.items i) → IsBoard plan to t.facts b → AreSurveyed plan all number y → AreSurveyed plan all to (record y { board = b; sights = t })
surveyed_looked plan all number to y b t about grows journal way unjudged more others board is =
    surveyed_more plan all number y (record y { board = b; sights = t }) about grows refl journal refl (λ i. ap (λ (xs : List State). get_or xs i states.Settled) more.states) (ap length more.states) is to board more.jobs way
    (λ i judged so. ap members_in (others i (λ same. judged_not y.board.sched i judged.point so.state (ap (state_of y.board.sched) same ∙ unjudged))))

-- ---- a judgement

-- the state of a step that was judged, and of the others
abbrev pub new_state : Option Point → State
new_state None = states.Settled
new_state (Some point) = states.Stale

module _ (plan : Plan) (all : Bool) (number : ℕ) (y z : Survey) (t : Sights) (point : Option Point) (numbers : StepNumbers) (about : IsAbout plan.steps plan.roots y.sights.facts) (grows : Grows y.sights.facts t.facts) (journal : t.journal ≡ y.sights.journal) (way : t.by_digest ≡ y.sights.by_digest)
    (step : IsStep y.board.sched number) (unjudged : IsUnjudged y.board.sched number) (is : AreSurveyed plan all number y) (sights_are : z.sights ≡ t) (ran_is : z.ran ≡ y.ran) (works_are : z.board.works ≡ y.board.works) (jobs_are : z.board.sched.jobs ≡ y.board.sched.jobs)
    (states_are : z.board.sched.states ≡ set y.board.sched.states number (new_state point)) (room : length z.judged.items ≡ length y.judged.items) (others : (i : ℕ) → (i ≡ number → ⊥) → judged_at z i ≡ judged_at y i) (entered : judged_at z number ≡ Some (record { point = point; numbers = numbers }))
    (board : IsBoard plan 0 t.facts z.board) (of_step : (s : Step) × (step_at plan.steps number ≡ Some s) × AreNumbersBy plan.steps y.ran.items t.facts s (members_of y.board number) numbers × IsByStamps all s numbers (find_record s.outs t.journal) t.facts point) where
  state_here : state_of z.board.sched number ≡ new_state point
  state_here = state_now y.board.sched z.board.sched number (new_state point) states_are step.within

  state_there : (i : ℕ) → (i ≡ number → ⊥) → state_of z.board.sched i ≡ state_of y.board.sched i
  state_there i other = state_else y.board.sched z.board.sched number (new_state point) states_are i other

  is_state : (point : Option Point) → state_of z.board.sched number ≡ new_state point → IsStateOf z.board.sched number point
  is_state None e = e
  is_state (Some point) e = e

  not_unjudged : (point : Option Point) → state_of z.board.sched number ≡ new_state point → IsUnjudged z.board.sched number → ⊥
  not_unjudged None e now = (let f : states.Unjudged ≡ states.Settled = sym now ∙ e in cc)
  not_unjudged (Some point) e now = (let f : states.Unjudged ≡ states.Stale = sym now ∙ e in cc)

  members_same : (i : ℕ) → members_of z.board i ≡ members_of y.board i
  members_same i = ap (λ v. members_in (work_at v.items i)) works_are

  facts_are : z.sights.facts ≡ t.facts
  facts_are = ap (λ (s : Sights). s.facts) sights_are

  journal_is : z.sights.journal ≡ t.journal
  journal_is = ap (λ (s : Sights). s.journal) sights_are

  size_same : length z.board.sched.states ≡ length y.board.sched.states
  size_same = ap length states_are ∙ length-set y.board.sched.states number (new_state point)

  here : IsJudged plan all z number (record { point = point; numbers = numbers })
  here = (
      let (s, at, files, first) = of_step in
      record {
        step = s;
        at = at;
        files = subst (λ ms. AreNumbersBy plan.steps z.ran.items z.sights.facts s ms numbers) (sym (members_same number))
            (subst (λ r. AreNumbersBy plan.steps r.items z.sights.facts s (members_of y.board number) numbers) (sym ran_is) (subst (λ g. AreNumbersBy plan.steps y.ran.items g s (members_of y.board number) numbers) (sym facts_are) files));
        first = subst (λ log. IsByStamps all s numbers (find_record s.outs log) z.sights.facts point) (sym journal_is) (subst (λ g. IsByStamps all s numbers (find_record s.outs t.journal) g point) (sym facts_are) first);
        state = is_state point state_here;
      })

  there : (i : ℕ) → (i ≡ number → ⊥) → IsStep z.board.sched i → IsUnjudged z.board.sched i ⊎ ((judged : Judged) × (judged_at z i ≡ Some judged) × IsJudged plan all z i judged)
  there i other step_i = elim (is.each i (record { some = step_i.some; within = subst (λ n. i < n) size_same step_i.within })) [
    | inl not ↦ inl (state_there i other ∙ not)
    | inr (judged, at, so) ↦ inr (
      judged,
      others i other ∙ at,
      judged_more plan all y z i judged about.sizes (subst (Grows y.sights.facts) (sym facts_are) grows) ran_is (journal_is ∙ journal) (state_there i other) (members_same i) (members_numbered plan number y.sights.facts y.board is.board i) so,
    )
  ]

  pub surveyed_judged : AreSurveyed plan all 0 z
  surveyed_judged = record {
    board = subst (λ g. IsBoard plan 0 g z.board) (sym facts_are) board;
    jobs = jobs_are ∙ is.jobs;
    size = room ∙ is.size;
    ran_size = ap (λ v. length v.items) ran_is ∙ is.ran_size;
    none_ran = λ i has. is.none_ran i (subst (λ v. Has v.items i) ran_is has);
    way = ap (λ (s : Sights). s.by_digest) sights_are ∙ way ∙ is.way;
    proper = λ outs r e. is.proper outs r (ap (find_record outs) (sym (journal_is ∙ journal)) ∙ e);
    each = λ i step_i. elim (cases_eq i number) [
      | inl same ↦ inr (record { point = point; numbers = numbers }, ap (judged_at z) same ∙ entered, subst (λ k. IsJudged plan all z k (record { point = point; numbers = numbers })) (sym same) here)
      | inr other ↦ there i other step_i
    ];
    unjudged = λ i now. elim (cases_eq i number) [
      | inl same ↦ absurd (not_unjudged point state_here (subst (IsUnjudged z.board.sched) same now))
      | inr other ↦ others i other ∙ is.unjudged i (sym (state_there i other) ∙ now)
    ];
  }

-- ---- before anything is looked at

pub surveyed_new : (plan : Plan) (all : Bool) (y : Survey) → IsBoard plan 0 y.sights.facts y.board → y.board.sched.jobs ≡ 64 → ((i : ℕ) → IsStep y.board.sched i → IsUnjudged y.board.sched i) → length y.judged.items ≡ length plan.steps + 1 → ((i : ℕ) → judged_at y i ≡ None) → y.ran.items ≡ replicate (length plan.steps + 1) false
    → y.sights.by_digest ≡ false → ((outs : List (List ℕ)) (r : Record) → find_record outs y.sights.journal ≡ Some r → IsRising r.ins) → AreSurveyed plan all 0 y
surveyed_new plan all y board jobs unjudged size none ran way proper = record {
  board = board;
  jobs = jobs;
  size = size;
  ran_size = ap length ran ∙ length-replicate (length plan.steps + 1) false;
  none_ran = λ i has. none_there (length plan.steps + 1) i (subst (λ l. Has l i) ran has);
  way = way;
  proper = proper;
  each = λ i step. inl (unjudged i step);
  unjudged = λ i now. none i;
}
  where
    none_there : (n i : ℕ) → Has (replicate n false) i → ⊥
    none_there zero i has = (let e : false ≡ true = has in cc)
    none_there (suc n) zero has = (let e : false ≡ true = has in cc)
    none_there (suc n) (suc i) has = none_there n i has

-- a good log has proper records
pub good_proper : (log : List LogLine) → AllByRecursion IsGood log → (outs : List (List ℕ)) (r : Record) → find_record outs log ≡ Some r → IsRising r.ins
good_proper log good outs r e = (all_at IsGood log good (lines.Record r) (found_is_there outs log r e).0).proper.rising
