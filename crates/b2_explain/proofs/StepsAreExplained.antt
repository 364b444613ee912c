-- The causes of the steps of a survey that is whole, one after another.
use Rattle.std.proofs.Common.{◌≡◌, inl, inr, ℕ, zero, suc, ◌+◌, ◌<◌, ◌≤◌, Bool, true, false, not, List, [], ◌∷◌, ◌++◌, length, get_or, slice_get, map, Option, Some, None, refl, sym, ap, subst, ◌∙◌, arith}
use Rattle.std.specs.List.{Contains, AllZip}
use Rattle.std.specs.Option.{IfSome}
use Rattle.std.proofs.lemmas.Option.{slice_get_within}
use Rattle.std.proofs.lemmas.List.{length-map}
use Rattle.std.proofs.lemmas.List.Elements.{Contains-append_cases}
use Rattle.b2_host.specs.OutsideLaws.{only_one}
use Rattle.b2_plan.specs.declared.plan.Plan.{Plan}
use Rattle.b2_plan.specs.declared.step.Step.{Step}
use Rattle.b2_plan.specs.Plans.{step_at}
use Rattle.b2_log.specs.declared.line.Record.{Record}
use Rattle.b2_log.specs.Finding.{path_of, find_record}
use Rattle.b2_runs.specs.Outcomes.{IsListOf}
use Rattle.b2_runs.proofs.FirstElementOrLater.{Contains_nil}
use Rattle.b2_runs.proofs.LastLineIsFound.{found_is_there}
use Rattle.b2_sched.specs.declared.state.State.TheVariants as states
use Rattle.b2_sched.specs.Schedules.{Schedule, IsStep, IsNeeded, IsUnjudged, IsSettled}
use Rattle.b2_sched.specs.Sound.{IsSound}
use Rattle.b2_sched.proofs.ListsGrowByOneNumber.{listed_same, listed_more}
use Rattle.b2_facts.specs.declared.file_facts.FileFacts.{FileFacts}
use Rattle.b2_facts.specs.Facts.{Knowledge, IsNumber, path_at, file_at}
use Rattle.b2_facts.proofs.ListsAtPlaces.{some_is, none_some}
use Rattle.b2_reach.specs.Reaches.{IsMissingMember}
use Rattle.b2_verdicts.specs.declared.point.Point.{Point}
use Rattle.b2_verdicts.specs.Points.{IsByStamps, HavePaths}
use Rattle.b2_verdicts.proofs.ListsAtPlaces.{index_at, zip_forth, zip_count}
use Rattle.b2_board.specs.Works.{HasOutputOf}
use Rattle.b2_board.specs.Boards.{IsBoard, members_in, members_of}
use Rattle.b2_looks.specs.Numbers.{IsOneOf, IsOfDone, HasNoBytes, owes, has_bytes_by, has_bytes_of}
use Rattle.b2_looks.proofs.FilesAreNumbered.{maker_place, outs_numbers, ins_numbers, ins_rise}
use Rattle.b2_explain.specs.declared.cause.Cause.{Cause}
use Rattle.b2_explain.specs.declared.cause.Cause.TheVariants as causes
use Rattle.b2_explain.specs.declared.cause.Why.{Why}
use Rattle.b2_explain.specs.declared.survey.Judged.{Judged}
use Rattle.b2_explain.specs.declared.survey.Survey.{Survey}
use Rattle.b2_explain.specs.Sights.{IsFirstNumber, IsUnsettledMember}
use Rattle.b2_explain.specs.SeenCauses.{IsAtEntry, IsCauseBy}
use Rattle.b2_explain.specs.Checks.{AreParts}
use Rattle.b2_explain.specs.Surveys.{AreSurveyed, IsJudged, IsStateOf, judged_at}
use Rattle.b2_explain.specs.Found.{IsOpenStep, IsLackTold.lacks as lack_told, IsLackTold.lacks_none as none_told, IsFoundCause, IsFoundCause.judged as found_judged, IsFoundCause.open_still as found_open, AddsCause, AddsCause.told as cause_told, AddsCause.passed as cause_passed, AreFoundCauses}
use Rattle.b2_explain.specs.Whys.{step_in}
use Rattle.b2_explain.proofs.FirstMembers.{number_is_file}
use Rattle.b2_explain.proofs.SurveyGoesOn.{members_numbered}
use Rattle.b2_explain.proofs.CheckedIsWhy.{map_at}

-- a step's number lies within the plan
step_within : (steps : List Step) (number : ℕ) (step : Step) → step_at steps number ≡ Some step → (0 < number) × (number ≤ length steps)
step_within steps zero step at = absurd (none_some step at)
step_within steps (suc k) step at = (let low = slice_get_within steps k step at in (omega arith, omega (arith, low)))

-- the step with a number is there
step_there : (steps : List Step) (number : ℕ) → 0 < number → number ≤ length steps → (step : Step) × (step_at steps number ≡ Some step)
step_there steps zero some within = absurd (omega (arith, some))
step_there steps (suc k) some within = there steps k (omega (arith, within))
  where
    there : (xs : List Step) (i : ℕ) → i < length xs → (step : Step) × (slice_get xs i ≡ Some step)
    there [] i low = absurd (omega (arith, low))
    there (x ∷ xs) zero low = (x, refl)
    there (x ∷ xs) (suc i) low = there xs i (omega (arith, low))

is_not : (b : Bool) → not b ≡ false → b ≡ true
is_not true e = refl
is_not false e = (let f : true ≡ false = e in cc)

-- a record of a step's outputs has their paths
have_paths : (f : Knowledge) (ns : List ℕ) (outs : List (List ℕ)) (r : Record) → AllZip (λ n path. path_at f n ≡ Some path) ns outs → map path_of r.outs ≡ outs → HavePaths f r.outs ns
have_paths f ns outs r zip named = record {
  count = sym (length-map r.outs path_of) ∙ ap length named ∙ sym (zip_count (λ n path. path_at f n ≡ Some path) ns outs zip);
  each = λ k one low at.
      let (own, own_at, own_is) = zip_forth (λ n path. path_at f n ≡ Some path) ns outs k (get_or ns k 0) zip (index_at ns k low) in
      let here : slice_get outs k ≡ Some one.0 = ap (λ paths. slice_get paths k) (sym named) ∙ map_at path_of r.outs k one at in
      own_is ∙ ap Some (some_is own one.0 (sym own_at ∙ here));
}

-- ---- a survey that is whole

module _ (plan : Plan) (all : Bool) (y : Survey) (is : AreSurveyed plan all 0 y) where
  abbrev f : Knowledge
  f = y.sights.facts

  abbrev s : Schedule
  s = y.board.sched

  pub is_step : (number : ℕ) (step : Step) → step_at plan.steps number ≡ Some step → IsStep s number
  is_step number step at = (
      let (some, low) = step_within plan.steps number step at in
      let size = is.board.size in
      record { some = some; within = omega (arith, low, size) })

  pub the_step : (number : ℕ) → IsStep s number → (step : Step) × (step_at plan.steps number ≡ Some step)
  the_step number step = (let low = step.within in let size = is.board.size in step_there plan.steps number step.some (omega (arith, low, size)))

  pub within_works : (number : ℕ) → IsStep s number → number < length y.board.works.items
  within_works number step = (let low = step.within in let a = is.board.size in let b = is.board.works_size in omega (arith, low, a, b))

  pub within_judged : (number : ℕ) → IsStep s number → number < length y.judged.items
  within_judged number step = (let low = step.within in let a = is.board.size in let b = is.size in omega (arith, low, a, b))

  pub member_number : (number n : ℕ) → Contains (members_of y.board number) n → IsNumber f n
  member_number number n among = members_numbered plan 0 f y.board is.board number n among

  -- a step that is settled is none of those without files
  notfile_not : (k : ℕ) (other : Step) → step_at plan.steps k ≡ Some other → IsSettled s k → other.notfile ≡ true → ⊥
  notfile_not k other at settled on = elim (is.each k (is_step k other at)) [
    | inl unjudged ↦ (let e : states.Unjudged ≡ states.Settled = sym unjudged ∙ settled in cc)
    | inr (judged, found, so) ↦ by_point judged so judged.point so.state so.first
  ]
    where
      by_point : (judged : Judged) (so : IsJudged plan all y k judged) (point : Option Point) → IsStateOf s k point → IsByStamps all so.step judged.numbers (find_record so.step.outs y.sights.journal) f point → ⊥
      by_point judged so None state first =
          let same : so.step ≡ other = some_is so.step other (sym so.at ∙ at) in
          let off : other.notfile ≡ false = subst (λ (x : Step). x.notfile ≡ false) same first.0.has_outputs.ordinary.not_notfile in
          (let e : true ≡ false = sym on ∙ off in cc)
      by_point judged so (Some point) state first = (let e : states.Stale ≡ states.Settled = sym state ∙ settled in cc)

  -- ---- a step that was judged

  module _ (number : ℕ) (judged : Judged) (at_judged : judged_at y number ≡ Some judged) (number_step : IsStep s number) where
    own : IsJudged plan all y number judged
    own = elim (is.each number number_step) [
      | inl unjudged ↦ absurd (none_some judged (sym (is.unjudged number unjudged) ∙ at_judged))
      | inr (other, at, so) ↦ subst (IsJudged plan all y number) (some_is other judged (sym at ∙ at_judged)) so
    ]

    settled_maker : (k : ℕ) → HasOutputOf f (members_of y.board number) k → IsSettled s k
    settled_maker k output =
        let (needed, over) = is.board.judged number number_step (judged_not judged.point own.state) in
        over.closed.settled k (record { number = output.number; among = subst (λ ms. Contains ms output.number) (ap members_in over.begun) output.among; file = output.file; file_is = output.file_is; made = output.made })
      where
        judged_not : (point : Option Point) → IsStateOf s number point → IsUnjudged s number → ⊥
        judged_not None state unjudged = (let e : states.Unjudged ≡ states.Settled = sym unjudged ∙ state in cc)
        judged_not (Some point) state unjudged = (let e : states.Unjudged ≡ states.Stale = sym unjudged ∙ state in cc)

    -- a member that has no bytes is an output of such a step
    bytes_has : (n : ℕ) → Contains (members_of y.board number) n → HasNoBytes plan.steps f n → ⊥
    bytes_has n among without = by_file (file_at f n) refl without
      where
        by_step : (k : ℕ) (other : Option Step) → step_at plan.steps k ≡ other → (file : FileFacts) → file_at f n ≡ Some file → file.maker ≡ Some k → owes other ≡ false → ⊥
        by_step k None e file file_is made owed = (let g : true ≡ false = owed in cc)
        by_step k (Some other) e file file_is made owed = notfile_not k other e (settled_maker k (record { number = n; among = among; file = file; file_is = file_is; made = made })) (is_not other.notfile owed)

        by_maker : (file : FileFacts) → file_at f n ≡ Some file → (maker : Option ℕ) → file.maker ≡ maker → has_bytes_by plan.steps maker ≡ false → ⊥
        by_maker file file_is None made owed = (let g : true ≡ false = owed in cc)
        by_maker file file_is (Some k) made owed = by_step k (step_at plan.steps k) refl file file_is made owed

        by_file : (told : Option FileFacts) → file_at f n ≡ told → has_bytes_of plan.steps told ≡ false → ⊥
        by_file None e owed = (let g : true ≡ false = owed in cc)
        by_file (Some file) e owed = by_maker file e file.maker refl owed

    no_notfile : judged.numbers.notfile ≡ None
    no_notfile = go judged.numbers.notfile own.files.notfile
      where
        go : (o : Option ℕ) → IsOneOf (HasNoBytes plan.steps f) (members_of y.board number) o → o ≡ None
        go None none = refl
        go (Some n) (among, without) = absurd (bytes_has n among without)

    none_done : judged.numbers.done ≡ None
    none_done = go judged.numbers.done own.files.done
      where
        go : (o : Option ℕ) → IsOneOf (IsOfDone f y.ran.items) (members_of y.board number) o → o ≡ None
        go None none = refl
        go (Some n) (among, of) = absurd (is.none_ran of.maker of.done)

    module _ (step : Step) (at : step_at plan.steps number ≡ Some step) (sizes : length f.files ≡ length f.paths) where
      same_step : own.step ≡ step
      same_step = some_is own.step step (sym own.at ∙ at)

      named : (r : Record) → find_record step.outs y.sights.journal ≡ Some r → HavePaths f r.outs judged.numbers.outs
      named r e = have_paths f judged.numbers.outs step.outs r (subst (λ (x : Step). AllZip (λ n path. path_at f n ≡ Some path) judged.numbers.outs x.outs) same_step own.files.files.outs) ((found_is_there step.outs y.sights.journal r e).1)

      pub at_entry : IfSome judged.point (IsAtEntry f judged.numbers (find_record step.outs y.sights.journal))
      at_entry = go judged.point (subst (λ (x : Step). IsByStamps all x judged.numbers (find_record x.outs y.sights.journal) f judged.point) same_step own.first)
        where
          go : (point : Option Point) → IsByStamps all step judged.numbers (find_record step.outs y.sights.journal) f point → IfSome point (IsAtEntry f judged.numbers (find_record step.outs y.sights.journal))
          go None first = tt
          go (Some point) first = record {
            all = all;
            step = step;
            first = first;
            outs = outs_numbers plan.steps f own.step (members_of y.board number) judged.numbers own.files.files sizes;
            ins = ins_numbers plan.steps f own.step (members_of y.board number) judged.numbers own.files.files (member_number number);
            no_notfile = no_notfile;
            none_done = none_done;
            named = named;
          }

      pub are_parts : AreParts f step judged.numbers (find_record step.outs y.sights.journal)
      are_parts = record {
        outs = outs_numbers plan.steps f own.step (members_of y.board number) judged.numbers own.files.files sizes;
        ins = ins_numbers plan.steps f own.step (members_of y.board number) judged.numbers own.files.files (member_number number);
        rising = ins_rise plan.steps f own.step (members_of y.board number) judged.numbers own.files.files;
        named = named;
        proper = λ r e. is.proper step.outs r e;
      }

      pub judged_found : (cause : Cause) → IsCauseBy judged.numbers (find_record step.outs y.sights.journal) f judged.point cause → (q : Plan) → step_at q.steps number ≡ Some step → IsFoundCause q y number cause
      judged_found cause told q at_q = found_judged judged step at_judged at_q told

-- ---- a step that was not judged

module _ (plan : Plan) (all : Bool) (y : Survey) (number : ℕ) (o : IsOpenStep plan all y number) where
  abbrev members : List ℕ
  members = members_of y.board number

  open_step : IsStep y.board.sched number
  open_step = is_step plan all y o.of_step.surveyed number o.step o.of_step.at

  pub open_within : number < length y.board.works.items
  open_within = within_works plan all y o.of_step.surveyed number open_step

  pub open_numbers : (n : ℕ) → Contains members n → IsNumber y.sights.facts n
  open_numbers = member_number plan all y o.of_step.surveyed number

  pub open_makers : (n maker : ℕ) (file : FileFacts) → Contains members n → file_at y.sights.facts n ≡ Some file → file.maker ≡ Some maker → IsStep y.board.sched maker
  open_makers n maker file among at made =
      let (step, step_is, some, low, same) = maker_place plan.steps plan.roots y.sights.facts n file maker o.of_step.about at made in
      is_step plan all y o.of_step.surveyed maker step step_is

  open_unjudged : IsUnjudged y.board.sched number
  open_unjudged = elim (o.of_step.surveyed.each number open_step) [
    | inl unjudged ↦ unjudged
    | inr (judged, at, so) ↦ absurd (none_some judged (sym o.unjudged ∙ at))
  ]

  not_zero : number ≡ 0 → ⊥
  not_zero e = (let some = open_step.some in absurd (omega (arith, some, e)))

  board : IsBoard plan 0 y.sights.facts y.board
  board = o.of_step.surveyed.board

  -- it lacks a file, or waits for one
  pub open_waits : ((n : ℕ) → IsMissingMember y.sights.facts members n → ⊥) → ((n : ℕ) → IsUnsettledMember y.board.sched y.sights.facts members n → ⊥) → ⊥
  open_waits none_missing none_unsettled = elim (board.waits number not_zero o.of_step.needed open_unjudged (o.of_step.whole number)) [
    | inl lacks ↦ (
        let lack = board.lacks number lacks in
        let (n, missing) = (board.work number lack.work lack.begun).reach.in_order.lacks lack.lacks in
        none_missing n (subst (λ ms. IsMissingMember y.sights.facts ms n) (sym (ap members_in lack.begun)) missing))
    | inr waits ↦ elim (board.needs number waits.need waits.needs) [
      | inl e ↦ not_zero e
      | inr (found, needed) ↦ none_unsettled found.reads.number (record {
        among = subst (λ ms. Contains ms found.reads.number) (sym (ap members_in found.begun)) found.reads.among;
        file = found.reads.file;
        file_is = found.reads.file_is;
        maker = waits.need;
        made = found.reads.made;
        unsettled = waits.not_settled;
      })
    ]
  ]

  pub lacks_found : (q : Plan) (n : ℕ) (path : List ℕ) (cause : Cause) → cause ≡ causes.Lacks path → path_at y.sights.facts n ≡ Some path → IsFirstNumber y.sights.facts (IsMissingMember y.sights.facts members) n → IsFoundCause q y number cause
  lacks_found q n path cause e at first = subst (IsFoundCause q y number) (sym e) (found_open true o.unjudged (lack_told n first.so) (path, number_is_file y.sights.facts (IsMissingMember y.sights.facts members) n path at first, refl))

  pub waits_found : (q : Plan) (n : ℕ) (path : List ℕ) (cause : Cause) → cause ≡ causes.Waits path → path_at y.sights.facts n ≡ Some path → ((k : ℕ) → IsMissingMember y.sights.facts members k → ⊥) → IsFirstNumber y.sights.facts (IsUnsettledMember y.board.sched y.sights.facts members) n → IsFoundCause q y number cause
  waits_found q n path cause e at none first = subst (IsFoundCause q y number) (sym e) (found_open false o.unjudged (none_told none) (path, number_is_file y.sights.facts (IsUnsettledMember y.board.sched y.sights.facts members) n path at first, refl))

-- ---- one step after another

-- the steps before a place are told
pub record AreToldBefore (plan : Plan) (y : Survey) (place : ℕ) (whys : List Why) : Type 0 where
  pub steps : IsListOf (λ i. (i < place + 1) × IsNeeded y.board.sched i) (map step_in whys)
  pub each : (why : Why) → Contains whys why → IsFoundCause plan y why.step why.cause

pub told_none : (plan : Plan) (y : Survey) (whys : List Why) → whys ≡ [] → IsSound y.board.sched → AreToldBefore plan y 0 whys
told_none plan y whys e sound = subst (AreToldBefore plan y 0) (sym e) (record {
  steps = record {
    rising = λ i j d low high. absurd (omega (arith, high));
    each = λ i among. absurd (Contains_nil i among);
    whole = λ i told. absurd (let low = told.0 in let some = (sound.steps i told.1).some in omega (arith, low, some));
  };
  each = λ why among. absurd (Contains_nil why among);
})

map_pushed : (whys : List Why) (why : Why) → map step_in (whys ++ why ∷ []) ≡ map step_in whys ++ why.step ∷ []
map_pushed [] why = refl
map_pushed (x ∷ whys) why = ap (λ l. x.step ∷ l) (map_pushed whys why)

pub told_more : (plan : Plan) (y : Survey) (place number : ℕ) (before after : List Why) → number ≡ place + 1 → AddsCause plan y number before after → AreToldBefore plan y place before → AreToldBefore plan y (place + 1) after
told_more plan y place number before after e (cause_told cause needed found longer) is = record {
  steps = listed_more (IsNeeded y.board.sched) (place + 1) (map step_in before) (map step_in after) true
      (ap (map step_in) longer ∙ map_pushed before (record { step = number; cause = cause }) ∙ ap (λ n. map step_in before ++ n ∷ []) e) (λ t. subst (IsNeeded y.board.sched) e needed) (λ n. refl) is.steps;
  each = λ why among. elim (Contains-append_cases before (record { step = number; cause = cause } ∷ []) why (subst (λ l. Contains l why) longer among)) [
    | inl old ↦ is.each why old
    | inr here ↦ subst (λ (w : Why). IsFoundCause plan y w.step w.cause) (only_one (record { step = number; cause = cause }) why here) found
  ];
}
told_more plan y place number before after e (cause_passed not_needed same) is = record {
  steps = listed_more (IsNeeded y.board.sched) (place + 1) (map step_in before) (map step_in after) false (ap (map step_in) same) (λ t. absurd (let f : false ≡ true = t in cc)) (λ n. absurd (not_needed (subst (IsNeeded y.board.sched) (sym e) n))) is.steps;
  each = λ why among. is.each why (subst (λ l. Contains l why) same among);
}

pub told_all : (plan : Plan) (all : Bool) (y : Survey) (place : ℕ) (whys : List Why) → AreSurveyed plan all 0 y → IsSound y.board.sched → length plan.steps ≤ place → AreToldBefore plan y place whys → AreFoundCauses plan y whys
told_all plan all y place whys surveyed sound past is = record {
  steps = listed_same (λ i. (i < place + 1) × IsNeeded y.board.sched i) (IsNeeded y.board.sched) (map step_in whys) (λ i told. told.1) (λ i needed. ((let low = (sound.steps i needed).within in let size = surveyed.board.size in omega (arith, low, size, past)), needed)) is.steps;
  each = is.each;
}
