-- No pattern is refused in the load or the generation of a drill.
use Rattle.std.proofs.Common.{◌≡◌, ℕ, ◌<◌, ◌≤◌, Bool, true, false, ◌&&◌, eqb, List, [], ◌∷◌, length, Option, Some, None, Result, Ok, Err, refl, sym, ap, subst, ◌∙◌, arith}
use Rattle.std.specs.Prelude.{if◌then◌else◌, ⊤}
use Rattle.std.specs.Cmp.{first_so, second_so}
use Rattle.std.specs.Cmp.Lexicographic.{pointwise, pointwise_decides}
use Rattle.std.specs.Str.{bytes_eq}
use Rattle.std.proofs.lemmas.Bool.{eqb-true}
use Rattle.std.proofs.lemmas.Slice.Eq.{bytes_eq-Decides}
use Rattle.b2_alternatives.specs.declared.fault.ChoiceFault.{ChoiceFault}
use Rattle.b2_alternatives.specs.declared.fault.ChoiceFault.TheVariants as choosing
use Rattle.b2_making.specs.declared.fault.MakingFault.{MakingFault}
use Rattle.b2_making.specs.declared.fault.MakingFault.TheVariants as making
use Rattle.b2_drill_load.specs.Texts.{drill_job, drill_answer}
use Rattle.b2_drill_means.specs.Laws.{HasJamroot, ComesToDrill}
use Rattle.b2_drill_means.proofs.FilesComeToThePlan.{text_answered, without_tests, IsLoadedSo, loaded_so, lines_few, comes_to_drill}
use Rattle.b2_drill_plan.specs.Plan.{IsDrill}
use Rattle.b2_drill_plan.proofs.RequestIsPlanned.{drill_plans}
use Rattle.b2_drill_project.specs.Loaded.{drill_walk}
use Rattle.b2_drill_project.specs.Project.{drill_place, drill_project}
use Rattle.b2_prepare.specs.Laws.{OneMeaning}
use Rattle.b2_prepare.specs.Meaning.{Refusal, load_setting, load_turns, project_with, Refuses, IsRefusedInGeneration, Means}
use Rattle.b2_prepare.specs.Preparing.{IfRefusal, call_of}
use Rattle.b2_prepare.specs.Refusals.{refusal_of}
use Rattle.b2_generate.specs.Faults.{Fault as Generating}
use Rattle.b2_generate.specs.Laws.{OnePlan}
use Rattle.b2_generate.specs.Planning.{Plans}
use Rattle.b2_generate.specs.declared.fault.GenFault.{GenFault}
use Rattle.b2_generate.specs.declared.fault.GenFault.TheVariants as generating
use Rattle.b2_host.specs.Disks.{Disk}
use Rattle.b2_own_text.specs.Questions.{EndsWith, is_same_job, is_step, IsRefused}
use Rattle.b2_own_text.specs.DiskViews.{setting_of, refusing}
use Rattle.b2_own_text.specs.Worlds.{answers_in}
use Rattle.b2_own_text.specs.declared.question.Question.{Question}
use Rattle.b2_own_text.specs.declared.question.Question.TheVariants.{OfRule, OfStep}
use Rattle.b2_project.specs.Laws.{OneEnding}
use Rattle.b2_project.specs.Loads.{Ending, loaded, fails}
use Rattle.b2_props.specs.Requests.{request_sets}
use Rattle.b2_props.specs.Words.{target_words}
use Rattle.b2_refusals.specs.declared.fault.Fault.{Fault}
use Rattle.b2_refusals.specs.declared.fault.Fault.TheVariants as faults
use Rattle.b2_refusals.specs.declared.fault.PlanRefusal.{PlanRefusal}
use Rattle.b2_refusals.specs.declared.fault.PlanRefusal.TheVariants as refusals
use Rattle.b2_top.specs.RefusalCauses.{IsOfPattern, HasCause, IsPatternRefused}
use Rattle.b2_top.specs.declared.answer.Answer.{Answer}
use Rattle.b2_top.specs.declared.answer.Answer.TheVariants as answers
use Rattle.b2_testing.specs.Adding.{with_tests}
use Rattle.b2_testing.specs.Readying.{IsEquippedFor}
use Rattle.jam_scope.specs.Worlds.{Worlds}
use Rattle.b2_project_walk.specs.declared.fault.LoadFault.{LoadFault}
use Rattle.b2_project_walk.specs.declared.fault.LoadFault.TheVariants as loading
use Rattle.jam_effects.specs.declared.fault.EvalFault.{EvalFault}
use Rattle.jam_effects.specs.declared.fault.EvalFault.TheVariants as evaluating
use Rattle.jam_meaning.specs.Rolled.{Job}
use Rattle.jam_meaning.specs.StepJobs.{job_of}
use Rattle.jam_journal.specs.Tables.{Text}
use Rattle.jam_values.specs.FileReadings.{OneReading}

-- ---- the same job

one_job : (a b : Job) → a.name ≡ b.name → a.owner ≡ b.owner → a.path ≡ b.path → a.line ≡ b.line → a.outs ≡ b.outs → a.ins ≡ b.ins → a.props ≡ b.props → a ≡ b
one_job a b n w p l o i s = λ k. record { name = n k; owner = w k; path = p k; outs = o k; ins = i k; props = s k; line = l k }

texts_decide : (xs ys : List Text) → (pointwise bytes_eq xs ys ≡ true → xs ≡ ys) × (xs ≡ ys → pointwise bytes_eq xs ys ≡ true)
texts_decide = pointwise_decides bytes_eq-Decides

same_job : (a b : Job) → is_same_job a b ≡ true → a ≡ b
same_job a b h =
    let s1 : Bool = bytes_eq a.name b.name in
    let s2 : Bool = bytes_eq a.owner b.owner in
    let s3 : Bool = bytes_eq a.path b.path in
    let s4 : Bool = eqb a.line b.line in
    let s5 : Bool = pointwise bytes_eq a.outs b.outs in
    let s6 : Bool = pointwise bytes_eq a.ins b.ins in
    let s7 : Bool = pointwise bytes_eq a.props b.props in
    let h6 = first_so (s1 && s2 && s3 && s4 && s5 && s6) s7 h in
    let h5 = first_so (s1 && s2 && s3 && s4 && s5) s6 h6 in
    let h4 = first_so (s1 && s2 && s3 && s4) s5 h5 in
    let h3 = first_so (s1 && s2 && s3) s4 h4 in
    let h2 = first_so (s1 && s2) s3 h3 in
    one_job a b
    ((bytes_eq-Decides a.name b.name).0 (first_so s1 s2 h2))
    ((bytes_eq-Decides a.owner b.owner).0 (second_so s1 s2 h2))
    ((bytes_eq-Decides a.path b.path).0 (second_so (s1 && s2) s3 h3))
    (eqb-true a.line b.line (second_so (s1 && s2 && s3) s4 h4))
    ((texts_decide a.outs b.outs).0 (second_so (s1 && s2 && s3 && s4) s5 h5))
    ((texts_decide a.ins b.ins).0 (second_so (s1 && s2 && s3 && s4 && s5) s6 h6))
    ((texts_decide a.props b.props).0 (second_so (s1 && s2 && s3 && s4 && s5 && s6) s7 h))

ok_not_err : {A B : Type 0} (a : A) (b : B) → ◌≡◌ {A = Result A B} (Ok a) (Err b) → ⊥
ok_not_err a b e = cc

none_some : {A : Type 0} (a : A) → ◌≡◌ {A = Option A} None (Some a) → ⊥
none_some a e = cc

-- ---- generation

-- what is refused of a project, by how its load ended
abbrev RefusesIn : Disk → EvalFault → Ending → Type 0
RefusesIn disk fault (loaded w found) = (worlds : Worlds) × IsEquippedFor found.tests w.state.worlds worlds
    × Refuses disk worlds (with_tests found) (request_sets found.registry []) (target_words found.registry []) fault
RefusesIn disk fault (fails why s) = ⊤

module _ (one_reading : OneReading) (one_meaning : OneMeaning) (one_ending : OneEnding) (one_plan : OnePlan EvalFault) (n : ℕ) (disk : Disk) (few : n ≤ 2000) (stands : HasJamroot n disk) where
  abbrev so : IsLoadedSo n disk
  so = loaded_so one_reading n disk few stands

  module _ (question : Question) (fault : EvalFault) (refused : IsRefused (drill_place ∷ []) (drill_walk so.lines so.left).state.worlds disk question fault) where
    -- the question is of none of the steps
    other_step : (i line : ℕ) → i < 2000 → is_step question (drill_job i line) ≡ false
    other_step i line small = go question refused.ends (is_step question (drill_job i line)) refl
      where
        go : (q : Question) → EndsWith (answers_in (refusing disk refused.left refused.pattern) (drill_place ∷ []) (drill_walk so.lines so.left).state.worlds) q fault → (b : Bool) → is_step q (drill_job i line) ≡ b → b ≡ false
        go (OfRule project rule place properties) ends b e = sym e
        go (OfStep job) ends false e = refl
        go (OfStep job) ends true e =
            absurd (ok_not_err (drill_answer i) fault
            (sym (text_answered (refusing disk refused.left refused.pattern) so.lines so.left i line small)
            ∙ ap (λ (j : Job). (answers_in (refusing disk refused.left refused.pattern) (drill_place ∷ []) (drill_walk so.lines so.left).state.worlds).step_text j) (same_job (drill_job i line) (job_of job) e) ∙ ends))

    with_question : IsDrill so.lines (project_with disk (drill_walk so.lines so.left).state.worlds (with_tests (drill_project so.lines)) question fault)
    with_question = record {
      few = lines_few one_reading n disk few stands;
      declared_is = without_tests so.lines;
      roots_are = refl;
      answers = λ i line less.
          let most : length so.lines ≤ 2000 = lines_few one_reading n disk few stands in
          ap (λ b. if b then Err fault else (answers_in (setting_of disk) (drill_place ∷ []) (drill_walk so.lines so.left).state.worlds).step_text (drill_job i line)) (other_step i line (omega (arith, less, most)))
          ∙ text_answered (setting_of disk) so.lines so.left i line (omega (arith, less, most));
    }

    no_plan_refused : (why : Generating EvalFault) → Plans (project_with disk (drill_walk so.lines so.left).state.worlds (with_tests (drill_project so.lines)) question fault) ([] ∷ []) [] (Err why) → ⊥
    no_plan_refused why plans =
        let found = drill_plans (project_with disk (drill_walk so.lines so.left).state.worlds (with_tests (drill_project so.lines)) question fault) so.lines with_question in
        ok_not_err found.0 why (one_plan (project_with disk (drill_walk so.lines so.left).state.worlds (with_tests (drill_project so.lines)) question fault) ([] ∷ []) [] (Ok found.0) (Err why) found.2 plans)

  refuses_not : (fault : EvalFault) → Refuses disk (drill_walk so.lines so.left).state.worlds (with_tests (drill_project so.lines)) ([] ∷ []) [] fault → ⊥
  refuses_not fault r = no_plan_refused r.question fault r.refused r.why r.plans

  not_in_generation : (lines : List Text) (fault : EvalFault) → IsRefusedInGeneration disk [] lines fault → ⊥
  not_in_generation lines fault g =
      let here : RefusesIn disk fault (loaded (drill_walk so.lines so.left) (drill_project so.lines)) =
      subst (RefusesIn disk fault) (one_ending (load_setting disk None) load_turns [] (loaded g.walk g.found) (loaded (drill_walk so.lines so.left) (drill_project so.lines)) g.loads (so.loads None))
      (g.worlds, g.equipped, g.refuses)
      in
      refuses_not fault (subst (λ (worlds : Worlds). Refuses disk worlds (with_tests (drill_project so.lines)) ([] ∷ []) [] fault) here.1 here.2)

  -- ---- all

  abbrev comes : ComesToDrill n disk
  comes = comes_to_drill one_reading n disk few stands

  not_meant : (left : ℕ) (pattern : Option Text) (lines : List Text) (why : Refusal) → Means disk (call_of left pattern) [] lines (Err why) → ⊥
  not_meant left pattern lines why means =
      ok_not_err comes.planned why (one_meaning disk (call_of left pattern) [] [] lines (Ok comes.planned) (Err why) (comes.means (call_of left pattern)) means).1

  -- a refusal as data is none of the files; and so is one of the project's own text
  prepared_not : (rest : EvalFault) (lines : List Text) (pattern : Option Text) (found : Option Refusal)
      → IfRefusal (IsRefusedInGeneration disk [] lines rest) found (λ why. (left : ℕ) × Means disk (call_of left pattern) [] lines (Err why)) → ⊥
  prepared_not rest lines pattern None h = not_in_generation lines rest h
  prepared_not rest lines pattern (Some why) h = not_meant h.0 pattern lines why h.1

  load_not : (fault : LoadFault) (lines : List Text) → IsOfPattern (faults.Plan (refusals.Load fault)) → HasCause disk [] lines (faults.Plan (refusals.Load fault)) → ⊥
  load_not loading.NoJamroot lines p h = none_some p.0 p.1
  load_not (loading.NoJamfile dir) lines p h = none_some p.0 p.1
  load_not (loading.TooBig path size) lines p h = none_some p.0 p.1
  load_not (loading.Lex path fault) lines p h = none_some p.0 p.1
  load_not (loading.Syntax path fault) lines p h = none_some p.0 p.1
  load_not (loading.Eval evaluating.Host) lines p h = none_some p.0 p.1
  load_not (loading.Eval evaluating.OutOfMemory) lines p h = none_some p.0 p.1
  load_not (loading.Eval (evaluating.At path line cause)) lines p h = not_meant h.0 _ lines _ h.1
  load_not (loading.Declaration path rule line) lines p h = none_some p.0 p.1
  load_not (loading.Feature path line fault) lines p h = none_some p.0 p.1
  load_not loading.Host lines p h = none_some p.0 p.1
  load_not loading.OutOfMemory lines p h = none_some p.0 p.1

  choice_not : (fault : ChoiceFault EvalFault) (lines : List Text) → IsOfPattern (faults.Plan (refusals.Generation (generating.NotChosen fault))) → HasCause disk [] lines (faults.Plan (refusals.Generation (generating.NotChosen fault))) → ⊥
  choice_not (choosing.NoAlternative target set) lines p h = none_some p.0 p.1
  choice_not (choosing.AmbiguousAlternative target set i k) lines p h = none_some p.0 p.1
  choice_not (choosing.Unstable target first second) lines p h = none_some p.0 p.1
  choice_not (choosing.BadAnswer target rule word) lines p h = none_some p.0 p.1
  choice_not (choosing.Eval fault) lines p h = prepared_not fault lines None (refusal_of (refusals.Generation (generating.NotChosen (choosing.Eval fault)))) h
  choice_not choosing.OutOfMemory lines p h = none_some p.0 p.1

  making_not : (fault : MakingFault EvalFault) (lines : List Text) → IsOfPattern (faults.Plan (refusals.Generation (generating.NotMade fault))) → HasCause disk [] lines (faults.Plan (refusals.Generation (generating.NotMade fault))) → ⊥
  making_not (making.NoChain from to) lines p h = none_some p.0 p.1
  making_not (making.TwoChains from to first second) lines p h = none_some p.0 p.1
  making_not (making.PathClash path) lines p h = none_some p.0 p.1
  making_not (making.LocationOutside path) lines p h = none_some p.0 p.1
  making_not (making.TooManySteps count) lines p h = none_some p.0 p.1
  making_not (making.Eval fault) lines p h = prepared_not fault lines None (refusal_of (refusals.Generation (generating.NotMade (making.Eval fault)))) h
  making_not making.OutOfMemory lines p h = none_some p.0 p.1

  generation_not : (fault : GenFault EvalFault) (lines : List Text) → IsOfPattern (faults.Plan (refusals.Generation fault)) → HasCause disk [] lines (faults.Plan (refusals.Generation fault)) → ⊥
  generation_not (generating.NoTarget name) lines p h = none_some p.0 p.1
  generation_not (generating.TargetCycle targets) lines p h = none_some p.0 p.1
  generation_not (generating.UsageConflict target feature first second) lines p h = none_some p.0 p.1
  generation_not (generating.NotChosen fault) lines p h = choice_not fault lines p h
  generation_not (generating.NotMade fault) lines p h = making_not fault lines p h
  generation_not generating.OutOfMemory lines p h = none_some p.0 p.1

  plan_not : (why : PlanRefusal) (lines : List Text) → IsOfPattern (faults.Plan why) → HasCause disk [] lines (faults.Plan why) → ⊥
  plan_not (refusals.Load fault) lines p h = load_not fault lines p h
  plan_not (refusals.Request fault) lines p h = none_some p.0 p.1
  plan_not (refusals.Generation fault) lines p h = generation_not fault lines p h

  refused_not : (fault : Fault) (lines : List Text) → IsOfPattern fault → HasCause disk [] lines fault → ⊥
  refused_not (faults.Plan why) lines p h = plan_not why lines p h
  refused_not (faults.Jam fault) lines p h = absurd h
  refused_not (faults.StepCycle list) lines p h = none_some p.0 p.1
  refused_not (faults.TooBig path size) lines p h = none_some p.0 p.1

  pub no_pattern : (answer : Answer) → IsPatternRefused disk [] answer → ⊥
  no_pattern answers.Ok h = h
  no_pattern (answers.Failed lists) h = h
  no_pattern (answers.Refused fault) h = refused_not fault h.1.0 h.0 h.1.1
  no_pattern answers.Usage h = h
  no_pattern answers.HostFault h = h
  no_pattern answers.OutOfMemory h = h
  no_pattern answers.SinkFault h = h
