-- The maker of a file is a step of the plan, and of its schedule.
use Rattle.std.proofs.Common.{◌≡◌, ℕ, List, Some, sym, ◌∙◌, arith}
use Rattle.std.proofs.lemmas.Option.{slice_get_within}
use Rattle.b2_plan.specs.declared.step.Step.{Step}
use Rattle.b2_plan.specs.declared.plan.Plan.{Plan}
use Rattle.b2_plan.specs.Plans.{step_at}
use Rattle.b2_runs.proofs.NumberHasOneStep.{place_of}
use Rattle.b2_sched.specs.Schedules.{Schedule, IsStep}
use Rattle.b2_facts.specs.declared.file_facts.FileFacts.{FileFacts}
use Rattle.b2_facts.specs.Facts.{Knowledge, IsAbout, file_at}
use Rattle.b2_reach.specs.Steps.{IsOfPlan}
use Rattle.b2_reach.proofs.FoundMakerMakesPath.{maker_makes}
use Rattle.b2_reach.proofs.ReachGrows.{has_path}

-- the maker of a file is a step of the plan
pub maker_step : (steps : List Step) (roots : List (List ℕ)) (f : Knowledge) (n : ℕ) (file : FileFacts) (number : ℕ) → IsAbout steps roots f → file_at f n ≡ Some file → file.maker ≡ Some number → (step : Step) × (step_at steps number ≡ Some step)
maker_step steps roots f n file number about at made =
    let (path, path_is) = has_path steps roots f n file about at in
    let (step, makes) = maker_makes steps path number (sym (about.planned n path file (record { path_is = path_is; file_is = at })).maker ∙ made) in
    (step, makes.at)

-- a step of the plan is one of its schedule
pub step_scheduled : (plan : Plan) (s : Schedule) (number : ℕ) (step : Step) → IsOfPlan plan s → step_at plan.steps number ≡ Some step → IsStep s number
step_scheduled plan s number step of at =
    let (place, is, at_place) = place_of plan.steps number step at in
    let low = slice_get_within plan.steps place step at_place in
    record { some = omega (arith, is); within = omega (arith, is, low, of) }

pub maker_scheduled : (plan : Plan) (s : Schedule) (f : Knowledge) (n : ℕ) (file : FileFacts) (number : ℕ) → IsAbout plan.steps plan.roots f → IsOfPlan plan s → file_at f n ≡ Some file → file.maker ≡ Some number → IsStep s number
maker_scheduled plan s f n file number about of at made =
    let (step, is) = maker_step plan.steps plan.roots f n file number about at made in
    step_scheduled plan s number step of is
