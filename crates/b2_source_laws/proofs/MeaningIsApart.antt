-- The outputs of the plan that files and words come to are apart: `bin` stays an output root, and no two generators have one id.
use Rattle.std.proofs.Common.{◌≡◌, ℕ, List, Option, Result, Ok, Err, refl, sym, subst}
use Rattle.b2_host.specs.Disks.{Disk}
use Rattle.b2_declared.specs.declared.fault.DeclaringFault.{DeclaringFault}
use Rattle.b2_declared.specs.declared.whole.Declared.{Declared}
use Rattle.b2_declared.specs.Declaring.{declared}
use Rattle.b2_plan.specs.Plans.{Apart}
use Rattle.b2_props.specs.Words.{target_words}
use Rattle.b2_props.specs.Requests.{request_sets}
use Rattle.jam_effects.specs.declared.fault.EvalFault.{EvalFault}
use Rattle.jam_meaning.specs.Settings.{Setting}
use Rattle.jam_journal.specs.Tables.{Text}
use Rattle.jam_natives.specs.Keeping.{Kept}
use Rattle.b2_project_walk.specs.Walks.{Walk, declaring, Course, goes_on, refused}
use Rattle.b2_project.specs.Loads.{loaded, fails, with_declared, then_declare, Loads}
use Rattle.b2_generate.specs.Planning.{Planned}
use Rattle.b2_generation_laws.specs.Laws.{PlansAreApart, IdsAreDistinct}
use Rattle.b2_testing.specs.Adding.{with_tests}
use Rattle.b2_prepare.specs.Meaning.{Refusal, of_load, of_request, of_generation, load_turns, load_setting, project_of, Means}
use Rattle.b2_prepare.specs.Meaning.{not_loaded, not_asked, not_planned, planned}
use Rattle.b2_source_laws.specs.Laws.{MeaningIsApart}
use Rattle.b2_source_laws.proofs.RootsStayInWalks.{load_settles, bin_stays}

-- what a load has declared is what its calls declare
one_walk : (w other : Walk) (found made : Declared) → loaded w found ≡ loaded other made → (w ≡ other) × (found ≡ made)
one_walk w other found made e = ((let one : w ≡ other = cc in one), (let one : found ≡ made = cc in one))

by_declaring : (w x : Walk) (found : Declared) (r : Result Declared DeclaringFault) → declared x.visits x.calls ≡ r → loaded w found ≡ with_declared x r → declared w.visits w.calls ≡ Ok found
by_declaring w x found (Ok made) is e =
    let one = one_walk w x found made e in
    subst (λ (y : Walk). declared y.visits y.calls ≡ Ok found) (sym one.0) (subst (λ d. declared x.visits x.calls ≡ Ok d) (sym one.1) is)
by_declaring w x found (Err fault) is e = let clash : loaded w found ≡ fails (declaring fault) x.state = e in cc

by_course : (w : Walk) (found : Declared) (course : Course) → loaded w found ≡ then_declare course → declared w.visits w.calls ≡ Ok found
by_course w found (goes_on x) e = by_declaring w x found (declared x.visits x.calls) refl e
by_course w found (refused why s) e = let clash : loaded w found ≡ fails why s = e in cc

load_declares : (setting : Setting Kept) (left : ℕ) (words : List Text) (w : Walk) (found : Declared) → Loads setting left words (loaded w found) → declared w.visits w.calls ≡ Ok found
load_declares setting left words w found (whole, comes, course, after, is) = by_course w found course is

module _ (distinct : IdsAreDistinct) (apart : PlansAreApart EvalFault) (disk : Disk) (refusing : Option (ℕ × Text)) (words : List Text) where
  of_means : (lines : List Text) (result : Result Planned Refusal) (plan : Planned) → Means disk refusing words lines result → result ≡ Ok plan → Apart plan.steps plan.roots
  of_means lines result plan (not_loaded why s ends) is = let clash : Err (of_load why) ≡ Ok plan = is in cc
  of_means lines result plan (not_asked w found why ends asked) is = let clash : Err (of_request why) ≡ Ok plan = is in cc
  of_means lines result plan (not_planned w found worlds why ends equips asked plans) is = let clash : Err (of_generation why) ≡ Ok plan = is in cc
  of_means lines result plan (planned w found worlds made ends equips asked plans) is =
      let one : made ≡ plan = cc in
      let settled = load_settles (load_setting disk refusing) refl load_turns words w found ends in
      let kept = bin_stays found.tests w.state.worlds worlds equips settled.2 in
      let ids = distinct w.visits w.calls found (load_declares (load_setting disk refusing) load_turns words w found ends) in
      subst (λ (p : Planned). Apart p.steps p.roots) one
      (apart (project_of disk worlds (with_tests found)) (request_sets found.registry words) (target_words found.registry words) made kept ids plans)

pub meaning_is_apart : IdsAreDistinct → PlansAreApart EvalFault → MeaningIsApart
meaning_is_apart distinct apart disk refusing words lines plan means = of_means distinct apart disk refusing words lines (Ok plan) plan means refl
