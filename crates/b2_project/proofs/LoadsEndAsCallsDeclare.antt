-- What the calls of a walk declare, as the end of a load.
use Rattle.std.specs.Prelude.{◌⊎◌, map as each}
use Rattle.std.proofs.Common.{◌≡◌, ℕ, List, Option, Some, None, Result, Ok, Err, refl, ap, ◌∙◌, subst}
use Rattle.b2_declared.specs.declared.fault.DeclaringFault.{DeclaringFault}
use Rattle.b2_declared.specs.declared.whole.Declared.{Declared}
use Rattle.b2_declared.specs.Declaring.{declared}
use Rattle.b2_declared.specs.Laws.{visited}
use Rattle.b2_declared.specs.Numbered.{IsNumbered}
use Rattle.jam_journal.specs.Tables.{Text}
use Rattle.jam_meaning.specs.Settings.{Setting}
use Rattle.jam_natives.specs.Keeping.{Kept}
use Rattle.jam_natives.specs.Seeing.{kept_of}
use Rattle.b2_project_walk.specs.declared.fault.LoadFault.{LoadFault}
use Rattle.b2_project_walk.specs.declared.fault.LoadFault.TheVariants as faults
use Rattle.b2_project_walk.specs.declared.walk.WalkState.{WalkState}
use Rattle.b2_project_walk.specs.Faults.{refusal_of}
use Rattle.b2_project_walk.specs.Walking.{walk_of, IsRefusedBy, StopsBy}
use Rattle.b2_project_walk.specs.Walks.{Walk, Refusal, declaring, Course, goes_on, refused, state_in}
use Rattle.b2_project.specs.declared.project.Project.{Project}
use Rattle.b2_project.specs.Loads.{Ending, loaded, fails, lines_of, with_declared, declare, then_declare, Loads}
use Rattle.b2_project.specs.declared.load.Loaded.{Loaded}
use Rattle.b2_project.specs.Loading.{IsRefused, IsLoaded, HasParentsBefore}
use Rattle.b2_project.specs.LoadParts.{IsRefusalOf, ThroughComesTo}
use Rattle.b2_project.proofs.FirstToolsetCallDecides.{refusal_is_plain, refusal_says}

-- the project is what the walk left, with what its calls declare
pub record IsMadeOf (w : WalkState) (project : Project) : Type 0 where
  pub world : project.world ≡ w.world
  pub natives : project.natives ≡ w.natives
  pub found : declared w.visits w.calls.items ≡ Ok project.declared

-- the project that a walk's calls declare, or the fault of the first one that is refused
abbrev pub IsProjectOf : WalkState → Result Project LoadFault → Type 0
IsProjectOf w (Ok project) = IsMadeOf w project × IsNumbered project.declared × HasParentsBefore project.declared × (each visited project.declared.places ≡ w.visits)
IsProjectOf w (Err fault) = IsRefusalOf (declared w.visits w.calls.items) fault

-- after a walk that is whole, that project; else the fault
abbrev pub IsResultOf : WalkState → Result (Unit {0}) LoadFault → Result Project LoadFault → Type 0
IsResultOf w (Ok u) result = IsProjectOf w result
IsResultOf w (Err fault) result = result ≡ Err fault

-- the lines are those that were recorded, or no memory was left
abbrev pub IsEnded : WalkState → Result (Unit {0}) LoadFault → Loaded → Type 0
IsEnded w ended made = (made.result ≡ Err faults.OutOfMemory) ⊎ ((made.echoes ≡ (kept_of w.natives).echoes) × IsResultOf w ended made.result)

-- a fault that is none of the host
plainly : (setting : Setting Kept) (words : List Text) (before after : ℕ) (echoes : List Text) (fault : LoadFault) → (fault ≡ faults.Host → ⊥) → IsRefused setting words before after echoes (refusal_of fault)
    → IsLoaded setting words before after echoes (Err fault)
plainly setting words before after echoes faults.Host plain h = absurd (plain refl)
plainly setting words before after echoes fault plain h = h

-- declaring records no line
declared_lines : (w : Walk) (found : Result Declared DeclaringFault) → lines_of (with_declared w found) ≡ w.state.kept.echoes
declared_lines w (Ok found) = refl
declared_lines w (Err fault) = refl

course_lines : (course : Course) → lines_of (then_declare course) ≡ (state_in course).kept.echoes
course_lines (goes_on w) = declared_lines w (declared w.visits w.calls)
course_lines (refused why s) = refl

module _ (setting : Setting Kept) (words : List Text) (left : ℕ) where
  -- where the calls are declared, the load ends with what they declare
  ends : (course : Course) → ThroughComesTo setting left words course → Loads setting left words (then_declare course)
  ends course (whole, walk, after) = (whole, walk, course, after, refl)

  ends_as : (w : Walk) (ending : Ending) → ThroughComesTo setting left words (goes_on w) → declare w ≡ ending → Loads setting left words ending
  ends_as w ending through is = subst (Loads setting left words) is (ends (goes_on w) through)

  module _ (w : WalkState) (after : ℕ) (through : ThroughComesTo setting left words (goes_on (walk_of w after))) where
    made : (project : Project) → IsMadeOf w project → IsLoaded setting words left after (kept_of w.natives).echoes (Ok project)
    made project made_of = (
      walk_of w after,
      project.declared,
      ends_as (walk_of w after) (loaded (walk_of w after) project.declared) through (ap (with_declared (walk_of w after)) made_of.found),
      record { world = made_of.world; natives = ap kept_of made_of.natives; declared = refl },
      refl,
      refl,
    )

    refused_so : (fault : LoadFault) → IsRefusalOf (declared w.visits w.calls.items) fault → IsLoaded setting words left after (kept_of w.natives).echoes (Err fault)
    refused_so fault h =
        plainly setting words left after (kept_of w.natives).echoes fault (refusal_is_plain (declared w.visits w.calls.items) fault h)
        (refusal_says (declared w.visits w.calls.items) (IsRefused setting words left after (kept_of w.natives).echoes) tt (λ found e. (
          (walk_of w after).state,
          ends_as (walk_of w after) (fails (declaring found) (walk_of w after).state) through (ap (with_declared (walk_of w after)) e),
          refl,
          refl,
        )) fault h)

    pub declared_so : (result : Result Project LoadFault) → IsProjectOf w result → IsLoaded setting words left after (kept_of w.natives).echoes result
    declared_so (Ok project) h = made project h.0
    declared_so (Err fault) h = refused_so fault h

  -- the load was refused before
  refused_at : (w : WalkState) (after : ℕ) (why : Option Refusal) → IsRefusedBy why (ThroughComesTo setting left words) (walk_of w after).state → IsRefused setting words left after (kept_of w.natives).echoes why
  refused_at w after None g = tt
  refused_at w after (Some why) g = ((walk_of w after).state, ends (refused why (walk_of w after).state) g, refl, refl)

  pub stopped_so : (w : WalkState) (after : ℕ) (fault : LoadFault) → StopsBy fault (ThroughComesTo setting left words) (walk_of w after).state
      → IsLoaded setting words left after (kept_of w.natives).echoes (Err fault)
  stopped_so w after faults.Host h = λ ending (whole, walk, course, rest, is).
      let (more, lines) = h course (whole, walk, rest) in
      (more, ap lines_of is ∙ course_lines course ∙ lines)
  stopped_so w after fault h = refused_at w after (refusal_of fault) h
