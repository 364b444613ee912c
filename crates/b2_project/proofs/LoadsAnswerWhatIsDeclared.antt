-- What a walk's calls declare, and the answer of a load.
use Rattle.std.proofs.Common.{◌≡◌, List, map, length, Result, Ok, Err, inl, inr, refl, sym, ap, subst, ◌∙◌}
use Rattle.std.proofs.lemmas.List.{length-map}
use Rattle.b2_declared.specs.declared.visit.Visit.{Visit}
use Rattle.b2_declared.specs.declared.visit.Call.{Call}
use Rattle.b2_declared.specs.declared.whole.Declared.{Declared}
use Rattle.b2_declared.specs.Declaring.{declared}
use Rattle.b2_declared.specs.Laws.{visited, IsSound}
use Rattle.b2_project_walk.specs.declared.walk.WalkState.{WalkState}
use Rattle.b2_project_walk.specs.declared.fault.LoadFault.{LoadFault}
use Rattle.b2_project_walk.specs.Directories.{HaveParentsBefore}
use Rattle.b2_project.specs.declared.load.WalkReport.{WalkReport}
use Rattle.b2_project.specs.declared.load.Loaded.{Loaded}
use Rattle.b2_project.specs.LoadParts.{IsDeclaredOf, IsFoundOf, IsToldOf, project_in}
use Rattle.b2_project.proofs.LoadsEndAsCallsDeclare.{IsResultOf, IsEnded}

pub declared_of : (w : WalkState) (found : Declared) (visits : List Visit) (calls : List Call) → visits ≡ w.visits → HaveParentsBefore visits → calls ≡ w.calls.items
    → declared visits calls ≡ Ok found → map visited found.places ≡ visits → IsSound (length visits) found.places found.targets found.tests found.indirect
    → IsDeclaredOf w (Ok found)
declared_of w found visits calls same parents all is places sound = (
  subst (λ (cs : List Call). declared w.visits cs ≡ Ok found) all (subst (λ (vs : List Visit). declared vs calls ≡ Ok found) same is),
  subst (λ n. IsSound n found.places found.targets found.tests found.indirect) (ap (λ (vs : List Visit). length vs) (sym places) ∙ length-map found.places visited) sound,
  subst HaveParentsBefore (sym places) parents,
  places ∙ same,
)

-- the project that is made of it
made_so : (w : WalkState) (ended : Result (Unit {0}) LoadFault) (found : Result Declared LoadFault) → IsFoundOf w ended found → IsResultOf w ended (project_in w found)
made_so w (Ok u) (Ok found) h = (record { world = refl; natives = refl; found = h.0 }, h.1, h.2, h.3)
made_so w (Ok u) (Err fault) h = h
made_so w (Err fault) found h = ap (project_in w) h

pub ended_by : (w : WalkState) (ended : Result (Unit {0}) LoadFault) (told : WalkReport) (made : Loaded) → IsToldOf w ended told → made.echoes ≡ told.echoes → made.result ≡ project_in w told.found → IsEnded w ended made
ended_by w ended told made (inl none) echoes is = inl (is ∙ ap (project_in w) none)
ended_by w ended told made (inr h) echoes is = inr (echoes ∙ h.0, subst (IsResultOf w ended) (sym is) (made_so w ended told.found h.1))
