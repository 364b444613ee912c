-- What a walk that began new promises at its end: no step, frame or mark is open, and its calls are of its projects.
use Rattle.std.proofs.Common.{◌≡◌, ℕ, false, List, [], ◌∷◌, Some, None, Result, Ok, Err, is_some, OnOk, IfErr, refl, sym, ap, ◌∙◌, subst, arith}
use Rattle.std.specs.FinMap as map
use Rattle.jam_journal.specs.Tables.{Text}
use Rattle.jam_journal.specs.Scopes.{Frame}
use Rattle.jam_scope.specs.Worlds.{Worlds}
use Rattle.jam_meaning.specs.Laws.{bounds, SameFrames}
use Rattle.jam_effects.specs.declared.turns.Turns.{Turns}
use Rattle.b2_declared.specs.declared.visit.Visit.{Visit}
use Rattle.b2_declared.specs.declared.visit.Call.{Call}
use Rattle.b2_host.specs.Outside.{Outside}
use Rattle.b2_project_walk.specs.declared.fault.LoadFault.{LoadFault}
use Rattle.b2_project_walk.specs.declared.walk.WalkState.{WalkState}
use Rattle.b2_project_walk.specs.Faults.{IsOfWalk}
use Rattle.b2_project_walk.specs.Walks.{Walk, no_walk, Course, load_root, ComesTo}
use Rattle.b2_project_walk.specs.Walking.{walk_of, IsNew, Follows, TellsWalk, AreOfProjects, AreVisited, none_yet, AreAllVisited}
use Rattle.b2_project_walk.specs.WalkParts.{stand, ArePassed, AreInLine, Agrees, IsOfWalkIf, Does, walked_all}
use Rattle.b2_project_walk.proofs.CallsAreOfVisitedProjects.{of_visited}

no_line : (left : ℕ) → AreInLine (no_walk left)
no_line left = record {
  modules = λ place visit at. cc;
  parents = λ owner above at. let none : None ≡ Some above = sym (map.get-empty _ (owner, [])) ∙ at in cc;
}

none_passed : (visits : List Visit) (passed : ℕ) (dirs : List Text) → dirs ≡ [] → passed ≡ 0 → ArePassed visits passed dirs
none_passed visits passed dirs none zero =
    subst (λ (ds : List Text). ArePassed visits passed ds) (sym none) (subst (λ (n : ℕ). ArePassed visits n []) (sym zero) (record { visited = refl; short = omega arith }))

pub new_passed : (w : WalkState) → IsNew w → ArePassed w.visits w.named.passed w.named.dirs.items
new_passed w is = none_passed w.visits w.named.passed w.named.dirs.items (ap (λ (x : Walk). x.named) (is.walk 0)) is.passed

pub new_visited : (w : WalkState) → IsNew w → AreVisited w.visits w.calls.items w.named.dirs.items
new_visited w is = subst (λ (x : Walk). AreVisited x.visits x.calls x.named) (sym (is.walk 0)) none_yet

follows : (result : Result (Unit {0}) LoadFault) (comes : Course → Type 0) (w : Walk) → Agrees result comes w → Follows result comes w
follows (Ok u) comes w h = h.0
follows (Err fault) comes w h = h

-- where the files are visible
pub new_told : (words : List Text) (old new : WalkState) (before after : Turns) (outside later : Outside) (result : Result (Unit {0}) LoadFault) → IsNew old
    → Does (walked_all words) (stand old before outside) (stand new after later) result → TellsWalk outside words before after new result
new_told words old new before after outside later result is does setting right refuses =
    subst (λ (w : Walk). Follows result (ComesTo setting words (load_root setting w)) (walk_of new after.left)) (is.walk before.left)
    (follows result (walked_all words setting (walk_of old before.left)) (walk_of new after.left)
    (does.told setting right refuses (subst AreInLine (sym (is.walk before.left)) (no_line before.left))))

pub new_projects : (words : List Text) (visits : List Visit) (calls : List Call) (result : Result (Unit {0}) LoadFault) → OnOk result (AreAllVisited words visits calls) → OnOk result (AreOfProjects visits calls)
new_projects words visits calls (Ok u) h = of_visited visits calls h.named h.visited
new_projects words visits calls (Err e) h = tt

pub new_fault : (result : Result (Unit {0}) LoadFault) → IsOfWalkIf result → IfErr result IsOfWalk
new_fault (Ok u) h = tt
new_fault (Err e) h = h

no_frames : (frames : List Frame) → bounds frames ≡ [] → frames ≡ []
no_frames [] h = refl
no_frames (frame ∷ frames) h = cc

first_worlds_of : (w : WalkState) → IsNew w → w.world ≡ (no_walk 0).state.worlds
first_worlds_of w is = ap (λ (x : Walk). x.state.worlds) (is.walk 0)

pub new_step : (old new : WalkState) (left later : ℕ) → IsNew old → SameFrames (walk_of old left).state (walk_of new later).state → is_some new.world.now.step ≡ false
new_step old new left later is h = h.2 ∙ ap (λ (ws : Worlds). is_some ws.now.step) (first_worlds_of old is)

pub new_frames : (old new : WalkState) (left later : ℕ) → IsNew old → SameFrames (walk_of old left).state (walk_of new later).state → new.world.now.scopes.frames ≡ []
new_frames old new left later is h = no_frames new.world.now.scopes.frames (h.0 ∙ ap (λ (ws : Worlds). bounds ws.now.scopes.frames) (first_worlds_of old is))

pub new_marked : (old new : WalkState) (left later : ℕ) → IsNew old → SameFrames (walk_of old left).state (walk_of new later).state → new.world.marked ≡ []
new_marked old new left later is h = h.1 ∙ ap (λ (ws : Worlds). ws.marked) (first_worlds_of old is)
