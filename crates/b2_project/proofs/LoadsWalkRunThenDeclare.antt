-- The walk, the toolset's build text and the declarations, one after another.
use Rattle.std.proofs.Common.{◌≡◌, ◌≤◌, ℕ, List, [], codes, Option, Some, None, Result, Ok, Err, is_some, false, inl, inr, refl, sym, ap, ◌∙◌, subst, arith}
use Rattle.std.specs.Prelude.{IfOk, IfErr}
use Rattle.b2_host.specs.Outside.{Outside}
use Rattle.b2_host.specs.OutsideLaws.{keeps_then, then_rose}
use Rattle.jam_journal.specs.Tables.{Text}
use Rattle.jam_meaning.specs.Refused.{Refuses}
use Rattle.jam_meaning.specs.RefusedLaws.{refuses_first, refuses_second}
use Rattle.jam_meaning.specs.Settings.{Setting}
use Rattle.jam_meaning.specs.States.{State}
use Rattle.jam_natives.specs.Keeping.{Kept}
use Rattle.jam_natives.specs.Rows.{jam_meaning}
use Rattle.jam_natives.specs.Seeing.{kept_of}
use Rattle.b2_project_walk.proofs.TextRunsBesideProjects.{follows_from}
use Rattle.jam_effects.specs.declared.turns.Turns.{Turns}
use Rattle.jam_effects.specs.Machines.{folder_of}
use Rattle.b2_declared.specs.declared.visit.Visit.{Visit}
use Rattle.b2_declared.specs.declared.visit.Call.{Call}
use Rattle.b2_declared.specs.declared.fault.DeclaringFault.{DeclaringFault}
use Rattle.b2_declared.specs.Carrying.{tables_of}
use Rattle.b2_declared.specs.Declaring.{declared}
use Rattle.b2_project_walk.specs.declared.fault.LoadFault.{LoadFault}
use Rattle.b2_project_walk.specs.declared.fault.LoadFault.TheVariants as faults
use Rattle.b2_project_walk.specs.declared.walk.WalkState.{WalkState}
use Rattle.b2_project_walk.specs.Faults.{refusal_of, refused_of, IsWhole, IsOfWalk}
use Rattle.b2_project_walk.specs.Finding.{Looked, CountsFault, Counts}
use Rattle.b2_project_walk.specs.Walking.{walk_of, IsSettingFor, IsRefusedBy, StopsBy, WalkComesTo, TellsWalk, AreOfProjects, AreAllVisited}
use Rattle.b2_project_walk.specs.Walks.{Walk, Refusal, Course, goes_on, refused, state_in, no_walk, load_root}
use Rattle.b2_project_walk.specs.Laws.{AddsLines}
use Rattle.b2_project_walk.proofs.LinesAreOnlyAdded.{lines_same, lines_then, text_adds}
use Rattle.b2_project_walk.proofs.OneCourse.{one_course}
use Rattle.b2_project.specs.declared.load.Loaded.{Loaded}
use Rattle.b2_project.specs.declared.project.Project.{Project}
use Rattle.b2_project.specs.Loads.{up_to_toolset, IsToolsetRun, IsEquipped, IsAfterWalk}
use Rattle.b2_project.specs.Loading.{HasParentsBefore, IsLoaded, TellsLoad, IsDeclaredBy, IsOfCalls, AreRecordedIn}
use Rattle.b2_declared.specs.Numbered.{IsNumbered}
use Rattle.b2_project.specs.LoadParts.{IsOfThese, IsOfTheseIf, equipped, RunsToolset, ThroughComesTo, IsClosed, AreOwned, AreAll, GoesThrough}
use Rattle.b2_project.proofs.LoadsEndAsCallsDeclare.{IsProjectOf, IsResultOf, IsEnded, declared_so, stopped_so}
use Rattle.b2_project.proofs.FirstToolsetCallDecides.{plain_refusal, refusal_of_these}
use Rattle.b2_project.proofs.ToolsetRunsAfterTheWalk.{whole_walk}

-- ---- the walk, and then the build text

pub looked_then : (a b c : Outside) → Looked a b → Looked b c → Looked a c
looked_then a b c one two = record { disk = two.disk ∙ one.disk; children = two.children ∙ one.children; keeps = keeps_then a b c one.keeps two.keeps }

-- the count of faults was as before, and then a call counted
counted_fault : (e : LoadFault) (a b c : Outside) → b.faults ≡ a.faults → CountsFault e b c → CountsFault e a c
counted_fault faults.Host a b c same h = then_rose a.faults b.faults c.faults (omega (arith, same)) h
counted_fault faults.OutOfMemory a b c same h = tt
counted_fault faults.NoJamroot a b c same h = h ∙ same
counted_fault (faults.NoJamfile dir) a b c same h = h ∙ same
counted_fault (faults.TooBig path size) a b c same h = h ∙ same
counted_fault (faults.Lex path fault) a b c same h = h ∙ same
counted_fault (faults.Syntax path fault) a b c same h = h ∙ same
counted_fault (faults.Eval fault) a b c same h = h ∙ same
counted_fault (faults.Declaration path rule line) a b c same h = h ∙ same
counted_fault (faults.Feature path line fault) a b c same h = h ∙ same

counted : (result : Result (Unit {0}) LoadFault) (a b c : Outside) → b.faults ≡ a.faults → Counts result b c → Counts result a c
counted (Ok x) a b c same h = h ∙ same
counted (Err e) a b c same h = counted_fault e a b c same h

-- what is so at first is so later
setting_later : (setting : Setting Kept) (first last : ℕ) (from to : Outside) → last ≡ first → Looked from to → IsSettingFor setting first from → IsSettingFor setting last to
setting_later setting first last from to same looked right = record { budget = same ∙ right.budget; natives = right.natives; folder = ap folder_of looked.disk ∙ right.folder; right = right.right }

stopped_before : (setting : Setting Kept) (left : ℕ) (words : List Text) (why : Option Refusal) (s : State Kept) → IsRefusedBy why (WalkComesTo setting left words) s → IsRefusedBy why (ThroughComesTo setting left words) s
stopped_before setting left words None s h = tt
stopped_before setting left words (Some why) s h = (refused why s, h, refl)

-- what comes after the walk only adds lines
run_adds : {X : Type 0} (setting : Setting Kept) → setting.natives ≡ jam_meaning → (tables : Result X DeclaringFault) (command : Option Text) (w : Walk) (course : Course) → IsToolsetRun setting tables command w course
    → AddsLines w.state (state_in course)
run_adds setting natives (Err fault) command w course is = subst (λ c. AddsLines w.state (state_in c)) (sym is) (lines_same w.state)
run_adds setting natives (Ok tables) command w course (reading, reads, is) = subst (λ c. AddsLines w.state (state_in c)) (sym is) (text_adds setting natives (codes "gcc") reading w)

equipped_adds : (setting : Setting Kept) → setting.natives ≡ jam_meaning → (found : Option (List Call × Option Text)) (w : Walk) (course : Course) → IsEquipped setting found w course → AddsLines w.state (state_in course)
equipped_adds setting natives None w course is = subst (λ c. AddsLines w.state (state_in c)) (sym is) (lines_same w.state)
equipped_adds setting natives (Some found) w course h = run_adds setting natives (tables_of w.visits found.0) found.1 w course h

after_adds : (setting : Setting Kept) → setting.natives ≡ jam_meaning → (whole course : Course) → IsAfterWalk setting whole course → AddsLines (state_in whole) (state_in course)
after_adds setting natives (goes_on w) course h = equipped_adds setting natives (up_to_toolset w.calls) w course h
after_adds setting natives (refused why s) course is = subst (λ c. AddsLines s (state_in c)) (sym is) (lines_same s)

stops_before : (setting : Setting Kept) → setting.natives ≡ jam_meaning → (left : ℕ) (words : List Text) (fault : LoadFault) (s : State Kept) → StopsBy fault (WalkComesTo setting left words) s
    → StopsBy fault (ThroughComesTo setting left words) s
stops_before setting natives left words faults.Host s h = λ course (whole, walk, after). lines_then s (state_in whole) (state_in course) (h whole walk) (after_adds setting natives whole course after)
stops_before setting natives left words fault s h = stopped_before setting left words (refusal_of fault) s h

-- a walk has no fault of declaring
none_of_calls : (words : List Text) (fault : LoadFault) → IsOfWalk fault → IsOfCalls words fault
none_of_calls words faults.Host h = tt
none_of_calls words faults.OutOfMemory h = tt
none_of_calls words faults.NoJamroot h = tt
none_of_calls words (faults.NoJamfile dir) h = tt
none_of_calls words (faults.TooBig path size) h = tt
none_of_calls words (faults.Lex path fault) h = tt
none_of_calls words (faults.Syntax path fault) h = tt
none_of_calls words (faults.Eval fault) h = tt
none_of_calls words (faults.Declaration path rule line) h = absurd h
none_of_calls words (faults.Feature path line fault) h = absurd h

pub walk_stopped : (words : List Text) (w : WalkState) (first last : Turns) (from to : Outside) (fault : LoadFault) → TellsWalk from words first last w (Err fault) → IsOfWalk fault → IsClosed w
    → last.left ≤ first.left → last.budget ≡ first.budget → Looked from to → CountsFault fault from to → GoesThrough words w first last from to (Err fault)
walk_stopped words w first last from to fault told of_walk closed turns budget looked counts = record {
  told = λ setting right refuses. stops_before setting right.natives first.left words fault (walk_of w last.left).state (told setting right refuses);
  owned = tt;
  all = none_of_calls words fault of_walk;
  closed = closed;
  whole = whole_walk fault of_walk;
  turns = turns;
  budget = budget;
  looked = looked;
  counts = counts;
}

owned_later : (result : Result (Unit {0}) LoadFault) (w v : WalkState) → AreOfProjects w.visits w.calls.items → v.visits ≡ w.visits → v.calls ≡ w.calls → AreOwned result v
owned_later (Ok u) w v owned visits calls = subst (λ vs. AreOfProjects vs v.calls.items) (sym visits) (subst (λ cs. AreOfProjects w.visits cs.items) (sym calls) owned)
owned_later (Err fault) w v owned visits calls = tt

-- a fault of declaring is that of calls where all was visited
these_are_all : (words : List Text) (visits : List Visit) (calls : List Call) (fault : LoadFault) → AreAllVisited words visits calls → IsOfThese visits calls fault → IsOfCalls words fault
these_are_all words visits calls faults.Host all h = tt
these_are_all words visits calls faults.OutOfMemory all h = tt
these_are_all words visits calls faults.NoJamroot all h = tt
these_are_all words visits calls (faults.NoJamfile dir) all h = tt
these_are_all words visits calls (faults.TooBig path size) all h = tt
these_are_all words visits calls (faults.Lex path fault) all h = tt
these_are_all words visits calls (faults.Syntax path fault) all h = tt
these_are_all words visits calls (faults.Eval fault) all h = tt
these_are_all words visits calls (faults.Declaration path rule line) all h = record { visits = visits; calls = calls; all = all; is = h }
these_are_all words visits calls (faults.Feature path line fault) all h = record { visits = visits; calls = calls; all = all; is = h }

all_later : (words : List Text) (result : Result (Unit {0}) LoadFault) (w v : WalkState) → AreAllVisited words w.visits w.calls.items → v.visits ≡ w.visits → v.calls ≡ w.calls → IsOfTheseIf w.visits w.calls.items result
    → AreAll words result v
all_later words (Ok u) w v all visits calls h = subst (λ vs. AreAllVisited words vs v.calls.items) (sym visits) (subst (λ cs. AreAllVisited words w.visits cs.items) (sym calls) all)
all_later words (Err fault) w v all visits calls h = these_are_all words w.visits w.calls.items fault all h

pub went_through : (words : List Text) (w v : WalkState) (first middle last : Turns) (from there to : Outside) (result : Result (Unit {0}) LoadFault)
    → TellsWalk from words first middle w (Ok tt) → AreOfProjects w.visits w.calls.items → AreAllVisited words w.visits w.calls.items → IsClosed w → middle.left ≤ first.left → middle.budget ≡ first.budget → Looked from there → there.faults ≡ from.faults
    → RunsToolset w v middle last there to result → GoesThrough words v first last from to result
went_through words w v first middle last from there to result told owned all closed turns budget looked counts two = record {
  told = λ setting right refuses.
      follows_from result (ThroughComesTo setting first.left words) (equipped setting (walk_of w middle.left)) (walk_of v last.left)
      (let walked = told setting right (refuses_first setting.refused first.left middle.left last.left (refused_of result) two.turns two.took refuses) in (
        λ course h. (goes_on (walk_of w middle.left), walked, h),
        λ course (whole, walk, after). subst (λ c. IsAfterWalk setting c course) (one_course setting words (load_root setting (no_walk first.left)) whole (goes_on (walk_of w middle.left)) walk walked) after,
      ))
      (two.told setting (setting_later setting first.budget middle.budget from there budget looked right) (refuses_second setting.refused first.left middle.left last.left (refused_of result) turns refuses));
  owned = owned_later result w v owned two.stays.visits two.stays.calls;
  all = all_later words result w v all two.stays.visits two.stays.calls two.fault;
  closed = record { frames = two.stays.frames closed.frames; step = two.stays.step ∙ closed.step; marked = two.stays.marked ∙ closed.marked };
  whole = two.whole;
  turns = (let p = two.turns in omega (arith, p, turns));
  budget = two.budget ∙ budget;
  looked = looked_then from there to looked two.looked;
  counts = counted result from there to counts two.counts;
}

-- ---- the declarations

-- declaring refuses no pattern
none_refused : (w : WalkState) (result : Result Project LoadFault) → IsProjectOf w result → refused_of result ≡ None
none_refused w (Ok project) h = refl
none_refused w (Err fault) h = (plain_refusal (declared w.visits w.calls.items) fault h).none

module _ (words : List Text) (w : WalkState) (first last : Turns) (from to : Outside) where
  told_result : (ended : Result (Unit {0}) LoadFault) (result : Result Project LoadFault) → GoesThrough words w first last from to ended → IsResultOf w ended result → TellsLoad from words first last (kept_of w.natives).echoes result
  told_result (Ok u) result through h setting right refuses =
      declared_so setting words first.left w last.left (through.told setting right (subst (Refuses setting.refused first.left last.left) (none_refused w result h) refuses)) result h
  told_result (Err fault) result through h setting right refuses =
      subst (IsLoaded setting words first.left last.left (kept_of w.natives).echoes) (sym h)
      (stopped_so setting words first.left w last.left fault (through.told setting right (subst (λ r. Refuses setting.refused first.left last.left (refused_of r)) h refuses)))

  pub told_load : (ended : Result (Unit {0}) LoadFault) (made : Loaded) → GoesThrough words w first last from to ended → IsEnded w ended made → TellsLoad from words first last made.echoes made.result
  told_load ended made through (inl none) setting right refuses = subst (IsLoaded setting words first.left last.left made.echoes) (sym none) tt
  told_load ended made through (inr (echoes, h)) setting right refuses =
      subst (λ lines. IsLoaded setting words first.left last.left lines made.result) (sym echoes) (told_result ended made.result through h setting right refuses)

  whole_declared : (result : Result Project LoadFault) → IsProjectOf w result → IfErr result IsWhole
  whole_declared (Ok project) h = tt
  whole_declared (Err fault) h = (plain_refusal (declared w.visits w.calls.items) fault h).whole

  pub whole_load : (ended : Result (Unit {0}) LoadFault) (made : Loaded) → GoesThrough words w first last from to ended → IsEnded w ended made → IfErr made.result IsWhole
  whole_load ended made through (inl none) = subst (λ r. IfErr r IsWhole) (sym none) tt
  whole_load (Ok u) made through (inr h) = whole_declared made.result h.1
  whole_load (Err fault) made through (inr h) = subst (λ r. IfErr r IsWhole) (sym h.1) through.whole

  counts_declared : (result : Result Project LoadFault) → IsProjectOf w result → to.faults ≡ from.faults → Counts result from to
  counts_declared (Ok project) h same = same
  counts_declared (Err fault) h same = (plain_refusal (declared w.visits w.calls.items) fault h).counts from to same

  pub counts_load : (ended : Result (Unit {0}) LoadFault) (made : Loaded) → GoesThrough words w first last from to ended → IsEnded w ended made → Counts made.result from to
  counts_load ended made through (inl none) = subst (λ r. Counts r from to) (sym none) tt
  counts_load (Ok u) made through (inr h) = counts_declared made.result h.1 through.counts
  counts_load (Err fault) made through (inr h) = subst (λ r. Counts r from to) (sym h.1) through.counts

-- what is known of a loaded project over every host
pub record IsReady (project : Project) : Type 0 where
  pub places : IsNumbered project.declared
  pub parents : HasParentsBefore project.declared
  pub closed : (project.world.now.scopes.frames ≡ []) × (is_some project.world.now.step ≡ false) × (project.world.marked ≡ [])

ready_declared : (w : WalkState) (result : Result Project LoadFault) → IsClosed w → IsProjectOf w result → IfOk result IsReady
ready_declared w (Ok project) closed (made, places, parents, visits) = record {
  places = places;
  parents = parents;
  closed = subst (λ ws. (ws.now.scopes.frames ≡ []) × (is_some ws.now.step ≡ false) × (ws.marked ≡ [])) (sym made.world) (closed.frames, closed.step, closed.marked);
}
ready_declared w (Err fault) closed h = tt

pub ready_load : (w : WalkState) (ended : Result (Unit {0}) LoadFault) (made : Loaded) → IsClosed w → IsEnded w ended made → IfOk made.result IsReady
ready_load w ended made closed (inl none) = subst (λ r. IfOk r IsReady) (sym none) tt
ready_load w (Ok u) made closed (inr h) = ready_declared w made.result closed h.1
ready_load w (Err fault) made closed (inr h) = subst (λ r. IfOk r IsReady) (sym h.1) tt

pub ready_as : (P : Project → Type 0) (result : Result Project LoadFault) → ((project : Project) → IsReady project → P project) → IfOk result IsReady → IfOk result P
ready_as P (Ok project) f h = f project h
ready_as P (Err fault) f h = tt

-- ---- what the calls declare, over every host

module _ (words : List Text) (w : WalkState) where
  declares_so : (result : Result Project LoadFault) → AreAllVisited words w.visits w.calls.items → IsProjectOf w result → IfOk result (λ project. IsDeclaredBy words project.declared)
  declares_so (Ok project) all h = record { visits = w.visits; calls = w.calls.items; all = all; is = h.0.found; places = h.3 }
  declares_so (Err fault) all h = tt

  pub declares_load : (ended : Result (Unit {0}) LoadFault) (made : Loaded) → AreAll words ended w → IsEnded w ended made → IfOk made.result (λ project. IsDeclaredBy words project.declared)
  declares_load ended made all (inl none) = subst (λ r. IfOk r (λ (project : Project). IsDeclaredBy words project.declared)) (sym none) tt
  declares_load (Ok u) made all (inr h) = declares_so made.result all h.1
  declares_load (Err fault) made all (inr h) = subst (λ r. IfOk r (λ (project : Project). IsDeclaredBy words project.declared)) (sym h.1) tt

  refuses_so : (result : Result Project LoadFault) → AreAllVisited words w.visits w.calls.items → IsProjectOf w result → IfErr result (IsOfCalls words)
  refuses_so (Ok project) all h = tt
  refuses_so (Err fault) all h =
      these_are_all words w.visits w.calls.items fault all (refusal_of_these w.visits w.calls.items (declared w.visits w.calls.items) (λ found is. is) fault h)

  pub refuses_load : (ended : Result (Unit {0}) LoadFault) (made : Loaded) → AreAll words ended w → IsEnded w ended made → IfErr made.result (IsOfCalls words)
  refuses_load ended made all (inl none) = subst (λ r. IfErr r (IsOfCalls words)) (sym none) tt
  refuses_load (Ok u) made all (inr h) = refuses_so made.result all h.1
  refuses_load (Err fault) made all (inr h) = subst (λ r. IfErr r (IsOfCalls words)) (sym h.1) all

lines_so : (w : WalkState) (echoes : List Text) (result : Result Project LoadFault) → echoes ≡ (kept_of w.natives).echoes → IsProjectOf w result → IfOk result (λ project. AreRecordedIn project echoes)
lines_so w echoes (Ok project) is h = is ∙ ap (λ natives. (kept_of natives).echoes) (sym h.0.natives)
lines_so w echoes (Err fault) is h = tt

pub lines_load : (w : WalkState) (ended : Result (Unit {0}) LoadFault) (made : Loaded) → IsEnded w ended made → IfOk made.result (λ project. AreRecordedIn project made.echoes)
lines_load w ended made (inl none) = subst (λ r. IfOk r (λ (project : Project). AreRecordedIn project made.echoes)) (sym none) tt
lines_load w (Ok u) made (inr h) = lines_so w made.echoes made.result h.0 h.1
lines_load w (Err fault) made (inr h) = subst (λ r. IfOk r (λ (project : Project). AreRecordedIn project made.echoes)) (sym h.1) tt
