-- What a run of a project's file promises: a frame is open while it runs, and all frames are as before at the end.
use Rattle.std.proofs.Common.{◌≡◌, ◌<◌, List, [], ◌∷◌, length, drop, Result, Ok, Err, Option, refl, sym, ap, ◌∙◌, subst, arith}
use Rattle.std.proofs.lemmas.List.{length-map}
use Rattle.b2_host.specs.OutsideLaws.{keeps_same}
use Rattle.b2_declared.specs.declared.visit.Visit.{Visit}
use Rattle.jam_grammar.specs.Trees.{StmtTrees}
use Rattle.jam_journal.specs.Tables.{Text}
use Rattle.jam_journal.specs.Scopes.{Frame, enter, leave}
use Rattle.jam_scope.specs.Worlds.{Worlds}
use Rattle.jam_scope.specs.Changes.{changed, rescoped, frames_at_mark}
use Rattle.jam_meaning.specs.Laws.{bound_of, bounds}
use Rattle.jam_meaning.specs.NativeCalls.{KeepsFrames}
use Rattle.jam_meaning.specs.Outcomes.{Outcome, close_frame}
use Rattle.jam_meaning.specs.Eval.{run}
use Rattle.jam_meaning.specs.Settings.{Setting}
use Rattle.jam_meaning.proofs.RecordsOnlyGrow.{close_begins}
use Rattle.jam_natives.specs.Keeping.{Kept}
use Rattle.jam_effects.specs.declared.fault.EvalFault.{EvalFault}
use Rattle.jam_effects.specs.declared.fault.EvalFault.TheVariants as fault
use Rattle.jam_effects.specs.Does.{Agrees, Tells}
use Rattle.jam_effects.specs.Machines.{Machine, state_of}
use Rattle.jam_effects.specs.Views.{What, ended}
use Rattle.jam_interp.specs.FunctionParts.{run_at}
use Rattle.b2_project_walk.specs.Running.{MayBePut, HasEntered, Runs, project_at}
use Rattle.b2_project_walk.specs.Walks.{prepared}

agrees_closed : (setting : Setting Kept) (result : Result (Unit {0}) EvalFault) (o : Outcome Kept (Unit {0})) (c : Machine Kept) → Agrees setting ended result o (state_of c)
    → Agrees setting ended result (close_frame o) (state_of (record c { worlds = rescoped leave c.worlds }))
agrees_closed setting (Ok u) o c h = ap close_frame h
agrees_closed setting (Err fault.Host) o c h = close_begins setting o (state_of c) h
agrees_closed setting (Err fault.OutOfMemory) o c h = tt
agrees_closed setting (Err (fault.At path line why)) o c h = ap close_frame h

-- in a frame of the module, in the world that was prepared
runs_in : (visit : Visit) (above : Option Text) (tree : StmtTrees) (a c : Machine Kept) (inside : Worlds) (result : Result (Unit {0}) EvalFault)
    → inside ≡ rescoped (enter visit.«module») (changed (prepared visit above) a.worlds)
    → Tells ended (run_at visit.file tree) (record a { worlds = inside }) c result
    → Tells ended (project_at visit above tree) a (record c { worlds = rescoped leave c.worlds }) result
runs_in visit above tree a c inside result is h setting right refuses =
    agrees_closed setting result (run setting visit.file tree (state_of (record a { worlds = rescoped (enter visit.«module») (changed (prepared visit above) a.worlds) }))) c
    (subst (λ ws. Agrees setting ended result (run setting visit.file tree (state_of (record a { worlds = ws }))) (state_of c)) is
    (h setting (record { budget = right.budget; natives = right.natives; folder = right.folder; right = right.right }) refuses))

-- the frame of the module is still there
pub may_leave : (before after : Worlds) → frames_at_mark before.marked < length before.now.scopes.frames → bounds after.now.scopes.frames ≡ bounds before.now.scopes.frames → after.marked ≡ before.marked
    → frames_at_mark after.marked < length after.now.scopes.frames
may_leave before after newer frames marked =
    let count : length after.now.scopes.frames ≡ length before.now.scopes.frames =
    sym (length-map after.now.scopes.frames bound_of) ∙ ap length frames ∙ length-map before.now.scopes.frames bound_of in
    let marks : frames_at_mark after.marked ≡ frames_at_mark before.marked = ap frames_at_mark marked in
    omega (arith, newer, count, marks)

bounds_below : (frames : List Frame) → bounds (drop 1 frames) ≡ drop 1 (bounds frames)
bounds_below [] = refl
bounds_below (frame ∷ frames) = refl

-- all that is promised of a project's file, where it was run in the frame of its module
pub project_ran : (visit : Visit) (above : Option Text) (tree : StmtTrees) (a c : Machine Kept) (inside : Worlds) (result : Result (Unit {0}) EvalFault)
    → HasEntered visit above a.worlds inside → Runs (run_at visit.file tree) (Unit {0}) (record a { worlds = inside }) c result
    → Runs (project_at visit above tree) (MayBePut visit.«module» above a.worlds.now) a (record c { worlds = rescoped leave c.worlds }) result
project_ran visit above tree a c inside result entered ran = record {
  told = λ may. runs_in visit above tree a c inside result (entered.world may) (ran.told tt);
  turns = ran.turns;
  budget = ran.budget;
  frames =
      let (frames, marks, step) = ran.frames in
      (bounds_below c.worlds.now.scopes.frames ∙ ap (drop 1) (frames ∙ ap bounds entered.frames.frames), marks ∙ entered.frames.marked, step ∙ entered.frames.step);
  looked = ran.looked;
  counts = ran.counts;
  whole = ran.whole;
  took = ran.took;
}

-- no memory was left before it was run
pub no_memory_to_run : (what : What Kept (Unit {0})) (may : Type 0) (a : Machine Kept) (worlds : Worlds) → KeepsFrames a.worlds worlds
    → Runs what may a (record a { worlds = worlds }) (Err fault.OutOfMemory)
no_memory_to_run what may a worlds kept = record {
  told = λ h setting right refuses. tt;
  turns = omega arith;
  budget = refl;
  frames = (ap bounds kept.frames, kept.marked, kept.step);
  looked = record { disk = refl; children = refl; keeps = keeps_same a.outside a.outside refl };
  counts = tt;
  whole = tt;
  took = tt;
}
