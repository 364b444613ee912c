-- The toolset's build text, run after the walk.
use Rattle.std.proofs.Common.{◌≡◌, ◌≤◌, ℕ, List, [], ◌∷◌, codes, Option, Some, None, Result, Ok, Err, is_some, refl, sym, ap, ◌∙◌, subst, arith}
use Rattle.std.specs.Prelude.{IfErr}
use Rattle.std.specs.declared.vec.Vec.{Vec}
use Rattle.std.specs.declared.alloc.Global.{Global}
use Rattle.b2_host.specs.Outside.{Outside}
use Rattle.b2_host.specs.OutsideLaws.{keeps_same}
use Rattle.b2_declared.specs.declared.visit.Visit.{Visit}
use Rattle.b2_declared.specs.declared.visit.Call.{Call}
use Rattle.jam_journal.specs.Scopes.{Frame}
use Rattle.jam_journal.specs.Tables.{Text}
use Rattle.jam_meaning.specs.Laws.{bounds}
use Rattle.jam_meaning.specs.Refused.{TookTurn}
use Rattle.jam_scope.specs.Worlds.{Worlds}
use Rattle.jam_effects.specs.declared.turns.Turns.{Turns}
use Rattle.b2_project_walk.specs.declared.fault.LoadFault.{LoadFault}
use Rattle.b2_project_walk.specs.declared.fault.LoadFault.TheVariants as faults
use Rattle.b2_project_walk.specs.declared.walk.WalkState.{WalkState}
use Rattle.b2_project_walk.specs.Faults.{refused_of, IsWhole, IsOfWalk}
use Rattle.b2_project_walk.specs.Finding.{Looked, Counts}
use Rattle.b2_project_walk.specs.Walking.{walk_of, TellsText}
use Rattle.b2_project.specs.LoadParts.{IsOfThese, IsOfTheseIf, IsTextOf, IsWholeOf, StaysOpen, RunsToolset}
use Rattle.b2_project.proofs.FirstToolsetCallDecides.{plain_text, text_of_these, none_equips, unread_says, text_says}

looked_same : (o : Outside) → Looked o o
looked_same o = record { disk = refl; children = refl; keeps = keeps_same o o refl }

stays_same : (a : WalkState) → StaysOpen a a
stays_same a = record { visits = refl; calls = refl; frames = λ h. h; step = refl; marked = refl }

-- the same of equal lists
pub text_as : (visits vs : List Visit) (calls cs : List Call) (result : Result (Option (Vec ℕ Global)) LoadFault) → vs ≡ visits → cs ≡ calls → IsTextOf vs cs result → IsTextOf visits calls result
text_as visits vs calls cs result v k h = subst (λ vs. IsTextOf vs calls result) v (subst (λ cs. IsTextOf vs cs result) k h)

-- ---- nothing is run

pub nothing_brought : (a : WalkState) (turns : Turns) (outside : Outside) (found : Option (Vec ℕ Global)) → found ≡ None → IsTextOf a.visits a.calls.items (Ok found) → RunsToolset a a turns turns outside outside (Ok tt)
nothing_brought a turns outside found none h = record {
  told = λ setting right refuses. none_equips setting (walk_of a turns.left) (subst (λ f. IsTextOf a.visits a.calls.items (Ok f)) none h);
  stays = stays_same a;
  fault = tt;
  whole = tt;
  turns = omega arith;
  budget = refl;
  took = tt;
  looked = looked_same outside;
  counts = refl;
}

pub text_unread : (a : WalkState) (turns : Turns) (outside : Outside) (fault : LoadFault) → IsTextOf a.visits a.calls.items (Err fault) → RunsToolset a a turns turns outside outside (Err fault)
text_unread a turns outside fault h = record {
  told = λ setting right refuses. unread_says setting (walk_of a turns.left) fault h;
  stays = stays_same a;
  fault = text_of_these a.visits a.calls.items fault h;
  whole = (plain_text a.visits a.calls.items fault h).whole;
  turns = omega arith;
  budget = refl;
  took = subst (λ text. TookTurn text turns.left turns.left) (sym (plain_text a.visits a.calls.items fault h).none) tt;
  looked = looked_same outside;
  counts = (plain_text a.visits a.calls.items fault h).counts outside outside refl;
}

pub no_memory : (a : WalkState) (turns : Turns) (outside : Outside) → RunsToolset a a turns turns outside outside (Err faults.OutOfMemory)
no_memory a turns outside = record {
  told = λ setting right refuses. tt;
  stays = stays_same a;
  fault = tt;
  whole = tt;
  turns = omega arith;
  budget = refl;
  took = tt;
  looked = looked_same outside;
  counts = tt;
}

-- ---- the text runs

no_frames : (frames : List Frame) → bounds frames ≡ [] → frames ≡ []
no_frames [] h = refl
no_frames (frame ∷ frames) h = cc

-- what running the text leaves of the worlds, beside what it does
pub record Leaves (before after : Worlds) : Type 0 where
  pub frames : bounds after.now.scopes.frames ≡ bounds before.now.scopes.frames
  pub step : is_some after.now.step ≡ is_some before.now.step
  pub marked : after.marked ≡ before.marked

stays_run : (a b : WalkState) → b ≡ record a { world = b.world; natives = b.natives } → Leaves a.world b.world → StaysOpen a b
stays_run a b rest leaves = record {
  visits = ap (λ (w : WalkState). w.visits) rest;
  calls = ap (λ (w : WalkState). w.calls) rest;
  frames = λ none. no_frames b.world.now.scopes.frames (leaves.frames ∙ ap bounds none);
  step = leaves.step;
  marked = leaves.marked;
}

pub whole_walk : (fault : LoadFault) → IsOfWalk fault → IsWhole fault
whole_walk faults.Host h = h
whole_walk faults.OutOfMemory h = h
whole_walk faults.NoJamroot h = h
whole_walk (faults.NoJamfile dir) h = h
whole_walk (faults.TooBig path size) h = h
whole_walk (faults.Lex path fault) h = h
whole_walk (faults.Syntax path fault) h = h
whole_walk (faults.Eval fault) h = h
whole_walk (faults.Declaration path rule line) h = absurd h
whole_walk (faults.Feature path line fault) h = absurd h

whole_if : (result : Result (Unit {0}) LoadFault) → IfErr result IsOfWalk → IsWholeOf result
whole_if (Ok u) h = tt
whole_if (Err fault) h = whole_walk fault h

-- a walk has no fault of declaring
none_of_these : (visits : List Visit) (calls : List Call) (fault : LoadFault) → IsOfWalk fault → IsOfThese visits calls fault
none_of_these visits calls faults.Host h = tt
none_of_these visits calls faults.OutOfMemory h = tt
none_of_these visits calls faults.NoJamroot h = tt
none_of_these visits calls (faults.NoJamfile dir) h = tt
none_of_these visits calls (faults.TooBig path size) h = tt
none_of_these visits calls (faults.Lex path fault) h = tt
none_of_these visits calls (faults.Syntax path fault) h = tt
none_of_these visits calls (faults.Eval fault) h = tt
none_of_these visits calls (faults.Declaration path rule line) h = absurd h
none_of_these visits calls (faults.Feature path line fault) h = absurd h

none_of_these_if : (visits : List Visit) (calls : List Call) (result : Result (Unit {0}) LoadFault) → IfErr result IsOfWalk → IsOfTheseIf visits calls result
none_of_these_if visits calls (Ok u) h = tt
none_of_these_if visits calls (Err fault) h = none_of_these visits calls fault h

pub text_ran : (a b : WalkState) (first last : Turns) (from to : Outside) (path : Text) (text : Vec ℕ Global) (bytes : List ℕ) (result : Result (Unit {0}) LoadFault) → path ≡ codes "gcc"
    → bytes ≡ text.items → IsTextOf a.visits a.calls.items (Ok (Some text)) → TellsText from path bytes first last a b result → b ≡ record a { world = b.world; natives = b.natives } → Leaves a.world b.world
    → IfErr result IsOfWalk → last.left ≤ first.left → last.budget ≡ first.budget → TookTurn (refused_of result) first.left last.left → Looked from to → Counts result from to
    → RunsToolset a b first last from to result
text_ran a b first last from to path text bytes result is_gcc same made told rest leaves whole turns budget took looked counts = record {
  told = λ setting right refuses.
      text_says setting (walk_of a first.left) text result (walk_of b last.left) made
      (subst (λ file. TellsText from file text.items first last a b result) is_gcc (subst (λ bs. TellsText from path bs first last a b result) same told) setting right refuses);
  stays = stays_run a b rest leaves;
  fault = none_of_these_if a.visits a.calls.items result whole;
  whole = whole_if result whole;
  turns = turns;
  budget = budget;
  took = took;
  looked = looked;
  counts = counts;
}
