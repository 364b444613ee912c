-- What running a project's file does, as it is proved.
use Rattle.std.specs.Prelude.{◌≡◌, ◌≤◌, IsTrue, Option, Some, None, Result, IfErr}
use Rattle.std.specs.Borrow.{Bor}
use Rattle.std.specs.Option.{option_copied}
use Rattle.b2_host.specs.Outside.{Outside}
use Rattle.b2_declared.specs.declared.visit.Visit.{Visit}
use Rattle.jam_grammar.specs.declared.tree.Tree.{Tree}
use Rattle.jam_grammar.specs.Trees.{StmtTrees, whole_tree}
use Rattle.jam_journal.specs.Tables.{Text}
use Rattle.jam_journal.specs.Scopes.{enter}
use Rattle.jam_scope.specs.Worlds.{World, Worlds}
use Rattle.jam_scope.specs.Changes.{changed, rescoped}
use Rattle.jam_scope.specs.Lines.{may_be_above}
use Rattle.jam_meaning.specs.Laws.{SameFrames}
use Rattle.jam_meaning.specs.NativeCalls.{KeepsFrames}
use Rattle.jam_meaning.specs.Refused.{TookTurn}
use Rattle.jam_natives.specs.declared.natives.JamNatives.{JamNatives}
use Rattle.jam_natives.specs.Keeping.{Kept}
use Rattle.jam_natives.specs.Rows.{jam_meaning}
use Rattle.jam_natives.specs.Seeing.{kept_of}
use Rattle.jam_effects.specs.declared.fault.EvalFault.{EvalFault}
use Rattle.jam_effects.specs.declared.turns.Turns.{Turns}
use Rattle.jam_effects.specs.Causes.{refused_of, HoldsNoMemory}
use Rattle.jam_effects.specs.Does.{Tells, Counts}
use Rattle.jam_effects.specs.Machines.{Machine, machine, state_of}
use Rattle.jam_effects.specs.Views.{What, ended}
use Rattle.b2_project_walk.specs.Finding.{Looked}
use Rattle.b2_project_walk.specs.Walks.{put_below, prepared, run_project}

-- natives, a world and turns, as evaluation has them
abbrev pub machine_of : Worlds → Turns → JamNatives → Outside → Machine Kept
machine_of worlds turns natives outside = machine worlds turns (kept_of natives) (Some jam_meaning) outside

-- a module may be put below that of a parent, if there is one
abbrev pub MayBePut : Text → Option Text → World → Type 0
MayBePut owner None w = Unit {0}
MayBePut owner (Some above) w = IsTrue (may_be_above w.parents above owner)

-- a module was put below that of a parent, if there is one and it may be put there
abbrev pub IsPutBelow : Text → Option Text → Worlds → Worlds → Type 0
IsPutBelow owner above before after = MayBePut owner above before.now → after ≡ changed (put_below owner above) before

-- the world in which a project's file begins, but for its frame
abbrev pub IsPrepared : Visit → Option Text → Worlds → Worlds → Type 0
IsPrepared visit above before after = MayBePut visit.«module» above before.now → after ≡ changed (prepared visit above) before

-- The world in which a project's file runs: a frame of its module is open, and the rest is what was prepared, where its module may be put
-- below that of its parent.
pub record HasEntered (visit : Visit) (above : Option Text) (before after : Worlds) : Type 0 where
  pub world : MayBePut visit.«module» above before.now → after ≡ rescoped (enter visit.«module») (changed (prepared visit above) before)
  pub frames : KeepsFrames (rescoped (enter visit.«module») before) after

-- An evaluation does what is defined. Over every host turns never rise; frames, marks, the open step, files and child processes are as
-- before.
pub record Runs (what : What Kept (Unit {0})) (may : Type 0) (before after : Machine Kept) (result : Result (Unit {0}) EvalFault) : Type 0 where
  pub told : may → Tells ended what before after result
  pub turns : after.left ≤ before.left
  pub budget : after.budget ≡ before.budget
  pub frames : SameFrames (state_of before) (state_of after)
  pub looked : Looked before.outside after.outside
  pub counts : Counts result before.outside after.outside
  pub whole : IfErr result HoldsNoMemory
  pub took : TookTurn (refused_of result) before.left after.left

-- the file of a project, whose parent has this module, runs
abbrev pub project_at : Visit → Option Text → StmtTrees → What Kept (Unit {0})
project_at visit above tree = λ setting s. run_project setting visit above tree s

-- it does, by what the files say of themselves
abbrev pub RunsProject : {F : Type 0} → (F → Outside) → Visit → Option Text → StmtTrees
    → Worlds → Turns → JamNatives → F → Worlds → Turns → JamNatives → F → Result (Unit {0}) EvalFault → Type 0
RunsProject outside visit above tree ws ts n f ws' ts' n' f' result =
    Runs (project_at visit above tree) (MayBePut visit.«module» above ws.now) (machine_of ws ts n (outside f)) (machine_of ws' ts' n' (outside f')) result

-- the same, as the code has its tree and the module of its parent
abbrev pub RunsVisit : {F : Type 0} → (F → Outside) → Visit → Option (Bor Text) → Tree → Worlds → Turns → JamNatives → F → Worlds → Turns → JamNatives → F
    → Result (Unit {0}) EvalFault → Type 0
RunsVisit outside visit above tree = RunsProject outside visit (option_copied above) (whole_tree tree)
