-- What the answer of a load says.
use Rattle.std.specs.Prelude.{◌≡◌, ◌≢◌, ◌≤◌, ℕ, List, ◌++◌, Option, Some, None, Result, Ok, Err, IfOk, IfErr}
use Rattle.b2_base.specs.Counts.{Rose}
use Rattle.b2_host.specs.declared.fault.IoFault.{IoFault}
use Rattle.b2_host.specs.declared.fault.IoFault.TheVariants as io
use Rattle.b2_host.specs.Outside.{Outside}
use Rattle.b2_host.specs.OutsideLaws.{Keeps}
use Rattle.jam_lexer.specs.declared.fault.LexFault.{LexFault}
use Rattle.jam_lexer.specs.declared.fault.LexFault.TheVariants as lexings
use Rattle.jam_parser.specs.declared.fault.SyntaxFault.{SyntaxFault}
use Rattle.jam_parser.specs.declared.fault.SyntaxFault.TheVariants as readings
use Rattle.jam_journal.specs.Tables.{Text}
use Rattle.jam_scope.specs.Worlds.{Worlds}
use Rattle.jam_meaning.specs.Refused.{Refuses}
use Rattle.jam_meaning.specs.Settings.{Reading, Setting, IsSetting}
use Rattle.jam_effects.specs.declared.fault.EvalFault.{EvalFault}
use Rattle.jam_effects.specs.declared.fault.EvalFault.TheVariants as evals
use Rattle.jam_effects.specs.declared.turns.Turns.{Turns}
use Rattle.jam_effects.specs.Causes.{cause_of, refused_by, IsWhole as IsWholeCause}
use Rattle.jam_effects.specs.Machines.{folder_of}
use Rattle.jam_graph.specs.declared.load.JamLoaded.{JamLoaded}
use Rattle.jam_graph.specs.declared.fault.JamFault.{JamFault}
use Rattle.jam_graph.specs.declared.fault.JamFault.TheVariants as faults
use Rattle.jam_graph.specs.declared.graph.Graph.{Graph}
use Rattle.jam_graph.specs.declared.natives.GraphNatives.{GraphNatives}
use Rattle.jam_graph.specs.Calling.{kept_of}
use Rattle.jam_graph.specs.Graphs.{GraphKept, graph_meaning, graph_of, IsReady}
use Rattle.jam_graph.specs.Loads.{Refusal, no_file, too_big, lex, syntax_at, eval, no_target, too_many, mixed, outside, clash, Ending, after_reading, loads}

-- The setting says what is so at the beginning of a load: how many turns there are, what the rules mean, what the visible files hold
-- and how they read, and which patterns match.
pub record IsSettingFor (setting : Setting GraphKept) (turns : ℕ) (host : Outside) : Type 0 where
  pub budget : turns ≡ setting.budget
  pub natives : setting.natives ≡ graph_meaning
  pub folder : folder_of host.disk ≡ Some setting.sight.folder
  pub right : IsSetting setting

-- ---- faults

-- the refusal that a fault tells; none of the host, and none of memory
abbrev pub syntax_of : Text → SyntaxFault → Option Refusal
syntax_of path (readings.At line found) = Some (syntax_at path line found)
syntax_of path readings.OutOfMemory = None

abbrev pub eval_of : EvalFault → Option Refusal
eval_of evals.Host = None
eval_of evals.OutOfMemory = None
eval_of (evals.At path line why) = Some (eval (record { spot = record { path = path; line = line }; cause = cause_of why }))

abbrev pub refusal_of : JamFault → Option Refusal
refusal_of (faults.NoFile path) = Some (no_file path)
refusal_of (faults.TooBig path size) = Some (too_big path size)
refusal_of (faults.Lex path fault) = Some (lex path fault)
refusal_of (faults.Syntax path fault) = syntax_of path fault
refusal_of (faults.Eval fault) = eval_of fault
refusal_of (faults.NoTarget name) = Some (no_target name)
refusal_of (faults.MixedNotFile target) = Some (mixed target)
refusal_of (faults.PathClash path) = Some (clash path)
refusal_of (faults.LocationOutside path) = Some (outside path)
refusal_of (faults.TooManySteps count) = Some (too_many count)
refusal_of faults.Host = None
refusal_of faults.OutOfMemory = None

-- the fault of a load whose file did not run to its end, or has no tokens
abbrev pub of_eval : EvalFault → JamFault
of_eval evals.Host = faults.Host
of_eval evals.OutOfMemory = faults.OutOfMemory
of_eval (evals.At path line why) = faults.Eval (evals.At path line why)

abbrev pub of_lex : Text → LexFault → JamFault
of_lex path lexings.OutOfMemory = faults.OutOfMemory
of_lex path fault = faults.Lex path fault

-- the pattern that was refused although it reads as one
abbrev pub refused_in : JamFault → Option Text
refused_in (faults.Eval fault) = refused_by fault
refused_in _ = None

abbrev pub refused_of : Result Graph JamFault → Option Text
refused_of (Ok graph) = None
refused_of (Err fault) = refused_in fault

-- no fault of the host and no out of memory is within a refusal
abbrev pub IsWholeEval : EvalFault → Type 0
IsWholeEval evals.Host = ⊥
IsWholeEval evals.OutOfMemory = ⊥
IsWholeEval (evals.At path line why) = IsWholeCause (cause_of why)

abbrev pub IsWhole : JamFault → Type 0
IsWhole (faults.Lex path fault) = fault ≢ lexings.OutOfMemory
IsWhole (faults.Syntax path fault) = fault ≢ readings.OutOfMemory
IsWhole (faults.Eval fault) = IsWholeEval fault
IsWhole _ = Unit {0}

-- a fault of the host comes only where the count of its faults rose; else, unless memory ran out, the count is as before
abbrev pub CountsFault : JamFault → Outside → Outside → Type 0
CountsFault faults.Host before after = Rose before.faults after.faults
CountsFault faults.OutOfMemory before after = Unit {0}
CountsFault _ before after = after.faults ≡ before.faults

abbrev pub Counts : {A : Type 0} → Result A JamFault → Outside → Outside → Type 0
Counts (Ok a) before after = after.faults ≡ before.faults
Counts (Err fault) before after = CountsFault fault before after

-- ---- the answer

-- the ending is this refusal, after these lines
abbrev pub IsRefused : Ending → List Text → Option Refusal → Type 0
IsRefused ending echoes None = Unit {0}
IsRefused ending echoes (Some why) = ending ≡ record { echoes = echoes; result = Err why }

-- The answer is what the file comes to; where the host failed, the lines are a first part of those that it comes to.
abbrev pub IsEnding : Ending → List Text → Result Graph JamFault → Type 0
IsEnding ending echoes (Ok graph) = ending ≡ record { echoes = echoes; result = Ok graph }
IsEnding ending echoes (Err faults.Host) = (more : List Text) × (ending.echoes ≡ echoes ++ more)
IsEnding ending echoes (Err fault) = IsRefused ending echoes (refusal_of fault)

-- Where the files are visible, the answer is what the file comes to, for each right setting that names what was refused, if anything
-- was.
abbrev pub Tells : (Setting GraphKept → ℕ → Ending) → Outside → Turns → Turns → List Text → Result Graph JamFault → Type 0
Tells comes host before after echoes result =
    (setting : Setting GraphKept) → IsSettingFor setting before.budget host → Refuses setting.refused before.left after.left (refused_of result)
    → IsEnding (comes setting before.left) echoes result

abbrev pub TellsGraph : Outside → Text → Turns → Turns → List Text → Result Graph JamFault → Type 0
TellsGraph host path = Tells (λ setting left. loads setting path left) host

-- the same of a file that reads so
abbrev pub TellsReading : Reading → Outside → Text → Turns → Turns → List Text → Result Graph JamFault → Type 0
TellsReading reading host path = Tells (λ setting left. after_reading setting path left reading) host

-- the graph of what was recorded
abbrev pub IsGraphOf : Text → Worlds → GraphNatives → Graph → Type 0
IsGraphOf path worlds natives graph = graph ≡ graph_of path worlds (kept_of natives).said

-- how a file's run ended tells the result; out of memory comes where the graph was not made
abbrev pub EndsSo : Text → Worlds → GraphNatives → Result (Unit {0}) EvalFault → Result Graph JamFault → Type 0
EndsSo path worlds natives (Ok u) (Ok graph) = IsGraphOf path worlds natives graph
EndsSo path worlds natives (Ok u) (Err fault) = fault ≡ faults.OutOfMemory
EndsSo path worlds natives (Err e) (Ok graph) = ⊥
EndsSo path worlds natives (Err e) (Err fault) = fault ≡ of_eval e

-- What a load leaves of the outside: turns never rise, and files and child processes are as before.
pub record Leaves (before after : Outside) (turns left : Turns) : Type 0 where
  pub turns_fall : left.left ≤ turns.left
  pub budget : left.budget ≡ turns.budget
  pub disk : after.disk ≡ before.disk
  pub children : after.children ≡ before.children
  pub keeps : Keeps before after

-- All that a load promises: what it tells, that its graph can be planned, what it leaves, and what it counts.
pub record IsLoaded (Told : Type 0) (before after : Outside) (turns left : Turns) (result : Result Graph JamFault) : Type 0 where
  pub told : Told
  pub ready : IfOk result IsReady
  pub whole : IfErr result IsWhole
  pub leaves : Leaves before after turns left
  pub counts : Counts result before after

-- all that the load of a file promises, and that of one that reads so
abbrev pub LoadsFile : Outside → Outside → Text → Turns → Turns → JamLoaded → Type 0
LoadsFile before after path turns left loaded = IsLoaded (TellsGraph before path turns left loaded.echoes loaded.result) before after turns left loaded.result

abbrev pub LoadsReading : Reading → Outside → Outside → Text → Turns → Turns → JamLoaded → Type 0
LoadsReading reading before after path turns left loaded = IsLoaded (TellsReading reading before path turns left loaded.echoes loaded.result) before after turns left loaded.result

-- the fault of a load whose file was not read
abbrev pub of_io : IoFault → JamFault
of_io io.Failed = faults.Host
of_io io.OutOfMemory = faults.OutOfMemory
