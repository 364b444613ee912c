-- No fault of the host and no out of memory is within the refusal of a plan.
use Rattle.std.proofs.Common.{◌≡◌, ℕ, Bool, Some, Err, sym, subst}
use Rattle.b2_base.specs.declared.expand_fault.ExpandFault.{ExpandFault}
use Rattle.b2_base.specs.declared.expand_fault.ExpandFault.TheVariants as expansions
use Rattle.b2_host.specs.Outside.{Outside}
use Rattle.jam_journal.specs.Tables.{Text}
use Rattle.jam_journal.specs.Scopes.{Value}
use Rattle.jam_parser.specs.declared.fault.SyntaxFault.TheVariants as parsing
use Rattle.jam_meaning.specs.Faults.{Spot, Cause, expand, Fault}
use Rattle.jam_effects.specs.Causes.{cause_of, IsWhole as IsWholeCause}
use Rattle.jam_effects.specs.declared.fault.EvalFault.TheVariants as evaluating
use Rattle.jam_graph.specs.declared.fault.JamFault.{JamFault}
use Rattle.jam_graph.specs.declared.fault.JamFault.TheVariants as jam
use Rattle.jam_graph.specs.declared.graph.Graph.{Graph}
use Rattle.jam_graph.specs.Loads.{eval}
use Rattle.jam_graph.specs.Loading.{IsWhole, refusal_of}
use Rattle.jam_engine.specs.declared.scene.Scene.{Scene}
use Rattle.jam_engine.specs.Looking.{Looked}
use Rattle.jam_engine.specs.Planning.{HasNoTarget}
use Rattle.jam_engine.specs.Stepping.{IsMixedBy}
use Rattle.jam_engine.specs.Texting.{IsExpandFault}

pub looked_whole : {A : Type 0} (before after : Outside) (fault : JamFault) (P : (Text → Bool) → A → Type 0) → Looked {A = A} before after (Err fault) P → IsWhole fault
looked_whole before after jam.Host P h = tt
looked_whole before after jam.OutOfMemory P h = tt
looked_whole before after (jam.NoFile path) P h = tt
looked_whole before after (jam.TooBig path size) P h = tt
looked_whole before after (jam.Lex path fault) P h = absurd h
looked_whole before after (jam.Syntax path fault) P h = absurd h
looked_whole before after (jam.Eval fault) P h = absurd h
looked_whole before after (jam.NoTarget name) P h = tt
looked_whole before after (jam.MixedNotFile target) P h = tt
looked_whole before after (jam.PathClash path) P h = tt
looked_whole before after (jam.LocationOutside path) P h = tt
looked_whole before after (jam.TooManySteps count) P h = tt

pub mixed_whole : (scene : Scene) (targets : Value) (fault : JamFault) → IsMixedBy scene targets (Err fault) → IsWhole fault
mixed_whole scene targets jam.Host h = tt
mixed_whole scene targets jam.OutOfMemory h = tt
mixed_whole scene targets (jam.NoFile path) h = tt
mixed_whole scene targets (jam.TooBig path size) h = tt
mixed_whole scene targets (jam.Lex path fault) h = absurd h
mixed_whole scene targets (jam.Syntax path fault) h = absurd h
mixed_whole scene targets (jam.Eval fault) h = absurd h
mixed_whole scene targets (jam.NoTarget name) h = tt
mixed_whole scene targets (jam.MixedNotFile target) h = tt
mixed_whole scene targets (jam.PathClash path) h = tt
mixed_whole scene targets (jam.LocationOutside path) h = tt
mixed_whole scene targets (jam.TooManySteps count) h = tt

pub index_whole : (g : Graph) (targets : Value) (fault : JamFault) → HasNoTarget g targets (Err fault) → IsWhole fault
index_whole g targets jam.Host h = tt
index_whole g targets jam.OutOfMemory h = tt
index_whole g targets (jam.NoFile path) h = tt
index_whole g targets (jam.TooBig path size) h = tt
index_whole g targets (jam.Lex path fault) h = absurd h
index_whole g targets (jam.Syntax path fault) h = absurd h
index_whole g targets (jam.Eval fault) h = absurd h
index_whole g targets (jam.NoTarget name) h = tt
index_whole g targets (jam.MixedNotFile target) h = tt
index_whole g targets (jam.PathClash path) h = tt
index_whole g targets (jam.LocationOutside path) h = tt
index_whole g targets (jam.TooManySteps count) h = tt

-- a fault that tells a cause holds no more than that
told_whole : (fault : JamFault) (spot : Spot) (cause : Cause) → IsWholeCause cause → refusal_of fault ≡ Some (eval (record { spot = spot; cause = cause })) → IsWhole fault
told_whole jam.Host spot cause h is = tt
told_whole jam.OutOfMemory spot cause h is = tt
told_whole (jam.NoFile path) spot cause h is = tt
told_whole (jam.TooBig path size) spot cause h is = tt
told_whole (jam.Lex path fault) spot cause h is = absurd cc
told_whole (jam.Syntax path (parsing.At line found)) spot cause h is = λ e. cc
told_whole (jam.Syntax path parsing.OutOfMemory) spot cause h is = absurd cc
told_whole (jam.Eval evaluating.Host) spot cause h is = absurd cc
told_whole (jam.Eval evaluating.OutOfMemory) spot cause h is = absurd cc
told_whole (jam.Eval (evaluating.At path line why)) spot cause h is =
    let told : Fault = record { spot = record { path = path; line = line }; cause = cause_of why } in
    let given : Fault = record { spot = spot; cause = cause } in
    let same : told ≡ given = cc in
    subst (λ (f : Fault). IsWholeCause f.cause) (sym same) h
told_whole (jam.NoTarget name) spot cause h is = tt
told_whole (jam.MixedNotFile target) spot cause h is = tt
told_whole (jam.PathClash path) spot cause h is = tt
told_whole (jam.LocationOutside path) spot cause h is = tt
told_whole (jam.TooManySteps count) spot cause h is = tt

pub expand_whole : (path : Text) (line : ℕ) (why : ExpandFault) (fault : JamFault) → IsExpandFault path line why fault → IsWhole fault
expand_whole path line (expansions.BadIndex text) fault h = told_whole fault _ (expand (expansions.BadIndex text)) (λ e. cc) h
expand_whole path line (expansions.BadModifier text) fault h = told_whole fault _ (expand (expansions.BadModifier text)) (λ e. cc) h
expand_whole path line expansions.TooDeep fault h = told_whole fault _ (expand expansions.TooDeep) (λ e. cc) h
expand_whole path line (expansions.TooLarge bytes) fault h = told_whole fault _ (expand (expansions.TooLarge bytes)) (λ e. cc) h
expand_whole path line expansions.OutOfMemory fault h = subst IsWhole (sym h) tt
