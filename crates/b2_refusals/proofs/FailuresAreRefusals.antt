-- An evaluation without value, or a load without project, has a refusal as its reason, unless host or memory failed. A refusal of a
-- load is one as data too.
use Rattle.std.proofs.Common.{◌≡◌, ◌≢◌, ℕ, List, Some, refl, sym, ap, ◌∙◌}
use Rattle.std.proofs.lemmas.Option.{none-some}
use Rattle.b2_refusals.specs.Laws.{EvaluationsAreRefused, LoadsAreRefused}
use Rattle.b2_refusals.specs.Wholes.{IsEvalRefusal, IsLoadRefusal}
use Rattle.b2_features.specs.declared.fault.FeatureFault.{FeatureFault}
use Rattle.b2_features.specs.declared.fault.FeatureFault.TheVariants as features
use Rattle.b2_project_walk.specs.Faults.{lex_refusal, syntax_refusal, eval_refusal, feature_refusal, refusal_of}
use Rattle.b2_project_walk.specs.Walks.{Refusal}
use Rattle.b2_project_walk.specs.declared.fault.LoadFault.{LoadFault}
use Rattle.b2_project_walk.specs.declared.fault.LoadFault.TheVariants as loading
use Rattle.jam_effects.specs.Causes.{HoldsNoMemory}
use Rattle.jam_effects.specs.declared.fault.EvalFault.{EvalFault}
use Rattle.jam_effects.specs.declared.fault.EvalFault.TheVariants as evaluating
use Rattle.jam_lexer.specs.declared.fault.LexFault.{LexFault}
use Rattle.jam_lexer.specs.declared.fault.LexFault.TheVariants as lexing
use Rattle.jam_parser.specs.declared.fault.SyntaxFault.{SyntaxFault}
use Rattle.jam_parser.specs.declared.fault.SyntaxFault.TheVariants as parsing

eval_refused : (fault : EvalFault) (why : Refusal) → eval_refusal fault ≡ Some why → HoldsNoMemory fault → IsEvalRefusal fault
eval_refused evaluating.Host why is holds = absurd (none-some why is)
eval_refused evaluating.OutOfMemory why is holds = absurd (none-some why is)
eval_refused (evaluating.At path number cause) why is holds = holds

pub evaluations_are_refused : EvaluationsAreRefused
evaluations_are_refused evaluating.Host holds host memory = absurd (host refl)
evaluations_are_refused evaluating.OutOfMemory holds host memory = absurd (memory refl)
evaluations_are_refused (evaluating.At path number cause) holds host memory = holds

pub loads_are_refused : LoadsAreRefused
loads_are_refused loading.NoJamroot whole host memory = tt
loads_are_refused (loading.NoJamfile dir) whole host memory = tt
loads_are_refused (loading.TooBig path size) whole host memory = tt
loads_are_refused (loading.Lex path fault) whole host memory = λ e. none-some whole.0 (ap (lex_refusal path) (sym e) ∙ whole.1)
loads_are_refused (loading.Syntax path fault) whole host memory = λ e. none-some whole.0 (ap (syntax_refusal path) (sym e) ∙ whole.1)
loads_are_refused (loading.Eval fault) whole host memory = eval_refused fault whole.0 whole.1 whole.2
loads_are_refused (loading.Declaration path rule number) whole host memory = tt
loads_are_refused (loading.Feature path number fault) whole host memory = λ e. none-some whole.0 (ap (feature_refusal path number) (sym e) ∙ whole.1)
loads_are_refused loading.Host whole host memory = absurd (host refl)
loads_are_refused loading.OutOfMemory whole host memory = absurd (memory refl)

-- ---- as data

lex_found : (path : List ℕ) (fault : LexFault) → fault ≢ lexing.OutOfMemory → (why : Refusal) × (lex_refusal path fault ≡ Some why)
lex_found path (lexing.NotUtf8 at) whole = (_, refl)
lex_found path (lexing.OpenQuote number) whole = (_, refl)
lex_found path (lexing.OpenActions number) whole = (_, refl)
lex_found path lexing.OutOfMemory whole = absurd (whole refl)

syntax_found : (path : List ℕ) (fault : SyntaxFault) → fault ≢ parsing.OutOfMemory → (why : Refusal) × (syntax_refusal path fault ≡ Some why)
syntax_found path (parsing.At number found) whole = (_, refl)
syntax_found path parsing.OutOfMemory whole = absurd (whole refl)

eval_found : (fault : EvalFault) → IsEvalRefusal fault → (why : Refusal) × (eval_refusal fault ≡ Some why)
eval_found evaluating.Host whole = absurd whole
eval_found evaluating.OutOfMemory whole = absurd whole
eval_found (evaluating.At path number cause) whole = (_, refl)

feature_found : (path : List ℕ) (number : ℕ) (fault : FeatureFault) → fault ≢ features.OutOfMemory → (why : Refusal) × (feature_refusal path number fault ≡ Some why)
feature_found path number (features.Twice word) whole = (_, refl)
feature_found path number (features.Unknown word) whole = (_, refl)
feature_found path number (features.BadValue word) whole = (_, refl)
feature_found path number (features.ComposeConflict word) whole = (_, refl)
feature_found path number features.OutOfMemory whole = absurd (whole refl)

pub load_found : (fault : LoadFault) → IsLoadRefusal fault → (why : Refusal) × (refusal_of fault ≡ Some why)
load_found loading.NoJamroot whole = (_, refl)
load_found (loading.NoJamfile dir) whole = (_, refl)
load_found (loading.TooBig path size) whole = (_, refl)
load_found (loading.Lex path fault) whole = lex_found path fault whole
load_found (loading.Syntax path fault) whole = syntax_found path fault whole
load_found (loading.Eval fault) whole = eval_found fault whole
load_found (loading.Declaration path rule number) whole = (_, refl)
load_found (loading.Feature path number fault) whole = feature_found path number fault whole
load_found loading.Host whole = absurd whole
load_found loading.OutOfMemory whole = absurd whole
