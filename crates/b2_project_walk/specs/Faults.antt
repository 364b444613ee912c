-- Why a load is refused, as data.
use Rattle.std.specs.Prelude.{◌≡◌, ℕ, Option, Some, None, Result, Ok, Err}
use Rattle.b2_features.specs.declared.fault.FeatureFault.{FeatureFault}
use Rattle.b2_features.specs.declared.fault.FeatureFault.TheVariants as features
use Rattle.b2_declared.specs.declared.fault.DeclaringFault.TheVariants as declaring_faults
use Rattle.jam_journal.specs.Tables.{Text}
use Rattle.jam_lexer.specs.declared.fault.LexFault.{LexFault}
use Rattle.jam_lexer.specs.declared.fault.LexFault.TheVariants as lexing
use Rattle.jam_parser.specs.declared.fault.SyntaxFault.{SyntaxFault}
use Rattle.jam_parser.specs.declared.fault.SyntaxFault.TheVariants as parsing
use Rattle.jam_effects.specs.declared.fault.EvalFault.{EvalFault}
use Rattle.jam_effects.specs.declared.fault.EvalFault.TheVariants as evaluating
use Rattle.jam_effects.specs.Causes.{cause_of, refused_by as pattern_refused_by, HoldsNoMemory}
use Rattle.b2_project_walk.specs.declared.fault.LoadFault.{LoadFault}
use Rattle.b2_project_walk.specs.declared.fault.LoadFault.TheVariants as faults
use Rattle.b2_project_walk.specs.Walks.{Refusal, no_jamroot, no_jamfile, too_big, lex, syntax_at, eval, declaring}

-- ---- the fault as data; none for a fault of the host and for out of memory

abbrev pub lex_refusal : Text → LexFault → Option Refusal
lex_refusal path lexing.OutOfMemory = None
lex_refusal path fault = Some (lex path fault)

abbrev pub syntax_refusal : Text → SyntaxFault → Option Refusal
syntax_refusal path (parsing.At line found) = Some (syntax_at path line found)
syntax_refusal path parsing.OutOfMemory = None

abbrev pub eval_refusal : EvalFault → Option Refusal
eval_refusal evaluating.Host = None
eval_refusal evaluating.OutOfMemory = None
eval_refusal (evaluating.At path line cause) = Some (eval (record { spot = record { path = path; line = line }; cause = cause_of cause }))

abbrev pub feature_refusal : Text → ℕ → FeatureFault → Option Refusal
feature_refusal path line features.OutOfMemory = None
feature_refusal path line fault = Some (declaring (declaring_faults.Feature path line fault))

abbrev pub refusal_of : LoadFault → Option Refusal
refusal_of faults.NoJamroot = Some no_jamroot
refusal_of (faults.NoJamfile dir) = Some (no_jamfile dir)
refusal_of (faults.TooBig path size) = Some (too_big path size)
refusal_of (faults.Lex path fault) = lex_refusal path fault
refusal_of (faults.Syntax path fault) = syntax_refusal path fault
refusal_of (faults.Eval fault) = eval_refusal fault
refusal_of (faults.Declaration path rule line) = Some (declaring (declaring_faults.Declaration path rule line))
refusal_of (faults.Feature path line fault) = feature_refusal path line fault
refusal_of faults.Host = None
refusal_of faults.OutOfMemory = None

-- No fault within this one is a fault of the host or out of memory.
abbrev pub IsWhole : LoadFault → Type 0
IsWhole faults.Host = Unit {0}
IsWhole faults.OutOfMemory = Unit {0}
IsWhole (faults.Eval fault) = (why : Refusal) × (eval_refusal fault ≡ Some why) × HoldsNoMemory fault
IsWhole fault = (why : Refusal) × (refusal_of fault ≡ Some why)

-- The same of a fault of a walk, where no call is carried out.
abbrev pub IsOfWalk : LoadFault → Type 0
IsOfWalk (faults.Declaration path rule line) = ⊥
IsOfWalk (faults.Feature path line fault) = ⊥
IsOfWalk fault = IsWhole fault

-- ---- faults of parts, as those of the load

abbrev pub of_eval : EvalFault → LoadFault
of_eval evaluating.Host = faults.Host
of_eval evaluating.OutOfMemory = faults.OutOfMemory
of_eval (evaluating.At path line cause) = faults.Eval (evaluating.At path line cause)

abbrev pub of_lex : Text → LexFault → LoadFault
of_lex path lexing.OutOfMemory = faults.OutOfMemory
of_lex path fault = faults.Lex path fault

abbrev pub of_syntax : Text → ℕ → Text → LoadFault
of_syntax path line found = faults.Syntax path (parsing.At line found)

-- ---- the pattern that was refused although it reads as one

abbrev pub refused_by : LoadFault → Option Text
refused_by (faults.Eval fault) = pattern_refused_by fault
refused_by _ = None

abbrev pub refused_of : {A : Type 0} → Result A LoadFault → Option Text
refused_of (Ok a) = None
refused_of (Err fault) = refused_by fault
