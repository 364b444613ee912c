-- The faults of an evaluation, as the code has them.
use Rattle.std.specs.Prelude.{Bool, true, false, is_some, Result, Ok, Err, if◌then◌else◌}
use Rattle.jam_meaning.specs.Faults.{Cause, unknown_rule, arity, turns, depth, expand, exit, native, include, lex, syntax_at, too_big, Fault, refused_in}
use Rattle.jam_meaning.specs.Outcomes.{Outcome, gives, faults}
use Rattle.jam_effects.specs.declared.fault.EvalCause.{EvalCause}
use Rattle.jam_effects.specs.declared.fault.EvalCause.TheVariants as causes
use Rattle.jam_effects.specs.declared.fault.EvalFault.{EvalFault}
use Rattle.jam_effects.specs.declared.fault.EvalFault.TheVariants as evaluating
use Rattle.jam_effects.specs.Causes.{cause_of, refused_by}

-- ---- what is defined, as an answer

abbrev pub why_of : Cause → EvalCause
why_of (unknown_rule name) = causes.UnknownRule name
why_of (arity rule) = causes.Arity rule
why_of (turns budget) = causes.Turns budget
why_of depth = causes.Depth
why_of (expand fault) = causes.Expand fault
why_of (exit text) = causes.Exit text
why_of (native fault) = causes.Native fault
why_of (include path) = causes.Include path
why_of (lex fault) = causes.Lex fault
why_of (syntax_at line found) = causes.Syntax line found
why_of (too_big path size) = causes.TooBig path size

abbrev pub fault_of : Fault → EvalFault
fault_of fault = evaluating.At fault.spot.path fault.spot.line (why_of fault.cause)

abbrev pub answer_of : {R A : Type 0} → Outcome R A → Result A EvalFault
answer_of (gives value s) = Ok value
answer_of (faults fault s) = Err (fault_of fault)

-- ---- what no definition tells

-- A fault of the host, or a pattern that was refused although it reads as one; out of memory, or such a pattern. So a pattern
-- that was refused is both.
abbrev pub is_host_fault : EvalFault → Bool
is_host_fault evaluating.Host = true
is_host_fault evaluating.OutOfMemory = false
is_host_fault (evaluating.At path line why) = is_some (refused_in (cause_of why))

abbrev pub is_out_of_memory : EvalFault → Bool
is_out_of_memory evaluating.Host = false
is_out_of_memory evaluating.OutOfMemory = true
is_out_of_memory (evaluating.At path line why) = is_some (refused_in (cause_of why))

-- ---- the same where a pattern that was refused is an answer like any other

abbrev pub is_host : EvalFault → Bool
is_host evaluating.Host = true
is_host evaluating.OutOfMemory = false
is_host (evaluating.At path line why) = false

abbrev pub is_memory : EvalFault → Bool
is_memory evaluating.Host = false
is_memory evaluating.OutOfMemory = true
is_memory (evaluating.At path line why) = false

-- out of memory in place of a pattern that was refused
abbrev pub unless_refused : EvalFault → EvalFault
unless_refused fault = if is_some (refused_by fault) then evaluating.OutOfMemory else fault
