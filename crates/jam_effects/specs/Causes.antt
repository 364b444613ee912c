-- Faults of the code, as data.
use Rattle.std.specs.Prelude.{◌≡◌, ◌≢◌, Option, None, Result, Ok, Err}
use Rattle.b2_base.specs.declared.expand_fault.ExpandFault.TheVariants as expansions
use Rattle.jam_lexer.specs.declared.fault.LexFault.TheVariants as lexings
use Rattle.jam_journal.specs.Tables.{Text}
use Rattle.jam_meaning.specs.Faults.{Cause, unknown_rule, arity, turns, depth, expand, exit, native, include, lex, syntax_at, too_big, Spot, refused_in}
use Rattle.jam_effects.specs.declared.fault.EvalCause.{EvalCause}
use Rattle.jam_effects.specs.declared.fault.EvalCause.TheVariants as causes
use Rattle.jam_effects.specs.declared.fault.EvalFault.{EvalFault}
use Rattle.jam_effects.specs.declared.fault.EvalFault.TheVariants as faults

abbrev pub cause_of : EvalCause → Cause
cause_of (causes.UnknownRule name) = unknown_rule name
cause_of (causes.Arity rule) = arity rule
cause_of (causes.Turns budget) = turns budget
cause_of causes.Depth = depth
cause_of (causes.Expand fault) = expand fault
cause_of (causes.Exit text) = exit text
cause_of (causes.Native fault) = native fault
cause_of (causes.Include path) = include path
cause_of (causes.Lex fault) = lex fault
cause_of (causes.Syntax line found) = syntax_at line found
cause_of (causes.TooBig path size) = too_big path size

-- the cause is not that memory ran out
abbrev pub IsWhole : Cause → Type 0
IsWhole (expand fault) = fault ≢ expansions.OutOfMemory
IsWhole (lex fault) = fault ≢ lexings.OutOfMemory
IsWhole _ = Unit {0}

-- where memory ran out, the fault says that alone, and at no line
abbrev pub HoldsNoMemory : EvalFault → Type 0
HoldsNoMemory faults.Host = Unit {0}
HoldsNoMemory faults.OutOfMemory = Unit {0}
HoldsNoMemory (faults.At path line why) = IsWhole (cause_of why)

-- the fault has this cause at this spot, unless memory ran out as it was made
abbrev pub IsFault : Spot → Cause → EvalFault → Type 0
IsFault spot cause faults.Host = ⊥
IsFault spot cause faults.OutOfMemory = Unit {0}
IsFault spot cause (faults.At path line why) = (record { path = path; line = line } ≡ spot) × (cause_of why ≡ cause) × IsWhole (cause_of why)

-- the pattern that was refused although it reads as one
abbrev pub refused_by : EvalFault → Option Text
refused_by faults.Host = None
refused_by faults.OutOfMemory = None
refused_by (faults.At path line why) = refused_in (cause_of why)

abbrev pub refused_of : {A : Type 0} → Result A EvalFault → Option Text
refused_of (Ok a) = None
refused_of (Err e) = refused_by e
