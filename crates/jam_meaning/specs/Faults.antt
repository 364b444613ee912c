-- Why an evaluation ends, with the texts as data, and where.
use Rattle.std.specs.Prelude.{ℕ, Option, Some, None, if◌then◌else◌}
use Rattle.b2_base.specs.declared.expand_fault.ExpandFault.{ExpandFault}
use Rattle.jam_lexer.specs.declared.fault.LexFault.{LexFault}
use Rattle.jam_patterns.specs.Pattern.{is_pattern}
use Rattle.jam_patterns.specs.declared.native_fault.NativeFault.{NativeFault}
use Rattle.jam_patterns.specs.declared.native_fault.NativeFault.TheVariants as natives
use Rattle.jam_journal.specs.Tables.{Text}

pub data Cause : Type 0 where
  unknown_rule : Text → Cause
  arity : Text → Cause
  turns : ℕ → Cause
  depth : Cause
  expand : ExpandFault → Cause
  exit : Text → Cause
  native : NativeFault → Cause
  include : Text → Cause
  lex : LexFault → Cause
  syntax_at : ℕ → Text → Cause
  too_big : Text → ℕ → Cause

-- where a statement stands: a file, and a line in it
pub record Spot : Type 0 where
  pub path : Text
  pub line : ℕ

-- the spot is that of the innermost statement that was being run
pub record Fault : Type 0 where
  pub spot : Spot
  pub cause : Cause

-- the pattern that was refused although it reads as one, if the fault is that
abbrev pub refused_by : NativeFault → Option Text
refused_by (natives.PatternRefused text) = if is_pattern text then Some text else None
refused_by (natives.NoSuchRule owner name) = None
refused_by (natives.DependsElsewhere rule text) = None

abbrev pub refused_in : Cause → Option Text
refused_in (unknown_rule name) = None
refused_in (arity name) = None
refused_in (turns budget) = None
refused_in depth = None
refused_in (expand fault) = None
refused_in (exit text) = None
refused_in (native fault) = refused_by fault
refused_in (include path) = None
refused_in (lex fault) = None
refused_in (syntax_at line found) = None
refused_in (too_big path size) = None
