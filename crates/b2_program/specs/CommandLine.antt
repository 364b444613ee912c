-- What the words of the command line are as texts.
use Rattle.std.specs.Prelude.{ℕ, List, All, String, string_bytes}
use Rattle.std.specs.Global.{Global}
use Rattle.b2_base.specs.Bytes.{HasNoZero}
use Rattle.b2_program.specs.declared.command_line.CommandLineFault.{CommandLineFault}
use Rattle.b2_program.specs.declared.command_line.CommandLineFault.TheVariants as faults

-- no word has a zero byte
abbrev pub AreTexts : List (String Global) → Type 0
AreTexts = All (λ word. HasNoZero (string_bytes word))

-- the exit status of a fault
abbrev pub status_of : CommandLineFault → ℕ
status_of faults.NoText = 3
status_of faults.OutOfMemory = 5
