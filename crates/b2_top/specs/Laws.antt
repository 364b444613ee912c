-- Laws of the words of a build, and of those of plain Jam mode.
use Rattle.std.specs.Prelude.{◌≡◌, ◌≤◌, List, Some}
use Rattle.b2_command_line.specs.Words.{Word}
use Rattle.b2_top.specs.declared.build_command.BuildCommand.{BuildCommand}
use Rattle.b2_top.specs.Commands.{build_command}
use Rattle.b2_top.specs.Askings.{jam_of}

-- words that ask for a build ask for at most 64 jobs
abbrev pub FewJobs : Type 0
FewJobs = (words : List Word) (command : BuildCommand) → build_command words ≡ Some command → command.options.jobs ≤ 64

-- so do words of plain Jam mode
abbrev pub FewJamJobs : Type 0
FewJamJobs = (words : List Word) (command : BuildCommand) → (jam_of words).command ≡ Some command → command.options.jobs ≤ 64
