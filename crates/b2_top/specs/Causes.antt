-- Why a build is refused before anything is started.
use Rattle.std.specs.Prelude.{◌≡◌, List, Some}
use Rattle.b2_host.specs.Disks.{Disk}
use Rattle.b2_refusals.specs.declared.fault.Fault.{Fault}
use Rattle.b2_command_line.specs.Words.{Word}
use Rattle.b2_top.specs.declared.build_command.BuildCommand.{BuildCommand}
use Rattle.b2_top.specs.Askings.{Asking, build_of, HasCauseIn}

-- A command is asked for, and the files and its free words come to this fault, after these lines of ECHO. A step cycle and
-- a file that is too big for the update are told by the update alone.
pub record HasNoPlanFor (asking : Asking) (disk : Disk) (echoes : List Word) (fault : Fault) : Type 0 where
  pub command : BuildCommand
  pub asked : asking.command ≡ Some command
  pub cause : HasCauseIn asking.source disk command.words echoes fault

-- the same of the words of a build
abbrev pub HasNoPlan : List Word → Disk → List Word → Fault → Type 0
HasNoPlan words disk echoes fault = HasNoPlanFor (build_of words) disk echoes fault
