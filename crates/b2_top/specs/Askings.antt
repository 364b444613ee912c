-- What is asked for, and of what: a build of the project of the folder, or of the graph of a Jam file.
use Rattle.std.specs.Prelude.{◌≡◌, ℕ, List, [], Option, Some, None, Ok, Err}
use Rattle.b2_base.specs.Segments.{normal_of}
use Rattle.b2_host.specs.Disks.{Disk}
use Rattle.b2_prepare.specs.Meaning.{BeginLoad, AsksTests, Means}
use Rattle.b2_generate.specs.Planning.{Planned}
use Rattle.b2_refusals.specs.declared.fault.Fault.{Fault}
use Rattle.b2_refusals.specs.declared.fault.Fault.TheVariants as faults
use Rattle.b2_refusals.specs.Wholes.{IsPlanRefusal, IsJamRefusal}
use Rattle.b2_command_line.specs.Words.{Word}
use Rattle.b2_command_line.specs.JamWords.{jam_reading}
use Rattle.b2_command_line.specs.declared.jam.JamWords.{JamWords}
use Rattle.jam_engine.specs.Plans.{Target}
use Rattle.jam_prepare.specs.Meaning.{Means as JamMeans, BeginLoad as BeginJamLoad}
use Rattle.jam_prepare.specs.Preparing.{IsPrepared as IsJamPrepared}
use Rattle.b2_top.specs.declared.answer.Answer.{Answer}
use Rattle.b2_top.specs.declared.answer.Answer.TheVariants as answers
use Rattle.b2_top.specs.declared.build_command.BuildCommand.{BuildCommand}
use Rattle.b2_top.specs.Commands.{build_command}
use Rattle.b2_top.specs.RefusalCauses.{HasCause, IsOfPattern, IsPatternRefused}

-- where a plan comes from
pub data Source : Type 0 where
  project : Source
  jam_file : Word → Source

-- a command, if one is asked for, and where its plan comes from
pub record Asking : Type 0 where
  pub source : Source
  pub command : Option BuildCommand

-- what the words of a build ask for
abbrev pub build_of : List Word → Asking
build_of words = record { source = project; command = build_command words }

-- a command of a Jam file
abbrev pub of_file : Word → BuildCommand → Asking
of_file file command = record { source = jam_file file; command = Some command }

-- what the words of plain Jam mode ask for; where they are not of its grammar, there is no command
abbrev pub jam_command_of : JamWords → BuildCommand
jam_command_of read = record { options = read.options; words = read.targets }

abbrev pub file_in : Option JamWords → Word
file_in None = []
file_in (Some read) = normal_of read.file

abbrev pub command_in : Option JamWords → Option BuildCommand
command_in None = None
command_in (Some read) = Some (jam_command_of read)

abbrev pub asking_in : Option JamWords → Asking
asking_in read = record { source = jam_file (file_in read); command = command_in read }

abbrev pub jam_of : List Word → Asking
jam_of words = asking_in (jam_reading words)

-- ---- what files and free words come to

-- a plan without a table of main targets
abbrev pub planned_of : Target → Planned
planned_of target = record { steps = target.steps; wanted = target.wanted; roots = target.roots; rows = []; table = [] }

-- the files and the free words come to these lines of ECHO, and to this plan
abbrev pub ComesTo : Source → Disk → List Word → List Word → Planned → Type 0
ComesTo project disk words echoes planned = Means disk None words echoes (Ok planned)
ComesTo (jam_file file) disk words echoes planned =
    (target : Target) × (planned ≡ planned_of target) × JamMeans disk None file words echoes (Ok target)

-- they come to one plan
abbrev pub ComesToOne : Source → Type 0
ComesToOne source = (disk : Disk) (words echoes others : List Word) (a b : Planned)
    → ComesTo source disk words echoes a → ComesTo source disk words others b → a ≡ b

-- the tests that a plan asks for; that of a Jam file asks for none
abbrev pub AsksTestsOf : Source → Disk → List Word → Planned → List (List ℕ × ℕ) → Type 0
AsksTestsOf project disk words planned tests = AsksTests disk words planned tests
AsksTestsOf (jam_file file) disk words planned tests = tests ≡ []

-- the lines begin those that the load records to its end
abbrev pub BeginsLoad : Source → Disk → List Word → List Word → Type 0
BeginsLoad project disk words lines = BeginLoad disk words lines
BeginsLoad (jam_file file) disk words lines = BeginJamLoad disk file lines

-- a Jam file and words come to this fault, after these lines
abbrev pub HasJamCause : Word → Disk → List Word → List Word → Fault → Type 0
HasJamCause file disk words echoes (faults.Plan why) = ⊥
HasJamCause file disk words echoes (faults.Jam fault) = IsJamPrepared disk file words echoes (Err fault)
HasJamCause file disk words echoes (faults.StepCycle list) = ⊥
HasJamCause file disk words echoes (faults.TooBig path size) = ⊥

abbrev pub HasCauseIn : Source → Disk → List Word → List Word → Fault → Type 0
HasCauseIn project disk words echoes fault = HasCause disk words echoes fault
HasCauseIn (jam_file file) disk words echoes fault = HasJamCause file disk words echoes fault

-- A refusal of what is asked for from there: no fault of the host and no out of memory is within it. No project is refused as a Jam
-- file is, and no Jam file as a project.
abbrev pub IsWholeFor : Fault → Source → Type 0
IsWholeFor (faults.Plan why) project = IsPlanRefusal why
IsWholeFor (faults.Plan why) (jam_file file) = ⊥
IsWholeFor (faults.Jam fault) project = ⊥
IsWholeFor (faults.Jam fault) (jam_file file) = IsJamRefusal fault
IsWholeFor (faults.StepCycle list) source = Unit {0}
IsWholeFor (faults.TooBig path size) source = Unit {0}

abbrev pub IsProjectRefusal : Fault → Type 0
IsProjectRefusal fault = IsWholeFor fault project

-- the answer is a refusal of a pattern that reads as one, and this is what the file and the words come to
abbrev pub IsJamPatternRefused : Word → Disk → List Word → Answer → Type 0
IsJamPatternRefused file disk words answers.Ok = ⊥
IsJamPatternRefused file disk words (answers.Failed lists) = ⊥
IsJamPatternRefused file disk words (answers.Refused fault) =
    IsOfPattern fault × ((echoes : List Word) × HasJamCause file disk words echoes fault)
IsJamPatternRefused file disk words answers.Usage = ⊥
IsJamPatternRefused file disk words answers.HostFault = ⊥
IsJamPatternRefused file disk words answers.OutOfMemory = ⊥
IsJamPatternRefused file disk words answers.SinkFault = ⊥

abbrev pub IsPatternRefusedIn : Source → Disk → List Word → Answer → Type 0
IsPatternRefusedIn project disk words result = IsPatternRefused disk words result
IsPatternRefusedIn (jam_file file) disk words result = IsJamPatternRefused file disk words result
