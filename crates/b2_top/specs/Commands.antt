-- What words ask to be built.
use Rattle.std.specs.Prelude.{List, Option, Some, None}
use Rattle.std.specs.Option.{option_map}
use Rattle.b2_command_line.specs.Words.{Word, reading}
use Rattle.b2_command_line.specs.declared.words.BuildOptions.{BuildOptions}
use Rattle.b2_command_line.specs.declared.words.Command.{Command}
use Rattle.b2_command_line.specs.declared.words.Command.TheVariants as commands
use Rattle.b2_command_line.specs.declared.words.Words.{Words}
use Rattle.b2_top.specs.declared.build_command.BuildCommand.{BuildCommand}

-- how a command builds, if it is a build
abbrev pub options_in : Command → Option BuildOptions
options_in (commands.Build options) = Some options
options_in (commands.Look view) = None
options_in (commands.Explain all) = None
options_in commands.Clean = None
options_in (commands.Drill steps) = None

abbrev pub command_of : List Word → BuildOptions → BuildCommand
command_of free options = record { options = options; words = free }

abbrev pub command_in : Option Words → Option BuildCommand
command_in None = None
command_in (Some read) = option_map (command_of read.words) (options_in read.command)

-- How words ask to be built, and of which free words. They do not where they are not of the grammar, or ask for something else.
abbrev pub build_command : List Word → Option BuildCommand
build_command words = command_in (reading words)
