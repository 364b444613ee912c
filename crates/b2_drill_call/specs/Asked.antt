-- Which drill words ask for.
use Rattle.std.specs.Prelude.{ℕ, List, Option, Some, None}
use Rattle.b2_command_line.specs.Words.{Word, reading}
use Rattle.b2_command_line.specs.declared.words.Command.{Command}
use Rattle.b2_command_line.specs.declared.words.Command.TheVariants as commands
use Rattle.b2_command_line.specs.declared.words.Words.{Words}

-- how many targets the drill has, if a command is one
abbrev pub steps_in : Command → Option ℕ
steps_in (commands.Build options) = None
steps_in (commands.Look view) = None
steps_in (commands.Explain all) = None
steps_in commands.Clean = None
steps_in (commands.Drill steps) = Some steps

abbrev pub drill_in : Option Words → Option ℕ
drill_in None = None
drill_in (Some read) = steps_in read.command

-- How many targets the drill has that words ask for. There is none where they are not of the grammar, or ask for something else.
abbrev pub drill_of : List Word → Option ℕ
drill_of words = drill_in (reading words)
