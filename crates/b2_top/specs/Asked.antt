-- What words ask to be explained or cleaned.
use Rattle.std.specs.Prelude.{Bool, true, false, List, Option, Some, None, if◌then◌else◌}
use Rattle.std.specs.Option.{option_map}
use Rattle.b2_command_line.specs.Words.{Word, reading}
use Rattle.b2_command_line.specs.declared.words.Command.{Command}
use Rattle.b2_command_line.specs.declared.words.Command.TheVariants as commands
use Rattle.b2_command_line.specs.declared.words.Words.{Words}
use Rattle.b2_top.specs.declared.asked.ExplainCommand.{ExplainCommand}

-- whether all is to run, if a command is an explanation
abbrev pub all_in : Command → Option Bool
all_in (commands.Explain all) = Some all
all_in (commands.Build options) = None
all_in (commands.Look view) = None
all_in commands.Clean = None
all_in (commands.Drill steps) = None

abbrev pub is_clean : Command → Bool
is_clean commands.Clean = true
is_clean (commands.Build options) = false
is_clean (commands.Look view) = false
is_clean (commands.Explain all) = false
is_clean (commands.Drill steps) = false

abbrev pub explain_with : List Word → Bool → ExplainCommand
explain_with free all = record { all = all; words = free }

abbrev pub explain_in : Option Words → Option ExplainCommand
explain_in None = None
explain_in (Some read) = option_map (explain_with read.words) (all_in read.command)

abbrev pub clean_in : Option Words → Option (List Word)
clean_in None = None
clean_in (Some read) = if is_clean read.command then Some read.words else None

-- What words ask to be explained, and of which free words. They ask for no explanation where they are not of the grammar, or ask for
-- something else.
abbrev pub explain_command : List Word → Option ExplainCommand
explain_command words = explain_in (reading words)

-- the free words, where words ask for cleaning
abbrev pub clean_words : List Word → Option (List Word)
clean_words words = clean_in (reading words)

-- the free words of an explanation
abbrev pub explained_words : List Word → Option (List Word)
explained_words words = option_map (λ command. command.words) (explain_command words)
