-- The command line of plain Jam mode: `-f FILE`, then the words of a build.
use Rattle.std.specs.Prelude.{List, [], ◌∷◌, Option, Some, None, option_and_then, if◌then◌else◌, codes}
use Rattle.std.specs.Str.{bytes_eq}
use Rattle.b2_command_line.specs.declared.jam.JamWords.{JamWords}
use Rattle.b2_command_line.specs.declared.words.BuildOptions.{BuildOptions}
use Rattle.b2_command_line.specs.declared.words.Command.{Command}
use Rattle.b2_command_line.specs.declared.words.Command.TheVariants as commands
use Rattle.b2_command_line.specs.declared.words.Words.{Words}
use Rattle.b2_command_line.specs.Words.{Word, build_reading}

abbrev pub jam_words : Word → List Word → BuildOptions → JamWords
jam_words file targets options = record { file = file; options = options; targets = targets }

-- a build with these words; a look, an explanation and cleaning are not of this grammar
abbrev pub jam_meant : Word → List Word → Command → Option JamWords
jam_meant file targets (commands.Build options) = Some (jam_words file targets options)
jam_meant file targets (commands.Look view) = None
jam_meant file targets (commands.Explain all) = None
jam_meant file targets commands.Clean = None
jam_meant file targets (commands.Drill steps) = None

-- FILE is the second word, whatever it begins with; the empty word is none
abbrev pub reading_file : List Word → Option JamWords
reading_file [] = None
reading_file ([] ∷ rest) = None
reading_file ((byte ∷ bytes) ∷ rest) = option_and_then (λ (read : Words). jam_meant (byte ∷ bytes) read.words read.command) (build_reading rest)

-- what a list of words asks for, where it is of the grammar
abbrev pub jam_reading : List Word → Option JamWords
jam_reading [] = None
jam_reading (word ∷ rest) = if bytes_eq word (codes "-f") then reading_file rest else None
