-- What the program is called for, by its words alone.
use Rattle.std.specs.Prelude.{◌||◌, Bool, List, [], ◌∷◌, Option, Some, None, is_some, unwrap_or, if◌then◌else◌, codes}
use Rattle.std.specs.Str.{bytes_eq}
use Rattle.b2_command_line.specs.Words.{Word, after_lead}
use Rattle.b2_top.specs.declared.mode.Mode.{Mode}
use Rattle.b2_top.specs.declared.mode.Mode.TheVariants.{Build, Look, Explain, Clean, Drill, Jam}

abbrev pub is_drill : Word → Bool
is_drill word = is_some (after_lead (codes "--drill=") word)

abbrev pub is_file : Word → Bool
is_file word = bytes_eq word (codes "-f")

-- what a word alone asks for
abbrev pub mode_named : Word → Option Mode
mode_named word =
    if bytes_eq word (codes "-n") || bytes_eq word (codes "--show") then Some Look
    else if bytes_eq word (codes "--explain") then Some Explain
    else if bytes_eq word (codes "--clean") then Some Clean
    else None

-- the first of two, where there is one
abbrev pub first_mode : Option Mode → Option Mode → Option Mode
first_mode None later = later
first_mode (Some mode) later = Some mode

-- what the first such word before the first `--` asks for
unfoldable pub mode_asked : List Word → Option Mode
mode_asked [] = None
mode_asked (word ∷ rest) =
    if bytes_eq word (codes "--") then None else first_mode (mode_named word) (mode_asked rest)

abbrev pub mode_of : List Word → Mode
mode_of [] = Build
mode_of (word ∷ rest) = if is_file word then Jam else if is_drill word then Drill else unwrap_or (mode_asked (word ∷ rest)) Build
