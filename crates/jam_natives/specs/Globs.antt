-- Which files GLOB and `glob` find.
use Rattle.std.specs.Prelude.{Bool, not, ◌||◌, [], ◌∷◌, ◌++◌, codes, filter, map as each, if◌then◌else◌}
use Rattle.std.specs.List.{flat_map, list_any}
use Rattle.std.specs.Str.{bytes_eq}
use Rattle.b2_base.specs.Segments.{normal_of, path_from, file_name}
use Rattle.b2_base.specs.Below.{is_below}
use Rattle.jam_path.specs.Names.{dir_of}
use Rattle.jam_journal.specs.Tables.{Text}
use Rattle.jam_journal.specs.Scopes.{Value}
use Rattle.jam_meaning.specs.Settings.{Sight}
use Rattle.jam_natives.specs.Texts.{without_repeats}

-- a name directly in a directory, as a path; in `.` it is the name alone (47 is the slash)
abbrev pub path_in : Text → Text → Text
path_in dir name = if bytes_eq dir (codes ".") then name else (if bytes_eq dir (codes "/") then 47 ∷ name else dir ++ 47 ∷ name)

-- an output root, or a directory below one: no file in it is a source
abbrev pub is_output_dir : Value → Text → Bool
is_output_dir roots dir = list_any (λ root. bytes_eq dir root || is_below dir root) roots

-- one of the patterns matches a text
abbrev pub is_matched : (Text → Text → Bool) → Value → Text → Bool
is_matched matching patterns text = list_any (λ pattern. matching pattern text) patterns

-- names that a pattern matches, as paths in a directory, without those that an excluding pattern matches
abbrev pub picked : (Text → Text → Bool) → Value → Value → Text → Value → Value
picked matching patterns excluded dir names =
    filter (λ path. not (is_matched matching excluded path)) (each (path_in dir) (filter (is_matched matching patterns) names))

-- the source files of a directory that are picked, as paths in a directory that stands for it
abbrev pub found_in : Sight → Value → Value → Value → Text → Text → Value
found_in sight roots patterns excluded dir shown =
    if is_output_dir roots dir then [] else picked sight.matching patterns excluded shown (sight.names dir)

-- GLOB: directories are relative to the folder, and what is found stands in their order, in each in byte order
abbrev pub globbed : Sight → Value → Value → Value → Value
globbed sight roots dirs patterns = flat_map (λ dir. found_in sight roots patterns [] (normal_of dir) (normal_of dir)) dirs

-- what stands before the last slash of a pattern is a directory, relative to that of the project, and the rest a pattern on
-- its names
abbrev pub found_by : Sight → Value → Text → Value → Text → Value
found_by sight roots place excluded pattern =
    found_in sight roots (file_name pattern ∷ []) excluded (path_from place (dir_of pattern)) (normal_of (dir_of pattern))

-- `glob`: in order of the patterns, without repeats
abbrev pub project_globbed : Sight → Value → Text → Value → Value → Value
project_globbed sight roots place patterns excluded = without_repeats (flat_map (found_by sight roots place excluded) patterns)
