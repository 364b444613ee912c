-- Which texts DEPENDS, INCLUDES, ALWAYS and NOTFILE have a place for.
use Rattle.std.specs.Prelude.{Bool, not, ◌&&◌, [], Option}
use Rattle.std.specs.Option.{option_or}
use Rattle.std.specs.List.{find, list_any}
use Rattle.std.specs.Str.{bytes_eq}
use Rattle.b2_base.specs.Segments.{normal_of}
use Rattle.jam_journal.specs.Tables.{Text}
use Rattle.jam_journal.specs.Scopes.{Value}

-- a text is no path: it is empty
abbrev pub is_no_path : Text → Bool
is_no_path text = bytes_eq text []

-- a text names one of some paths: its normal form is that path
abbrev pub names_one : Value → Text → Bool
names_one paths text = not (is_no_path text) && list_any (bytes_eq (normal_of text)) paths

-- the first target that names none of the paths, else the first source that is no path
abbrev pub first_foreign : Value → Value → Value → Option Text
first_foreign paths targets sources = option_or (find (λ target. not (names_one paths target)) targets) (find is_no_path sources)
