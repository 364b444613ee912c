-- What some native rules make of texts.
use Rattle.std.specs.Prelude.{[], ◌∷◌, ◌++◌, length, drop, filter, fold, map as each, nat_eq, if◌then◌else◌}
use Rattle.std.specs.List.{flat_map, list_any, starts_with}
use Rattle.std.specs.Str.{bytes_eq}
use Rattle.std.specs.Ordering.{is_lt, nat_cmp}
use Rattle.std.specs.Cmp.Lexicographic.{slice_cmp}
use Rattle.jam_journal.specs.Tables.{Text}
use Rattle.jam_journal.specs.Scopes.{Value}

-- the texts with one space (32) between them
abbrev pub line_of : Value → Text
line_of [] = []
line_of (text ∷ texts) = text ++ flat_map (λ other. 32 ∷ other) texts

-- what follows a beginning, in each text that has it
abbrev pub after_start : Text → Value → Value
after_start start texts = each (drop (length start)) (filter (λ text. starts_with nat_eq text start) texts)

-- a text put before the first that is not below it in byte order
abbrev pub put_sorted : Text → Value → Value
put_sorted text [] = text ∷ []
put_sorted text (first ∷ more) = if is_lt (slice_cmp nat_cmp first text) then first ∷ put_sorted text more else text ∷ first ∷ more

-- in byte order, with repeats
abbrev pub sorted : Value → Value
sorted [] = []
sorted (text ∷ texts) = put_sorted text (sorted texts)

abbrev pub add_new : Value → Text → Value
add_new found text = if list_any (bytes_eq text) found then found else found ++ text ∷ []

-- each text at its first place alone
abbrev pub without_repeats : Value → Value
without_repeats = fold add_new []
