-- What MATCH gives.
use Rattle.std.specs.Prelude.{◌≡◌, false, List, [], ◌∷◌, ◌++◌, Option, Some, None, Result, Ok, Err, if◌then◌else◌}
use Rattle.std.specs.Option.{option_map_or}
use Rattle.std.specs.Str.{bytes_eq}
use Rattle.jam_journal.specs.Tables.{Text}
use Rattle.jam_journal.specs.Scopes.{Value}
use Rattle.jam_patterns.specs.Groups.{groups_of}
use Rattle.jam_patterns.specs.Pattern.{is_pattern}
use Rattle.jam_patterns.specs.declared.refusal.PatternFault.{PatternFault}
use Rattle.jam_patterns.specs.declared.refusal.PatternFault.TheVariants as faults

-- what was found so far, or a pattern that is refused
abbrev pub Found : Type 0
Found = Result Value Text

abbrev pub go_on : Found → (Value → Found) → Found
go_on (Ok found) next = next found
go_on (Err pattern) next = Err pattern

-- one text of a list after the other adds to what is found, up to the first refusal
abbrev pub run_all : (Value → Text → Found) → Value → List Text → Found
run_all step found [] = Ok found
run_all step found (text ∷ texts) = go_on (step found text) (λ more. run_all step more texts)

-- the groups of the pattern's first match in the text; none where the text is no pattern, and where it is the one refused
abbrev pub groups_unless : Option Text → Text → Text → Option (Option Value)
groups_unless refused pattern text = if option_map_or (bytes_eq pattern) refused false then None else groups_of pattern text

abbrev pub with_groups : Option (Option Value) → Text → Value → Found
with_groups None pattern found = Err pattern
with_groups (Some None) pattern found = Ok found
with_groups (Some (Some groups)) pattern found = Ok (found ++ groups)

-- a pattern's groups in a text, after those found so far
abbrev pub with_match : Option Text → Text → Value → Text → Found
with_match refused text found pattern = with_groups (groups_unless refused pattern text) pattern found

-- those of each pattern
abbrev pub with_matches : Option Text → List Text → Value → Text → Found
with_matches refused patterns found text = run_all (with_match refused text) found patterns

-- for each text, then each pattern: the groups of the first match; or the first refused pattern that one comes to
abbrev pub matches_of : Option Text → List Text → List Text → Found
matches_of refused patterns texts = run_all (with_matches refused patterns) [] texts

-- a text that is a pattern is refused only if that is said
abbrev pub refused_as : Text → Option Text
refused_as pattern = if is_pattern pattern then Some pattern else None

-- memory ran out, or the answer is the refusal of this pattern
abbrev pub IsRefusal : PatternFault → (Option Text → Found) → Type 0
IsRefusal faults.OutOfMemory answer = Unit {0}
IsRefusal (faults.Refused pattern) answer = answer (refused_as pattern) ≡ Err pattern
