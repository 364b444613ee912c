-- Which directories a declaration names.
use Rattle.std.specs.Prelude.{ℕ, List, [], ◌∷◌, ◌++◌, codes, Option, Some, None, if◌then◌else◌}
use Rattle.std.specs.List.{filter_map}
use Rattle.std.specs.Option.{option_and_then}
use Rattle.b2_base.specs.Segments.{is_rooted, path_from}
use Rattle.b2_property_texts.specs.Cuts.{cut_at}
use Rattle.b2_declaring_calls.specs.declared.declaration.Declaration.{Declaration}
use Rattle.b2_declaring_calls.specs.declared.declaration.Declaration.TheVariants.{Project, Main, Explicit, BuildProject, UseProject, Using, Feature, Compose, FileType, Generator, Import, Test}
use Rattle.b2_declaring_calls.specs.declared.references.TextKind.TheVariants.{Property}
use Rattle.b2_declaring_calls.specs.Lists.{Texts}
use Rattle.b2_declaring_calls.specs.References.{dependencies, list_dependencies}

-- The directory that stands before `//` in a reference: nothing stands for the folder, and an id, which begins with a
-- slash, names no directory.
abbrev pub directory_before : List ℕ → List ℕ → Option (List ℕ)
directory_before owner [] = Some (codes ".")
directory_before owner (first ∷ rest) = if is_rooted (first ∷ rest) then None else Some (path_from owner (first ∷ rest))

-- the directory of a reference, which is a text with `//` and is cut at the first one
abbrev pub directory_of : List ℕ → List ℕ → Option (List ℕ)
directory_of owner text = option_and_then (λ parts. directory_before owner parts.0) (cut_at (codes "//") text)

-- the directories of the references among some texts, with repeats
abbrev pub directories : List ℕ → Texts → Texts
directories owner texts = filter_map (directory_of owner) texts

-- the directories that a declaration in the file of a directory names, in order
abbrev pub named_directories : List ℕ → Declaration → Texts
named_directories owner (Project a) = directories owner (list_dependencies a.lists)
named_directories owner (Main t) = directories owner t.sources ++ directories owner (list_dependencies t.lists)
named_directories owner (BuildProject dir) = path_from owner dir ∷ []
named_directories owner (UseProject id dir) = path_from owner dir ∷ []
named_directories owner (Compose property parts) = directories owner (dependencies Property parts)
named_directories owner (Generator id sources targets requirements) = directories owner (dependencies Property requirements)
named_directories owner (Explicit names) = []
named_directories owner (Using command) = []
named_directories owner (Feature name values attributes) = []
named_directories owner (FileType name suffixes) = []
named_directories owner Import = []
named_directories owner (Test t) = directories owner t.sources ++ directories owner (list_dependencies t.lists)
