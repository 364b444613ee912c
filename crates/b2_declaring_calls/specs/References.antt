-- The references in property texts.
use Rattle.std.specs.Prelude.{ℕ, Bool, List, [], ◌∷◌, codes, Option, Some, None, if◌then◌else◌}
use Rattle.std.specs.List.{list_any, filter_map, flat_map}
use Rattle.std.specs.Option.{option_map_or, option_and_then}
use Rattle.std.specs.Str.{bytes_eq}
use Rattle.b2_property_texts.specs.Cuts.{cut_at, named_pair}
use Rattle.b2_declaring_calls.specs.declared.declaration.ListName.{ListName}
use Rattle.b2_declaring_calls.specs.declared.declaration.ListName.TheVariants.{Requirements, DefaultBuild, Usage}
use Rattle.b2_declaring_calls.specs.declared.declaration.PropertyList.{PropertyList}
use Rattle.b2_declaring_calls.specs.declared.references.TextKind.{TextKind}
use Rattle.b2_declaring_calls.specs.declared.references.TextKind.TheVariants.{Property, Requirement}
use Rattle.b2_declaring_calls.specs.Lists.{Texts}

-- the features whose values name targets
abbrev pub is_dependency : List ℕ → Bool
is_dependency feature = list_any (bytes_eq feature) (codes "library" ∷ codes "source" ∷ codes "dependency" ∷ codes "use" ∷ [])

-- the property in a text: in a requirement what stands after its conditions, with its `<`, which is 60
abbrev pub property_in : TextKind → List ℕ → List ℕ
property_in Property text = text
property_in Requirement text = option_map_or (λ parts. 60 ∷ parts.1) (cut_at (codes ":<") text) text

-- the value of a dependency property
abbrev pub dependency_in : TextKind → List ℕ → Option (List ℕ)
dependency_in reading text = option_and_then (λ p. if is_dependency p.0 then Some p.1 else None) (named_pair (property_in reading text))

-- the values of the dependency properties in some texts
abbrev pub dependencies : TextKind → Texts → Texts
dependencies reading texts = filter_map (dependency_in reading) texts

-- how the texts of a property list are read
abbrev pub reading_of : ListName → TextKind
reading_of DefaultBuild = Property
reading_of Requirements = Requirement
reading_of Usage = Requirement

-- the values of the dependency properties in property lists, in order
abbrev pub list_dependencies : List PropertyList → Texts
list_dependencies lists = flat_map (λ l. dependencies (reading_of l.name) l.texts) lists
