-- The lists of a call of `project`.
use Rattle.std.specs.Prelude.{ℕ, Bool, true, false, ◌&&◌, ◌||◌, List, [], ◌∷◌, ◌++◌, codes, drop, Option, Some, None, is_some, option_map, slice_get, if◌then◌else◌}
use Rattle.std.specs.List.{filter_map}
use Rattle.std.specs.Str.{bytes_eq}
use Rattle.b2_base.specs.Segments.{is_rooted}
use Rattle.b2_base.specs.Lists.{list_at}
use Rattle.b2_declaring_calls.specs.declared.declaration.Attributes.{Attributes}
use Rattle.b2_declaring_calls.specs.declared.declaration.ListName.{ListName}
use Rattle.b2_declaring_calls.specs.declared.declaration.ListName.TheVariants.{Requirements, DefaultBuild, Usage}
use Rattle.b2_declaring_calls.specs.declared.declaration.PropertyList.{PropertyList}
use Rattle.b2_declaring_calls.specs.Lists.{Texts, listed}
use Rattle.b2_base.specs.Shapes.{are_empty}

-- an id begins with a slash
abbrev pub id_of : List ℕ → List ℕ
id_of text = if is_rooted text then text else codes "/" ++ text

-- whether an attribute list has a name, which is its first text
abbrev pub has_name : List ℕ → Texts → Bool
has_name name [] = false
has_name name (first ∷ values) = bytes_eq first name

-- what the values of an attribute list are, where they are property texts
abbrev pub list_name : Texts → Option ListName
list_name list =
    if has_name (codes "requirements") list then Some Requirements
    else (if has_name (codes "default-build") list then Some DefaultBuild else (if has_name (codes "usage-requirements") list then Some Usage else None))

-- attribute lists have property texts or output directories
abbrev pub is_attribute : Texts → Bool
is_attribute list = is_some (list_name list) || has_name (codes "output-dirs") list

-- each is an attribute list; after the last one only empty lists stand
abbrev pub are_attributes : List Texts → Bool
are_attributes [] = true
are_attributes (list ∷ lists) = (is_attribute list && are_attributes lists) || are_empty (list ∷ lists)

-- the attribute lists are those after the first, which has the id
abbrev pub attribute_lists : List Texts → List Texts
attribute_lists lists = drop 1 lists

-- the property list that an attribute list is; its values stand after its name
abbrev pub property_list : Texts → Option PropertyList
property_list list = option_map (λ name. listed name (drop 1 list)) (list_name list)

-- what a call of `project` says: its id, and its property lists in order
abbrev pub attributes : List Texts → Attributes
attributes lists = record { id = option_map id_of (slice_get (list_at 0 lists) 0); lists = filter_map property_list (attribute_lists lists) }
