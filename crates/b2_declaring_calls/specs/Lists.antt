-- The lists of a call.
use Rattle.std.specs.Prelude.{ℕ, List, [], slice_get, unwrap_or}
use Rattle.b2_base.specs.Lists.{list_at}
use Rattle.b2_declaring_calls.specs.declared.declaration.ListName.{ListName}
use Rattle.b2_declaring_calls.specs.declared.declaration.PropertyList.{PropertyList}

abbrev pub Texts : Type 0
Texts = List (List ℕ)

-- the first text of the list at a place; of an empty one the empty text
abbrev pub text_at : ℕ → List Texts → List ℕ
text_at place lists = unwrap_or (slice_get (list_at place lists) 0) []

-- a property list
abbrev pub listed : ListName → Texts → PropertyList
listed name texts = record { name = name; texts = texts }
