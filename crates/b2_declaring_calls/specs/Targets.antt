-- Main targets.
use Rattle.std.specs.Prelude.{ℕ, ◌==◌, Bool, ◌||◌, List, [], ◌∷◌, codes, is_some, if◌then◌else◌}
use Rattle.std.specs.List.{list_any}
use Rattle.std.specs.Str.{bytes_eq}
use Rattle.b2_base.specs.Segments.{segments, is_rooted, is_up, normal_of}
use Rattle.b2_base.specs.Lists.{list_at}
use Rattle.b2_property_texts.specs.Cuts.{cut_at}
use Rattle.b2_declaring_calls.specs.declared.declaration.Kind.{Kind}
use Rattle.b2_declaring_calls.specs.declared.declaration.Kind.TheVariants.{Make, Install}
use Rattle.b2_declaring_calls.specs.declared.declaration.ListName.TheVariants.{Requirements, DefaultBuild, Usage}
use Rattle.b2_declaring_calls.specs.declared.declaration.MainTarget.{MainTarget}
use Rattle.b2_declaring_calls.specs.declared.declaration.PropertyList.{PropertyList}
use Rattle.b2_base.specs.declared.shape.Count.{Count}
use Rattle.b2_base.specs.declared.shape.Count.TheVariants.{One, Any}
use Rattle.b2_declaring_calls.specs.Lists.{Texts, text_at, listed}

-- no main target has such a name: it is empty, absolute, has `//` or a segment `..`, or its normal form is `.`
abbrev pub is_refused_name : List ℕ → Bool
is_refused_name name =
    bytes_eq name [] || is_rooted name || is_some (cut_at (codes "//") name) || list_any is_up (segments name) || bytes_eq (normal_of name) (codes ".")

-- a name, sources, of a `make` its rule, requirements, `default-build` but of a `make`, and usage requirements but of an
-- `install`
abbrev pub counts_of : Kind → List Count
counts_of Make = One ∷ Any ∷ One ∷ Any ∷ Any ∷ []
counts_of Install = One ∷ Any ∷ Any ∷ Any ∷ []
counts_of kind = One ∷ Any ∷ Any ∷ Any ∷ Any ∷ []

-- a leading `@`, which is 64, is not part of a rule's name
abbrev pub rule_name : List ℕ → List ℕ
rule_name [] = []
rule_name (first ∷ rest) = if first == 64 then rest else first ∷ rest

-- the rule of a `make`; other kinds have none
abbrev pub rule_in : Kind → List Texts → List ℕ
rule_in Make lists = rule_name (text_at 2 lists)
rule_in kind lists = []

-- the property lists in the order of the call; the fifth list of an `install` has no texts
abbrev pub property_lists : Kind → List Texts → List PropertyList
property_lists Make lists = listed Requirements (list_at 3 lists) ∷ listed Usage (list_at 4 lists) ∷ []
property_lists kind lists = listed Requirements (list_at 2 lists) ∷ listed DefaultBuild (list_at 3 lists) ∷ listed Usage (list_at 4 lists) ∷ []

-- a main target without lists
abbrev pub bare : Kind → List ℕ → List ℕ → MainTarget
bare kind name rule = record { kind = kind; name = name; sources = []; rule = rule; lists = [] }

-- the main target of a call
abbrev pub target : Kind → List Texts → MainTarget
target kind lists = record { kind = kind; name = text_at 0 lists; sources = list_at 1 lists; rule = rule_in kind lists; lists = property_lists kind lists }
