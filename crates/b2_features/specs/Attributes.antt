use Rattle.std.specs.Prelude.{ℕ, Bool, List, [], ◌∷◌, codes}
use Rattle.std.specs.List.{list_any}
use Rattle.std.specs.Str.{bytes_eq}
use Rattle.b2_features.specs.declared.attribute.Attribute.{Attribute}
use Rattle.b2_features.specs.declared.attribute.Attribute.TheVariants.{Implicit, Composite, Free, Optional, Propagated, Symmetric, Incidental, Path, Dependency}

-- how an attribute is written
abbrev pub name_of : Attribute → List ℕ
name_of Implicit = codes "implicit"
name_of Composite = codes "composite"
name_of Free = codes "free"
name_of Optional = codes "optional"
name_of Propagated = codes "propagated"
name_of Symmetric = codes "symmetric"
name_of Incidental = codes "incidental"
name_of Path = codes "path"
name_of Dependency = codes "dependency"

-- whether a word is this attribute
abbrev pub is_word_of : Attribute → List ℕ → Bool
is_word_of attribute word = bytes_eq word (name_of attribute)

-- whether an attribute stands among some words
abbrev pub has : Attribute → List (List ℕ) → Bool
has attribute words = list_any (is_word_of attribute) words

-- whether a word is an attribute
abbrev pub is_attribute : List ℕ → Bool
is_attribute word = list_any (λ a. is_word_of a word) (Implicit ∷ Composite ∷ Free ∷ Optional ∷ Propagated ∷ Symmetric ∷ Incidental ∷ Path ∷ Dependency ∷ [])
