use Rattle.std.specs.Prelude.{◌≡◌, ℕ, Bool, not, ◌&&◌, List, [], ◌∷◌, ◌++◌, Option, None, option_map, filter, if◌then◌else◌}
use Rattle.std.specs.List.{filter_map}
use Rattle.std.specs.Map.{lookup}
use Rattle.std.specs.Str.{bytes_eq}
use Rattle.b2_features.specs.declared.attribute.Attribute.TheVariants.{Free}
use Rattle.b2_features.specs.Attributes.{has}
use Rattle.b2_features.specs.Table.{DeclaredFeature}
use Rattle.b2_features.specs.Faults.{is_with}

-- a feature and a value
abbrev pub Pair : Type 0
Pair = List ℕ × List ℕ

-- whether two pairs are one
abbrev pub same : Pair → Pair → Bool
same p q = bytes_eq p.0 q.0 && bytes_eq p.1 q.1

-- the first value that some pairs give a feature
abbrev pub value_of : List Pair → List ℕ → Option (List ℕ)
value_of pairs feature = lookup (bytes_eq feature) pairs

-- the pairs in order, each at its first place alone
abbrev pub firsts : List Pair → List Pair
firsts [] = []
firsts (p ∷ more) = p ∷ filter (λ q. not (same p q)) (firsts more)

-- the pairs of free features
abbrev pub free_of : List DeclaredFeature → List Pair → List Pair
free_of table pairs = filter (λ p. is_with Free table p.0) pairs

-- the pair of a feature that is not free and has a value
abbrev pub pair_of : (List ℕ → Option (List ℕ)) → DeclaredFeature → Option Pair
pair_of value f = if has Free f.attributes then None else option_map (λ v. (f.name, v)) (value f.name)

-- a set as a list: the features that are not free, in order of declaration, each with its value, then the free pairs
abbrev pub written : List DeclaredFeature → (List ℕ → Option (List ℕ)) → List Pair → List Pair
written table value free = filter_map (pair_of value) table ++ free

-- the set that some pairs make: a feature that is not free has the first of its values, and a free pair stands once
abbrev pub set_of : List DeclaredFeature → List Pair → List Pair
set_of table pairs = written table (value_of pairs) (firsts (free_of table pairs))

-- The pairs are a set: first features that are not free, in order of declaration and each once at most, then free pairs
-- in order, each once; all features are declared.
abbrev pub IsSet : List DeclaredFeature → List Pair → Type 0
IsSet table pairs = set_of table pairs ≡ pairs
