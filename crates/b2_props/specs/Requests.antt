use Rattle.std.specs.Prelude.{ℕ, ◌+◌, ◌==◌, Bool, false, not, ◌&&◌, List, [], ◌∷◌, ◌++◌, Option, Some, None, map, filter, find, option_map, fold, length, slice_get, if◌then◌else◌}
use Rattle.std.specs.List.{list_all, flat_map}
use Rattle.std.specs.Option.{option_or, option_and_then}
use Rattle.std.specs.Str.{bytes_eq}
use Rattle.b2_features.specs.declared.attribute.Attribute.TheVariants.{Free}
use Rattle.b2_features.specs.Attributes.{has}
use Rattle.b2_features.specs.Table.{DeclaredFeature}
use Rattle.b2_features.specs.Faults.{is_with}
use Rattle.b2_props.specs.declared.word_choice.WordChoice.{WordChoice}
use Rattle.b2_props.specs.declared.request_fault.RequestFault.{RequestFault}
use Rattle.b2_props.specs.declared.request_fault.RequestFault.TheVariants.{Conflict}
use Rattle.b2_props.specs.Sets.{Pair, set_of}
use Rattle.b2_props.specs.Refinement.{parts_in}
use Rattle.b2_props.specs.Words.{is_property_word, word_pairs, word_fault, first_of}

-- ---- choices

-- properties, each with the place of the word that gave it
abbrev pub choices_of : ℕ → List Pair → List WordChoice
choices_of place pairs = map (λ p. record { pair = p; word = place }) pairs

-- choices of which one goes into each set, and the feature of which they all are, where they join others of it
pub record Ways : Type 0 where
  pub key : Option (List ℕ)
  pub choices : List WordChoice

-- the feature, not a free one, of which all of some pairs are
abbrev pub shared : List DeclaredFeature → List Pair → Option (List ℕ)
shared table pairs = option_and_then (λ p. if not (is_with Free table p.0) && list_all (λ q. bytes_eq p.0 q.0) pairs then Some p.0 else None) (slice_get pairs 0)

-- the ways of a segment of the word at a place; those of a word of one segment may join others of their feature
abbrev pub segment_ways : List DeclaredFeature → ℕ → Bool → List Pair → Ways
segment_ways table place lone pairs = record { key = if lone then shared table pairs else None; choices = choices_of place pairs }

-- the ways of the word at a place, one for each segment; a word that names a target has none
abbrev pub word_ways : List DeclaredFeature → ℕ → List ℕ → List Ways
word_ways table place word = if is_property_word table word then map (segment_ways table place (length (word_pairs table word) == 1)) (word_pairs table word) else []

-- the ways of words from a place on
abbrev pub ways_from : List DeclaredFeature → ℕ → List (List ℕ) → List Ways
ways_from table place [] = []
ways_from table place (word ∷ more) = word_ways table place word ++ ways_from table (place + 1) more

-- whether there is a first key, and it is the second
abbrev pub is_key : Option (List ℕ) → Option (List ℕ) → Bool
is_key None key = false
is_key (Some f) None = false
is_key (Some f) (Some g) = bytes_eq f g

-- ways join the earlier ones with their key, else they stand after all others
abbrev pub joined : List Ways → Ways → List Ways
joined [] w = w ∷ []
joined (v ∷ more) w = if is_key v.key w.key then record v { choices = v.choices ++ w.choices } ∷ more else v ∷ joined more w

-- the ways of a request, in the order in which they vary
abbrev pub request_ways : List DeclaredFeature → List (List ℕ) → List Ways
request_ways table words = fold joined [] (ways_from table 0 words)

-- ---- sets

-- all lists with one of each, the leftmost varying slowest
abbrev pub product : {X : Type 0} → List (List X) → List (List X)
product [] = [] ∷ []
product (xs ∷ more) = flat_map (λ x. map (λ row. x ∷ row) (product more)) xs

-- the choices of each set of a request
abbrev pub rows : List DeclaredFeature → List (List ℕ) → List (List WordChoice)
rows table words = product (map (λ w. w.choices) (request_ways table words))

-- the set of some choices
abbrev pub row_set : List DeclaredFeature → List WordChoice → List Pair
row_set table row = set_of table (map (λ c. c.pair) row)

-- the sets of a request
abbrev pub request_sets : List DeclaredFeature → List (List ℕ) → List (List Pair)
request_sets table words = map (row_set table) (rows table words)

-- ---- faults of requests

-- the word's place of the first of some choices that has another value than the first one
abbrev pub differing : List WordChoice → Option ℕ
differing [] = None
differing (c ∷ more) = option_map (λ d. d.word) (find (λ d. not (bytes_eq d.pair.1 c.pair.1)) more)

-- the choices of a feature
abbrev pub choices_at : List WordChoice → List ℕ → List WordChoice
choices_at choices feature = filter (λ c. bytes_eq feature c.pair.0) choices

-- the components that some choices bring, each with the word of its composite
abbrev pub brought : List DeclaredFeature → List WordChoice → List WordChoice
brought table row = flat_map (λ c. choices_of c.word (parts_in table c.pair)) row

-- the explicit choices of a feature decide, where there are any, else those of composites
abbrev pub meeting : List WordChoice → List WordChoice → Option ℕ
meeting [] parts = differing parts
meeting (c ∷ more) parts = differing (c ∷ more)

-- the place of the word with which two values of a feature that is not free meet
abbrev pub feature_clash : List WordChoice → List WordChoice → DeclaredFeature → Option ℕ
feature_clash row parts f = if has Free f.attributes then None else meeting (choices_at row f.name) (choices_at parts f.name)

-- the place of the word that clashes at the first feature of which two values meet in a set
abbrev pub row_clash : List DeclaredFeature → List WordChoice → Option ℕ
row_clash table row = first_of (feature_clash row (brought table row)) table

-- why the choices of a set are refused: the word at that place
abbrev pub row_fault : List DeclaredFeature → List (List ℕ) → List WordChoice → Option RequestFault
row_fault table words row = option_map Conflict (option_and_then (slice_get words) (row_clash table row))

-- why a request is not read: the first word that is not read, else the first set in which two values meet
abbrev pub request_fault : List DeclaredFeature → List (List ℕ) → Option RequestFault
request_fault table words = option_or (first_of (word_fault table) words) (first_of (row_fault table words) (rows table words))
