use Rattle.std.specs.Prelude.{◌≡◌, ℕ, ◌==◌, Bool, true, not, ◌||◌, List, [], ◌∷◌, Option, Some, None, map, filter, option_map, if◌then◌else◌}
use Rattle.std.specs.List.{list_any, list_all, filter_map, slice_split, before_first, after_first}
use Rattle.std.specs.Option.{option_or, option_map_or}
use Rattle.b2_base.specs.Bytes.{HasNoZero}
use Rattle.b2_features.specs.declared.attribute.Attribute.TheVariants.{Free}
use Rattle.b2_features.specs.Attributes.{has}
use Rattle.b2_features.specs.Faults.{is_implicit}
use Rattle.b2_features.specs.Table.{DeclaredFeature, lists, feature_of, implicit_of}
use Rattle.b2_props.specs.declared.request_fault.RequestFault.{RequestFault}
use Rattle.b2_props.specs.declared.request_fault.RequestFault.TheVariants.{UnknownWord, UnknownValue, OutOfMemory}
use Rattle.b2_props.specs.Sets.{Pair}

-- ---- words

-- the text cut at each such byte
abbrev pub cut : ℕ → List ℕ → List (List ℕ)
cut byte text = slice_split (λ b. b == byte) text

-- the character `=`
abbrev pub is_equals : ℕ → Bool
is_equals byte = byte == 61

-- whether a segment has a `=`
abbrev pub is_named : List ℕ → Bool
is_named segment = list_any is_equals segment

-- what stands before the first `=` of a segment, and what stands after it
pub record AreHalves (segment before after : List ℕ) : Type 0 where
  pub named : is_named segment ≡ true
  pub before_it : before ≡ before_first is_equals segment
  pub after_it : after ≡ after_first is_equals segment
  pub before_text : HasNoZero before
  pub after_text : HasNoZero after

-- whether a segment gives properties: it has a `=`, or is implicit values with commas between them
abbrev pub is_property : List DeclaredFeature → List ℕ → Bool
is_property table segment = is_named segment || list_all (is_implicit table) (cut 44 segment)

-- whether a word is a property word: all its segments, with slashes between them, give properties
abbrev pub is_property_word : List DeclaredFeature → List ℕ → Bool
is_property_word table word = list_all (is_property table) (cut 47 word)

-- the words that name targets, in order
abbrev pub target_words : List DeclaredFeature → List (List ℕ) → List (List ℕ)
target_words table words = filter (λ word. not (is_property_word table word)) words

-- ---- properties

-- what stands before the first `=` is the feature; the values after it have commas between them
abbrev pub named_pairs : List ℕ → List Pair
named_pairs segment = map (λ value. (before_first is_equals segment, value)) (cut 44 (after_first is_equals segment))

-- an implicit value with its feature
abbrev pub implicit_pair : List DeclaredFeature → List ℕ → Option Pair
implicit_pair table value = option_map (λ feature. (feature, value)) (implicit_of table value)

-- the properties that a segment gives, of which one is to be chosen
abbrev pub segment_pairs : List DeclaredFeature → List ℕ → List Pair
segment_pairs table segment = if is_named segment then named_pairs segment else filter_map (implicit_pair table) (cut 44 segment)

-- the properties of each segment of a word
abbrev pub word_pairs : List DeclaredFeature → List ℕ → List (List Pair)
word_pairs table word = map (segment_pairs table) (cut 47 word)

-- ---- faults of words

-- the first that some elements give
abbrev pub first_of : {X Y : Type 0} → (X → Option Y) → List X → Option Y
first_of h [] = None
first_of h (x ∷ xs) = option_or (h x) (first_of h xs)

-- why a value of a word is none of a feature: it is not among the values of one that is not free
abbrev pub value_fault : List ℕ → List ℕ → DeclaredFeature → Option RequestFault
value_fault word value f = if has Free f.attributes || lists f value then None else Some (UnknownValue word)

-- why a property of a word is none: its feature is not there, or does not have the value
abbrev pub pair_fault : List DeclaredFeature → List ℕ → Pair → Option RequestFault
pair_fault table word pair = option_map_or (value_fault word pair.1) (feature_of table pair.0) (Some (UnknownWord word))

-- why a segment of a word is not read: its first property that is none
abbrev pub segment_fault : List DeclaredFeature → List ℕ → List ℕ → Option RequestFault
segment_fault table word segment = first_of (pair_fault table word) (segment_pairs table segment)

-- why a word is not read: its first segment that is not; a word that names a target has none
abbrev pub word_fault : List DeclaredFeature → List ℕ → Option RequestFault
word_fault table word = if is_property_word table word then first_of (segment_fault table word) (cut 47 word) else None

-- an answer of this kind is the one that the cause names; out of memory needs none
abbrev pub IsBy : Option RequestFault → RequestFault → Type 0
IsBy cause OutOfMemory = Unit {0}
IsBy cause fault = cause ≡ Some fault
