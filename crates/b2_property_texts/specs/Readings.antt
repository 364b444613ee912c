-- What the property texts of a project file say.
use Rattle.std.specs.Prelude.{◌≡◌, ℕ, ◌==◌, ◌&&◌, not, length, List, [], ◌∷◌, Option, Some, None, option_map, is_some, unwrap_or, Result, Ok, Err, codes, if◌then◌else◌}
use Rattle.std.specs.Option.{option_or, option_map_or, option_and_then}
use Rattle.std.specs.Str.{bytes_eq}
use Rattle.b2_features.specs.declared.fault.FeatureFault.{FeatureFault}
use Rattle.b2_features.specs.declared.fault.FeatureFault.TheVariants.{Unknown, BadValue, OutOfMemory}
use Rattle.b2_features.specs.Table.{DeclaredFeature}
use Rattle.b2_features.specs.Faults.{unknown_in}
use Rattle.b2_props.specs.Sets.{Pair}
use Rattle.b2_props.specs.Words.{cut, implicit_pair}
use Rattle.b2_property_texts.specs.declared.reading.Conditional.{Conditional}
use Rattle.b2_property_texts.specs.declared.reading.RequirementText.{RequirementText}
use Rattle.b2_property_texts.specs.declared.reading.RequirementText.TheVariants.{Plain, Indirect}
use Rattle.b2_property_texts.specs.Cuts.{cut_at, named_pair}
use Rattle.b2_property_texts.specs.Completion.{completed}

-- ---- a property

-- the feature and the value that a text names: `<feature>value`, or an implicit value
abbrev pub pair_of : List DeclaredFeature → List ℕ → Option Pair
pair_of table text = option_or (named_pair text) (implicit_pair table text)

-- the property of a text, completed, where the text is one
abbrev pub property_of : List DeclaredFeature → List ℕ → List ℕ → Option Pair
property_of table dir text = option_and_then (λ p. if is_some (unknown_in table p) then None else Some (completed table dir p)) (pair_of table text)

-- the unknown word of a text that is no property: its feature, its value, or all of a text that names no feature
abbrev pub unknown_word : List DeclaredFeature → List ℕ → List ℕ
unknown_word table text = option_map_or (λ p. unwrap_or (unknown_in table p) text) (named_pair text) text

-- the property of a text, or why it is none
abbrev pub property_reading : List DeclaredFeature → List ℕ → List ℕ → Result Pair FeatureFault
property_reading table dir text = option_map_or Ok (property_of table dir text) (Err (Unknown (unknown_word table text)))

-- ---- a property with conditions

-- the properties of some texts, where all of them are properties
abbrev pub all_of : List DeclaredFeature → List ℕ → List (List ℕ) → Option (List Pair)
all_of table dir [] = Some []
all_of table dir (text ∷ more) = option_and_then (λ p. option_map (λ ps. p ∷ ps) (all_of table dir more)) (property_of table dir text)

-- a property with its conditions
abbrev pub conditional : List Pair → Pair → Conditional
conditional conditions property = record { conditions = conditions; property = property }

-- The property with conditions of a text that is cut at its first `:<`: the conditions stand before it, with commas, 44,
-- between them, and the property begins with its `<`, 60.
abbrev pub conditional_of : List DeclaredFeature → List ℕ → List ℕ × List ℕ → Option Conditional
conditional_of table dir parts =
    option_and_then (λ conditions. option_map (conditional conditions) (property_of table dir (60 ∷ parts.1)))
    (all_of table dir (cut 44 parts.0))

-- a property without conditions
abbrev pub unconditional : Result Pair FeatureFault → Result Conditional FeatureFault
unconditional (Ok p) = Ok (conditional [] p)
unconditional (Err fault) = Err fault

-- the property with conditions of a text that was cut, or why it is none; of one with conditions all is unknown
abbrev pub cut_reading : List DeclaredFeature → List ℕ → List ℕ → Option (List ℕ × List ℕ) → Result Conditional FeatureFault
cut_reading table dir text None = unconditional (property_reading table dir text)
cut_reading table dir text (Some parts) = option_map_or Ok (conditional_of table dir parts) (Err (Unknown text))

-- the usage requirement of a text, or why it is none
abbrev pub usage_reading : List DeclaredFeature → List ℕ → List ℕ → Result Conditional FeatureFault
usage_reading table dir text = cut_reading table dir text (cut_at (codes ":<") text)

-- ---- a requirement

-- the value of a text `<conditional>value` without conditions
abbrev pub rule_value : List ℕ → Option (List ℕ)
rule_value text =
    if is_some (cut_at (codes ":<") text) then None
    else option_and_then (λ p. if bytes_eq p.0 (codes "conditional") then Some p.1 else None) (named_pair text)

-- the rule that such a value names: what stands after its `@`, 64, where something does
abbrev pub rule_name : List ℕ → Option (List ℕ)
rule_name [] = None
rule_name (first ∷ rule) = if first == 64 && not (length rule == 0) then Some rule else None

-- what such a value says
abbrev pub rule_reading : List ℕ → Result RequirementText FeatureFault
rule_reading value = option_map_or (λ rule. Ok (Indirect rule)) (rule_name value) (Err (BadValue value))

-- a requirement that no rule answers
abbrev pub plain : Result Conditional FeatureFault → Result RequirementText FeatureFault
plain (Ok c) = Ok (Plain c)
plain (Err fault) = Err fault

-- the requirement of a text, or why it is none
abbrev pub requirement_reading : List DeclaredFeature → List ℕ → List ℕ → Result RequirementText FeatureFault
requirement_reading table dir text = option_map_or rule_reading (rule_value text) (plain (usage_reading table dir text))

-- ---- lists

-- an element before others that were read
abbrev pub read_before : {X : Type 0} → X → Result (List X) FeatureFault → Result (List X) FeatureFault
read_before x (Ok xs) = Ok (x ∷ xs)
read_before x (Err fault) = Err fault

-- all of what was read, or the first fault
abbrev pub all_read : {X : Type 0} → List (Result X FeatureFault) → Result (List X) FeatureFault
all_read [] = Ok []
all_read (Ok x ∷ more) = read_before x (all_read more)
all_read (Err fault ∷ more) = Err fault

-- ---- answers

-- a fault is the one that was to be found; out of memory needs none
abbrev pub IsFaultOf : {X : Type 0} → Result X FeatureFault → FeatureFault → Type 0
IsFaultOf reading OutOfMemory = Unit {0}
IsFaultOf reading fault = reading ≡ Err fault
