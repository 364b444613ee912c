-- The full set of a main target, its alternative, and what its requirements make of the set.
use Rattle.std.specs.Prelude.{◌≡◌, ℕ, suc, Bool, not, ◌||◌, List, [], ◌∷◌, ◌++◌, Option, Some, None, Result, Ok, Err, filter, map, is_some, slice_get, codes, if◌then◌else◌}
use Rattle.std.specs.List.{flat_map}
use Rattle.std.specs.Option.{option_map_or}
use Rattle.b2_features.specs.declared.attribute.Attribute.TheVariants.{Free, Incidental}
use Rattle.b2_features.specs.Table.{DeclaredFeature}
use Rattle.b2_features.specs.Faults.{is_with}
use Rattle.b2_props.specs.Sets.{Pair, set_of}
use Rattle.b2_props.specs.Refinement.{expanded}
pub use Rattle.b2_props.specs.Texts.{property_text}
use Rattle.b2_props.specs.declared.requirement.Requirement.{Requirement}
use Rattle.b2_refine.specs.Answers.{Answer}
use Rattle.b2_refine.specs.Conditions.{unconditional, IsSettled, IsUnstable, IsAsked}
use Rattle.b2_refine.specs.Choices.{IsChoice}
use Rattle.b2_refine.specs.declared.choice.Choice.TheVariants as choices
use Rattle.b2_property_texts.specs.Cuts.{cut_at}
use Rattle.b2_property_texts.specs.Readings.{property_of}
use Rattle.b2_declared.specs.declared.place.Target.{Target}
use Rattle.b2_declared.specs.declared.place.IndirectRule.{IndirectRule}
use Rattle.b2_declared.specs.declared.whole.Declared.{Declared}
use Rattle.b2_references.specs.Names.{Name, features, alternatives, dir_of, target_text, lineage, default_build}
use Rattle.b2_property_texts.specs.Missing.{missing}
use Rattle.b2_alternatives.specs.declared.reading.ReturnedProperties.{ReturnedProperties}
use Rattle.b2_alternatives.specs.declared.reading.ReturnedProperties.TheVariants.{Properties, Bad}
use Rattle.b2_alternatives.specs.declared.fault.ChoiceFault.{ChoiceFault}
use Rattle.b2_alternatives.specs.declared.fault.ChoiceFault.TheVariants.{NoAlternative, AmbiguousAlternative, Unstable, BadAnswer, Eval}

-- What a rule of the project at a place returns for properties as texts, where it was named at a line of the project's file; or
-- the fault with which the call ended.
abbrev pub Returned : Type 0 → Type 0
Returned E = (project : ℕ) (rule : List ℕ) (line : ℕ) (properties : List (List ℕ)) → Result (List (List ℕ)) E

-- what is settled on: a main target, the number of its alternative, the alternative, and the set of its properties
pub record Chosen : Type 0 where
  pub name : Name
  pub number : ℕ
  pub target : Target
  pub set : List Pair

-- a property before others that were read
abbrev pub read_before : Pair → ReturnedProperties → ReturnedProperties
read_before p (Properties pairs) = Properties (p ∷ pairs)
read_before p (Bad word) = Bad word

-- whether a property may stand in the condition of an alternative: it is neither free nor incidental
abbrev pub is_base : List DeclaredFeature → Pair → Bool
is_base table p = not (is_with Free table p.0 || is_with Incidental table p.0)

-- the condition of an alternative: the base properties that it requires itself without conditions
abbrev pub condition : List DeclaredFeature → Target → List Pair
condition table t = filter (is_base table) (unconditional t.requirements)

module _ (d : Declared) where
  -- ---- the full set

  -- a set joined with the `default-build` values of features that it does not name: of one that is not free the first value, of
  -- a free one all
  abbrev pub with_defaults : List Pair → List Pair → List Pair
  with_defaults set defaults = set_of (features d) (set ++ missing set defaults)

  abbrev pub full_set : Name → List Pair → List Pair
  full_set name set = expanded (features d) (with_defaults set (default_build d name))

  -- ---- the alternative, and its requirements

  abbrev pub conditions : Name → List (List Pair)
  conditions name = map (condition (features d)) (alternatives d name)

  -- the requirements of an alternative: those of its projects, from Jamroot down, then its own
  abbrev pub requirements : Target → List Requirement
  requirements t = flat_map (λ p. p.requirements) (lineage d t.project) ++ t.requirements

  -- the alternative at this place, from 0, is the one that is chosen
  pub record IsAlternative (name : Name) (set : List Pair) (place : ℕ) (t : Target) : Type 0 where
    pub choice : IsChoice (full_set name set) (conditions name) (choices.One (suc place))
    pub at : slice_get (alternatives d name) place ≡ Some t

  -- ---- what the rules of indirect requirements answer

  -- a text that a rule returned, as a property; one with conditions is none
  abbrev pub answered_pair : List ℕ → List ℕ → Option Pair
  answered_pair dir text = if is_some (cut_at (codes ":<") text) then None else property_of (features d) dir text

  -- texts that a rule returned, as properties, completed as in the file of a project of this directory; or the first that is none
  abbrev pub answered : List ℕ → List (List ℕ) → ReturnedProperties
  answered dir [] = Properties []
  answered dir (text ∷ more) = option_map_or (λ p. read_before p (answered dir more)) (answered_pair dir text) (Bad text)

  -- a rule's answer for a main target, as its returned texts read
  abbrev pub answer_by : {E : Type 0} → Name → IndirectRule → ReturnedProperties → Result (List Pair) (ChoiceFault E)
  answer_by name rule (Properties pairs) = Ok pairs
  answer_by name rule (Bad word) = Err (BadAnswer (target_text d name) rule.rule word)

  abbrev pub answer_of : {E : Type 0} → Name → IndirectRule → Result (List (List ℕ)) E → Result (List Pair) (ChoiceFault E)
  answer_of name rule (Ok texts) = answer_by name rule (answered (dir_of d rule.project) texts)
  answer_of name rule (Err fault) = Err (Eval fault)

  module _ {E : Type 0} (returned : Returned E) where
    -- how rules, by their numbers, answer for a set when they are asked for a main target
    abbrev pub answer : Name → Answer (ChoiceFault E)
    answer name number set =
        option_map_or (λ rule. answer_of name rule (returned rule.project rule.rule rule.line (map property_text set))) (slice_get d.indirect number) (Ok [])

    -- ---- both

    -- An alternative is chosen for the full set, and its requirements are evaluated in it; or one of the two is refused.
    pub data Chooses (name : Name) (set : List Pair) : Result Chosen (ChoiceFault E) → Type 0 where
      none : IsChoice (full_set name set) (conditions name) choices.None → Chooses name set (Err (NoAlternative (target_text d name) (full_set name set)))
      two : (i k : ℕ) → IsChoice (full_set name set) (conditions name) (choices.Ambiguous i k) →
          Chooses name set (Err (AmbiguousAlternative (target_text d name) (full_set name set) i k))
      unsettled : (place : ℕ) (t : Target) (first second : List Pair) → IsAlternative name set place t →
          IsUnstable (answer name) (features d) (full_set name set) (requirements t) first second →
          Chooses name set (Err (Unstable (target_text d name) first second))
      badly_answered : (place : ℕ) (t : Target) (fault : ChoiceFault E) → IsAlternative name set place t →
          IsAsked (answer name) (features d) (full_set name set) (requirements t) fault → Chooses name set (Err fault)
      settled : (place : ℕ) (t : Target) (properties : List Pair) → IsAlternative name set place t →
          IsSettled (answer name) (features d) (full_set name set) (requirements t) properties →
          Chooses name set (Ok (record { name = name; number = suc place; target = t; set = properties }))
