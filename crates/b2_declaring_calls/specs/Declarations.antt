-- What a call of a declaring rule declares.
use Rattle.std.specs.Prelude.{ℕ, Bool, true, false, ◌&&◌, List, [], ◌∷◌, codes, Option, Some, None, is_some, slice_get, if◌then◌else◌}
use Rattle.std.specs.Option.{option_and_then}
use Rattle.std.specs.Str.{bytes_eq}
use Rattle.b2_base.specs.Segments.{normal_of}
use Rattle.b2_base.specs.Lists.{list_at}
use Rattle.b2_property_texts.specs.Cuts.{named_pair}
use Rattle.b2_declaring_calls.specs.declared.declaration.Declaration.{Declaration}
use Rattle.b2_declaring_calls.specs.declared.declaration.Declaration.TheVariants.{Project, Main, Explicit, BuildProject, UseProject, Using, Feature, Compose, FileType, Generator, Import, Test}
use Rattle.b2_declaring_calls.specs.declared.declaring_rule.DeclaringRule.{DeclaringRule}
use Rattle.b2_declaring_calls.specs.declared.declaring_rule.DeclaringRule.TheVariants as rules
use Rattle.b2_base.specs.declared.shape.Count.TheVariants.{Nothing, One, AtMostOne, Any, AtLeastOne}
use Rattle.b2_declaring_calls.specs.Lists.{Texts, text_at}
use Rattle.b2_base.specs.Shapes.{is_counted, has_shape}
use Rattle.b2_declaring_calls.specs.Rules.{rule_of}
use Rattle.b2_declaring_calls.specs.Attributes.{id_of, attribute_lists, are_attributes, attributes}
use Rattle.b2_declaring_calls.specs.Targets.{is_refused_name, counts_of, target}
use Rattle.b2_declaring_calls.specs.Tests.{is_test_shaped, test_of, marker_name}

-- whether the lists of a call are those of its rule
abbrev pub is_shaped : DeclaringRule → List Texts → Bool
is_shaped rules.Project lists = is_counted AtMostOne (list_at 0 lists) && are_attributes (attribute_lists lists)
is_shaped (rules.Target kind) lists = has_shape (counts_of kind) lists
is_shaped rules.Explicit lists = has_shape (AtLeastOne ∷ []) lists
is_shaped rules.BuildProject lists = has_shape (One ∷ []) lists
is_shaped rules.UseProject lists = has_shape (One ∷ One ∷ []) lists
is_shaped rules.Using lists = has_shape (One ∷ Nothing ∷ AtMostOne ∷ []) lists && bytes_eq (text_at 0 lists) (codes "gcc")
is_shaped rules.Feature lists = has_shape (One ∷ Any ∷ Any ∷ []) lists
is_shaped rules.Compose lists = has_shape (One ∷ AtLeastOne ∷ []) lists && is_some (named_pair (text_at 0 lists))
is_shaped rules.FileType lists = has_shape (One ∷ Any ∷ []) lists
is_shaped rules.Generator lists = has_shape (One ∷ AtLeastOne ∷ AtLeastOne ∷ Any ∷ []) lists
is_shaped rules.Import lists = true
is_shaped (rules.Test rule) lists = is_test_shaped rule lists

-- what such lists declare
abbrev pub declared : DeclaringRule → List Texts → Declaration
declared rules.Project lists = Project (attributes lists)
declared (rules.Target kind) lists = Main (target kind lists)
declared rules.Explicit lists = Explicit (list_at 0 lists)
declared rules.BuildProject lists = BuildProject (normal_of (text_at 0 lists))
declared rules.UseProject lists = UseProject (id_of (text_at 0 lists)) (normal_of (text_at 1 lists))
declared rules.Using lists = Using (slice_get (list_at 2 lists) 0)
declared rules.Feature lists = Feature (text_at 0 lists) (list_at 1 lists) (list_at 2 lists)
declared rules.Compose lists = Compose (text_at 0 lists) (list_at 1 lists)
declared rules.FileType lists = FileType (text_at 0 lists) (list_at 1 lists)
declared rules.Generator lists = Generator (text_at 0 lists) (list_at 1 lists) (list_at 2 lists) (list_at 3 lists)
declared rules.Import lists = Import
declared (rules.Test rule) lists = Test (test_of rule lists)

-- The declaration of a call, by the name of its rule and its lists. There is none where no declaring rule has this name, or
-- the lists are not those of the rule.
abbrev pub shape_of : List ℕ → List Texts → Option Declaration
shape_of name lists = option_and_then (λ rule. if is_shaped rule lists then Some (declared rule lists) else None) (rule_of name)

-- whether a declaration is refused for a name in it: that of a main target, or of the one that marks a test
abbrev pub is_refused : Declaration → Bool
is_refused (Main t) = is_refused_name t.name
is_refused (Test t) = is_refused_name (marker_name t.name)
is_refused d = false
