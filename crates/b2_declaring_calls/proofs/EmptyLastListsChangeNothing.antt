-- An empty list at the end of a call's lists changes nothing.
use Rattle.std.proofs.Common.{◌≡◌, ℕ, zero, suc, Bool, cond, ◌&&◌, ◌||◌, List, [], ◌∷◌, ◌++◌, Option, Some, None, is_some, replicate, refl, sym, ap, ap₂, ◌∙◌, append-nil, append_assoc}
use Rattle.std.specs.Prelude.{codes, slice_get, unwrap_or}
use Rattle.std.specs.List.{filter_map}
use Rattle.std.specs.Str.{bytes_eq}
use Rattle.std.specs.Option.{option_map, option_and_then}
use Rattle.std.proofs.lemmas.List.Elements.{filter_map-append}
use Rattle.b2_base.specs.Lists.{list_at}
use Rattle.b2_property_texts.specs.Cuts.{named_pair}
use Rattle.b2_declaring_calls.specs.declared.declaration.Attributes.{Attributes}
use Rattle.b2_declaring_calls.specs.declared.declaration.PropertyList.{PropertyList}
use Rattle.b2_declaring_calls.specs.declared.declaration.Declaration.{Declaration}
use Rattle.b2_declaring_calls.specs.declared.declaration.Declaration.TheVariants as declarations
use Rattle.b2_declaring_calls.specs.declared.declaration.Kind.{Kind}
use Rattle.b2_declaring_calls.specs.declared.declaration.Kind.TheVariants.{Exe, Lib, Obj, Alias, Make, Install}
use Rattle.b2_declaring_calls.specs.declared.declaring_rule.DeclaringRule.{DeclaringRule}
use Rattle.b2_declaring_calls.specs.declared.declaring_rule.DeclaringRule.TheVariants as rules
use Rattle.b2_base.specs.declared.shape.Count.{Count}
use Rattle.b2_base.specs.declared.shape.Count.TheVariants.{Nothing, One, AtMostOne, Any, AtLeastOne}
use Rattle.b2_declaring_calls.specs.Lists.{Texts, text_at}
use Rattle.b2_base.specs.Shapes.{is_counted, are_empty, has_shape}
use Rattle.b2_declaring_calls.specs.Rules.{rule_of}
use Rattle.b2_declaring_calls.specs.Attributes.{id_of, is_attribute, are_attributes, property_list, attributes}
use Rattle.b2_declaring_calls.specs.Targets.{counts_of, target}
use Rattle.b2_declaring_calls.specs.declared.declaration.TestRule.{TestRule}
use Rattle.b2_declaring_calls.specs.declared.declaration.TestRule.TheVariants.{Compile, CompileFail, Run, RunFail}
use Rattle.b2_declaring_calls.specs.Tests.{counts_of as test_counts, takes_source, test_of}
use Rattle.b2_declaring_calls.specs.Declarations.{is_shaped, declared, shape_of}

-- with an empty list at the end
abbrev and_empty : List Texts → List Texts
and_empty lists = lists ++ [] ∷ []

list_same : (place : ℕ) (lists : List Texts) → list_at place (and_empty lists) ≡ list_at place lists
list_same zero [] = refl
list_same (suc place) [] = refl
list_same zero (list ∷ lists) = refl
list_same (suc place) (list ∷ lists) = list_same place lists

empty_same : (lists : List Texts) → are_empty (and_empty lists) ≡ are_empty lists
empty_same [] = refl
empty_same (list ∷ lists) = ap (λ b. is_counted Nothing list && b) (empty_same lists)

shape_same : (counts : List Count) (lists : List Texts) → has_shape counts (and_empty lists) ≡ has_shape counts lists
shape_same [] lists = empty_same lists
shape_same (count ∷ counts) [] = refl
shape_same (count ∷ counts) (list ∷ lists) = ap (λ b. is_counted count list && b) (shape_same counts lists)

attributes_same : (lists : List Texts) → are_attributes (and_empty lists) ≡ are_attributes lists
attributes_same [] = refl
attributes_same (list ∷ lists) = ap₂ (λ a b. (is_attribute list && a) || b) (attributes_same lists) (empty_same (list ∷ lists))

lists_same : (lists : List Texts) → filter_map property_list (and_empty lists) ≡ filter_map property_list lists
lists_same lists = filter_map-append property_list lists ([] ∷ []) ∙ append-nil (filter_map property_list lists)

all_attributes_same : (lists : List Texts) → attributes (and_empty lists) ≡ attributes lists
all_attributes_same [] = refl
all_attributes_same (list ∷ lists) = ap (λ (found : List PropertyList). let a : Attributes = record { id = option_map id_of (slice_get list 0); lists = found } in a) (lists_same lists)

text_same : (place : ℕ) (lists : List Texts) → text_at place (and_empty lists) ≡ text_at place lists
text_same place lists = ap (λ list. unwrap_or (slice_get list 0) []) (list_same place lists)

shaped_same : (rule : DeclaringRule) (lists : List Texts) → is_shaped rule (and_empty lists) ≡ is_shaped rule lists
shaped_same rules.Project [] = refl
shaped_same rules.Project (list ∷ lists) = ap (λ b. is_counted AtMostOne list && b) (attributes_same lists)
shaped_same (rules.Target kind) lists = shape_same (counts_of kind) lists
shaped_same rules.Explicit lists = shape_same (AtLeastOne ∷ []) lists
shaped_same rules.BuildProject lists = shape_same (One ∷ []) lists
shaped_same rules.UseProject lists = shape_same (One ∷ One ∷ []) lists
shaped_same rules.Using lists = ap₂ (λ b name. b && bytes_eq name (codes "gcc")) (shape_same (One ∷ Nothing ∷ AtMostOne ∷ []) lists) (text_same 0 lists)
shaped_same rules.Feature lists = shape_same (One ∷ Any ∷ Any ∷ []) lists
shaped_same rules.Compose lists = ap₂ (λ b name. b && is_some (named_pair name)) (shape_same (One ∷ AtLeastOne ∷ []) lists) (text_same 0 lists)
shaped_same rules.FileType lists = shape_same (One ∷ Any ∷ []) lists
shaped_same rules.Generator lists = shape_same (One ∷ AtLeastOne ∷ AtLeastOne ∷ Any ∷ []) lists
shaped_same rules.Import lists = refl
shaped_same (rules.Test rule) lists = ap₂ (λ b source. b && takes_source rule source) (shape_same (test_counts rule) lists) (text_same 0 lists)

-- the first five lists, which are all that a declaration but `project` looks at
abbrev first_lists : List Texts → List Texts
first_lists lists = list_at 0 lists ∷ list_at 1 lists ∷ list_at 2 lists ∷ list_at 3 lists ∷ list_at 4 lists ∷ []

first_lists_same : (lists : List Texts) → first_lists (and_empty lists) ≡ first_lists lists
first_lists_same lists =
    ap₂ before (list_same 0 lists) (ap₂ before (list_same 1 lists) (ap₂ before (list_same 2 lists) (ap₂ before (list_same 3 lists) (ap (λ list. list ∷ []) (list_same 4 lists)))))
  where
    before : Texts → List Texts → List Texts
    before list more = list ∷ more

target_same : (kind : Kind) (lists : List Texts) → target kind (and_empty lists) ≡ target kind lists
target_same Exe lists = ap (target Exe) (first_lists_same lists)
target_same Lib lists = ap (target Lib) (first_lists_same lists)
target_same Obj lists = ap (target Obj) (first_lists_same lists)
target_same Alias lists = ap (target Alias) (first_lists_same lists)
target_same Make lists = ap (target Make) (first_lists_same lists)
target_same Install lists = ap (target Install) (first_lists_same lists)

test_same : (rule : TestRule) (lists : List Texts) → test_of rule (and_empty lists) ≡ test_of rule lists
test_same Compile lists = ap (test_of Compile) (first_lists_same lists)
test_same CompileFail lists = ap (test_of CompileFail) (first_lists_same lists)
test_same Run lists = ap (test_of Run) (first_lists_same lists)
test_same RunFail lists = ap (test_of RunFail) (first_lists_same lists)

declared_same : (rule : DeclaringRule) (lists : List Texts) → declared rule (and_empty lists) ≡ declared rule lists
declared_same rules.Project lists = ap declarations.Project (all_attributes_same lists)
declared_same (rules.Target kind) lists = ap declarations.Main (target_same kind lists)
declared_same rules.Explicit lists = ap (declared rules.Explicit) (first_lists_same lists)
declared_same rules.BuildProject lists = ap (declared rules.BuildProject) (first_lists_same lists)
declared_same rules.UseProject lists = ap (declared rules.UseProject) (first_lists_same lists)
declared_same rules.Using lists = ap (declared rules.Using) (first_lists_same lists)
declared_same rules.Feature lists = ap (declared rules.Feature) (first_lists_same lists)
declared_same rules.Compose lists = ap (declared rules.Compose) (first_lists_same lists)
declared_same rules.FileType lists = ap (declared rules.FileType) (first_lists_same lists)
declared_same rules.Generator lists = ap (declared rules.Generator) (first_lists_same lists)
declared_same rules.Import lists = refl
declared_same (rules.Test rule) lists = ap declarations.Test (test_same rule lists)

one_more : (name : List ℕ) (lists : List Texts) → shape_of name (and_empty lists) ≡ shape_of name lists
one_more name lists = go (rule_of name)
  where
    go : (r : Option DeclaringRule)
        → option_and_then (λ rule. cond (is_shaped rule (and_empty lists)) (Some (declared rule (and_empty lists))) None) r
        ≡ option_and_then (λ rule. cond (is_shaped rule lists) (Some (declared rule lists)) None) r
    go None = refl
    go (Some rule) = ap₂ (λ (s : Bool) (d : Declaration). cond s (Some d) None) (shaped_same rule lists) (declared_same rule lists)

pub trailing_same : (name : List ℕ) (lists : List Texts) (count : ℕ) → shape_of name (lists ++ replicate count []) ≡ shape_of name lists
trailing_same name lists zero = ap (shape_of name) (append-nil lists)
trailing_same name lists (suc count) =
    ap (shape_of name) (sym (append_assoc lists ([] ∷ []) (replicate count []))) ∙ trailing_same name (and_empty lists) count ∙ one_more name lists
