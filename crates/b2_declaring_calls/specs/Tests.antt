-- Tests.
use Rattle.std.specs.Prelude.{ℕ, ◌==◌, Bool, true, ◌&&◌, ◌||◌, List, [], ◌∷◌, ◌++◌, codes}
use Rattle.std.specs.List.{ends_with}
use Rattle.b2_base.specs.Lists.{list_at}
use Rattle.b2_base.specs.Shapes.{has_shape}
use Rattle.b2_base.specs.declared.shape.Count.{Count}
use Rattle.b2_base.specs.declared.shape.Count.TheVariants.{Nothing, One, AtMostOne, Any, AtLeastOne}
use Rattle.jam_path.specs.Names.{parts_of}
use Rattle.b2_declaring_calls.specs.declared.declaration.TestRule.{TestRule}
use Rattle.b2_declaring_calls.specs.declared.declaration.TestRule.TheVariants.{Compile, CompileFail, Run, RunFail}
use Rattle.b2_declaring_calls.specs.declared.declaration.ListName.TheVariants.{Requirements}
use Rattle.b2_declaring_calls.specs.declared.declaration.Test.{Test}
use Rattle.b2_declaring_calls.specs.Lists.{Texts, text_at, listed}

-- Sources, requirements and a name; `compile-fail` has one source. Between the sources and the requirements of `run` and
-- `run-fail` stand two lists without texts.
abbrev pub counts_of : TestRule → List Count
counts_of Compile = AtLeastOne ∷ Any ∷ AtMostOne ∷ []
counts_of CompileFail = One ∷ Any ∷ AtMostOne ∷ []
counts_of Run = AtLeastOne ∷ Nothing ∷ Nothing ∷ Any ∷ AtMostOne ∷ []
counts_of RunFail = AtLeastOne ∷ Nothing ∷ Nothing ∷ Any ∷ AtMostOne ∷ []

-- the place of the requirements, and of the name
abbrev pub requirements_at : TestRule → ℕ
requirements_at Compile = 1
requirements_at CompileFail = 1
requirements_at Run = 3
requirements_at RunFail = 3

abbrev pub name_at : TestRule → ℕ
name_at Compile = 2
name_at CompileFail = 2
name_at Run = 4
name_at RunFail = 4

-- a text has a suffix, with the dot before it
unfoldable pub has_suffix : List ℕ → List ℕ → Bool
has_suffix text suffix = ends_with (λ a b. a == b) text suffix

-- a source of C++
abbrev pub is_cpp : List ℕ → Bool
is_cpp source = has_suffix source (codes ".cpp") || has_suffix source (codes ".cc") || has_suffix source (codes ".cxx")

-- whether a rule takes its first source
abbrev pub takes_source : TestRule → List ℕ → Bool
takes_source CompileFail source = is_cpp source
takes_source _ source = true

-- whether the lists of a call are those of its rule
abbrev pub is_test_shaped : TestRule → List Texts → Bool
is_test_shaped rule lists = has_shape (counts_of rule) lists && takes_source rule (text_at 0 lists)

-- a name that is given, else the base of a source
abbrev pub name_from : Texts → List ℕ → List ℕ
name_from [] source = (parts_of source).base
name_from (name ∷ more) source = name

abbrev pub test_name : TestRule → List Texts → List ℕ
test_name rule lists = name_from (list_at (name_at rule) lists) (text_at 0 lists)

-- the test of a call
abbrev pub test_of : TestRule → List Texts → Test
test_of rule lists = record { rule = rule; name = test_name rule lists; sources = list_at 0 lists; lists = listed Requirements (list_at (requirements_at rule) lists) ∷ [] }

-- the name of the main target that marks a test
abbrev pub marker_name : List ℕ → List ℕ
marker_name name = name ++ codes ".test"
