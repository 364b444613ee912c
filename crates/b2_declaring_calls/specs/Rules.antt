-- The declaring rules by their names.
use Rattle.std.specs.Prelude.{ℕ, Bool, List, [], ◌∷◌, codes, Option, Some, None, is_some, if◌then◌else◌}
use Rattle.std.specs.Str.{bytes_eq}
use Rattle.b2_declaring_calls.specs.declared.declaration.Kind.TheVariants.{Exe, Lib, Obj, Alias, Make, Install}
use Rattle.b2_declaring_calls.specs.declared.declaration.TestRule.TheVariants.{Compile, CompileFail, Run, RunFail}
use Rattle.b2_declaring_calls.specs.declared.declaring_rule.DeclaringRule.{DeclaringRule}
use Rattle.b2_declaring_calls.specs.declared.declaring_rule.DeclaringRule.TheVariants.{Project, Target, Explicit, BuildProject, UseProject, Using, Feature, Compose, FileType, Generator, Import, Test}

abbrev pub rules : List (List ℕ × DeclaringRule)
rules =
    (codes "project", Project)
    ∷ (codes "exe", Target Exe)
    ∷ (codes "lib", Target Lib)
    ∷ (codes "obj", Target Obj)
    ∷ (codes "alias", Target Alias)
    ∷ (codes "make", Target Make)
    ∷ (codes "install", Target Install)
    ∷ (codes "explicit", Explicit)
    ∷ (codes "build-project", BuildProject)
    ∷ (codes "use-project", UseProject)
    ∷ (codes "using", Using)
    ∷ (codes "feature.feature", Feature)
    ∷ (codes "feature.compose", Compose)
    ∷ (codes "type.register", FileType)
    ∷ (codes "generators.register-standard", Generator)
    ∷ (codes "import", Import)
    ∷ (codes "compile", Test Compile)
    ∷ (codes "compile-fail", Test CompileFail)
    ∷ (codes "run", Test Run)
    ∷ (codes "run-fail", Test RunFail)
    ∷ []

-- the first row with this name
abbrev pub rule_in : List (List ℕ × DeclaringRule) → List ℕ → Option DeclaringRule
rule_in [] name = None
rule_in (row ∷ rows) name = if bytes_eq name row.0 then Some row.1 else rule_in rows name

unfoldable pub rule_of : List ℕ → Option DeclaringRule
rule_of name = rule_in rules name

-- whether a rule is a declaring one
abbrev pub is_declaring : List ℕ → Bool
is_declaring name = is_some (rule_of name)
