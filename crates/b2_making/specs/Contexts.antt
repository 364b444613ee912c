-- Where steps are made, and for which main target.
use Rattle.std.specs.Prelude.{ℕ, List, Result}
use Rattle.b2_features.specs.Table.{DeclaredFeature}
use Rattle.b2_props.specs.Sets.{Pair}
use Rattle.b2_generators.specs.Table.{FileType}
use Rattle.b2_generators.specs.declared.generator.Generator.{Generator}
use Rattle.b2_declaring_calls.specs.declared.declaration.Kind.{Kind}
use Rattle.b2_evaluator.specs.Answers.{Answers}
use Rattle.jam_meaning.specs.Rolled.{Job, StepAnswer}
use Rattle.b2_virtual.specs.declared.entry.Supply.{Supply}
use Rattle.b2_making.specs.declared.site.Site as code
use Rattle.b2_making.specs.declared.setting.Setting.{Setting}

-- what is registered, the output roots, and the text and the notes of each step, or why it has none
pub record Context (E : Type 0) : Type 0 where
  pub features : List DeclaredFeature
  pub file_types : List FileType
  pub generators : List Generator
  pub roots : List (List ℕ)
  pub step_text : Job → Result StepAnswer E

-- A main target whose steps are made: its kind, its name, the rule of a `make`, its line, the directory, the module and the
-- file of its project, the final set of its properties, what its sources supply, what its sources and its libraries supply,
-- and the paths that are inputs of each of its steps.
pub record Site : Type 0 where
  pub kind : Kind
  pub name : List ℕ
  pub rule : List ℕ
  pub line : ℕ
  pub dir : List ℕ
  pub owner : List ℕ
  pub file : List ℕ
  pub set : List Pair
  pub sources : List Supply
  pub parts : List Supply
  pub order : List (List ℕ)

-- a setting where this is answered
abbrev pub context_of : {E : Type 0} → Answers E → Setting → Context E
context_of answers s =
    record { features = s.registry.now; file_types = s.types.now.types; generators = s.types.now.generators; roots = s.roots.now; step_text = answers.step_text }

abbrev pub site_of : code.Site → Site
site_of s = record {
  kind = s.kind;
  name = s.name.now;
  rule = s.rule.now;
  line = s.line;
  dir = s.dir.now;
  owner = s.owner.now;
  file = s.file.now;
  set = s.set.now;
  sources = s.sources.now;
  parts = s.parts.now;
  order = s.order.now;
}
