-- A loaded project, as generation sees it.
use Rattle.std.specs.Prelude.{ℕ, List}
use Rattle.b2_declared.specs.declared.whole.Declared.{Declared}
use Rattle.b2_alternatives.specs.Choosing.{Returned}
use Rattle.b2_making.specs.Contexts.{Context}
use Rattle.b2_evaluator.specs.Answers.{Answers}

-- what is declared, the output roots, and what the project's own text answers; `E` is why it has no answer
pub record LoadedProject (E : Type 0) : Type 0 where
  pub declared : Declared
  pub roots : List (List ℕ)
  pub answers : Answers E

module _ {E : Type 0} (l : LoadedProject E) where
  -- what the rules of indirect requirements return
  abbrev pub returned : Returned E
  returned = l.answers.returned

  -- what steps are made with
  abbrev pub context : Context E
  context = record {
    features = l.declared.registry;
    file_types = l.declared.types.types;
    generators = l.declared.types.generators;
    roots = l.roots;
    step_text = l.answers.step_text;
  }
