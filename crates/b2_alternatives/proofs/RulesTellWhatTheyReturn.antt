-- Where the answers of an evaluation are told, the told answer of rules for a name is what they return.
use Rattle.std.proofs.Common.{◌≡◌, Option, Some, ap}
use Rattle.b2_declared.specs.declared.whole.Declared.{Declared}
use Rattle.b2_references.specs.Names.{Name}
use Rattle.b2_evaluator.specs.Answers.{Answers}
use Rattle.b2_alternatives.specs.Choosing.{answer}
use Rattle.b2_alternatives.specs.IndirectRules.{told_answer}

-- the told answer of rules, where the evaluation tells what they return
pub told_is : {E : Type 0} (d : Declared) (name : Name) (answers : Option (Answers E)) (told : Answers E) → answers ≡ Some told → told_answer d name answers ≡ Some (answer d told.returned name)
told_is d name answers told e = ap (told_answer d name) e
