use Rattle.jam_meaning.proofs.ExamplesHold.{second_case, deep_enough, too_deep_fault, include_goes_on}
use Rattle.jam_meaning.proofs.examples.blocks.Goals as goal

pub returns-clause-case : goal.returns-clause-case
returns-clause-case c = second_case

pub returns-clause-deep_enough : goal.returns-clause-deep_enough
returns-clause-deep_enough c = deep_enough

pub returns-clause-too_deep : goal.returns-clause-too_deep
returns-clause-too_deep c = too_deep_fault

pub returns-clause-included : goal.returns-clause-included
returns-clause-included c = include_goes_on
