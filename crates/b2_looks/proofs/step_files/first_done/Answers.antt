use Rattle.std.proofs.Common.{get_or, sym, ◌∙◌}
use Rattle.std.proofs.lemmas.Bool.{false≢true}
use Rattle.std.proofs.lemmas.List.Elements.{Contains-get_or}
use Rattle.b2_looks.specs.Numbers.{IsOfDone}
use Rattle.b2_looks.proofs.FilesAreNumbered.{none_more, none_is}
use Rattle.b2_looks.proofs.step_files.first_done.Goals as goal

pub is_of_done-requires-clause-number : goal.is_of_done-requires-clause-number
is_of_done-requires-clause-number c = c.requires.numbers (get_or c.args.members.now c.loop-number.number-index 0) (Contains-get_or c.args.members.now c.loop-number.number-index 0 c.loop-number-test.true)

pub is_of_done-requires-clause-maker : goal.is_of_done-requires-clause-maker
is_of_done-requires-clause-maker c file maker known made = c.requires.makers (get_or c.args.members.now c.loop-number.number-index 0) maker file (Contains-get_or c.args.members.now c.loop-number.number-index 0 c.loop-number-test.true) known made

pub loop-number-preserved : goal.loop-number-preserved
loop-number-preserved c = none_more (IsOfDone c.args.facts.now c.args.ran.now) c.args.members.now c.loop-number.number-index c.loop-number-test.true (λ is. false≢true (sym c.if-is_of_done.false ∙ c.is_of_done.ensures.1 is)) c.loop-number.invariant

pub returns-then-is_of_done : goal.returns-then-is_of_done
returns-then-is_of_done c = (Contains-get_or c.args.members.now c.loop-number.number-index 0 c.loop-number-test.true, c.is_of_done.ensures.0 c.if-is_of_done.true)

pub returns : goal.returns
returns c = none_is (IsOfDone c.args.facts.now c.args.ran.now) c.args.members.now c.loop-number.number-index c.loop-number-test.false c.loop-number.invariant
