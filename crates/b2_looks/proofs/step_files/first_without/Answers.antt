use Rattle.std.proofs.Common.{get_or, sym, ◌∙◌}
use Rattle.std.proofs.lemmas.Bool.{false≢true}
use Rattle.std.proofs.lemmas.List.Elements.{Contains-get_or}
use Rattle.b2_looks.specs.Numbers.{HasNoBytes}
use Rattle.b2_looks.proofs.FilesAreNumbered.{none_more, none_is}
use Rattle.b2_looks.proofs.step_files.first_without.Goals as goal

pub has_bytes-requires-clause-number : goal.has_bytes-requires-clause-number
has_bytes-requires-clause-number c = c.requires.numbers (get_or c.args.members.now c.loop-number.number-index 0) (Contains-get_or c.args.members.now c.loop-number.number-index 0 c.loop-number-test.true)

pub loop-number-preserved : goal.loop-number-preserved
loop-number-preserved c = none_more (HasNoBytes c.args.plan.now.steps c.args.facts.now) c.args.members.now c.loop-number.number-index c.loop-number-test.true (λ is. false≢true (sym is ∙ sym c.has_bytes.ensures ∙ c.if-not-has_bytes.false)) c.loop-number.invariant

pub returns-then-not-has_bytes : goal.returns-then-not-has_bytes
returns-then-not-has_bytes c = (Contains-get_or c.args.members.now c.loop-number.number-index 0 c.loop-number-test.true, sym c.has_bytes.ensures ∙ c.if-not-has_bytes.true)

pub returns : goal.returns
returns c = none_is (HasNoBytes c.args.plan.now.steps c.args.facts.now) c.args.members.now c.loop-number.number-index c.loop-number-test.false c.loop-number.invariant
